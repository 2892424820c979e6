-- What the call that packs a byte table promises: its answer, and what it leaves in the packed slice, are those of `pack_call`.
-- Assumes nothing.
use Rattle.std.specs.Prelude.{ℕ, ◌≡◌, List}
use Rattle.model.specs.Packing.{pack_call}

-- its whole contract: the byte table t, the packed slice before and after, and the refusal number
pub record PackReplies (n : ℕ) (t p : List ℕ) (r : ℕ) (p₁ : List ℕ) : Type 0 where
  pub refusal : r ≡ (pack_call n t p).refused
  pub packed : p₁ ≡ (pack_call n t p).packed
