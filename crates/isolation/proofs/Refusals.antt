-- The refusals of the settings by the outcome of each test.
-- Assumes nothing.
use Rattle.std.specs.Prelude.{◌≡◌, ◌≢◌, ◌≤◌, ◌<◌, ◌⊎◌, ℕ, Bool, true, false, ◌||◌, ltb, eqb}
use Rattle.std.proofs.Common.{inl, inr}
use Rattle.std.proofs.Math.Bool.{or-true}
use Rattle.std.proofs.lemmas.Bool.{ltb-false, lt-ltb, le-ltb, eq-eqb, ne_eqb}
use Rattle.model.specs.Groups.{Settings}
use Rattle.model.specs.Calls.{refuse, refuse_settings}
use Rattle.theory.proofs.Basics.Refusals.{refuse_pass}
use Rattle.theory.proofs.Basics.Tests.{or_second}
use Rattle.isolation.specs.declared.Settings as code
use Rattle.isolation.specs.Numbers.{settings_of, FactorFits}

-- the refusal number of settings by the outcome of each test
pub settings_by : (s : Settings) {a b d : Bool} → ltb 2 s.notion ≡ a → ltb 1 s.kind ≡ b → (eqb s.factor 0 || ltb 1024 s.factor) ≡ d
    → refuse 6 a (refuse 7 b (refuse 8 d 0)) ≡ refuse_settings s
unfolding refuse_settings
settings_by s p q r = rw (p, q, r)

-- a factor that is refused, as the two sides of the test give it
pub out-of-range : {f : ℕ} → (f ≡ 0) ⊎ ((f ≢ 0) × (1024 < f)) → (eqb f 0 || ltb 1024 f) ≡ true
out-of-range {f} (inl e) = rw (eq-eqb f 0 e)
out-of-range {f} (inr (_, h)) = rw (lt-ltb 1024 f h, or-true (eqb f 0))

-- a factor that passes
pub in-range : {f : ℕ} → f ≢ 0 → f ≤ 1024 → (eqb f 0 || ltb 1024 f) ≡ false
in-range {f} d h = rw (ne_eqb f 0 d, le-ltb 1024 f h)

-- settings that are not refused have a factor that fits
pub factor-fits : (q : code.Settings) → refuse_settings (settings_of q) ≡ 0 → FactorFits q
unfolding refuse_settings FactorFits
factor-fits q h =
    let kind = refuse_pass 6 _ _ (refuse_pass 5 _ _ h).1 in
    ltb-false 1024 q.factor (or_second (eqb q.factor 0) _ (refuse_pass 7 _ _ kind.1).0)
