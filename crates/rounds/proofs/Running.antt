-- The rounds of a page over any walk in code: what holds between two rounds, what a round keeps, and the reply where the output is full. `Holds` is
-- whatever the walk's functions keep of their state, the position and the work slice; of these functions only what a round gets from each is used.
-- Assumes nothing.
use Prim.Native.Nat.{ℕ, ◌+◌, ◌≤◌, ◌<◌}
use mathlib.Core.Path.{◌≡◌, refl, sym, ap, ◌∙◌, subst, subst⁻¹}
use mathlib.Core.Bool.{Bool, true, false}
use mathlib.Core.List.{List, []}
use mathlib.Core.Logic.{◌≢◌}
use native.Mathlib.Omega.{arith}
use lib.ListN.{length}
use Rattle.std.proofs.Common.{Option, Some, None, cond}
use Rattle.model.specs.Below.{bit}
use Rattle.model.specs.Walk.{Position, Rules, finished, step, found, due, page}
use Rattle.model.specs.Calls.{reply_of}
use Rattle.emit.specs.declared.Full.{Full}
use Rattle.emit.specs.Emit.{Written, Lacking}
use Rattle.rounds.specs.Turn.{Turn}
use Rattle.rounds.specs.declared.Stop.TheVariants as stops
use Rattle.rounds.specs.Answer.{PageReplies, accepted}
use Rattle.rounds.proofs.Turn.{turn_start, turn_length, turn_step, turn_full}

-- what the answer of putting out adds to the groups and to the used entries: nothing where there was no group
abbrev pub Added : Option ℕ → ℕ → ℕ → ℕ → ℕ → Type 0
Added None groups used groups₂ used₂ = (groups₂ ≡ groups) × (used₂ ≡ used)
Added (Some end) groups used groups₂ used₂ = (groups₂ ≡ groups + 1) × (used₂ ≡ end)

-- where no group is found nothing is due
nothing_due : (R : Rules) (p : Position) → found R p ≡ false → due R p ≡ []
unfolding due
nothing_due R p f = rw f refl

-- that is a group where one is found, and the entries of what is due
added_is : (R : Rules) (p : Position) (groups used : ℕ) {put : Option ℕ} {groups₂ used₂ : ℕ} → put ≡ cond (found R p) (Some (used + length (due R p))) None
    → Added put groups used groups₂ used₂ → (groups₂ ≡ groups + bit (found R p)) × (used₂ ≡ used + length (due R p))
added_is R p groups used {put} {groups₂} {used₂} e a = go (found R p) refl
  where
    go : (b : Bool) → found R p ≡ b → (groups₂ ≡ groups + bit (found R p)) × (used₂ ≡ used + length (due R p))
    go true f = let x = subst (λ (o : Option ℕ). Added o groups used groups₂ used₂) (e ∙ ap (λ (b : Bool). cond b (Some (used + length (due R p))) None) f) a in (x.0 ∙ ap (λ (b : Bool). groups + bit b) (sym f), x.1)
    go false f =
        let x = subst (λ (o : Option ℕ). Added o groups used groups₂ used₂) (e ∙ ap (λ (b : Bool). cond b (Some (used + length (due R p))) None) f) a in
        let none = ap length (nothing_due R p f) in
        (omega (arith, x.0, ap bit f), omega (arith, x.1, none))

-- between two rounds
pub record Running {S : Type 0} (R : Rules) (Holds : S → Position → List ℕ → Type 0) (budget : ℕ) (p₀ : Position) (out₀ w₀ : List ℕ) (p : Position) (out w : List ℕ) (s : S)
    (steps groups used : ℕ) : Type 0 where
  pub turn : Turn R budget p₀ out₀ steps groups used p out
  pub holds : Holds s p w
  pub work-long : length w ≡ length w₀
  pub position-long : length p ≡ length p₀

-- before the first round
pub running_start : {S : Type 0} (R : Rules) (Holds : S → Position → List ℕ → Type 0) {budget : ℕ} {p : Position} {out w : List ℕ} {s : S} → Holds s p w
    → Running R Holds budget p out w p out w s 0 0 0
running_start R Holds h = record { turn = turn_start _ _ _ _; holds = h; work-long = refl; position-long = refl }

module _ {S : Type 0} {R : Rules} {Holds : S → Position → List ℕ → Type 0} {budget : ℕ} {p₀ : Position} {out₀ w₀ : List ℕ} {p : Position} {out w : List ℕ} {s : S}
    {steps groups used : ℕ} (r : Running R Holds budget p₀ out₀ w₀ p out w s steps groups used) where
  -- the output keeps its length
  pub output-long : length out ≡ length out₀
  output-long = turn_length r.turn

  -- the used entries are within it
  pub used-within : used ≤ length out
  used-within = let l = output-long in let f = r.turn.used-fits in omega arith

  -- the budget is not spent
  pub more : steps ≢ budget → steps < budget
  more unspent = let f = r.turn.steps-fit in omega (arith, unspent)

  -- what is due at the position was put out
  module _ {out₁ : List ℕ} {put : Option ℕ} (at : Written R p used out out₁ put) (unspent : steps ≢ budget) where
    -- a step that keeps what holds leads to the next round, with what the answer says added
    pub running_on : finished p ≡ false → {p₂ : Position} {w₂ : List ℕ} {s₂ : S} {groups₂ used₂ : ℕ} → Added put groups used groups₂ used₂ → p₂ ≡ step R p → Holds s₂ p₂ w₂
        → length w₂ ≡ length w₀ → length p₂ ≡ length p → Running R Holds budget p₀ out₀ w₀ p₂ out₁ w₂ s₂ (steps + 1) groups₂ used₂
    running_on walking {p₂ = p₂} {groups₂ = groups₂} {used₂ = used₂} added e h l k =
        let both = added_is R p groups used at.answer added in
        record {
          turn =
              subst⁻¹ (λ (g : ℕ). Turn R budget p₀ out₀ (steps + 1) g used₂ p₂ out₁) both.0
              (turn_step r.turn walking (more unspent) (let a = at.fits in let o = output-long in omega arith) refl both.1 e at.written);
          holds = h;
          work-long = l;
          position-long = k ∙ r.position-long;
        }

  -- it did not fit: point 3
  pub reply_full : {out₁ : List ℕ} (full : Full) → Lacking R p used out out₁ full → steps ≢ budget → finished p ≡ false
      → PageReplies (accepted (record { stop = stops.Full full; groups = groups; steps = steps; used = used })) p out₁ (reply_of 0 (page R budget (length out₀) p₀) p₀ out₀)
  reply_full full at unspent walking =
      let l = output-long in
      let h = at.exceeds in
      subst⁻¹
      (λ (o : List ℕ). PageReplies (accepted (record { stop = stops.Full full; groups = groups; steps = steps; used = used })) p o (reply_of 0 (page R budget (length out₀) p₀) p₀ out₀))
      at.kept (turn_full r.turn walking full at.wanted (more unspent) (omega arith))
