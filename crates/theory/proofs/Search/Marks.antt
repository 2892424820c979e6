-- What the marks of the candidates say: who drops out when a member is added, who is brought back by a return, and how many are still in.
-- Assumes nothing.
use Prim.Native.Nat.{ℕ, zero, suc, ◌+◌, ◌-◌, ◌≤◌, ◌<◌}
use mathlib.Core.Path.{◌≡◌, refl, sym, ap, ap₂, ◌∙◌, subst}
use mathlib.Core.Bool.{Bool, true, false, ◌&&◌, not, cond}
use mathlib.Core.Logic.{◌⊎◌, inl, inr, ◌↔◌, ⊎_elim}
use native.Mathlib.Nat.{eq-or-lt_of_le}
use native.Mathlib.Omega.{arith}
use lib.Dec.{eqb}
use borrow.Author.Tests.{eqb-true, eqb-false, eq-eqb, ne_eqb}
use Rattle.model.specs.Below.{bit}
use Rattle.model.specs.Graph.{Graph}
use Rattle.theory.specs.Marks.{Marks, StillIn, still_in, DroppedAt, dropped, drop_out, returned, BringsBack, count_in}
use Rattle.theory.proofs.Basics.Tests.{Test, test_eq}

-- the test of being still in
pub still_in_test : (marks : Marks) (e : ℕ) → Test (still_in marks e) (StillIn marks e)
unfolding still_in
still_in_test marks e = test_eq (marks e) 0

-- ---- a member is added

-- the marks then, place by place
pub drop_at : (G : Graph) (candidate : ℕ → ℕ) (v d : ℕ) (marks : Marks) (e : ℕ) → drop_out G candidate v d marks e ≡ dropped d (G.joined v (candidate e)) (marks e)
unfolding drop_out
drop_at G candidate v d marks e = refl

-- the mark of a candidate that is not joined to it and was still in, and every other
pub dropped-apart : (d : ℕ) → dropped d false 0 ≡ d
unfolding dropped
dropped-apart d = refl

pub dropped-joined : (d mark : ℕ) → dropped d true mark ≡ mark
unfolding dropped
dropped-joined d mark = go (eqb mark 0)
  where
    go : (b : Bool) → cond (b && not true) d mark ≡ mark
    go true = refl
    go false = refl

pub dropped-out : (d : ℕ) (joined : Bool) (mark : ℕ) → (mark ≡ 0 → ⊥) → dropped d joined mark ≡ mark
unfolding dropped
dropped-out d joined mark h = ap (λ (b : Bool). cond (b && not joined) d mark) (ne_eqb mark 0 h)

-- no mark is more than the depth, where none was before
pub dropped_most : (d : ℕ) (joined : Bool) (mark : ℕ) → mark ≤ d → dropped d joined mark ≤ d
unfolding dropped
dropped_most d joined mark h = go (eqb mark 0 && not joined)
  where
    go : (b : Bool) → cond b d mark ≤ d
    go true = omega arith
    go false = h

-- ---- a return

-- a mark of the depth that is left goes back to 0, and every other is kept
pub returned-back : (d mark : ℕ) → mark ≡ d → returned d mark ≡ 0
unfolding returned
returned-back d mark e = ap (λ (b : Bool). cond b 0 mark) (eq-eqb mark d e)

pub returned-other : (d mark : ℕ) → (mark ≡ d → ⊥) → returned d mark ≡ mark
unfolding returned
returned-other d mark h = ap (λ (b : Bool). cond b 0 mark) (ne_eqb mark d h)

-- so a return that sets each mark so brings back whom it must
pub returned_brings_back : (d m : ℕ) (before after : Marks) → ((e : ℕ) → e < m → after e ≡ returned d (before e)) → BringsBack d m before after
returned_brings_back d m before after f =
    record { back = λ e h q. f e h ∙ returned-back d (before e) q; others = λ e h q. f e h ∙ returned-other d (before e) q }

-- Document 02, C-13: a return brings back exactly the candidates that dropped out at the depth it leaves. A candidate is in after it exactly where it
-- was in before it or dropped out at that depth.
pub brings_back_exactly : (d m : ℕ) (before after : Marks) → BringsBack d m before after → (e : ℕ) → e < m → StillIn after e ↔ (StillIn before e ⊎ DroppedAt d before e)
brings_back_exactly d m before after b e h = (λ s. there s (eqb (before e) d) refl, back)
  where
    there : StillIn after e → (t : Bool) → eqb (before e) d ≡ t → StillIn before e ⊎ DroppedAt d before e
    there s true q = inr (eqb-true (before e) d q)
    there s false q = inl (sym (b.others e h (eqb-false (before e) d q)) ∙ s)

    back : StillIn before e ⊎ DroppedAt d before e → StillIn after e
    back (inr q) = b.back e h q
    back (inl s) = stays (eqb (before e) d) refl
      where
        stays : (t : Bool) → eqb (before e) d ≡ t → StillIn after e
        stays true q = b.back e h (eqb-true (before e) d q)
        stays false q = b.others e h (eqb-false (before e) d q) ∙ s

-- A return undoes what adding the member did, where no candidate had dropped out at that depth before.
pub return_undoes : (d : ℕ) (joined : Bool) (mark : ℕ) → mark < d → {after : ℕ} → (dropped d joined mark ≡ d → after ≡ 0) → ((dropped d joined mark ≡ d → ⊥) → after ≡ dropped d joined mark) → after ≡ mark
return_undoes d joined zero h {after} back others = go joined back others
  where
    go : (b : Bool) → (dropped d b 0 ≡ d → after ≡ 0) → ((dropped d b 0 ≡ d → ⊥) → after ≡ dropped d b 0) → after ≡ 0
    go true back others = others (λ q. let k = dropped-joined d 0 in omega arith) ∙ dropped-joined d 0
    go false back others = back (dropped-apart d)
return_undoes d joined (suc x) h back others =
    let k = dropped-out d joined (suc x) (λ q. omega arith) in
    others (λ q. omega arith) ∙ k

-- ---- how many are still in

-- marks that agree count alike, from other places on too
pub count_shift : (marks other : Marks) (j k r : ℕ) → ((e : ℕ) → e < r → marks (j + e) ≡ other (k + e)) → count_in marks j r ≡ count_in other k r
unfolding count_in still_in
count_shift marks other j k zero f = refl
count_shift marks other j k (suc r) f =
    ap₂ (λ (x y : ℕ). bit (eqb x 0) + y) (ap marks (omega arith) ∙ f 0 (omega arith) ∙ ap other (omega arith))
    (count_shift marks other (suc j) (suc k) r (λ e h. ap marks (omega arith) ∙ f (suc e) (omega arith) ∙ ap other (omega arith)))

-- and from the same place on
pub count_same : (marks other : Marks) (j r : ℕ) → ((e : ℕ) → j ≤ e → e < j + r → marks e ≡ other e) → count_in marks j r ≡ count_in other j r
count_same marks other j r f = count_shift marks other j j r (λ e h. f (j + e) (omega arith) (omega arith))

-- one candidate more at the end is one more where it is still in
pub count-last : (marks : Marks) (j r : ℕ) → count_in marks j (suc r) ≡ count_in marks j r + bit (still_in marks (j + r))
unfolding count_in
count-last marks j zero = ap (λ (e : ℕ). bit (still_in marks e) + 0) place ∙ swap
  where
    place : j ≡ j + 0
    place = omega arith

    swap : bit (still_in marks (j + 0)) + 0 ≡ 0 + bit (still_in marks (j + 0))
    swap = omega arith
count-last marks j (suc r) = ap (λ (x : ℕ). bit (still_in marks j) + x) (count-last marks (suc j) r) ∙ last
  where
    place : suc j + r ≡ j + suc r
    place = omega arith

    last : bit (still_in marks j) + (count_in marks (suc j) r + bit (still_in marks (suc j + r))) ≡ bit (still_in marks j) + count_in marks (suc j) r + bit (still_in marks (j + suc r))
    last = rw place (omega arith)

-- of the candidates from place j to m - 1, the first and those after it
count-first : (marks : Marks) (j m : ℕ) → j < m → count_in marks j (m - j) ≡ bit (still_in marks j) + count_in marks (j + 1) (m - (j + 1))
unfolding count_in
count-first marks j m h =
    ap (count_in marks j) left
    ∙ first (m - (j + 1))
    ∙ ap (λ (i : ℕ). bit (still_in marks j) + count_in marks i (m - (j + 1))) next
  where
    left : m - j ≡ suc (m - (j + 1))
    left = omega arith

    next : suc j ≡ j + 1
    next = omega arith

    first : (r : ℕ) → count_in marks j (suc r) ≡ bit (still_in marks j) + count_in marks (suc j) r
    first r = refl

pub count_in_lem : (marks : Marks) (j m : ℕ) → j < m → still_in marks j ≡ true → count_in marks j (m - j) ≡ 1 + count_in marks (j + 1) (m - (j + 1))
count_in_lem marks j m h e = count-first marks j m h ∙ ap (λ (b : Bool). bit b + count_in marks (j + 1) (m - (j + 1))) e

pub count-out : (marks : Marks) (j m : ℕ) → j < m → still_in marks j ≡ false → count_in marks j (m - j) ≡ count_in marks (j + 1) (m - (j + 1))
count-out marks j m h e = count-first marks j m h ∙ ap (λ (b : Bool). bit b + count_in marks (j + 1) (m - (j + 1))) e ∙ omega arith

-- there are no more than there are candidates
pub count_most : (marks : Marks) (j r : ℕ) → count_in marks j r ≤ r
unfolding count_in
count_most marks j zero = omega arith
count_most marks j (suc r) = go (still_in marks j) (count_most marks (suc j) r)
  where
    go : (b : Bool) → count_in marks (suc j) r ≤ r → bit b + count_in marks (suc j) r ≤ suc r
    go true h = omega arith
    go false h = omega arith

-- and as many where all are still in
pub count-all : (marks : Marks) (j r : ℕ) → ((e : ℕ) → j ≤ e → e < j + r → StillIn marks e) → count_in marks j r ≡ r
unfolding count_in
count-all marks j zero f = refl
count-all marks j (suc r) f =
    ap₂ (λ (b : Bool) (x : ℕ). bit b + x) ((still_in_test marks j).1 (f j (omega arith) (omega arith)))
    (count-all marks (suc j) r (λ e h l. f e (omega arith) (omega arith)))
    ∙ one
  where
    one : 1 + r ≡ suc r
    one = omega arith

-- a member is added at a depth that is not 0: of one candidate, with its mark before
one_dropped : (d : ℕ) → (d ≡ 0 → ⊥) → (joined : Bool) (mark : ℕ)
    → (bit (eqb (dropped d joined mark) 0) ≤ bit (eqb mark 0)) × (bit (eqb (dropped d joined mark) 0) ≡ bit (eqb mark 0) → dropped d joined mark ≡ mark)
one_dropped d n joined (suc x) =
    let k = dropped-out d joined (suc x) (λ q. omega arith) in
    (let e = ap (λ (y : ℕ). bit (eqb y 0)) k in omega arith, λ e. k)
one_dropped d n true zero =
    let k = dropped-joined d 0 in
    (let e = ap (λ (y : ℕ). bit (eqb y 0)) k in omega arith, λ e. k)
one_dropped d n false zero =
    let k = ap (λ (y : ℕ). bit (eqb y 0)) (dropped-apart d) ∙ ap bit (ne_eqb d 0 n) in
    (omega arith, λ e. absurd (apart (sym k ∙ e)))
  where
    apart : 0 ≡ bit (eqb 0 0) → ⊥
    apart e = omega (arith, e)

module _ (G : Graph) (candidate : ℕ → ℕ) (v d : ℕ) (n : d ≡ 0 → ⊥) (marks : Marks) where
  -- no more of the candidates are in with it
  pub drop_fewer : (j r : ℕ) → count_in (drop_out G candidate v d marks) j r ≤ count_in marks j r
  unfolding count_in still_in drop_out
  drop_fewer j zero = omega arith
  drop_fewer j (suc r) =
      let h = (one_dropped d n (G.joined v (candidate j)) (marks j)).0 in
      let k = drop_fewer (suc j) r in
      omega arith

  -- and where as many are, none has dropped out, and each mark is as it was
  pub none_dropped : (j r : ℕ) → count_in (drop_out G candidate v d marks) j r ≡ count_in marks j r
      → (e : ℕ) → j ≤ e → e < j + r → drop_out G candidate v d marks e ≡ marks e
  unfolding count_in still_in drop_out
  none_dropped j zero q e h l = absurd (omega arith)
  none_dropped j (suc r) q e h l =
      let o = one_dropped d n (G.joined v (candidate j)) (marks j) in
      let k = drop_fewer (suc j) r in
      ⊎_elim (λ z. subst (λ (x : ℕ). dropped d (G.joined v (candidate x)) (marks x) ≡ marks x) z (o.1 (let a = o.0 in omega arith)))
      (λ z. none_dropped (suc j) r (let a = o.0 in omega arith) e z (omega arith)) (eq-or-lt_of_le h)
