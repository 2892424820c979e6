-- Bytes that a printer puts one after another. Assumes nothing.
use Prim.Native.Nat.{ℕ, ◌+◌}
use mathlib.Core.Path.{◌≡◌, refl, sym, ap, ap₂, ◌∙◌, subst}
use mathlib.Core.List.{List, [], ◌++◌}
use native.Mathlib.Omega.{arith}
use lib.ListN.{length, take, drop, length-append, take-append-drop}
use lib.Seq.{paste, take_at}
use Rattle.std.proofs.lemmas.List.Edits.{paste_all, length-paste, paste-paste}
use Rattle.print.specs.declared.Printer.{Printer}
use Rattle.print.specs.Put.{Room, Puts}

-- by what is put
pub puts_as : {p q : Printer} {x y : List ℕ} → x ≡ y → Puts p x q → Puts p y q
puts_as {p} {q} e h = subst (λ (l : List ℕ). Puts p l q) e h

-- nothing is put
pub puts_none : {p : Printer} → Room p 0 → Puts p [] p
puts_none {p} h =
    record { same_reference = refl; place = omega arith; within = omega arith; bytes = sym (take-append-drop p.at p.bytes.now) }

module _ {p q : Printer} {x : List ℕ} (h : Puts p x q) where
  -- it is a copy into the buffer
  pasted : q.bytes.now ≡ paste p.bytes.now p.at x (length x)
  pasted =
      h.bytes
      ∙ ap (λ (k : ℕ). take p.at p.bytes.now ++ (x ++ drop k p.bytes.now)) h.place
      ∙ sym (paste_all p.bytes.now p.at x (length x) refl)

  -- the buffer keeps its length
  pub puts-length : length q.bytes.now ≡ length p.bytes.now
  puts-length =
      let e = h.place in
      let w = h.within in
      ap length pasted ∙ length-paste p.bytes.now p.at x (length x) (omega arith) (omega arith)

-- what was put from the buffer's start on is what it begins with
pub puts_first : {p q : Printer} {x : List ℕ} → Puts p x q → p.at ≡ 0 → take q.at q.bytes.now ≡ x
puts_first {p} {q} {x} h start =
    ap (take q.at) (h.bytes ∙ ap (λ (k : ℕ). take k p.bytes.now ++ (x ++ drop q.at p.bytes.now)) start)
    ∙ take_at x (drop q.at p.bytes.now) q.at (let e = h.place in omega (arith, start))

-- one after the other
pub puts_then : {p q r : Printer} {x y : List ℕ} → Puts p x q → Puts q y r → Puts p (x ++ y) r
puts_then {p} {q} {r} {x} {y} h g =
    let l = length-append x y in
    let a = h.place in
    let b = g.place in
    let w = h.within in
    record {
      same_reference = g.same_reference ∙ h.same_reference;
      place = omega arith;
      within = let m = puts-length h in let v = g.within in omega arith;
      bytes =
          pasted g
          ∙ ap₂ (λ (d : List ℕ) (at : ℕ). paste d at y (length y)) (pasted h) h.place
          ∙ paste-paste p.bytes.now p.at x y (length x) (length y) refl refl (omega arith)
          ∙ paste_all p.bytes.now p.at (x ++ y) (length x + length y) (omega arith)
          ∙ ap (λ (k : ℕ). take p.at p.bytes.now ++ ((x ++ y) ++ drop k p.bytes.now)) (omega arith);
    }
