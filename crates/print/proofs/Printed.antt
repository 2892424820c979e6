-- What is printed entry by entry, and the two other lines word by word. Assumes nothing.
use Prim.Native.Nat.{ℕ, zero, suc, ◌+◌, ◌*◌, ◌-◌, ◌≤◌, ◌<◌}
use mathlib.Core.Path.{◌≡◌, refl, sym, ap, ap₂, ◌∙◌}
use mathlib.Core.Bool.{Bool, cond}
use mathlib.Core.Logic.{◌≢◌}
use mathlib.Core.List.{List, [], ◌∷◌, ◌++◌, append_assoc, append-nil}
use native.Mathlib.Numerals.{add-one}
use native.Mathlib.Omega.{arith}
use lib.ListN.{length, get_or, drop, length-append}
use lib.Dec.{eqb}
use lib.Seq.{drop-length}
use borrow.Author.Tests.{ne_eqb}
use Rattle.std.proofs.lemmas.List.{at_drop_more}
use Rattle.model.specs.Program.{numeral}
use Rattle.theory.specs.Printed.{printed_from, printed}
use Rattle.print.specs.declared.Printer.{Printer}
use Rattle.print.specs.declared.ToCome.{ToCome}
use Rattle.print.specs.Put.{Room, Puts, printed_after, EntryPut}
use Rattle.print.proofs.Puts.{puts_as, puts_none, puts-length, puts_then}
use Rattle.print.proofs.Numeral.{five_digits}

-- ---- one entry

-- a vertex plus 1, and a byte after it, fit where there are six bytes
pub number_fits : (start k room : ℕ) → k ≤ 65536 → start + 6 ≤ room → start + length (numeral k) ≤ room
number_fits start k room h w = omega (arith, five_digits k h)

pub byte_fits : {p q : Printer} (k : ℕ) → k ≤ 65536 → Room p 6 → Puts p (numeral k) q → Room q 1
byte_fits k h w puts = let e = puts.place in omega (arith, puts-length puts, five_digits k h)

-- the size of an empty group
empty_goes : (es : List ℕ) → printed_from 0 0 (0 ∷ es) ≡ (10 ∷ []) ++ printed_from 2 0 es
unfolding printed_from
empty_goes es = refl

-- the size of any other
size-goes : (e : ℕ) → e ≢ 0 → (es : List ℕ) → printed_from 0 0 (e ∷ es) ≡ [] ++ printed_from 2 e es
unfolding printed_from
size-goes zero d es = absurd (d refl)
size-goes (suc e) d es = refl

-- one or more, less one
one_less : (k : ℕ) → k ≡ suc k - 1
one_less k = omega arith

-- an entry that tells outgoing edges
edges-go : (edges left e : ℕ) → 0 < edges → (es : List ℕ) → printed_from edges left (e ∷ es) ≡ [] ++ printed_from (edges - 1) left es
unfolding printed_from
edges-go zero left e h es = absurd (omega arith)
edges-go (suc edges) left e h es = ap (λ (k : ℕ). printed_from k left es) (one_less edges)

-- a vertex
vertex-goes : (left e : ℕ) → left ≢ 0 → (es : List ℕ)
    → printed_from 0 left (e ∷ es) ≡ (numeral (e + 1) ++ (cond (eqb left 1) 10 32 ∷ [])) ++ printed_from 0 (left - 1) es
unfolding printed_from
vertex-goes zero e d es = absurd (d refl)
vertex-goes (suc zero) e d es =
    ap (λ (k : ℕ). numeral k ++ (10 ∷ printed_from 0 0 es)) (sym (add-one e)) ∙ sym (append_assoc (numeral (e + 1)) (10 ∷ []) (printed_from 0 0 es))
vertex-goes (suc (suc k)) e d es =
    ap (λ (m : ℕ). numeral m ++ (32 ∷ printed_from 0 (suc k) es)) (sym (add-one e))
    ∙ sym (append_assoc (numeral (e + 1)) (32 ∷ []) (printed_from 0 (suc k) es))
    ∙ ap₂ (λ (z l : ℕ). (numeral (e + 1) ++ (z ∷ [])) ++ printed_from 0 l es)
    (sym (ap (λ (b : Bool). cond {A = ℕ} b 10 32) (ne_eqb (suc (suc k)) 1 (λ z. omega arith)))) (one_less (suc k))

-- nothing is put of an entry that tells outgoing edges
pub put_edges : {p : Printer} {t : ToCome} (e : ℕ) → 0 < t.edge_entries → Room p 0 → EntryPut p t e p (record { edge_entries = t.edge_entries - 1; vertices = t.vertices })
put_edges {t = t} e h w =
    record { out = []; puts = puts_none w; goes = edges-go t.edge_entries t.vertices e h; short = omega arith }

module _ {p : Printer} {t : ToCome} {e : ℕ} (told : t.edge_entries ≡ 0) where
  pub put_empty : t.vertices ≡ 0 → e ≡ 0 → {q : Printer} → Puts p (10 ∷ []) q → EntryPut p t e q (record { edge_entries = 2; vertices = e })
  put_empty h g puts =
      record {
        out = 10 ∷ [];
        puts = puts;
        goes = λ es. rw (told, h, g) (empty_goes es);
        short = omega arith;
      }

  pub put-size : t.vertices ≡ 0 → e ≢ 0 → Room p 0 → EntryPut p t e p (record { edge_entries = 2; vertices = e })
  put-size h d w =
      record {
        out = [];
        puts = puts_none w;
        goes = λ es. rw (told, h) (size-goes e d es);
        short = omega arith;
      }

  pub put-vertex : t.vertices ≢ 0 → e ≤ 65535 → {q r : Printer} {z : ℕ} → Puts p (numeral (e + 1)) q → Puts q (z ∷ []) r → z ≡ cond (eqb t.vertices 1) 10 32
      → EntryPut p t e r (record { edge_entries = t.edge_entries; vertices = t.vertices - 1 })
  put-vertex d w {z = z} first second b =
      record {
        out = numeral (e + 1) ++ (z ∷ []);
        puts = puts_then first second;
        goes = λ es. rw told (vertex-goes t.vertices e d es ∙ ap (λ (x : ℕ). (numeral (e + 1) ++ (x ∷ [])) ++ printed_from 0 (t.vertices - 1) es) (sym b));
        short = omega (arith, five_digits (e + 1) (omega arith), length-append (numeral (e + 1)) (z ∷ []));
      }

-- ---- all entries

-- nothing is printed of no entries
nothing : (edges left : ℕ) → printed_from edges left [] ≡ []
unfolding printed_from
nothing (suc edges) left = refl
nothing zero zero = refl
nothing zero (suc k) = refl

-- the first i entries are printed, and the rest follows
pub record SoFar (entries : List ℕ) (before after : Printer) (to_come : ToCome) (i : ℕ) : Type 0 where
  pub out : List ℕ
  pub puts : Puts before out after
  pub goes : printed entries ≡ out ++ printed_after to_come (drop i entries)
  pub short : length out ≤ 6 * i

module _ {entries : List ℕ} {before : Printer} where
  pub so_none : Room before 0 → SoFar entries before before (record { edge_entries = 0; vertices = 0 }) 0
  unfolding printed
  so_none h =
      record { out = []; puts = puts_none h; goes = refl; short = omega arith }

  pub so_more : {after : Printer} {t : ToCome} {i : ℕ} → SoFar entries before after t i → i < length entries
      → {next : Printer} {t₁ : ToCome} → EntryPut after t (get_or entries i 0) next t₁ → SoFar entries before next t₁ (i + 1)
  so_more {t = t} {i} f h {t₁ = t₁} p =
      record {
        out = f.out ++ p.out;
        puts = puts_then f.puts p.puts;
        goes =
            f.goes
            ∙ at_drop_more (λ (es : List ℕ). f.out ++ printed_after t es) entries i 0 h
            ∙ ap (λ (l : List ℕ). f.out ++ l) (p.goes (drop (i + 1) entries))
            ∙ sym (append_assoc f.out p.out (printed_after t₁ (drop (i + 1) entries)));
        short = let a = length-append f.out p.out in let b = f.short in let d = p.short in omega arith;
      }

  pub so_all : {after : Printer} {t : ToCome} {i : ℕ} → SoFar entries before after t i → i ≡ length entries → Puts before (printed entries) after
  so_all {t = t} f e =
      puts_as
      (sym (f.goes
      ∙ ap (λ (es : List ℕ). f.out ++ printed_after t es) (ap (λ (k : ℕ). drop k entries) e ∙ drop-length entries)
      ∙ ap (λ (l : List ℕ). f.out ++ l) (nothing t.edge_entries t.vertices)
      ∙ append-nil f.out))
      f.puts

-- ---- the two other lines

-- a word, a number, a space, a number and byte 10, put one after another
pub puts-line : {p₀ p₁ p₂ p₃ p₄ p₅ : Printer} {word first second : List ℕ} → Puts p₀ word p₁ → Puts p₁ first p₂ → Puts p₂ (32 ∷ []) p₃
    → Puts p₃ second p₄ → Puts p₄ (10 ∷ []) p₅ → Puts p₀ (word ++ first ++ (32 ∷ second) ++ (10 ∷ [])) p₅
puts-line p q r s t = puts_as (simp append_assoc) (puts_then (puts_then (puts_then (puts_then p q) r) s) t)
