-- Line by line: what was read so far, and what is left of the text, give the definition's reply. Assumes nothing.
use Prim.Native.Nat.{ℕ, suc, ◌+◌, ◌*◌, ◌-◌, ◌≤◌, ◌<◌}
use mathlib.Core.Path.{◌≡◌, refl, sym, ap, ap₂, ◌∙◌}
use mathlib.Core.Bool.{true, false, true≢false}
use mathlib.Core.List.{List, [], ◌∷◌, ◌++◌}
use native.Mathlib.Nat.{mul-le-mul}
use native.Mathlib.Numerals.{add-one}
use native.Mathlib.Omega.{arith}
use lib.ListN.{length, take, drop, replicate, take-append-drop, length-drop, drop_of_length-le}
use lib.Seq.{drop-drop}
use borrow.Author.Tests.{eq-eqb, ne_eqb}
use Rattle.std.specs.Prelude.{Result, Ok, Err}
use Rattle.std.specs.Result.{is_err}
use Rattle.model.specs.Text.{Reading, Step, bad, next, line_step, lines_of, refused_at, read_from, read_text}
use Rattle.refusal.specs.declared.Refusal.{Refusal}
use Rattle.refusal.specs.Numbers.{number}
use Rattle.lines.specs.declared.said.Said.{Said}
use Rattle.lines.specs.declared.said.Progress.{Progress}
use Rattle.lines.specs.declared.said.Progress.TheVariants.{Passed}
use Rattle.lines.specs.declared.reader.Reader.{Reader}
use Rattle.lines.specs.Said.{passed_of, edges_of, area_of}
use Rattle.lines.specs.Line.{start, room_of, reading, reading_of, LineRead, FirstLine}
use Rattle.dimacs.specs.declared.Refused.{Refused}
use Rattle.dimacs.specs.Reply.{text_reply, cleared_reply}

-- ---- the end of the text

module _ (line : ℕ) (q : Reader) where
  pub end_33 : passed_of q.said ≡ false → refused_at 33 line (reading_of q) q.table.now ≡ read_from line (reading_of q) [] q.table.now
  unfolding read_from
  end_33 e = rw e

  module _ {s : Said} (e : q.said ≡ Passed s) where
    pub end_39 : (s.edges ≡ s.stated → ⊥) → refused_at 39 line (reading_of q) q.table.now ≡ read_from line (reading_of q) [] q.table.now
    unfolding read_from
    end_39 f = rw (e, ne_eqb s.edges s.stated f)

    -- accepted: the slice is the table and the rest
    pub end_accepted : s.edges ≡ s.stated → text_reply (Ok s) q.table.now ≡ read_from line (reading_of q) [] q.table.now
    unfolding read_from
    end_accepted f = rw (e, eq-eqb s.edges s.stated f, take-append-drop (s.vertices * s.vertices) q.table.now)

-- ---- from line to line

-- what is left of the text from a place on decides the rest: the first N × N bytes are the definition's table, and the rest is untouched
pub record SoFar (text t₀ : List ℕ) (q : Reader) (at line : ℕ) : Type 0 where
  pub size : room_of q ≡ length t₀
  pub rest : drop (area_of q.said) q.table.now ≡ drop (area_of q.said) t₀
  pub counted : edges_of q.said < line
  pub lines : line ≤ at + 1
  pub within : at ≤ length text + 1
  pub reads : read_from line (reading_of q) (lines_of (drop at text)) t₀ ≡ read_text text t₀

-- before the first line
pub so_none : (text : List ℕ) (q : Reader) → reading_of q ≡ start → SoFar text q.table.now q 0 1
unfolding read_text
so_none text q e = record {
  size = refl;
  rest = refl;
  counted = omega (arith, ap (λ (r : Reading). r.edges) e);
  lines = omega arith;
  within = omega arith;
  reads = ap (λ (r : Reading). read_from 1 r (lines_of text) q.table.now) e;
}

-- the bytes past a larger table are untouched too
rest_more : (n n' : ℕ) (t t₀ : List ℕ) → n ≤ n' → drop n t ≡ drop n t₀ → drop n' t ≡ drop n' t₀
rest_more n n' t t₀ h e =
    let w : n + (n' - n) ≡ n' = omega arith in
    rw w at (sym (drop-drop (n' - n) n t) ∙ ap (λ (l : List ℕ). drop (n' - n) l) e ∙ drop-drop (n' - n) n t₀)

-- a refusal speaks only of the bytes past the table
refused-same : (k line : ℕ) (s : Progress) (t t' x y : List ℕ) → drop (area_of s) x ≡ drop (area_of s) y →
    refused_at k line (reading s t) x ≡ refused_at k line (reading s t') y
unfolding refused_at
refused-same k line s t t' x y e =
    ap (λ (l : List ℕ). record { refused = k; vertices = 0; stated = 0; line = line; slice = replicate (area_of s) 0 ++ l }) e

module _ {text t₀ : List ℕ} {q : Reader} {at line : ℕ} (f : SoFar text t₀ q at line) where
  -- the end of the text
  pub so_ended : length text ≤ at → read_from line (reading_of q) [] q.table.now ≡ read_text text t₀
  unfolding read_from refused_at lines_of
  so_ended h =
      let none : drop at text ≡ [] = drop_of_length-le text h in
      same ∙ ap (λ (l : List ℕ). read_from line (reading_of q) (lines_of l) t₀) (sym none) ∙ f.reads
    where
      same : read_from line (reading_of q) [] q.table.now ≡ read_from line (reading_of q) [] t₀
      same = rw f.rest

  module _ {left : List ℕ} (e : left ≡ drop at text) {size : ℕ} (d : FirstLine left size) where
    -- the first line of what is left, and the others
    here : List ℕ
    here = take size left

    others : List (List ℕ)
    others = lines_of (drop (size + 1) left)

    -- the definition reads it next
    reads_here : read_from line (reading_of q) (here ∷ others) t₀ ≡ read_text text t₀
    unfolding here others
    reads_here = ap (λ (ls : List (List ℕ)). read_from line (reading_of q) ls t₀) (sym d.lines ∙ ap lines_of e) ∙ f.reads

    -- it is at fault
    pub so_faulty : {r : Refusal} {q' : Reader} → LineRead (line_step (room_of q) (reading_of q) (take size left)) q q' (Err r) →
        refused_at (number r) line (reading_of q') q'.table.now ≡ read_text text t₀
    unfolding here others read_from
    so_faulty {r} {q'} w = same ∙ stops ∙ reads_here
      where
        k : ℕ
        k = number r

        same : refused_at k line (reading_of q') q'.table.now ≡ refused_at k line (reading_of q) t₀
        same =
            ap₂ (λ (s : Progress) (l : List ℕ). refused_at k line (reading s l) l) w.kept.said w.kept.table
            ∙ refused-same k line q.said q.table.now q.table.now q.table.now t₀ f.rest

        step : bad k ≡ line_step (length t₀) (reading_of q) here
        step = w.step ∙ ap (λ (n : ℕ). line_step n (reading_of q) here) f.size

        stops : refused_at k line (reading_of q) t₀ ≡ read_from line (reading_of q) (here ∷ others) t₀
        stops = ap (λ (x : Step). elim x [ bad k ↦ refused_at k line (reading_of q) t₀ | next r ↦ read_from (suc line) r others t₀ ]) step

    -- the reading goes on after it
    pub so_next : {q' : Reader} → LineRead (line_step (room_of q) (reading_of q) (take size left)) q q' (Ok tt) →
        at < length text → SoFar text t₀ q' (at + (size + 1)) (line + 1)
    unfolding here others read_from
    so_next {q'} w h =
        let k = w.kept in
        record {
          size = k.size ∙ f.size;
          rest = k.rest ∙ rest_more (area_of q.said) (area_of q'.said) q.table.now t₀ (mul-le-mul k.grows k.grows) f.rest;
          counted = omega (arith, k.counted, f.counted);
          lines = omega (arith, f.lines);
          within = omega (arith, d.within, simp length-drop at (ap length e));
          reads = ap₂ (λ (n : ℕ) (l : List ℕ). read_from n (reading_of q') (lines_of l) t₀) (add-one line) (sym (ap (drop (size + 1)) e ∙ drop-drop (size + 1) at text)) ∙ goes ∙ reads_here;
        }
      where
        step : next (reading_of q') ≡ line_step (length t₀) (reading_of q) here
        step = w.step ∙ ap (λ (n : ℕ). line_step n (reading_of q) here) f.size

        goes : read_from (suc line) (reading_of q') others t₀ ≡ read_from line (reading_of q) (here ∷ others) t₀
        goes = ap (λ (x : Step). elim x [ bad k ↦ refused_at k line (reading_of q) t₀ | next r ↦ read_from (suc line) r others t₀ ]) step

-- ---- the reply

-- the text was refused: what it left in the table is cleared
pub refused_reply : (text t₀ : List ℕ) (q : Reader) {t : List ℕ} (r : Result Said Refused) → cleared_reply r q ≡ read_text text t₀ → true ≡ is_err r
    → t ≡ replicate (area_of q.said) 0 ++ drop (area_of q.said) q.table.now → text_reply r t ≡ read_text text t₀
unfolding refused_at
refused_reply text t₀ q (Ok s) h e w = absurd (true≢false e)
refused_reply text t₀ q (Err r) h e w = rw w h
