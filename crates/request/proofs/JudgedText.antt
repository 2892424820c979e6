-- What a text is judged to be: too long, refused, or a graph; and the verdict on words and text. Assumes nothing.
use Prim.Native.Nat.{ℕ, ◌*◌, ◌≤◌}
use mathlib.Core.Path.{◌≡◌, refl, sym, ap, ◌∙◌}
use mathlib.Core.Bool.{Bool, true, false}
use mathlib.Core.List.{List}
use native.Mathlib.Nat.{mul-le-mul_right}
use native.Mathlib.Omega.{arith}
use lib.ListN.{length, take, replicate, length-take, length-replicate}
use lib.Dec.{ltb}
use borrow.Author.Tests.{ltb-true, ltb-false}
use Rattle.model.specs.Groups as groups
use Rattle.model.specs.Text.{TextReply, read_text}
use Rattle.model.specs.Program.{Words, listing, reading, by_reading, by_words, chosen, program_verdict}
use Rattle.model.specs.Calls.{refuse_table}
use Rattle.theory.proofs.Calls.TableFaults.{table-whole}
use Rattle.theory.proofs.Text.EdgeTextGraph.{read_table-accepted}
use Rattle.theory.proofs.Program.Program.{by_length, by_text, by_refusal, by_graph}
use Rattle.std.specs.Prelude.{Result, Ok, Err}
use Rattle.refusal.specs.declared.Refusal.{Refusal}
use Rattle.refusal.specs.declared.Refusal.TheVariants.{TextLength}
use Rattle.refusal.specs.Numbers.{number}
use Rattle.refusal.proofs.Handed.{number-some}
use Rattle.lines.specs.declared.said.Said.{Said}
use Rattle.dimacs.specs.declared.Refused.{Refused}
use Rattle.dimacs.specs.Reply.{text_reply}
use Rattle.isolation.specs.Numbers.{settings_of}
use Rattle.isolation.specs.declared.Settings.{Settings}
use Rattle.request.specs.declared.listing.Listing.{Listing}
use Rattle.request.specs.declared.words.Arguments.{Arguments}
use Rattle.request.specs.Verdict.{Judged, Decides}
use Rattle.request.specs.Words.{WordsRead}
use Rattle.request.proofs.ReadWords.{words_said}

below_257 : (n : ℕ) → n * n ≤ 65536 → n ≤ 256
below_257 n h = go (ltb n 257) refl
  where
    go : (b : Bool) → ltb n 257 ≡ b → n ≤ 256
    go true e = omega (arith, ltb-true n 257 e)
    go false e = let m = mul-le-mul_right n (ltb-false n 257 e) in absurd (omega (arith, ltb-false n 257 e))

-- 41
pub judged_long : (s : groups.Settings) {text table : List ℕ} → ltb 65536 (length text) ≡ true → Judged s text table (Err (record { refusal = TextLength; line = 0 }))
judged_long s {text} e = record { verdict = sym (by_length s text e); fine = tt }

module _ (s : groups.Settings) (text : List ℕ) {before : List ℕ} (zeros : before ≡ replicate 65536 0) (short : ltb 65536 (length text) ≡ false) where
  -- the text is not too long, and so the reader decides
  reader : by_words (chosen s) text ≡ by_reading (read_text text before).refused s (read_text text before)
  unfolding reading
  reader = by_text s text short ∙ ap (λ (t : List ℕ). by_reading (read_text text t).refused s (read_text text t)) (sym zeros)

  -- its refusal
  pub judged_refused : {e : Refused} {table : List ℕ} → text_reply (Err e) table ≡ read_text text before → Judged s text table (Err e)
  judged_refused {e} replies =
      record {
        verdict = sym (reader ∙ ap (λ (r : TextReply). by_reading r.refused s r) (sym replies) ∙ by_refusal (number e.refusal) s _ (number-some e.refusal));
        fine = tt;
      }

  module _ (said : Said) {table : List ℕ} (replies : text_reply (Ok said) table ≡ read_text text before) where
    -- an accepted text leaves the table of a graph
    read_accepted : refuse_table said.vertices (take (said.vertices * said.vertices) table) ≡ 0
    read_accepted =
        ap (λ (r : TextReply). refuse_table r.vertices (take (r.vertices * r.vertices) r.slice)) replies
        ∙ read_table-accepted text before (sym (ap (λ (r : TextReply). r.refused) replies))

    read_fits : said.vertices * said.vertices ≤ length table
    read_fits =
        let w = table-whole said.vertices (take (said.vertices * said.vertices) table) read_accepted in
        let l = length-take (said.vertices * said.vertices) table in
        omega arith

    -- its graph
    read_graph : listing s said.vertices (take (said.vertices * said.vertices) table) ≡ by_words (chosen s) text
    read_graph = sym (reader ∙ ap (λ (r : TextReply). by_reading r.refused s r) (sym replies) ∙ by_graph 0 s _ refl)

    pub read_few : length table ≡ length before → said.vertices ≤ 256
    read_few long = below_257 said.vertices (let h = read_fits in let z = long ∙ ap length zeros ∙ length-replicate {A = ℕ} 65536 0 in omega arith)

-- the graph of a text that is read, to be listed with settings that pass
pub judged_graph : (l : Listing) (text : List ℕ) {before table : List ℕ} → before ≡ replicate 65536 0 → ltb 65536 (length text) ≡ false
    → (said : Said) → said.vertices ≡ l.vertices → text_reply (Ok said) table ≡ read_text text before → Judged (settings_of l.settings) text table (Ok l)
judged_graph l text zeros short said same replies =
    let s = settings_of l.settings in
    record {
      verdict = rw same at (read_graph s text zeros short said replies);
      fine = (rw same at (read_fits s text zeros short said replies), rw same at (read_accepted s text zeros short said replies));
    }

-- ---- the verdict on words and text

-- the words are refused
pub decides_wrong : {w : Arguments} {text table : List ℕ} {e : Refusal} → WordsRead w (Err e) → Decides w text table (Err (record { refusal = e; line = 0 }))
unfolding program_verdict by_words
decides_wrong {text = text} w =
    record { verdict = λ words h. ap (λ (x : Words). by_words x text) (words_said words h w); fine = tt }

-- the words pass, and so the text decides
pub decides_text : {w : Arguments} {text table : List ℕ} {s : Settings} {r : Result Listing Refused} → WordsRead w (Ok s)
    → Judged (settings_of s) text table r → Decides w text table r
unfolding program_verdict
decides_text {text = text} w j =
    record {
      verdict = λ words h. j.verdict ∙ ap (λ (x : Words). by_words x text) (words_said words h w);
      fine = j.fine;
    }
