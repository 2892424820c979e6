-- A loop that makes the rounds of a page computes the model's page: `Turn` holds at the start and is kept by each round, and at each break the loop's
-- numbers, position and output are the reply of document 01's page call.
-- Assumes nothing.
use Prim.Native.Nat.{ℕ, suc, ◌+◌, ◌-◌, ◌≤◌, ◌<◌}
use mathlib.Core.Path.{◌≡◌, refl, sym, ap, ap₂, ◌∙◌}
use mathlib.Core.Bool.{Bool, true, false}
use mathlib.Core.List.{List, [], ◌++◌, append_assoc, append-nil}
use native.Mathlib.Nat.{zero-add, add-zero, add_assoc}
use native.Mathlib.Omega.{arith}
use lib.ListN.{length, take, drop, length-append, length-drop}
use lib.Seq.{take_at, drop_at, drop-drop}
use Rattle.model.specs.Below.{bit}
use Rattle.model.specs.Walk.{Position, Rules, Page, halt, onward, finished, step, found, due, page}
use Rattle.model.specs.Calls.{reply_of}
use Rattle.theory.proofs.Walk.Rounds.{page-finished, page_spent, page-full, page-onward}
use Rattle.emit.specs.declared.Full as emit
use Rattle.rounds.specs.declared.Stop.{Stop}
use Rattle.rounds.specs.declared.Stop.TheVariants.{Finished, Spent, Full}
use Rattle.rounds.specs.Answer.{stop_number, wanted_at, PageReplies, accepted}
use Rattle.rounds.specs.Turn.{sofar, Turn}

-- ---- what was done so far

-- and then nothing more
sofar-halt : (k g : ℕ) (es : List ℕ) (stop wanted : ℕ) (p : Position)
    → sofar k g es (halt stop wanted p) ≡ record { stop = stop; groups = g; steps = k; wanted = wanted; reached = p; written = es }
sofar-halt k g es stop wanted p = rw (append-nil es, add-zero g, add-zero k)

-- and then one step
sofar-onward : (k g h : ℕ) (es fs : List ℕ) (r : Page) → sofar k g es (onward h fs r) ≡ sofar (k + 1) (g + h) (es ++ fs) r
sofar-onward k g h es fs r =
    let n : k + suc r.steps ≡ k + 1 + r.steps = omega arith in
    rw (n, ← add_assoc g h r.groups, ← append_assoc es fs r.written)

sofar-start : (r : Page) → r ≡ sofar 0 0 [] r
sofar-start r = rw (zero-add r.groups, zero-add r.steps)

pub bit_le : (b : Bool) → bit b ≤ 1
bit_le true = omega arith
bit_le false = omega arith

-- ---- the rounds

-- before the first round
pub turn_start : (R : Rules) (budget : ℕ) (first : Position) (lent : List ℕ) → Turn R budget first lent 0 0 0 first lent
turn_start R budget first lent =
    record {
      written = [];
      whole = sofar-start (page R budget (length lent) first) ∙ ap₂ (λ (b r : ℕ). sofar 0 0 [] (page R b r first)) (all budget) (all (length lent));
      used-is = refl;
      output-is = refl;
      used-fits = omega arith;
      steps-fit = omega arith;
      groups-fit = omega arith;
    }
  where
    all : (n : ℕ) → n ≡ n - 0
    all n = omega arith

module _ {R : Rules} {budget : ℕ} {first : Position} {lent : List ℕ} {k g u : ℕ} {p : Position} {output : List ℕ} (t : Turn R budget first lent k g u p output) where
  -- the output keeps its length
  pub turn_length : length output ≡ length lent
  turn_length =
      let e = ap length t.output-is in
      let a = length-append t.written (drop u lent) in
      let d = length-drop u lent in
      let i = t.used-is in
      let f = t.used-fits in
      omega arith

  head_is : take u output ≡ t.written
  head_is = ap (take u) t.output-is ∙ take_at t.written (drop u lent) u (sym t.used-is)

  rest-is : (m : ℕ) → drop (u + m) output ≡ drop (u + m) lent
  rest-is m =
      sym (drop-drop m u output)
      ∙ ap (λ (l : List ℕ). drop m (drop u l)) t.output-is
      ∙ ap (drop m) (drop_at t.written (drop u lent) u (sym t.used-is))
      ∙ drop-drop m u lent

  -- one round: what is due at p is put right after the used entries, and one step is made
  module _ (walking : finished p ≡ false) (more : k < budget) where
    round : u + length (due R p) ≤ length lent → (next : List ℕ) → next ≡ take u output ++ due R p ++ drop (u + length (due R p)) output
        → Turn R budget first lent (k + 1) (g + bit (found R p)) (u + length (due R p)) (step R p) next
    round room next e =
        record {
          written = t.written ++ due R p;
          whole = t.whole ∙ ap (sofar k g t.written) once ∙ sofar-onward k g (bit (found R p)) t.written (due R p) _;
          used-is = let a = length-append t.written (due R p) in let i = t.used-is in omega arith;
          output-is = e ∙ ap₂ (λ (x y : List ℕ). x ++ due R p ++ y) head_is (rest-is (length (due R p)));
          used-fits = room;
          steps-fit = omega arith;
          groups-fit = let b = bit_le (found R p) in let f = t.groups-fit in omega arith;
        }
      where
        once : page R (budget - k) (length lent - u) p
            ≡ onward (bit (found R p)) (due R p) (page R (budget - (k + 1)) (length lent - (u + length (due R p))) (step R p))
        once =
            let n : budget - k ≡ suc (budget - (k + 1)) = omega arith in
            let m : length lent - u - length (due R p) ≡ length lent - (u + length (due R p)) = omega arith in
            ap (λ (b : ℕ). page R b (length lent - u) p) n
            ∙ page-onward R p walking (budget - (k + 1)) (length lent - u) (omega arith)
            ∙ ap (λ (b : ℕ). onward (bit (found R p)) (due R p) (page R (budget - (k + 1)) b (step R p))) m

    -- the groups added, the entries used, the position and the output that the round leaves are known by equations only
    pub turn_step : u + length (due R p) ≤ length lent → {h m : ℕ} {q : Position} {next : List ℕ} → h ≡ bit (found R p) → m ≡ u + length (due R p) → q ≡ step R p
        → next ≡ take u output ++ due R p ++ drop (u + length (due R p)) output → Turn R budget first lent (k + 1) (g + h) m q next
    turn_step room {h} {m} {q} {next} eh em eq e = rw (eh, em, eq) (round room next e)

  -- ---- the breaks

  -- where the ways out of the loop meet
  ended : (stop : Stop) → page R (budget - k) (length lent - u) p ≡ halt (stop_number stop) (wanted_at stop) p
      → PageReplies (accepted (record { stop = stop; groups = g; steps = k; used = u })) p output (reply_of 0 (page R budget (length lent) first) first lent)
  unfolding reply_of
  ended stop e =
      record {
        refusal = refl;
        stop = sym (ap (λ (r : Page). r.stop) all);
        groups = sym (ap (λ (r : Page). r.groups) all);
        steps = sym (ap (λ (r : Page). r.steps) all);
        used = t.used-is ∙ sym (ap (λ (r : Page). length r.written) all);
        wanted = sym (ap (λ (r : Page). r.wanted) all);
        position = sym (ap (λ (r : Page). r.reached) all);
        output =
            t.output-is
            ∙ ap (λ (m : ℕ). t.written ++ drop m lent) t.used-is
            ∙ sym (ap (λ (r : Page). r.written ++ drop (length r.written) lent) all);
      }
    where
      all : page R budget (length lent) first
          ≡ record { stop = stop_number stop; groups = g; steps = k; wanted = wanted_at stop; reached = p; written = t.written }
      all = t.whole ∙ ap (sofar k g t.written) e ∙ sofar-halt k g t.written (stop_number stop) (wanted_at stop) p

  -- point 1: the position is finished
  pub turn_finished : finished p ≡ true
      → PageReplies (accepted (record { stop = Finished; groups = g; steps = k; used = u })) p output (reply_of 0 (page R budget (length lent) first) first lent)
  turn_finished h = ended Finished (page-finished R p (budget - k) (length lent - u) h)

  module _ (walking : finished p ≡ false) where
    -- point 2: the steps made equal the budget
    pub turn_spent : k ≡ budget
        → PageReplies (accepted (record { stop = Spent; groups = g; steps = k; used = u })) p output (reply_of 0 (page R budget (length lent) first) first lent)
    turn_spent e =
        let n : budget - k ≡ 0 = omega arith in
        ended Spent (ap (λ (b : ℕ). page R b (length lent - u) p) n ∙ page_spent R p walking (length lent - u))

    -- point 3: what is due exceeds the unused entries
    pub turn_full : (full : emit.Full) → full.wanted ≡ length (due R p) → k < budget → length lent < u + length (due R p)
        → PageReplies (accepted (record { stop = Full full; groups = g; steps = k; used = u })) p output (reply_of 0 (page R budget (length lent) first) first lent)
    turn_full full f more exceeds =
        let n : budget - k ≡ suc (budget - (k + 1)) = omega arith in
        let h = t.used-fits in
        ended (Full full)
        (ap (λ (b : ℕ). page R b (length lent - u) p) n
        ∙ page-full R p walking (budget - (k + 1)) (length lent - u) (omega arith)
        ∙ ap (λ (m : ℕ). halt (stop_number (Full full)) m p) (sym f))
