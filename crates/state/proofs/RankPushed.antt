-- The next rank decided: how the state and the work slice come to stand for the position that has it taken or left, by the stores that are made.
-- Assumes nothing.
use Prim.Native.Nat.{ℕ, ◌+◌, ◌*◌, ◌≤◌, ◌<◌}
use mathlib.Core.Path.{◌≡◌, refl, sym, ap, ap₂, ◌∙◌}
use mathlib.Core.Bool.{Bool, true, false, ◌||◌, not}
use mathlib.Core.List.{List, [], ◌∷◌, ◌++◌}
use mathlib.Core.Logic.{◌≢◌, ⊎_elim}
use native.Mathlib.Nat.{zero-add}
use native.Mathlib.Omega.{arith}
use lib.ListN.{length, get_or, set, length-set}
use Rattle.model.specs.Below.{any, passing}
use Rattle.model.specs.Graph.{Graph, degree, vertex_at}
use Rattle.model.specs.Walk.{Position}
use Rattle.model.specs.Listing.{adjacent, pivot, apart, taken_list}
use Rattle.theory.proofs.Basics.Tests.{any_same, last_or_below, lt_or_ge, trichotomy}
use Rattle.theory.proofs.Basics.Parts.{part_push, part-before, part-after, part-below, kept-none}
use Rattle.theory.specs.Parts.{part, Filled}
use Rattle.state.specs.State.{taken_ranks, left_ranks, degrees_of, Stands}
use Rattle.state.specs.NextRank.{Decides, Pushed, LeftOnceTaken}
use Rattle.state.specs.declared.State.{State}
use Rattle.state.proofs.Taken.{degrees-more, untaken_at}
use Rattle.state.proofs.NextRank.{ranks-taken, vertices-taken, ranks-left, vertices-left, left-kept, left-more, left-same, left-still-none, left-first, apart-taken, apart-left}
use Rattle.state.proofs.StandsFor.{taken-count, vertex-entry, pivot-entry, none-taken, some-taken, left-few}

module _ {G : Graph} {p q : Position} {w : List ℕ} {s : State} (St : Stands G p w s) (low : s.decided < G.size) {x : ℕ} (D : Decides s.decided x p q) where
  -- what any push keeps
  any_push : {w₂ : List ℕ} → length w₂ ≡ length w → (s₂ : State) → x ≢ 0 → x ≤ 2 → s₂.decided ≡ s.decided + 1 → s₂.taken ≤ s₂.decided → s₂.left ≤ s₂.decided
      → part w₂ 0 s₂.taken ≡ taken_ranks G q → part w₂ G.size s₂.taken ≡ taken_list G q → part w₂ (2 * G.size) s₂.left ≡ left_ranks G q
      → s₂.sum ≡ degrees_of G (taken_list G q) → s₂.apart ≡ apart G q → Stands G q w₂ s₂
  any_push long s₂ o t e a b ranks vertices left sum apart =
      record {
        long = D.same_length ∙ St.long;
        room = omega arith;
        bound = omega arith;
        taken-bound = a;
        left-bound = b;
        bytes = bytes;
        decided = λ r h. last_or_below {n = s.decided} {i = r} (omega arith) (λ q. decided-there r q) (λ l z. St.decided r l (sym (D.before r l) ∙ z));
        still_open = λ r h. D.then_open r (omega arith);
        ranks = ranks;
        vertices = vertices;
        left = left;
        sum = sum;
        apart = apart;
      }
    where
      decided-there : (r : ℕ) → r ≡ s.decided → get_or q r 0 ≢ 0
      decided-there r e z = o (sym D.there ∙ ap (λ (k : ℕ). get_or q k 0) (sym e) ∙ z)

      bytes : (r : ℕ) → get_or q r 0 ≤ 2
      bytes r =
          ⊎_elim
          (λ l. let e = D.before r l in let b = St.bytes r in omega arith)
          (⊎_elim
          (λ e. let f = ap (λ (k : ℕ). get_or q k 0) e in let g = D.there in omega arith)
          (λ l. let e = D.then_open r l in omega arith))
          (trichotomy r s.decided)

  -- the rank is taken: it comes last in part 0, its vertex last in part 1, and part 2 holds the left neighbours of the pivot
  push_taken : x ≡ 1 → {w₂ : List ℕ} → length w₂ ≡ length w → (m z : ℕ) → m ≤ s.decided → z ≡ degree G (vertex_at G s.decided) → (b : Bool)
      → b ≡ (s.apart || any s.taken (λ j. not (G.joined (get_or w (G.size + j) 0) (vertex_at G s.decided))))
      → part w₂ 0 (s.taken + 1) ≡ part w 0 s.taken ++ (s.decided ∷ []) → part w₂ G.size (s.taken + 1) ≡ part w G.size s.taken ++ (vertex_at G s.decided ∷ [])
      → part w₂ (2 * G.size) m ≡ left_ranks G q
      → Stands G q w₂ (record { decided = s.decided + 1; taken = s.taken + 1; left = m; sum = s.sum + z; apart = b })
  push_taken e long m z few z-is b is ranks vertices left =
      let list = vertices-taken G low St.still_open D e in
      any_push long (record { decided = s.decided + 1; taken = s.taken + 1; left = m; sum = s.sum + z; apart = b })
      (λ z. omega arith) (omega arith) refl (omega arith) (omega arith)
      (ranks ∙ ap (λ (l : List ℕ). l ++ (s.decided ∷ [])) St.ranks ∙ sym (ranks-taken G low St.still_open D e))
      (vertices ∙ ap (λ (l : List ℕ). l ++ (vertex_at G s.decided ∷ [])) St.vertices ∙ sym list)
      left
      (ap₂ ◌+◌ St.sum z-is ∙ sym (degrees-more G (taken_list G p) (vertex_at G s.decided)) ∙ ap (degrees_of G) (sym list))
      (is ∙ ap₂ ◌||◌ St.apart same ∙ sym (apart-taken G low St.still_open D e))
    where
      same : any s.taken (λ j. not (G.joined (get_or w (G.size + j) 0) (vertex_at G s.decided)))
          ≡ any (length (taken_ranks G p)) (λ j. not (G.joined (get_or (taken_list G p) j 0) (vertex_at G s.decided)))
      same =
          any_same s.taken (λ j. not (G.joined (get_or w (G.size + j) 0) (vertex_at G s.decided))) (λ j. not (G.joined (get_or (taken_list G p) j 0) (vertex_at G s.decided)))
          (λ j h. ap (λ (v : ℕ). not (G.joined v (vertex_at G s.decided))) (vertex-entry G p w s St j h))
          ∙ ap (λ (k : ℕ). any k (λ j. not (G.joined (get_or (taken_list G p) j 0) (vertex_at G s.decided)))) (sym (taken-count G p w s St))

  -- the left neighbours of the pivot as it is taken: the same where something is taken, else those ranks below it that are adjacent to it
  left-before : x ≡ 1 → 0 < s.taken → part w (2 * G.size) s.left ≡ left_ranks G q
  left-before e some = St.left ∙ sym (left-kept G low St.still_open D St.long (some-taken St some) e)

  left_new : x ≡ 1 → s.taken ≡ 0 → passing s.decided (adjacent G s.decided) ≡ left_ranks G q
  left_new e none = sym (left-first G low St.still_open D St.long (none-taken St none) e two)
    where
      two : (r : ℕ) → r < s.decided → get_or p r 0 ≡ 2
      two r h =
          let a = untaken_at G p (none-taken St none) r (omega arith) in
          let b = St.decided r h in
          let c = St.bytes r in
          omega arith

  -- the rank is left: the left neighbours of the pivot get it where it is one
  push_left : x ≡ 2 → {w₂ : List ℕ} → length w₂ ≡ length w → (m : ℕ) → m ≤ s.decided + 1 → part w₂ 0 s.taken ≡ part w 0 s.taken
      → part w₂ G.size s.taken ≡ part w G.size s.taken → part w₂ (2 * G.size) m ≡ left_ranks G q
      → Stands G q w₂ (record { decided = s.decided + 1; taken = s.taken; left = m; sum = s.sum; apart = s.apart })
  push_left e long m few ranks vertices left =
      any_push long (record { decided = s.decided + 1; taken = s.taken; left = m; sum = s.sum; apart = s.apart })
      (λ z. omega arith) (omega arith) refl (omega arith) few
      (ranks ∙ St.ranks ∙ sym (ranks-left G low St.still_open D e))
      (vertices ∙ St.vertices ∙ sym (vertices-left G low St.still_open D e))
      left
      (St.sum ∙ ap (degrees_of G) (sym (vertices-left G low St.still_open D e)))
      (St.apart ∙ sym (apart-left G low St.still_open D e))

  push_neighbour : x ≡ 2 → 0 < s.taken → adjacent G (pivot G p) s.decided ≡ true → left_ranks G q ≡ part w (2 * G.size) s.left ++ (s.decided ∷ [])
  push_neighbour e some a = left-more G low St.still_open D St.long (some-taken St some) e a ∙ ap (λ (l : List ℕ). l ++ (s.decided ∷ [])) (sym St.left)

  push_other : x ≡ 2 → (0 < s.taken → adjacent G (pivot G p) s.decided ≡ false)
      → Stands G q w (record { decided = s.decided + 1; taken = s.taken; left = s.left; sum = s.sum; apart = s.apart })
  push_other e a = let b = St.left-bound in push_left e refl s.left (omega arith) refl refl (St.left ∙ sym left)
    where
      left : left_ranks G q ≡ left_ranks G p
      left =
          ⊎_elim
          (λ l. left-same G low St.still_open D St.long (some-taken St l) e (a l))
          (λ l. left-still-none G low St.still_open D St.long (none-taken St (omega arith)) e)
          (lt_or_ge 0 s.taken)

-- ---- the stores

-- two ranks are adjacent where their vertices are joined
pub adjacent_by : (G : Graph) (a b : ℕ) {u v : ℕ} → u ≡ vertex_at G a → v ≡ vertex_at G b → G.joined u v ≡ adjacent G a b
unfolding adjacent
adjacent_by G a b e f = ap₂ G.joined e f

module _ {G : Graph} {w : List ℕ} {s : State} (low : s.decided < G.size) where
  -- a left neighbour of the pivot goes onto part 2
  pub neighbour_pushed : 0 < s.taken → {u v : ℕ} → u ≡ get_or w G.size 0 → v ≡ vertex_at G s.decided → G.joined u v ≡ true
      → Pushed G 2 w s (set w (2 * G.size + s.left) s.decided) (record { decided = s.decided + 1; taken = s.taken; left = s.left + 1; sum = s.sum; apart = s.apart })
  neighbour_pushed some e f j =
      let d = s.decided in
      let n = G.size in
      record {
        stands = λ p q St D.
            let a = St.room in
            let b = left-few St in
            let c = St.taken-bound in
            push_left St low D refl (length-set w (2 * n + s.left) d) (s.left + 1) (let x = St.left-bound in omega arith)
            (part-after w 0 s.taken (2 * n + s.left) d (omega arith))
            (part-after w n s.taken (2 * n + s.left) d (omega arith))
            (part_push w (2 * n) s.left d (omega arith) ∙ sym (push_neighbour St low D refl some (sym (adjacent_by G (pivot G p) d (e ∙ pivot-entry St some) f) ∙ j)));
        next = refl;
      }

  -- another rank is left: no store
  pub other_pushed : (0 < s.taken → (u : ℕ) × (v : ℕ) × (u ≡ get_or w G.size 0) × (v ≡ vertex_at G s.decided) × (G.joined u v ≡ false))
      → Pushed G 2 w s w (record { decided = s.decided + 1; taken = s.taken; left = s.left; sum = s.sum; apart = s.apart })
  other_pushed f =
      record { stands = λ p q St D. push_other St low D refl (λ h. let j = f h in sym (adjacent_by G (pivot G p) s.decided (j.2 ∙ pivot-entry St h) j.3) ∙ j.4); next = refl }

  -- part 2 as the rank is taken: the pivot stays, or the rank becomes the pivot
  pub left-stays : s.left ≤ s.decided → 0 < s.taken → LeftOnceTaken G w s w s.left
  left-stays few some =
      record { holds = λ p q St D. left-before St low D refl some; few = few; kept = kept-none (2 * G.size) (3 * G.size) w }

  pub left-found : s.taken ≡ 0 → {w₁ : List ℕ} {m i : ℕ} → i ≡ s.decided → m ≤ i → Filled (2 * G.size) (3 * G.size) (passing i (adjacent G s.decided)) w w₁ m
      → LeftOnceTaken G w s w₁ m
  left-found none {w₁} {m} e few L =
      record {
        holds = λ p q St D. L.listed ∙ ap (λ (k : ℕ). passing k (adjacent G s.decided)) e ∙ left_new St low D refl none;
        few = omega arith;
        kept = L.kept;
      }

  -- the rank goes onto part 0 and its vertex onto part 1, after part 2 was written to w₁
  pub taken_pushed : {v e m : ℕ} {b a : Bool} {w₁ : List ℕ} → v ≡ vertex_at G s.decided → e ≡ degree G v
      → b ≡ (s.apart || a) → a ≡ any s.taken (λ j. not (G.joined (get_or w (G.size + j) 0) v)) → LeftOnceTaken G w s w₁ m
      → Pushed G 1 w s (set (set w₁ s.taken s.decided) (G.size + s.taken) v)
      (record { decided = s.decided + 1; taken = s.taken + 1; left = m; sum = s.sum + e; apart = b })
  taken_pushed {v} {e} {m} {b} {a} {w₁} v_is e-is b-is a-is L =
      let n = G.size in
      let d = s.decided in
      let k = s.taken in
      let w₂ = set w₁ k d in
      let long = L.kept.length-kept in
      record {
        stands = λ p q St D.
            let room = St.room in
            let c = St.taken-bound in
            push_taken St low D refl (simp length-set long) m e L.few (e-is ∙ ap (degree G) v_is) b
            (b-is ∙ ap (λ (y : Bool). s.apart || y) (a-is ∙ ap (λ (x : ℕ). any k (λ j. not (G.joined (get_or w (n + j) 0) x))) v_is))
            (part-after w₂ 0 (k + 1) (n + k) v (omega arith)
            ∙ ap (λ (i : ℕ). part (set w₁ i d) 0 (k + 1)) (sym (zero-add k))
            ∙ part_push w₁ 0 k d (omega arith)
            ∙ ap (λ (us : List ℕ). us ++ (d ∷ [])) (part-below _ _ w w₁ L.kept 0 k (omega arith)))
            (part_push w₂ n k v (simp length-set (omega arith))
            ∙ ap₂ (λ (us : List ℕ) (x : ℕ). us ++ (x ∷ [])) (part-before w₁ n k k d (omega arith) ∙ part-below _ _ w w₁ L.kept n k (omega arith)) v_is)
            (part-before w₂ (2 * n) m (n + k) v (omega arith) ∙ part-before w₁ (2 * n) m k d (omega arith) ∙ L.holds p q St D);
        next = refl;
      }
