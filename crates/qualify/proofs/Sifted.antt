-- How the loop of `candidates` writes the left neighbours of the pivot that are joined to each taken vertex into part 3 of the work slice.
-- Assumes nothing.
use Prim.Native.Nat.{ℕ, ◌+◌, ◌-◌, ◌*◌, ◌≤◌, ◌<◌}
use mathlib.Core.Path.{◌≡◌, refl, sym, ap, ◌∙◌}
use mathlib.Core.Bool.{Bool, true, false, cond}
use mathlib.Core.List.{List, [], ◌∷◌, ◌++◌, map, append-nil}
use native.Mathlib.Numerals.{add-one}
use native.Mathlib.Omega.{arith}
use lib.ListN.{length, get_or, take, drop, set, length-map}
use lib.Seq.{take-suc, take-length}
use Rattle.std.proofs.lemmas.List.{take-take, length-take-le, set-append_right}
use Rattle.model.specs.Graph.{Graph, vertex_at}
use Rattle.theory.specs.Search.{joined_all}
use Rattle.theory.specs.Parts.{part, Filled}
use Rattle.theory.proofs.Basics.Parts.{part_length, part_at, part-front, filled_none, filled_push, filled_pass, filled_candidates}
use Rattle.theory.proofs.Basics.Passing.{map_at}
use Rattle.qualify.specs.Qualify.{joined_of, Sifts, Sifted}

-- a vertex at the end of a list is among those joined to all where it is joined to all
joined_of_push : (G : Graph) (us vs : List ℕ) (v : ℕ) → joined_of G us (vs ++ (v ∷ [])) ≡ joined_of G us vs ++ cond (joined_all G v us) (v ∷ []) []
unfolding joined_of
joined_of_push G us [] v = refl
joined_of_push G us (u ∷ vs) v = go (joined_all G u us) (joined_of_push G us vs v)
  where
    go : (b : Bool) → joined_of G us (vs ++ (v ∷ [])) ≡ joined_of G us vs ++ cond (joined_all G v us) (v ∷ []) []
        → cond b (u ∷ joined_of G us (vs ++ (v ∷ []))) (joined_of G us (vs ++ (v ∷ [])))
        ≡ cond b (u ∷ joined_of G us vs) (joined_of G us vs) ++ cond (joined_all G v us) (v ∷ []) []
    go true e = ap (λ (l : List ℕ). u ∷ l) e
    go false e = e

-- of the first j left vertices those that are joined to each taken one
abbrev pub sifted : Graph → List ℕ → ℕ → ℕ → ℕ → List ℕ
sifted G w taken left j = joined_of G (part w G.size taken) (take j (map (vertex_at G) (part w (2 * G.size) left)))

module _ {G : Graph} {w₀ : List ℕ} {taken left : ℕ} (a : Sifts G w₀ taken left) where
  abbrev n : ℕ
  n = G.size

  -- the left vertices
  abbrev lefts : List ℕ
  lefts = map (vertex_at G) (part w₀ (2 * n) left)

  part-full : length (part w₀ (2 * n) left) ≡ left
  part-full = let r = a.room in let k = a.few-left in part_length w₀ (2 * n) left (omega arith)

  lefts_length : length lefts ≡ left
  lefts_length = length-map (part w₀ (2 * n) left) (vertex_at G) ∙ part-full

  pub sifted_none : Filled (3 * n) (3 * n + n) (sifted G w₀ taken left 0) w₀ w₀ 0
  unfolding joined_of
  sifted_none = filled_none _ _ _ _ refl

  -- the work slice before part 3, which holds the taken vertices and the left ranks
  front-part : (k e : ℕ) → k + e ≤ 3 * n → part (take (3 * n) w₀) k e ≡ part w₀ k e
  front-part k e h =
      let r = a.room in
      let l = length-take-le (3 * n) w₀ (omega arith) in
      part-front (3 * n) (take (3 * n) w₀) w₀ (take-take (3 * n) (3 * n) w₀ (omega arith)) (omega (arith, l)) (omega arith) k e h

  -- as it is lent: the taken vertices
  pub taken-lent : take (n + taken - n) (drop n (take (3 * n) w₀)) ≡ part w₀ n taken
  taken-lent =
      let e : n + taken - n ≡ taken = omega arith in
      ap (λ (k : ℕ). take k (drop n (take (3 * n) w₀))) e ∙ front-part n taken (let k = a.few-taken in omega arith)

  -- and the left ranks
  pub lefts-lent : take (2 * n + left - 2 * n) (drop (2 * n) (take (3 * n) w₀)) ≡ part w₀ (2 * n) left
  lefts-lent =
      let e : 2 * n + left - 2 * n ≡ left = omega arith in
      ap (λ (k : ℕ). take k (drop (2 * n) (take (3 * n) w₀))) e ∙ front-part (2 * n) left (let k = a.few-left in omega arith)

  pub rank-read : (j : ℕ) → j < left → get_or (part w₀ (2 * n) left) j 0 ≡ get_or w₀ (2 * n + j) 0
  rank-read j h = part_at w₀ (2 * n) left j h

  pub lefts-full : length (part w₀ (2 * n) left) ≡ left
  lefts-full = part-full

  -- candidate m goes to entry m of what comes after
  pub candidate_set : (ys : List ℕ) (m v : ℕ) → take (3 * n) w₀ ++ set ys m v ≡ set (take (3 * n) w₀ ++ ys) (3 * n + m) v
  candidate_set ys m v =
      let l = length-take-le (3 * n) w₀ (let r = a.room in omega arith) in
      let e : 3 * n + m - 3 * n ≡ m = omega arith in
      sym (set-append_right (take (3 * n) w₀) ys (3 * n) (3 * n + m) v l (omega arith) ∙ ap (λ (k : ℕ). take (3 * n) w₀ ++ set ys k v) e)

  module _ {w : List ℕ} {m j : ℕ} (s : Filled (3 * n) (3 * n + n) (sifted G w₀ taken left j) w₀ w m) where
    -- all are looked through
    pub sifted_all : m ≤ j → j ≤ left → left ≤ j → Sifted G w₀ w taken left m
    sifted_all f b h =
        let l = lefts_length in
        let e : j ≡ length lefts = omega arith in
        record {
          fewer = omega arith;
          found =
              filled_candidates
              (filled_pass _ _ _ s _ (sym (ap (joined_of G (part w₀ n taken)) (ap (λ (i : ℕ). take i lefts) e ∙ take-length lefts)))) a.few-taken
              (let k = a.few-left in omega arith);
        }

    -- the rank that is looked at
    module _ (h : j < left) {r : ℕ} (read : r ≡ get_or w₀ (2 * n + j) 0) where
      pub rank-small : r < n
      rank-small = let l = a.left_ranks_lem j h in omega (arith, read)

      -- and its vertex v
      module _ {v : ℕ} (vertex-is : v ≡ vertex_at G r) where
        vertex-listed : v ≡ get_or lefts j 0
        vertex-listed =
            let l = part-full in
            vertex-is
            ∙ ap (vertex_at G) (read ∙ sym (part_at w₀ (2 * n) left j h))
            ∙ sym (map_at (vertex_at G) (part w₀ (2 * n) left) j (omega arith))

        further : (b : Bool) → b ≡ joined_all G v (part w₀ n taken) → sifted G w₀ taken left (j + 1) ≡ sifted G w₀ taken left j ++ cond b (v ∷ []) []
        further b e =
            let l = lefts_length in
            let us = part w₀ n taken in
            ap (joined_of G us) (ap (λ (i : ℕ). take i lefts) (add-one j) ∙ take-suc lefts j 0 (omega arith))
            ∙ joined_of_push G us (take j lefts) (get_or lefts j 0)
            ∙ ap (λ (u : ℕ). sifted G w₀ taken left j ++ cond (joined_all G u us) (u ∷ []) []) (sym vertex-listed)
            ∙ ap (λ (c : Bool). sifted G w₀ taken left j ++ cond c (v ∷ []) []) (sym e)

        -- it is written where it is joined to all, and else passed over
        pub sifted_hit : m ≤ j → true ≡ joined_all G v (part w₀ n taken) → Filled (3 * n) (3 * n + n) (sifted G w₀ taken left (j + 1)) w₀ (set w (3 * n + m) v) (m + 1)
        sifted_hit f e = let k = a.few-left in let r = a.room in filled_push _ _ _ s v _ (further true e) (omega arith) (omega arith)

        pub sifted_miss : false ≡ joined_all G v (part w₀ n taken) → Filled (3 * n) (3 * n + n) (sifted G w₀ taken left (j + 1)) w₀ w m
        sifted_miss e = filled_pass _ _ _ s _ (further false e ∙ append-nil _)
