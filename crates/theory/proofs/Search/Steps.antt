-- The search over marks as a loop meets it, one candidate at a time.
-- Assumes nothing.
use Prim.Native.Nat.{ℕ, zero, suc, ◌+◌, ◌-◌, ◌≤◌, ◌<◌, min, max}
use mathlib.Core.Path.{◌≡◌, refl, sym, ap, ◌∙◌}
use mathlib.Core.Bool.{Bool, true, false, ◌&&◌, ◌||◌, not, cond}
use native.Mathlib.Omega.{arith}
use lib.Dec.{eqb}
use Rattle.model.specs.Graph.{Graph, degree}
use Rattle.model.specs.Groups.{Factor}
use Rattle.theory.specs.Search.{isolated_by}
use Rattle.theory.specs.Bound.{hopeless}
use Rattle.theory.specs.Marks.{Marks, still_in, dropped, drop_out, count_in, find_marked, find_with}
use Rattle.theory.proofs.Search.Marks.{count_same}

module _ (G : Graph) (notion : ℕ) (c : Factor) (low : ℕ) where
  -- what is found at a candidate v: whether it is in, how many candidates after it are in with it added and without, what the search finds with it and more, and without it
  abbrev at_candidate : (k sum least largest v : ℕ) → Bool → ℕ → ℕ → Bool → Bool → Bool
  at_candidate k sum least largest v is_in kept after deeper rest =
      cond is_in
      ((isolated_by notion c (k + 1) (sum + degree G v) (min least (degree G v)) (max largest (degree G v))
      || (not (hopeless notion c low kept (k + 1) (sum + degree G v) (min least (degree G v)) (max largest (degree G v))) && deeper))
      || (not (hopeless notion c low after k sum least largest) && rest))
      rest

  -- how many of the r candidates from place j on are in once v is added at depth k + 1
  abbrev kept_in : (ℕ → ℕ) → Marks → (k v j r : ℕ) → ℕ
  kept_in candidate marks k v j r = count_in (drop_out G candidate v (k + 1) marks) j r

  -- the search with v added at depth k + 1, among the r candidates from place j on
  abbrev below : (ℕ → ℕ) → Marks → (k sum least largest v j r : ℕ) → Bool
  below candidate marks k sum least largest v j r =
      find_marked G notion c low candidate (drop_out G candidate v (k + 1) marks) (k + 1) (sum + degree G v) (min least (degree G v)) (max largest (degree G v)) j r

  marked_step : (candidate : ℕ → ℕ) (marks : Marks) (k sum least largest j r : ℕ)
      → find_marked G notion c low candidate marks k sum least largest j (suc r)
      ≡ at_candidate k sum least largest (candidate j) (still_in marks j) (kept_in candidate marks k (candidate j) (suc j) r) (count_in marks (suc j) r)
      (below candidate marks k sum least largest (candidate j) (suc j) r) (find_marked G notion c low candidate marks k sum least largest (suc j) r)
  unfolding find_marked
  marked_step candidate marks k sum least largest j r = refl

  drop-same : (candidate other : ℕ → ℕ) (marks ticks : Marks) (v d e : ℕ) → candidate e ≡ other e → marks e ≡ ticks e
      → drop_out G candidate v d marks e ≡ drop_out G other v d ticks e
  unfolding drop_out
  drop-same candidate other marks ticks v d e f g = ap (λ (u : ℕ). dropped d (G.joined v u) (marks e)) f ∙ ap (dropped d (G.joined v (other e))) g

  still-same : (marks ticks : Marks) (e : ℕ) → marks e ≡ ticks e → still_in marks e ≡ still_in ticks e
  unfolding still_in
  still-same marks ticks e g = ap (λ (x : ℕ). eqb x 0) g

  none_left : (candidate : ℕ → ℕ) (marks : Marks) (k sum least largest j : ℕ) → find_marked G notion c low candidate marks k sum least largest j zero ≡ false
  unfolding find_marked
  none_left candidate marks k sum least largest j = refl

  -- candidates and marks that agree from place j on are searched alike
  pub marked_agree : (candidate other : ℕ → ℕ) (marks ticks : Marks) (k sum least largest j r : ℕ)
      → ((e : ℕ) → j ≤ e → e < j + r → candidate e ≡ other e) → ((e : ℕ) → j ≤ e → e < j + r → marks e ≡ ticks e)
      → find_marked G notion c low candidate marks k sum least largest j r ≡ find_marked G notion c low other ticks k sum least largest j r
  marked_agree candidate other marks ticks k sum least largest j zero f g = none_left candidate marks k sum least largest j ∙ sym (none_left other ticks k sum least largest j)
  marked_agree candidate other marks ticks k sum least largest j (suc r) f g =
      marked_step candidate marks k sum least largest j r
      ∙ ap (λ (b : Bool). at_candidate k sum least largest v b (kept candidate marks) (count_in marks (suc j) r) (deeper candidate marks) (rest candidate marks)) (still-same marks ticks j (g j first last))
      ∙ ap (λ (x : ℕ). at_candidate k sum least largest v (still_in ticks j) x (count_in marks (suc j) r) (deeper candidate marks) (rest candidate marks))
      (count_same (drop_out G candidate v (k + 1) marks) (drop_out G other v (k + 1) ticks) (suc j) r dropped-same)
      ∙ ap (λ (x : ℕ). at_candidate k sum least largest v (still_in ticks j) (kept other ticks) x (deeper candidate marks) (rest candidate marks)) (count_same marks ticks (suc j) r after-marks)
      ∙ ap (λ (b : Bool). at_candidate k sum least largest v (still_in ticks j) (kept other ticks) (count_in ticks (suc j) r) b (rest candidate marks))
      (marked_agree candidate other (drop_out G candidate v (k + 1) marks) (drop_out G other v (k + 1) ticks) (k + 1) _ _ _ (suc j) r after-candidates dropped-same)
      ∙ ap (λ (b : Bool). at_candidate k sum least largest v (still_in ticks j) (kept other ticks) (count_in ticks (suc j) r) (deeper other ticks) b)
      (marked_agree candidate other marks ticks k sum least largest (suc j) r after-candidates after-marks)
      ∙ ap (λ (u : ℕ). at_candidate k sum least largest u (still_in ticks j) (kept_in other ticks k u (suc j) r) (count_in ticks (suc j) r) (below other ticks k sum least largest u (suc j) r) (rest other ticks)) (f j first last)
      ∙ sym (marked_step other ticks k sum least largest j r)
    where
      v : ℕ
      v = candidate j

      first : j ≤ j
      first = omega arith

      last : j < j + suc r
      last = omega arith

      deeper : (ℕ → ℕ) → Marks → Bool
      deeper cs ms = below cs ms k sum least largest (candidate j) (suc j) r

      rest : (ℕ → ℕ) → Marks → Bool
      rest cs ms = find_marked G notion c low cs ms k sum least largest (suc j) r

      kept : (ℕ → ℕ) → Marks → ℕ
      kept cs ms = kept_in cs ms k (candidate j) (suc j) r

      after-candidates : (e : ℕ) → suc j ≤ e → e < suc j + r → candidate e ≡ other e
      after-candidates e h l = f e (omega arith) (omega arith)

      after-marks : (e : ℕ) → suc j ≤ e → e < suc j + r → marks e ≡ ticks e
      after-marks e h l = g e (omega arith) (omega arith)

      dropped-same : (e : ℕ) → suc j ≤ e → e < suc j + r → drop_out G candidate v (k + 1) marks e ≡ drop_out G other v (k + 1) ticks e
      dropped-same e h l = drop-same candidate other marks ticks v (k + 1) e (after-candidates e h l) (after-marks e h l)

  -- ---- with one candidate added

  module _ (candidate : ℕ → ℕ) (marks : Marks) (k sum least largest v j r : ℕ) where
    -- the set with v is isolated
    abbrev here : Bool
    here = isolated_by notion c (k + 1) (sum + degree G v) (min least (degree G v)) (max largest (degree G v))

    -- no set with v and some of the candidates that are still in then is isolated
    abbrev leaves : Bool
    leaves = hopeless notion c low (kept_in candidate marks k v j r) (k + 1) (sum + degree G v) (min least (degree G v)) (max largest (degree G v))

    with_is : find_with G notion c low candidate marks k sum least largest v j r ≡ (here || (not leaves && below candidate marks k sum least largest v j r))
    unfolding find_with
    with_is = refl

    -- found with it
    pub with_here : here ≡ true → find_with G notion c low candidate marks k sum least largest v j r ≡ true
    with_here e = with_is ∙ rw e

    -- given up
    pub with_hopeless : here ≡ false → leaves ≡ true → find_with G notion c low candidate marks k sum least largest v j r ≡ false
    with_hopeless e f = with_is ∙ rw (e, f)

    -- else what is found below it, where there is hope
    pub with_apart : here ≡ false → find_with G notion c low candidate marks k sum least largest v j r ≡ (not leaves && below candidate marks k sum least largest v j r)
    with_apart e = with_is ∙ rw e

  -- ---- the candidates from place j to m - 1

  module _ (candidate : ℕ → ℕ) (marks : Marks) (k sum least largest j m : ℕ) where
    abbrev from : ℕ → Bool
    from i = find_marked G notion c low candidate marks k sum least largest i (m - i)

    -- past the last candidate nothing is found
    pub marked_end : m ≤ j → from j ≡ false
    marked_end h = ap (find_marked G notion c low candidate marks k sum least largest j) none ∙ none_left candidate marks k sum least largest j
      where
        none : m - j ≡ 0
        none = omega arith

    module _ (inside : j < m) where
      next : suc j ≡ j + 1
      next = omega arith

      left : m - j ≡ suc (m - (j + 1))
      left = omega arith

      -- what the search finds with the candidate at place j
      abbrev with_it : Bool
      with_it = find_with G notion c low candidate marks k sum least largest (candidate j) (j + 1) (m - (j + 1))

      -- nothing larger is isolated by the candidates after it that are still in
      abbrev passed_hopeless : Bool
      passed_hopeless = hopeless notion c low (count_in marks (j + 1) (m - (j + 1))) k sum least largest

      marked_at : from j ≡ cond (still_in marks j) (with_it || (not passed_hopeless && from (j + 1))) (from (j + 1))
      marked_at =
          ap (find_marked G notion c low candidate marks k sum least largest j) left
          ∙ marked_step candidate marks k sum least largest j (m - (j + 1))
          ∙ ap (λ (i : ℕ). at_candidate k sum least largest (candidate j) (still_in marks j) (kept_in candidate marks k (candidate j) i (m - (j + 1))) (count_in marks i (m - (j + 1)))
          (below candidate marks k sum least largest (candidate j) i (m - (j + 1)))
          (find_marked G notion c low candidate marks k sum least largest i (m - (j + 1)))) next
          ∙ ap (λ (b : Bool). cond (still_in marks j) (b || (not passed_hopeless && from (j + 1))) (from (j + 1)))
          (sym (with_is candidate marks k sum least largest (candidate j) (j + 1) (m - (j + 1))))

      -- passed over, where it has dropped out
      pub marked_out : still_in marks j ≡ false → from j ≡ from (j + 1)
      marked_out e = marked_at ∙ rw e

      module _ (is_in : still_in marks j ≡ true) where
        -- found with it
        pub marked_found : with_it ≡ true → from j ≡ true
        marked_found e = marked_at ∙ rw (is_in, e)

        module _ (none_with : with_it ≡ false) where
          -- nothing is found in a hopeless branch
          pub marked_hopeless : passed_hopeless ≡ true → from j ≡ false
          marked_hopeless h = marked_at ∙ rw (is_in, none_with, h)

          -- passed over, where nothing is found with it
          pub marked_next : passed_hopeless ≡ false → from j ≡ from (j + 1)
          marked_next h = marked_at ∙ rw (is_in, none_with, h)
