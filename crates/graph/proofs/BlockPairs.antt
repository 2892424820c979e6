-- Refusal 5 by blocks: the numbers of a transposed block beside those of the block across the diagonal, and all blocks on and below it.
-- Assumes nothing.
use Prim.Native.Nat.{ℕ, ◌+◌, ◌*◌, ◌/◌, ◌%◌, ◌^◌, ◌≤◌, ◌<◌}
use mathlib.Core.Path.{◌≡◌, refl, sym, ap, ◌∙◌, subst}
use mathlib.Core.Bool.{Bool, true, false, not, beq, true≢false}
use mathlib.Core.Logic.{◌⊎◌, inl, inr, ⊎_elim}
use mathlib.Core.List.{List}
use native.Mathlib.Omega.{arith}
use lib.ListN.{length, get_or}
use lib.Dec.{eqb}
use Rattle.std.specs.Int.{bit_at}
use Rattle.std.proofs.lemmas.Nat.Bits.{same_from_bits_below}
use Rattle.model.specs.Below.{bit, any, listed}
use Rattle.model.specs.Graph.{Graph, row_length, by_packed, packed_number}
use Rattle.model.specs.Calls.{one_way}
use Rattle.theory.proofs.Basics.Tests.{Test, test_any, test_eq, test_not, test_agree, any-each, any_same, beq_true, bit-one, passes_or_fails, lt_or_ge}
use Rattle.theory.proofs.Graph.DegreeList.{listed_at}
use Rattle.theory.proofs.Graph.Packed.{row-number, packed-joined_test, number-small, number_bit}
use Rattle.graph.specs.Blocks.{Transposed, block_one_way}

-- ---- two numbers, bit by bit

-- whether two outcomes are one
test_beq : (a b : Bool) → Test (beq a b) (a ≡ b)
test_beq a b = (beq_true a b, λ e. subst (λ x. beq a x ≡ true) e (same a))
  where
    same : (a : Bool) → beq a a ≡ true
    same true = refl
    same false = refl

-- two numbers of 64 bits differ where some bit does
numbers_differ : (x y : ℕ) (p q : ℕ → Bool) → x < 2 ^ 64 → y < 2 ^ 64 → ((c : ℕ) → c < 64 → bit_at x c ≡ bit (p c))
    → ((c : ℕ) → c < 64 → bit_at y c ≡ bit (q c)) → not (eqb x y) ≡ any 64 (λ c. not (beq (p c) (q c)))
numbers_differ x y p q sx sy bx by =
    test_agree (test_not (test_eq x y)) (test_any 64 _ (λ c. test_not (test_beq (p c) (q c)))) there
    (λ r e. r.2 (outcome (p r.0) (q r.0) (sym (bx r.0 r.1) ∙ ap (λ z. bit_at z r.0) e ∙ by r.0 r.1)))
  where
    outcome : (a b : Bool) → bit a ≡ bit b → a ≡ b
    outcome a b e = sym (bit-one a) ∙ ap (λ z. eqb z 1) e ∙ bit-one b

    alike : (a b : Bool) → not (beq a b) ≡ false → a ≡ b
    alike true true e = refl
    alike true false e = absurd (true≢false e)
    alike false true e = absurd (true≢false e)
    alike false false e = refl

    there : (x ≡ y → ⊥) → (c : ℕ) × (c < 64) × (p c ≡ q c → ⊥)
    there d =
        ⊎_elim (λ e. (test_any 64 _ (λ c. test_not (test_beq (p c) (q c)))).0 e)
        (λ e.
        absurd
        (d
        (same_from_bits_below 64 x y sx sy
        (λ c h. bx c h ∙ ap bit (alike (p c) (q c) (any-each 64 (λ c. not (beq (p c) (q c))) e c h)) ∙ sym (by c h)))))
        (passes_or_fails (any 64 (λ c. not (beq (p c) (q c)))))

-- ---- one block

-- a transposed block beside the one across the diagonal
pub block_beside : (G : Graph) (i j : ℕ) (block : List ℕ) → Transposed (listed 64 (λ r. packed_number G (64 * i + r) j)) block
    → any (length block) (λ r. not (eqb (get_or block r 0) (packed_number G (64 * j + r) i))) ≡ block_one_way G i j
block_beside G i j block w =
    ap (λ (n : ℕ). any n (λ r. not (eqb (get_or block r 0) (packed_number G (64 * j + r) i)))) w.whole
    ∙ any_same 64 _ _
    (λ r h.
    numbers_differ (get_or block r 0) (packed_number G (64 * j + r) i) (λ c. G.joined (64 * i + c) (64 * j + r)) (λ c. G.joined (64 * j + r) (64 * i + c)) (w.small r)
    (number-small G (64 * j + r) i) (turned r h) (number_bit G (64 * j + r) i))
  where
    turned : (r : ℕ) → r < 64 → (c : ℕ) → c < 64 → bit_at (get_or block r 0) c ≡ bit (G.joined (64 * i + c) (64 * j + r))
    turned r hr c hc =
        w.cells r c hr hc ∙ ap (λ x. bit_at x r) (listed_at (λ r. packed_number G (64 * i + r) j) 64 c hc) ∙ number_bit G (64 * i + c) j r hr

-- ---- all blocks

module _ (n : ℕ) (t : List ℕ) where
  -- u and v are joined in one direction alone
  abbrev Differ : ℕ → ℕ → Type 0
  Differ u v = (by_packed n t).joined u v ≡ (by_packed n t).joined v u → ⊥

  -- then both are vertices
  differ_vertices : (u v : ℕ) → Differ u v → (u < n) × (v < n)
  differ_vertices u v d = go (passes_or_fails ((by_packed n t).joined u v)) (passes_or_fails ((by_packed n t).joined v u))
    where
      go : ((by_packed n t).joined u v ≡ true) ⊎ ((by_packed n t).joined u v ≡ false)
          → ((by_packed n t).joined v u ≡ true) ⊎ ((by_packed n t).joined v u ≡ false) → (u < n) × (v < n)
      go (inl e) f = ((packed-joined_test n t u v).0 e).0
      go (inr e) (inl f) = let r = ((packed-joined_test n t v u).0 f).0 in (r.1, r.0)
      go (inr e) (inr f) = absurd (d (e ∙ sym f))

  -- a pair of such vertices,
  abbrev ByPair : Type 0
  ByPair = (u : ℕ) × (u < n) × ((v : ℕ) × (v < n) × Differ u v)

  -- and one by its block, row and column
  abbrev ByBlock : Type 0
  ByBlock = (i : ℕ) × (i < row_length n) × ((j : ℕ) × (j < i + 1) × ((r : ℕ) × (r < 64) × ((c : ℕ) × (c < 64) × Differ (64 * i + c) (64 * j + r))))

  -- refusal 5 is that there is such a pair,
  pair_test : Test (one_way (by_packed n t)) ByPair
  unfolding one_way
  pair_test =
      let G = by_packed n t in
      test_any n _ (λ u. test_any n _ (λ v. test_not (test_beq (G.joined u v) (G.joined v u))))

  -- the search that there is one in a block,
  block_test : Test (any (row_length n) (λ i. any (i + 1) (block_one_way (by_packed n t) i))) ByBlock
  block_test =
      let G = by_packed n t in
      test_any (row_length n) _
      (λ i.
      test_any (i + 1) _
      (λ j. test_any 64 _ (λ r. test_any 64 _ (λ c. test_not (test_beq (G.joined (64 * i + c) (64 * j + r)) (G.joined (64 * j + r) (64 * i + c)))))))

  -- and each pair is in one, in that order where its first vertex has the later block
  in_block : (u v : ℕ) → u < n → v / 64 ≤ u / 64 → Differ u v → ByBlock
  in_block u v hu l d =
      let eu : 64 * (u / 64) + u % 64 ≡ u = omega arith in
      let ev : 64 * (v / 64) + v % 64 ≡ v = omega arith in
      (u / 64, row-number n u hu, (v / 64, omega arith, (v % 64, omega arith, (u % 64, omega arith, rw (eu, ev) d))))

  -- so the blocks on and below the diagonal show all pairs
  pub one_way-blocks : any (row_length n) (λ i. any (i + 1) (block_one_way (by_packed n t) i)) ≡ one_way (by_packed n t)
  one_way-blocks =
      test_agree block_test pair_test
      (λ b.
      let d = b.2.2.2.2 in
      let h = differ_vertices (64 * b.0 + b.2.2.2.0) (64 * b.2.0 + b.2.2.0) d in
      (64 * b.0 + b.2.2.2.0, h.0, (64 * b.2.0 + b.2.2.0, h.1, d)))
      (λ p.
      ⊎_elim (λ l. in_block p.2.0 p.0 p.2.1 (omega arith) (λ e. p.2.2 (sym e))) (λ g. in_block p.0 p.2.0 p.1 g p.2.2) (lt_or_ge (p.0 / 64) (p.2.0 / 64)))
