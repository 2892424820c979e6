-- The graph of an accepted text: its table is refused by none of 1 to 5, its vertices are joined exactly where the text says so, and a text is
-- the text of one graph only.
-- Assumes nothing.
use Prim.Native.Nat.{ℕ, suc, ◌+◌, ◌*◌, ◌≤◌, ◌<◌}
use mathlib.Core.Path.{◌≡◌, refl, sym, ap, ◌∙◌, subst}
use mathlib.Core.Logic.{◌↔◌, ◌⊎◌, inl, inr, ⊎_elim}
use mathlib.Core.Bool.{true, ◌&&◌}
use mathlib.Core.List.{List, ◌++◌, Memᴰ}
use native.Mathlib.Omega.{arith}
use lib.ListN.{length, get_or, take, drop}
use lib.Seq.{take_at}
use lib.Dec.{ltb, eqb}
use borrow.Author.Tests.{eq-eqb}
use Rattle.model.specs.Graph.{by_table, among_vertices, byte_joined}
use Rattle.model.specs.Calls.{refuse_table}
use Rattle.model.specs.Faults.{table_faults}
use Rattle.model.specs.Text.{TextReply, read_text}
use Rattle.model.specs.EdgeText.{Line, edge, HasPair, Ends, Table, EdgeText}
use Rattle.theory.proofs.Basics.Tests.{Test, test_and, test_lt, test_self}
use Rattle.theory.proofs.Graph.Table.{each_cell, joined_at}
use Rattle.theory.proofs.Calls.Fault.{none_of}
use Rattle.theory.proofs.Calls.TableFaults.{table-accepted_iff}
use Rattle.theory.proofs.Text.EdgeTextFaults.{pair_ends}
use Rattle.theory.proofs.Text.EdgeTextTable.{joins_or_not, joins_swap, byte_test}
use Rattle.theory.proofs.Text.EdgeText.{accepted_reply, accepted_iff}

module _ (n : ℕ) (xs : List Line) (t : List ℕ) (a : Table n xs t) (ends : (u v : ℕ) → Memᴰ (edge u v) xs → Ends n u v) where
  -- two vertices are joined exactly where some e line has their pair
  pub joined_test : (u v : ℕ) → Test ((by_table n t).joined u v) (HasPair xs (suc u) (suc v))
  unfolding byte_joined among_vertices
  joined_test u v = (there, back)
    where
      there : (ltb u n && ltb v n && eqb (get_or t (u * n + v) 0) 1) ≡ true → HasPair xs (suc u) (suc v)
      there e =
          let h = (test_and (test_and (test_lt u n) (test_lt v n)) (test_self {a = eqb (get_or t (u * n + v) 0) 1})).0 e in
          (byte_test n xs t a u v h.0.0 h.0.1).0 h.1

      back : HasPair xs (suc u) (suc v) → (by_table n t).joined u v ≡ true
      back j =
          let h = pair_ends n xs ends (suc u) (suc v) j in
          joined_at n t u h.u_to v h.v_to ∙ (byte_test n xs t a u v h.u_to h.v_to).1 j

  -- a byte is 0 or 1, that of a vertex with itself is 0, and the bytes of a pair are equal
  byte_small : (i : ℕ) → i < length t → (get_or t i 0 ≡ 0) ⊎ (get_or t i 0 ≡ 1)
  byte_small i h =
      each_cell n n (λ k. (get_or t k 0 ≡ 0) ⊎ (get_or t k 0 ≡ 1)) (λ u v hu hv. go u v hu hv (joins_or_not xs (suc u) (suc v))) i
      (subst (λ (k : ℕ). i < k) a.size h)
    where
      go : (u v : ℕ) → u < n → v < n → HasPair xs (suc u) (suc v) ⊎ (HasPair xs (suc u) (suc v) → ⊥) → (get_or t (u * n + v) 0 ≡ 0) ⊎ (get_or t (u * n + v) 0 ≡ 1)
      go u v hu hv (inl j) = inr (a.joined u v hu hv j)
      go u v hu hv (inr f) = inl (a.apart u v hu hv f)

  no_loop : (u : ℕ) → u < n → get_or t (u * n + u) 0 ≡ 1 → ⊥
  no_loop u h e = (pair_ends n xs ends (suc u) (suc u) ((byte_test n xs t a u u h h).0 (eq-eqb (get_or t (u * n + u) 0) 1 e))).differ refl

  mirrored : (u v : ℕ) → u < n → v < n → get_or t (u * n + v) 0 ≡ get_or t (v * n + u) 0
  mirrored u v hu hv = go (joins_or_not xs (suc u) (suc v))
    where
      go : HasPair xs (suc u) (suc v) ⊎ (HasPair xs (suc u) (suc v) → ⊥) → get_or t (u * n + v) 0 ≡ get_or t (v * n + u) 0
      go (inl j) = a.joined u v hu hv j ∙ sym (a.joined v u hv hu (joins_swap xs (suc u) (suc v) j))
      go (inr f) = a.apart u v hu hv f ∙ sym (a.apart v u hv hu (λ j. f (joins_swap xs (suc v) (suc u) j)))

  -- the checks 1 to 5 pass
  table-accepted : n ≤ 1024 → refuse_table n t ≡ 0
  table-accepted small =
      (table-accepted_iff n t).1
      (none_of (table_faults n t)
      (λ h. omega arith)
      (λ h. h a.size)
      (λ h. ⊎_elim h.2 h.3 (byte_small h.0 h.1))
      (λ h. no_loop h.0 h.1 h.2)
      (λ h. h.4 (mirrored h.0 h.1 h.2 h.3)))

-- no page call or set query refuses the table of an accepted text, and its graph is the text's
pub read_graph-accepted : (room : ℕ) (text : List ℕ) (n m : ℕ) (t : List ℕ) → EdgeText room text n m t → refuse_table n t ≡ 0
read_graph-accepted room text n m t g = table-accepted n g.said t g.table g.drawn.ends g.drawn.small

-- vertices are joined exactly where the text joins them
pub read_graph-joined : (room : ℕ) (text : List ℕ) (n m : ℕ) (t : List ℕ) (g : EdgeText room text n m t) (u v : ℕ)
    → ((by_table n t).joined u v ≡ true) ↔ HasPair g.said (suc u) (suc v)
read_graph-joined room text n m t g u v = joined_test n g.said t g.table g.drawn.ends u v

-- a text is the text of one graph
pub read_graph-one : (slice text : List ℕ) (n m a b : ℕ) (t s : List ℕ) → EdgeText (length slice) text n m t → EdgeText (length slice) text a b s
    → (n ≡ a) × (m ≡ b) × (t ≡ s)
read_graph-one slice text n m a b t s g h = (size, ap (λ (r : TextReply). r.stated) same, bytes)
  where
    same : ◌≡◌ {A = TextReply}
        (record { refused = 0; vertices = n; stated = m; line = 0; slice = t ++ drop (n * n) slice })
        (record { refused = 0; vertices = a; stated = b; line = 0; slice = s ++ drop (a * a) slice })
    same = sym (accepted_reply text slice n m t g) ∙ accepted_reply text slice a b s h

    size : n ≡ a
    size = ap (λ (r : TextReply). r.vertices) same

    bytes : t ≡ s
    bytes =
        sym (take_at t (drop (n * n) slice) (n * n) g.table.size)
        ∙ ap (λ (r : TextReply). take (n * n) r.slice) same
        ∙ take_at s (drop (a * a) slice) (n * n) (h.table.size ∙ ap (λ (k : ℕ). k * k) (sym size))

-- the first N × N bytes after an accepted text are a table with none of the faults 1 to 5
pub read_table-accepted : (text slice : List ℕ) → (read_text text slice).refused ≡ 0
    → refuse_table (read_text text slice).vertices (take ((read_text text slice).vertices * (read_text text slice).vertices) (read_text text slice).slice) ≡ 0
read_table-accepted text slice e = go ((accepted_iff text slice).0 e)
  where
    go : (n : ℕ) × (m : ℕ) × (t : List ℕ) × EdgeText (length slice) text n m t
        → refuse_table (read_text text slice).vertices (take ((read_text text slice).vertices * (read_text text slice).vertices) (read_text text slice).slice) ≡ 0
    go (n, m, t, g) =
        ap (λ (r : TextReply). refuse_table r.vertices (take (r.vertices * r.vertices) r.slice)) (accepted_reply text slice n m t g)
        ∙ ap (λ (s : List ℕ). refuse_table n s) (take_at t (drop (n * n) slice) (n * n) g.table.size)
        ∙ read_graph-accepted (length slice) text n m t g
