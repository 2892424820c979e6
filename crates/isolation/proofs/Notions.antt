-- What the numbers of notions and of kinds are read as, and that the tests by the notion that a number is read as are those by the number.
-- Assumes nothing.
use Rattle.std.proofs.Common.{◌≡◌, ℕ, zero, suc, ◌≤◌, refl, arith, ◌-◌, ◌*◌, ◌≢◌, Bool}
use Rattle.model.specs.Graph.{Graph}
use Rattle.model.specs.Groups.{VertexSet, Factor, settings, isolated, isolated_clique, rival, some_larger, qualifies, within}
use Rattle.model.specs.Listing.{dead, taken_set, record_of, rules}
use Rattle.theory.specs.Search.{isolated_by}
use Rattle.theory.specs.Bound.{hopeless}
use Rattle.isolation.specs.declared.Settings.{Settings}
use Rattle.isolation.specs.declared.Tally.{Tally}
use Rattle.isolation.specs.declared.criterion.Criterion.{Criterion}
use Rattle.isolation.specs.Numbers.{settings_of, settings_in, notion_of, kind_of, notion_number, kind_number, CriterionOf, isolated_of, hopeless_of}

-- ---- the numbers that are not refused

-- a notion's number is read back
notion-back : (m : ℕ) → m ≤ 2 → notion_number (notion_of m) ≡ m
notion-back zero h = refl
notion-back (suc zero) h = refl
notion-back (suc (suc zero)) h = refl
notion-back (suc (suc (suc m))) h = absurd (omega arith)

-- a kind's number is read back
kind-back : (k : ℕ) → k ≤ 1 → kind_number (kind_of k) ≡ k
kind-back zero h = refl
kind-back (suc zero) h = refl
kind-back (suc (suc k)) h = absurd (omega arith)

-- so a criterion that is read off such settings stands for them
pub settings-back : (s : Settings) (q : Criterion) → CriterionOf s q → s.notion ≤ 2 → s.kind ≤ 1 → settings_in q ≡ settings_of s
settings-back s q r h k = rw (r.notion, r.kind, r.factor, notion-back s.notion h, kind-back s.kind k) refl

-- ---- the isolation test r by the notion's number: 0, 1 and above

module _ (notion : ℕ) (c : Factor) (k sum least largest : ℕ) {x : ℕ} {r : Bool} where
  pub isolated_min_lem : {others : ℕ} → notion ≡ 0 → others ≡ k - 1 → x ≡ least - others → r ≡ within c 1 x → r ≡ isolated_by notion c k sum least largest
  unfolding isolated_by
  isolated_min_lem e o d t = rw (e, t, d, o) refl

  pub isolated_avg_lem : notion ≡ 1 → x ≡ sum - k * (k - 1) → r ≡ within c k x → r ≡ isolated_by notion c k sum least largest
  unfolding isolated_by
  isolated_avg_lem e d t = rw (e, t, d) refl

  pub isolated_max_lem : {others : ℕ} → notion ≢ 0 → notion ≢ 1 → others ≡ k - 1 → x ≡ largest - others → r ≡ within c 1 x → r ≡ isolated_by notion c k sum least largest
  unfolding isolated_by
  isolated_max_lem a b o d t = rw (t, d, o) (go notion a b)
    where
      go : (m : ℕ) → m ≢ 0 → m ≢ 1 → within c 1 (largest - (k - 1)) ≡ isolated_by m c k sum least largest
      go zero a b = absurd (a refl)
      go (suc zero) a b = absurd (b refl)
      go (suc (suc m)) a b = refl

-- ---- every number, of which those over 2 are read as max

-- the isolation test by the notion that a number is read as is that by the number
pub isolated-read : (m : ℕ) (c : Factor) (k sum least largest : ℕ)
    → isolated_by (notion_number (notion_of m)) c k sum least largest ≡ isolated_by m c k sum least largest
unfolding isolated_by
isolated-read zero c k sum least largest = refl
isolated-read (suc zero) c k sum least largest = refl
isolated-read (suc (suc m)) c k sum least largest = refl

-- and so is the test for being hopeless
hopeless-read : (m : ℕ) (c : Factor) (low r k sum least largest : ℕ)
    → hopeless (notion_number (notion_of m)) c low r k sum least largest ≡ hopeless m c low r k sum least largest
unfolding hopeless isolated_by
hopeless-read zero c low r k sum least largest = refl
hopeless-read (suc zero) c low r k sum least largest = refl
hopeless-read (suc (suc m)) c low r k sum least largest = refl

-- and so is what qualifies
qualifies-read : (G : Graph) (m k : ℕ) (c : Factor) (S : VertexSet)
    → qualifies G (settings (notion_number (notion_of m)) (kind_number (kind_of k)) c) S ≡ qualifies G (settings m k c) S
unfolding qualifies isolated_clique isolated rival some_larger
qualifies-read G zero zero c S = refl
qualifies-read G zero (suc k) c S = refl
qualifies-read G (suc zero) zero c S = refl
qualifies-read G (suc zero) (suc k) c S = refl
qualifies-read G (suc (suc m)) zero c S = refl
qualifies-read G (suc (suc m)) (suc k) c S = refl

module _ (s : Settings) (q : Criterion) (read : CriterionOf s q) where
  -- so the criterion that settings of any numbers are read as isolates what they do
  pub isolated-any : (t : Tally) → isolated_of q t ≡ isolated_by s.notion s.factor t.members t.sum t.least t.largest
  isolated-any t = rw (read.notion, read.factor) (isolated-read s.notion s.factor t.members t.sum t.least t.largest)

  -- and finds hopeless what they do
  pub hopeless-any : (t : Tally) (r low : ℕ) → hopeless_of q t r low ≡ hopeless s.notion s.factor low r t.members t.sum t.least t.largest
  hopeless-any t r low = rw (read.notion, read.factor) (hopeless-read s.notion s.factor low r t.members t.sum t.least t.largest)

  -- the same sets qualify
  pub qualifies-any : (G : Graph) (S : VertexSet) → qualifies G (settings_in q) S ≡ qualifies G (settings_of s) S
  qualifies-any G S = rw (read.notion, read.kind, read.factor) (qualifies-read G s.notion s.kind s.factor S)

  -- so a walk goes by the same rules
  pub rules-any : (G : Graph) → rules G (settings_in q) ≡ rules G (settings_of s)
  rules-any G = λ i. record { dead = dead G (read.factor i); listed = λ p. qualifies-any G (taken_set G p) i; entries = record_of G }
