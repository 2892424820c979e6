-- Where a search for a larger isolated clique is given up: a bound by how many further members there can be and by a degree that none of them is below.
-- Assumes nothing.
use Rattle.std.specs.Prelude.{ℕ, ◌+◌, ◌-◌, ◌*◌, max, Bool, false, ◌&&◌, ◌||◌, not, eqb, suc, zero}
use Rattle.model.specs.Groups.{Factor}
use Rattle.theory.specs.Search.{isolated_by}

-- a degree that none of x further members of a clique of k is below: none is below low, and each is joined to the other k + x - 1
abbrev pub further_degree : ℕ → ℕ → ℕ → ℕ
further_degree low k x = max low (k + x - 1)

-- the numbers of a clique with x further members of that degree, the least degree left as it is, pass the isolation test
abbrev pub isolated_grown : ℕ → Factor → ℕ → ℕ → ℕ → ℕ → ℕ → ℕ → Bool
isolated_grown notion c low x k sum least largest =
    isolated_by notion c (k + x) (sum + x * further_degree low k x) least (max largest (further_degree low k x))

-- Where it says yes no clique of these k members with at least one and at most r further ones, each of degree low or more, is isolated. Under avg the bound on the sum of the
-- degrees is convex in the number of members, so that the two ends decide; under max the largest degree does not fall, and r more members are best. Under min
-- nothing is said.
unfoldable pub hopeless : ℕ → Factor → ℕ → ℕ → ℕ → ℕ → ℕ → ℕ → Bool
hopeless zero c low r k sum least largest = false
hopeless (suc zero) c low r k sum least largest =
    eqb r 0 || (not (isolated_grown 1 c low r k sum least largest) && not (isolated_grown 1 c low 1 k sum least largest))
hopeless (suc (suc m)) c low r k sum least largest = eqb r 0 || not (isolated_grown (suc (suc m)) c low r k sum least largest)
