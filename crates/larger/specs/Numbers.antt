-- The searches of `Rattle.theory.specs.Search` and `Rattle.theory.specs.Marks` over the criterion and a set's numbers as code hands them on.
-- Assumes nothing.
use Rattle.std.specs.Prelude.{ℕ, Bool, List, []}
use Rattle.model.specs.Graph.{Graph}
use Rattle.isolation.specs.declared.criterion.Criterion.{Criterion}
use Rattle.isolation.specs.declared.Tally.{Tally}
use Rattle.isolation.specs.Numbers.{settings_in}
use Rattle.theory.specs.Search.{find_larger}
use Rattle.theory.specs.Marks.{Marks, find_marked, find_with}

-- the search over marks, of the r candidates from place j on, none of a degree below low
abbrev pub find_of : Graph → Criterion → ℕ → (ℕ → ℕ) → Marks → Tally → ℕ → ℕ → Bool
find_of G q low candidate marks t j r =
    find_marked G (settings_in q).notion (settings_in q).factor low candidate marks t.members t.sum t.least t.largest j r

-- the same with v added
abbrev pub with_of : Graph → Criterion → ℕ → (ℕ → ℕ) → Marks → Tally → ℕ → ℕ → ℕ → Bool
with_of G q low candidate marks t v j r =
    find_with G (settings_in q).notion (settings_in q).factor low candidate marks t.members t.sum t.least t.largest v j r

-- the search over the list of the candidates vs, with nothing added: some larger set is an isolated clique
abbrev pub larger_of : Graph → Criterion → Tally → List ℕ → Bool
larger_of G q t vs = find_larger G (settings_in q).notion (settings_in q).factor [] t.members t.sum t.least t.largest vs
