-- The settings, the criterion and a set's numbers as code hands them on, and the tests of `Rattle.theory.specs.Search` and `Rattle.theory.specs.Bound` over them.
-- Assumes nothing.
use Rattle.std.specs.Prelude.{ℕ, zero, suc, ◌+◌, ◌*◌, ◌≤◌, ◌≡◌, min, max, Bool, List}
use Rattle.model.specs.Graph.{Graph}
use Rattle.model.specs.Groups as groups
use Rattle.theory.specs.Search as search
use Rattle.theory.specs.Bound as bound
use Rattle.isolation.specs.declared.Kind.{Kind}
use Rattle.isolation.specs.declared.Kind.TheVariants.{MaximalIsolated, IsolatedMaximal}
use Rattle.isolation.specs.declared.Notion.{Notion}
use Rattle.isolation.specs.declared.Notion.TheVariants.{Min, Avg, Max}
use Rattle.isolation.specs.declared.Settings.{Settings}
use Rattle.isolation.specs.declared.criterion.Criterion.{Criterion}
use Rattle.isolation.specs.declared.Tally.{Tally}

-- the settings of document 01
abbrev pub settings_of : Settings → groups.Settings
settings_of s = record { notion = s.notion; kind = s.kind; factor = s.factor }

-- the notion that a number stands for in document 01: 0 min, 1 avg, 2 max. A number over 2 is refused before a notion is asked for, and is read as max
abbrev pub notion_of : ℕ → Notion
notion_of zero = Min
notion_of (suc zero) = Avg
notion_of (suc (suc n)) = Max

-- the kind that a number stands for in document 01: 0 maximal isolated, 1 isolated maximal. A number over 1 is refused before a kind is asked for, and
-- is read as isolated maximal
abbrev pub kind_of : ℕ → Kind
kind_of zero = MaximalIsolated
kind_of (suc k) = IsolatedMaximal

-- the numbers with one more member, of degree d
abbrev pub with_member : Tally → ℕ → Tally
with_member t d = record { members = t.members + 1; sum = t.sum + d; least = min t.least d; largest = max t.largest d }

-- the numbers with x further members, of the least degree that they can have, the least degree of all left as it is
abbrev pub grown_of : Tally → ℕ → ℕ → Tally
grown_of t x low =
    record {
      members = t.members + x;
      sum = t.sum + x * bound.further_degree low t.members x;
      least = t.least;
      largest = max t.largest (bound.further_degree low t.members x);
    }

-- the factor's bound, as settings that are not refused have it: it is at most 1,024
unfoldable pub FactorFits : Settings → Type 0
FactorFits s = s.factor ≤ 1024

-- the criterion has the notion, the kind and the factor that stand in the settings
pub record CriterionOf (s : Settings) (q : Criterion) : Type 0 where
  pub notion : q.notion ≡ notion_of s.notion
  pub kind : q.kind ≡ kind_of s.kind
  pub factor : q.factor ≡ s.factor

-- the number of a notion in document 01
abbrev pub notion_number : Notion → ℕ
notion_number Min = 0
notion_number Avg = 1
notion_number Max = 2

-- the number of a kind in document 01
abbrev pub kind_number : Kind → ℕ
kind_number MaximalIsolated = 0
kind_number IsolatedMaximal = 1

-- the settings of document 01 that a criterion stands for
abbrev pub settings_in : Criterion → groups.Settings
settings_in q = record { notion = notion_number q.notion; kind = kind_number q.kind; factor = q.factor }

-- the isolation test of a clique with these numbers
abbrev pub isolated_of : Criterion → Tally → Bool
isolated_of q t = search.isolated_by (settings_in q).notion (settings_in q).factor t.members t.sum t.least t.largest

-- where it says yes no clique with 1 to r further members, each of degree low or more, is isolated
abbrev pub hopeless_of : Criterion → Tally → ℕ → ℕ → Bool
hopeless_of q t r low = bound.hopeless (settings_in q).notion (settings_in q).factor low r t.members t.sum t.least t.largest

-- whether an isolated clique with these numbers and the candidates vs is not maximal
abbrev pub beaten_of : Graph → Criterion → Tally → List ℕ → Bool
beaten_of G q t vs = search.beaten G (settings_in q).kind (settings_in q).notion (settings_in q).factor t.members t.sum t.least t.largest vs

-- the numbers are those of the set
abbrev pub TallyOf : Graph → groups.VertexSet → Tally → Type 0
TallyOf G S t = search.Tally G S t.members t.sum t.least t.largest
