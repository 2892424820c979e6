-- Document 01, demand 3: what any list of page calls on one position has done.
-- Assumes nothing.
use Rattle.std.specs.Prelude.{ℕ, ◌+◌, ◌≤◌, ◌<◌, ◌≡◌, true, false, ◌↔◌, ◌≢◌, ◌⊎◌, length, take, drop}
use mathlib.Core.List.{List, [], ◌∷◌, ◌++◌, Memᴰ}
use Rattle.model.specs.Graph.{Graph}
use Rattle.model.specs.Groups.{Settings, VertexSet}
use Rattle.model.specs.Meaning.{Qualifies, Simple}
use Rattle.model.specs.Walk.{Position, Rules, fresh, finished, after, lasts, records, full_sets, full_list, stopped_finished}
use Rattle.model.specs.Listing.{rules, record_length}
use Rattle.model.specs.Calls.{Call, PageReply, reply_to}

-- ---- calls and replies

-- the replies to calls of which the first is handed p, and each later one the position as the call before it left it
unfoldable pub replies : List Call → Position → List PageReply
replies [] p = []
replies (c ∷ cs) p = reply_to c p ∷ replies cs (reply_to c p).position

-- the position that the last of them leaves
unfoldable pub left_at : List PageReply → Position → Position
left_at [] p = p
left_at (r ∷ rs) p = left_at rs r.position

-- the joined output: the used entries of each call, end to end in the order of the calls; a refused call has none
unfoldable pub joined_output : List PageReply → List ℕ
joined_output [] = []
joined_output (r ∷ rs) = take r.used r.output ++ joined_output rs

-- the steps that the calls reported in all
unfoldable pub all_steps : List PageReply → ℕ
all_steps [] = 0
all_steps (r ∷ rs) = r.steps + all_steps rs

-- the groups that they reported in all
unfoldable pub all_groups : List PageReply → ℕ
all_groups [] = 0
all_groups (r ∷ rs) = r.groups + all_groups rs

-- P holds of each call and the position that it is handed
abbrev pub Each : (Call → Position → Type 0) → List Call → Position → Type 0
Each P [] p = Unit {0}
Each P (c ∷ cs) p = P c p × Each P cs (reply_to c p).position

-- "Every accepted call brings this graph's table and this notion, kind and factor. A refused call may bring anything else beside the position."
abbrev pub Agree : Graph → Settings → List Call → Position → Type 0
Agree G s = Each (λ c p. (reply_to c p).refused ≡ 0 → (c.lent.graph ≡ G) × (c.settings ≡ s))

-- ---- the claim about a list of replies

-- "The walk has moved on from a set once it has made a step from the position with all ranks decided and exactly that set taken." In k steps
-- from fresh the walk has made a step from q.
pub record MovedOn (R : Rules) (n k : ℕ) (q : Position) : Type 0 where
  pub made : ℕ
  pub within : made < k
  pub there : after R made (fresh n) ≡ q

-- the entries are the records of the sets that the walk has moved on from, g in number, and these are the first of the full list
pub record Prefix (R : Rules) (n k : ℕ) (es : List ℕ) (g : ℕ) : Type 0 where
  pub front : List Position
  pub rest : List Position
  pub first : full_sets R n ≡ front ++ rest
  pub entries : es ≡ records R front
  pub number : g ≡ length front
  pub moved_on : (q : Position) → Memᴰ q front → MovedOn R n k q
  pub not_yet : (q : Position) → Memᴰ q rest → MovedOn R n k q → ⊥

-- an accepted call has said Finished exactly when it left the position finished
abbrev pub SaidFinished : List PageReply → Type 0
SaidFinished [] = Unit {0}
SaidFinished (r ∷ rs) = (r.refused ≡ 0 → (r.stop ≡ stopped_finished) ↔ (finished r.position ≡ true)) × SaidFinished rs

-- some accepted call has said Finished
abbrev pub SomeFinished : List PageReply → Type 0
SomeFinished [] = ⊥
SomeFinished (r ∷ rs) = ((r.refused ≡ 0) × (r.stop ≡ stopped_finished)) ⊎ SomeFinished rs

-- "After the list:"
pub record Demand3 (R : Rules) (n : ℕ) (rs : List PageReply) : Type 0 where
  -- "the position is the one that the walk reaches from fresh in as many steps as the calls reported in all"
  pub reached : left_at rs (fresh n) ≡ after R (all_steps rs) (fresh n)
  -- "the joined output equals the records, in the full list's order, of those sets of the full list that the walk has moved on from in these
  -- steps, and they are the first of the full list" and "the reported groups add up to the number of these records"
  pub listed : Prefix R n (all_steps rs) (joined_output rs) (all_groups rs)
  -- "an accepted call has said Finished exactly when it left the position finished"
  pub said : SaidFinished rs
  -- "from then on the joined output is the whole full list, and the reported steps add up to the walk's length"
  pub whole : SomeFinished rs → (joined_output rs ≡ full_list R n) × (lasts R (all_steps rs) (fresh n) ≡ true)

-- ---- the page calls of document 01

-- "With budget 1 or more and output of n + 1 entries or more, a call on an unfinished walk makes at least one step." So does an accepted call. Document 02,
-- C-14: "the progress rule wants n + 3"
abbrev pub MakesStep : ℕ → Call → Position → Type 0
MakesStep n c p = (reply_to c p).refused ≡ 0 → finished p ≡ false → 1 ≤ c.budget → record_length n ≤ length c.output → 1 ≤ (reply_to c p).steps

-- a reply that did nothing: no output, groups or steps, and the position as it was
pub record Idle (p : Position) (r : PageReply) : Type 0 where
  pub no_output : r.used ≡ 0
  pub no_groups : r.groups ≡ 0
  pub no_steps : r.steps ≡ 0
  pub stays : r.position ≡ p

-- "A refused call .. adds no output, groups or steps."
abbrev pub RefusedIdle : Call → Position → Type 0
RefusedIdle c p = (reply_to c p).refused ≢ 0 → Idle p (reply_to c p)

-- demand 3 of a list of page calls that is first handed fresh, on the graph G with the settings s
pub record DemandOf (G : Graph) (s : Settings) (cs : List Call) : Type 0 where
  pub done : Demand3 (rules G s) G.size (replies cs (fresh G.size))
  -- "A page that says Finished with an empty list: demand 3 shuts it out, no output meaning no qualifying set."
  pub none-qualifies : SomeFinished (replies cs (fresh G.size)) → joined_output (replies cs (fresh G.size)) ≡ [] → (S : VertexSet) → Qualifies G s S → ⊥
  -- "A page that says Spent or Full having done no step: demand 3's last sentence."
  pub makes_step : Each (MakesStep G.size) cs (fresh G.size)
  pub refused_idle : Each RefusedIdle cs (fresh G.size)

-- "Take a graph, a notion, a kind and a factor, and any list of page calls": demand 3 of a graph and settings, in whatever form each call is lent it
abbrev pub Demanded : Graph → Settings → Type 0
Demanded G s = Simple G → (cs : List Call) → Agree G s cs (fresh G.size) → DemandOf G s cs

-- ---- each page call

-- what holds of every page call, accepted or refused: the steps are at most the budget, the used entries fit, the output past them and both
-- lengths are kept
pub record PageBounds (budget : ℕ) (p : Position) (out : List ℕ) (r : PageReply) : Type 0 where
  pub steps-within : r.steps ≤ budget
  pub used-within : r.used ≤ length out
  pub output-rest : drop r.used r.output ≡ drop r.used out
  pub output-length : length r.output ≡ length out
  pub position-length : length r.position ≡ length p
