-- Document 01, "The walk" and "A page", over any rules: when a position is dead, which decided positions are listed, and as what entries.
-- Assumes nothing.
use Rattle.std.specs.Prelude.{ℕ, zero, suc, ◌+◌, ◌-◌, Bool, true, false, ◌&&◌, ◌||◌, not, cond, List, [], ◌∷◌, ◌++◌, map, length, replicate, ltb, eqb}
use Rattle.model.specs.Below.{bit}

-- Document 01, "The walk": a position is n bytes, one a rank: 0 open, 1 taken, 2 left
abbrev pub Position : Type 0
Position = List ℕ

-- what a walk goes by: which positions are dead, which decided positions are listed, and the entries that a listed one puts into the output
pub record Rules : Type 0 where
  pub dead : Position → Bool
  pub listed : Position → Bool
  pub entries : Position → List ℕ

-- every rank is x
unfoldable pub only : ℕ → Position → Bool
only x [] = true
only x (y ∷ p) = let rest = only x p in eqb x y && rest

-- some rank is x
unfoldable pub has : ℕ → Position → Bool
has x [] = false
has x (y ∷ p) = let rest = has x p in eqb x y || rest

-- Document 01, "The walk": fresh is all 0
abbrev pub fresh : ℕ → Position
fresh n = replicate n 0

-- Document 01, "The walk": finished is all 2; with n = 0 fresh is finished
abbrev pub finished : Position → Bool
finished p = only 2 p

-- all ranks are decided
abbrev pub decided : Position → Bool
decided p = not (has 0 p)

-- Document 01, "The walk": the lowest open rank becomes taken
unfoldable pub advance : Position → Position
advance [] = []
advance (zero ∷ p) = 1 ∷ p
advance (suc x ∷ p) = suc x ∷ advance p

-- Document 01, "The walk": the highest taken rank becomes left and all ranks after it become open
unfoldable pub retreat : Position → Position
retreat [] = []
retreat (x ∷ p) =
    let deeper = x ∷ retreat p in
    let here : Position = 2 ∷ fresh (length p) in
    let same = x ∷ p in
    cond (has 1 p) deeper (cond (eqb x 1) here same)

-- the positions with all of n ranks decided, in document 01's order of sets: at the lowest rank where two differ, the one that takes it comes
-- first
unfoldable pub all_decided : ℕ → List Position
all_decided zero = [] ∷ []
all_decided (suc n) = map (1 ∷◌) (all_decided n) ++ map (2 ∷◌) (all_decided n)

-- Document 01, "A page": stop Finished (1), Spent (2), Full (3)
abbrev pub stopped_finished : ℕ
stopped_finished = 1

abbrev pub stopped_spent : ℕ
stopped_spent = 2

abbrev pub stopped_full : ℕ
stopped_full = 3

-- what a page did: its stop, groups, steps and entries wanted, the position reached and the entries written
pub record Page : Type 0 where
  pub stop : ℕ
  pub groups : ℕ
  pub steps : ℕ
  pub wanted : ℕ
  pub reached : Position
  pub written : List ℕ

-- no step made
abbrev pub halt : ℕ → ℕ → Position → Page
halt stop wanted p = record { stop = stop; groups = 0; steps = 0; wanted = wanted; reached = p; written = [] }

-- one step made with g groups written before it, as the entries es, and then what r did
abbrev pub onward : ℕ → List ℕ → Page → Page
onward g es r =
    record {
      stop = r.stop;
      groups = g + r.groups;
      steps = suc r.steps;
      wanted = r.wanted;
      reached = r.reached;
      written = es ++ r.written;
    }

module _ (R : Rules) where
  -- Document 01, "The walk", one step from an unfinished position: live with an open rank, down; otherwise, up. A finished position stays
  unfoldable pub step : Position → Position
  step p =
      let down = advance p in
      let up = retreat p in
      cond (not (R.dead p) && has 0 p) down up

  -- the position after k steps
  unfoldable pub after : ℕ → Position → Position
  after zero p = p
  after (suc k) p = after k (step p)

  -- Document 01, "The walk": the walk from p is finished after k steps and not before, so its length is k
  unfoldable pub lasts : ℕ → Position → Bool
  lasts zero p = finished p
  lasts (suc k) p =
      let rest = lasts k (step p) in
      not (finished p) && rest

  -- all ranks are decided and the taken set is listed
  unfoldable pub found : Position → Bool
  found p =
      let l = R.listed p in
      decided p && l

  -- the entries of the group at p, none where there is no group
  unfoldable pub due : Position → List ℕ
  due p =
      let es = R.entries p in
      cond (found p) es []

  -- those of ps that are groups
  unfoldable pub groups_of : List Position → List Position
  groups_of [] = []
  groups_of (p ∷ ps) =
      let rest = groups_of ps in
      cond (found p) (p ∷ rest) rest

  -- their entries, end to end
  unfoldable pub records : List Position → List ℕ
  records [] = []
  records (p ∷ ps) = R.entries p ++ records ps

  -- every set that is listed, once, in the order of sets
  unfoldable pub full_sets : ℕ → List Position
  full_sets n = groups_of (all_decided n)

  -- the full list: each of them as its record
  unfoldable pub full_list : ℕ → List ℕ
  full_list n = records (full_sets n)

  -- Document 01, "A page", points 1 to 5 in their order: a page from p with so many steps left of the budget and so many unused entries
  unfoldable pub page : ℕ → ℕ → Position → Page
  page zero room p = cond (finished p) (halt stopped_finished 0 p) (halt stopped_spent 0 p)
  page (suc budget) room p =
      let es = due p in
      let full = halt stopped_full (length es) p in
      let rest = page budget (room - length es) (step p) in
      let go = onward (bit (found p)) es rest in
      let unfinished = cond (ltb room (length es)) full go in
      cond (finished p) (halt stopped_finished 0 p) unfinished
