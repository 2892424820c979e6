-- Replies to page calls of which each takes up the walk where the one before it left it.
-- Assumes nothing.
use Rattle.std.specs.Prelude.{ℕ, zero, suc, ◌<◌, ◌≡◌, true, false, ◌↔◌, List, [], ◌∷◌, ◌++◌, length, take}
use Rattle.model.specs.Walk.{Position, Rules, finished, step, after, groups_of, records, stopped_finished}
use Rattle.model.specs.Calls.{PageReply}

-- the groups that k steps from p pass
unfoldable pub gone : Rules → ℕ → Position → List Position
gone R zero p = []
gone R (suc k) p = groups_of R (p ∷ []) ++ gone R k (step R p)

-- k steps from p, each from an unfinished position, reach q and pass g groups, whose entries are es
pub record Went (R : Rules) (p : Position) (k : ℕ) (q : Position) (es : List ℕ) (g : ℕ) : Type 0 where
  pub to : after R k p ≡ q
  pub wrote : es ≡ records R (gone R k p)
  pub number : g ≡ length (gone R k p)
  pub walking : (j : ℕ) → j < k → finished (after R j p) ≡ false

-- a reply to a call that was handed p: a stretch of the walk, and Finished said exactly where it ends finished
abbrev pub Replied : Rules → Position → PageReply → Type 0
Replied R p r =
    Went R p r.steps r.position (take r.used r.output) r.groups × (r.refused ≡ 0 → (r.stop ≡ stopped_finished) ↔ (finished r.position ≡ true))

-- replies of which each was handed the position that the one before it left
abbrev pub Chain : Rules → Position → List PageReply → Type 0
Chain R p [] = Unit {0}
Chain R p (r ∷ rs) = Replied R p r × Chain R r.position rs
