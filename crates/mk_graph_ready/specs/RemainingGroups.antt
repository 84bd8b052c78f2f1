-- How the remaining part of a node's groups shrinks.
use Rattle.std.specs.Prelude.{◌≡◌, ℕ, List, [], ◌∷◌, ◌++◌}
use Rattle.mk_graph.specs.Membership.{Has}
use Rattle.mk_graph.specs.Schedules.{HasAll}
use Rattle.mk_graph.specs.Without.{joined}
use Rattle.mk_graph_ready.specs.Rest.{Rest}
use Rattle.mk_graph_ready.specs.Stage.{IsUnwanted}

-- The second list is the first one without some done members at its front.
pub record Skips (done all left : List ℕ) : Type 0 where
  pub past : List ℕ
  pub all_are : all ≡ past ++ left
  pub past_done : HasAll done past

-- The next member isn't done, or nothing remains.
abbrev pub IsStoppedAt : (done group : List ℕ) (behind : List (List ℕ)) → Type 0
IsStoppedAt done [] behind = behind ≡ []
IsStoppedAt done (next ∷ group) behind = ¬ (Has done next)

-- The next member of the open group isn't done, or nothing remains.
abbrev pub IsStopped : (done : List ℕ) → Rest → Type 0
IsStopped done rest = IsStoppedAt done rest.group rest.behind

-- Done members at the front are skipped, and the next member isn't done or nothing remains.
pub record Halts (done : List ℕ) (old new : Rest) : Type 0 where
  pub skips : Skips done old.group new.group
  pub behind : new.behind ≡ old.behind
  pub stopped : IsStopped done new

-- All members of the open group are done, and the next group is opened.
pub record Opens (done : List ℕ) (old new : Rest) (group : List ℕ) : Type 0 where
  pub skips : Skips done old.group []
  pub behind : old.behind ≡ group ∷ new.behind
  pub group_is : new.group ≡ group

-- This is what remains of the groups: the members of all opened groups are wanted, and those that
-- were skipped are done.
pub record IsLeft (stages done : List ℕ) (groups : List (List ℕ)) (rest : Rest) : Type 0 where
  pub before : List (List ℕ)
  pub past : List ℕ
  pub groups_are : groups ≡ before ++ rest.behind
  pub members_are : joined before ≡ past ++ rest.group
  pub past_done : HasAll done past
  pub wanted : (n : ℕ) → Has (joined before) n → ¬ (IsUnwanted stages n)
