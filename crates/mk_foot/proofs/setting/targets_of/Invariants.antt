use Rattle.std.proofs.Common.{◌≡◌, ℕ, List, map, take}
use Rattle.mk_lines.specs.Places.{place_in}
use Rattle.mk_foot.specs.Book.{Record}
use Rattle.mk_foot.specs.Names.{place_from}
use Rattle.mk_foot.proofs.setting.targets_of.Given as goal

-- the places among the targets so far
abbrev pub invariant-loop-i : goal.invariant-loop-i
invariant-loop-i l = (name : List ℕ) → place_in l.targets name ≡ place_from 0 (map (λ (r : Record). r.target) (take l.i l.records)) name
