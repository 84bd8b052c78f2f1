use Rattle.std.proofs.Common.{◌≡◌, ℕ, map, take, Vec}
use Rattle.std.specs.declared.alloc.Global.{Global}
use Rattle.std.specs.List.{flat_map}
use Rattle.tests_model.proofs.graph_fixtures.joined.Given as goal

abbrev pub invariant-loop-group : goal.invariant-loop-group
invariant-loop-group l = l.row.items ≡ flat_map (λ group. group) (map (λ (group : Vec ℕ Global). group.items) (take l.group-index l.groups))
