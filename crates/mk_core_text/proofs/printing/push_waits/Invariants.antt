use Rattle.std.proofs.Common.{◌≡◌, ◌++◌, map, take}
use Rattle.mk_core_text.specs.GraphText.{waits_text}
use Rattle.mk_core_text.proofs.printing.push_waits.Given as goal

-- the groups so far
abbrev pub invariant-loop-group : goal.invariant-loop-group
invariant-loop-group l = l.out.items ≡ l.initial.out.items ++ waits_text l.graph (map (λ group. group.items) (take l.group-index l.groups))
