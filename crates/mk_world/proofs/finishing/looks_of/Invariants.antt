use Rattle.std.proofs.Common.{◌≡◌, Some, map, take}
use Rattle.mk_world.proofs.finishing.looks_of.Given as goal

-- the looks so far
abbrev pub invariant-loop-content : goal.invariant-loop-content
invariant-loop-content l = l.looks.items ≡ map (λ content. Some content) (take l.content-index l.seen)
