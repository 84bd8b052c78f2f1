use Rattle.std.proofs.Common.{◌≡◌, map, take}
use Rattle.mk_world.specs.State.{number_of}
use Rattle.mk_world.proofs.names.numbers_of.Given as goal

-- the numbers so far
abbrev pub invariant-loop-name : goal.invariant-loop-name
invariant-loop-name l = l.numbers.items ≡ map (number_of l.scene.graph) (map (λ name. name.now) (take l.name-index l.names))
