use Rattle.std.proofs.Common.{◌≡◌, ℕ, List, map, take}
use Rattle.std.specs.Borrow.{Bor}
use Rattle.std.specs.List.{join_with_byte}
use Rattle.mk_macros.specs.Locals.{part_of}
use Rattle.mk_macros.proofs.locals.joined.Given as goal

-- the parts of the names so far
abbrev pub invariant-loop-i : goal.invariant-loop-i
invariant-loop-i l = l.value.items ≡ join_with_byte 32 (map (part_of l.part) (map (λ (name : Bor (List ℕ)). name.now) (take l.i l.names)))
