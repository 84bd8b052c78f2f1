use Rattle.std.proofs.Common.{take, map}
use Rattle.std.specs.String.{string_bytes}
use Rattle.mk_infer.specs.Table.{AddsBacks}
use Rattle.mk_infer.proofs.backs.add_backs.Given as goal

-- the names so far
abbrev pub invariant-loop-name : goal.invariant-loop-name
invariant-loop-name l = AddsBacks l.initial.backs (map string_bytes (take l.name-index l.names)) l.backs
