use Rattle.std.proofs.Common.{◌≡◌, drop, map, string_bytes}
use Rattle.std.specs.Prelude.{find}
use Rattle.mk_read.specs.Names.{has_name}
use Rattle.mk_read_parse.proofs.commands.first_in.Given as goal

-- The result depends on the remaining names.
abbrev pub invariant-loop-name : goal.invariant-loop-name
invariant-loop-name l = find (has_name l.set) (map string_bytes (drop l.name-index l.names)) ≡ find (has_name l.set) (map string_bytes l.names)
