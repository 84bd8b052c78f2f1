use Rattle.std.proofs.Common.{◌≡◌, ◌++◌, drop, map, string_bytes}
use Rattle.mk_core_repair.proofs.own_makefile.push_names.Given as goal

-- the names so far, with those that are left
abbrev pub invariant-loop-name : goal.invariant-loop-name
invariant-loop-name l = map string_bytes l.names.items ++ drop l.name-index l.more ≡ map string_bytes l.fn.names.items ++ l.more
