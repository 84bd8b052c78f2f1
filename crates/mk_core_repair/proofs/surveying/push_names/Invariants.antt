use Rattle.std.proofs.Common.{◌≡◌, ◌++◌, drop, map, string_bytes}
use Rattle.mk_core_repair.proofs.surveying.push_names.Given as goal

-- the names so far, with those that are left
abbrev pub invariant-loop-name : goal.invariant-loop-name
invariant-loop-name l = l.names.items ++ map string_bytes (drop l.name-index l.more) ≡ l.fn.names.items ++ map string_bytes l.more
