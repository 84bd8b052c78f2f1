use Rattle.std.proofs.Common.{◌≡◌, map, drop, string_bytes}
use Rattle.std.specs.Prelude.{fold}
use Rattle.mk_lines.specs.Names.{with_name}
use Rattle.mk_lines.proofs.borrowed_names.BorrowedNames.insert_all.Given as goal

-- the names so far, with those that are left
abbrev pub invariant-loop-name : goal.invariant-loop-name
invariant-loop-name l = fold with_name l.self (map string_bytes (drop l.name-index l.names)) ≡ fold with_name l.fn.self (map string_bytes l.names)
