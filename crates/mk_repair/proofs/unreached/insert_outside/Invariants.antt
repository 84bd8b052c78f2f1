use Rattle.std.proofs.Common.{◌≡◌, drop, map, filter, string_bytes}
use Rattle.std.specs.Prelude.{fold}
use Rattle.mk_lines.specs.Names.{with_name}
use Rattle.mk_repair.specs.Makers.{is_outside}
use Rattle.mk_repair.proofs.unreached.insert_outside.Given as goal

-- the names so far, with those of the targets that are left
abbrev pub invariant-loop-target : goal.invariant-loop-target
invariant-loop-target l =
    fold with_name l.set (filter (is_outside l.subject) (map string_bytes (drop l.target-index l.targets)))
    ≡ fold with_name l.fn.set (filter (is_outside l.subject) (map string_bytes l.targets))
