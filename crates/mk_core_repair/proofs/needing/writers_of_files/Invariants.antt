use Rattle.std.proofs.Common.{◌≡◌, ◌++◌, drop, filter, map, not, string_bytes}
use Rattle.std.specs.Prelude.{◌==◌}
use Rattle.std.specs.List.{flat_map}
use Rattle.mk_subject.specs.NodeRow.{writers_of}
use Rattle.mk_core_repair.proofs.needing.writers_of_files.Given as goal

-- the writers so far, with those of the files that are left
abbrev pub invariant-loop-file : goal.invariant-loop-file
invariant-loop-file l =
    l.row.items ++ filter (λ writer. not (writer == l.number)) (flat_map (writers_of l.subject) (map string_bytes (drop l.file-index l.files)))
    ≡ filter (λ writer. not (writer == l.number)) (flat_map (writers_of l.subject) (map string_bytes l.files))
