use Rattle.std.proofs.Common.{◌≡◌, drop, map}
use Rattle.mk_core.specs.Files.{text_at}
use Rattle.tests_program.specs.declared.openings.File.{File}
use Rattle.tests_program.proofs.openings.file_named.Given as goal

-- The result depends on the remaining files.
abbrev pub invariant-loop-file : goal.invariant-loop-file
invariant-loop-file l =
    text_at (map (λ (file : File). (file.name.now, file.bytes.now)) (drop l.file-index l.files)) l.name
    ≡ text_at (map (λ (file : File). (file.name.now, file.bytes.now)) l.files) l.name
