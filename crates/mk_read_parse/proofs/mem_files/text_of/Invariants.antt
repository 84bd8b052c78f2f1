use Rattle.std.proofs.Common.{◌≡◌, drop}
use Rattle.mk_read.specs.Files.{text_at}
use Rattle.mk_read_parse.specs.MemFiles.{entries}
use Rattle.mk_read_parse.proofs.mem_files.text_of.Given as goal

-- The result depends on the remaining files.
abbrev pub invariant-loop-file : goal.invariant-loop-file
invariant-loop-file l = text_at (entries (drop l.file-index l.files)) l.name ≡ text_at (entries l.files) l.name
