use Rattle.std.proofs.Common.{◌≡◌, drop, map}
use Rattle.std.specs.List.{list_any}
use Rattle.std.specs.String.{string_bytes}
use Rattle.mk_lines.specs.Names.{has_name}
use Rattle.mk_since.proofs.doubts.reads_any.Given as goal

-- the files that are left decide
abbrev pub invariant-loop-file : goal.invariant-loop-file
invariant-loop-file l = list_any (has_name l.files) (map string_bytes (drop l.file-index l.file-items)) ≡ list_any (has_name l.files) (map string_bytes l.file-items)
