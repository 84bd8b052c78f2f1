use Rattle.std.proofs.Common.{◌≡◌, drop, map}
use Rattle.std.specs.String.{string_bytes}
use Rattle.mk_lines.specs.Names.{has_name}
use Rattle.mk_since.specs.Parts.{with_those}
use Rattle.mk_since.proofs.named.note_owned.Given as goal

-- the files that are left lead to all
abbrev pub invariant-loop-file : goal.invariant-loop-file
invariant-loop-file l = with_those (has_name l.past.own) l.names (map string_bytes (drop l.file-index l.files)) ≡ with_those (has_name l.past.own) l.initial.names (map string_bytes l.files)
