use Rattle.std.proofs.Common.{◌≡◌, drop, map}
use Rattle.std.specs.Prelude.{not}
use Rattle.std.specs.String.{string_bytes}
use Rattle.mk_since.specs.Parts.{has_file, with_those}
use Rattle.mk_since.proofs.named.note_lacking.Given as goal

-- the files that are left lead to all
abbrev pub invariant-loop-file : goal.invariant-loop-file
invariant-loop-file l = with_those (λ f. not (has_file l.subject f)) l.names (map string_bytes (drop l.file-index l.files)) ≡ with_those (λ f. not (has_file l.subject f)) l.initial.names (map string_bytes l.files)
