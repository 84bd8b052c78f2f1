use Rattle.std.proofs.Common.{map, drop, string_bytes}
use Rattle.mk_build.specs.SerialMake.{puts}
use Rattle.mk_find_evidence.proofs.Notes.{NotesLeft}
use Rattle.mk_find_evidence.proofs.history.History.push_puts.Given as goal

-- the first puts are noted, and the others are left
abbrev pub invariant-loop-file : goal.invariant-loop-file
invariant-loop-file l = NotesLeft l.fn.self l.self (puts l.number (map string_bytes l.files) l.fn.contents) (puts l.number (map string_bytes (drop l.file-index l.files)) l.rest)
