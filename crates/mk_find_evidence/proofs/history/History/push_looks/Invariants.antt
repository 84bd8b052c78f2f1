use Rattle.std.proofs.Common.{map, drop, string_bytes}
use Rattle.mk_build.specs.Steps.{Look}
use Rattle.mk_find_evidence.proofs.Notes.{NotesLeft}
use Rattle.mk_find_evidence.proofs.history.History.push_looks.Given as goal

-- the first looks are noted, and the others are left
abbrev pub invariant-loop-file : goal.invariant-loop-file
invariant-loop-file l = NotesLeft l.fn.self l.self (map (λ f. Look l.number f) (map string_bytes l.files)) (map (λ f. Look l.number f) (map string_bytes (drop l.file-index l.files)))
