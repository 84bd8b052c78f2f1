use Rattle.std.proofs.Common.{◌≡◌, map, drop, string_bytes}
use Rattle.mk_read.specs.Names.{names_of}
use Rattle.mk_lines.specs.Words.{bytes_at, words}
use Rattle.mk_read_parse.proofs.WithFront.{with_front}
use Rattle.mk_read_parse.proofs.names.names_of.Given as goal

-- the names so far and those of the words that are left
abbrev pub invariant-loop-span : goal.invariant-loop-span
invariant-loop-span l = with_front (map string_bytes l.names.items) (names_of (record { file = l.file; line = l.line }) (map (bytes_at l.text) (drop l.span-index l.span-items))) ≡ names_of (record { file = l.file; line = l.line }) (words l.text)
