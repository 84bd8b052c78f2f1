use Rattle.std.proofs.Common.{map, take}
use Rattle.std.specs.String.{string_bytes}
use Rattle.mk_lines.specs.Names.{HoldsNames}
use Rattle.mk_infer.proofs.suffix_set.suffixes_among.Given as goal

-- the words so far
abbrev pub invariant-loop-word : goal.invariant-loop-word
invariant-loop-word l = HoldsNames l.set (map string_bytes (take l.word-index l.words))
