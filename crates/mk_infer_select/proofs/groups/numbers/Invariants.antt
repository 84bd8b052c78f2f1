use Rattle.std.proofs.Common.{◌≡◌, map, take}
use Rattle.mk_lemmas.proofs.Texts.{texts}
use Rattle.mk_lines.specs.Names.{number_of}
use Rattle.mk_infer_select.proofs.groups.numbers.Given as goal

-- the numbers of the names so far
abbrev pub invariant-loop-name : goal.invariant-loop-name
invariant-loop-name l = l.numbers.items ≡ map (number_of l.met) (texts (take l.name-index l.names))
