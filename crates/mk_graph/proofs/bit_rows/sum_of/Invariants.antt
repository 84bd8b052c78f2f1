use Rattle.std.proofs.Common.{◌≡◌, ◌*◌, ◌≤◌, take}
use Rattle.std.specs.Prelude.{sum}
use Rattle.mk_graph.proofs.bit_rows.sum_of.Given as goal

abbrev pub invariant-loop-word : goal.invariant-loop-word
invariant-loop-word l = (l.total ≡ sum (take l.word-index l.words)) × (l.total ≤ l.word-index * 18446744073709551615)
