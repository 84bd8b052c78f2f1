use Rattle.std.proofs.Common.{◌-◌, length}
use Rattle.std.specs.Prelude.{bit_or}
use Rattle.mk_graph.specs.BitWords.{AreCombined}
use Rattle.mk_graph.proofs.bit_words.unite.Given as goal

abbrev pub invariant-loop-place : goal.invariant-loop-place
invariant-loop-place l = AreCombined bit_or l.fn.words l.others l.place l.words

abbrev pub decreases-loop-place : goal.decreases-loop-place
decreases-loop-place l = length l.initial.words - l.place
