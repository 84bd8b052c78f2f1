use Rattle.std.proofs.Common.{◌-◌, length}
use Rattle.std.specs.Prelude.{bit_and}
use Rattle.mk_graph.specs.BitWords.{AreCombined}
use Rattle.mk_graph.proofs.bit_words.meet_vectors.Given as goal

abbrev pub invariant-loop-words : goal.invariant-loop-words
invariant-loop-words l = AreCombined bit_and l.fn.words l.others l.place l.words

abbrev pub decreases-loop-words : goal.decreases-loop-words
decreases-loop-words l = length l.initial.words - l.place
