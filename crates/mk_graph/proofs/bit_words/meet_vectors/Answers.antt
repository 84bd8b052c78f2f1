use Rattle.std.proofs.Common.{arith}
use Rattle.std.specs.Prelude.{bit_and}
use Rattle.mk_graph.proofs.BitWords.{combined_more}
use Rattle.mk_graph.proofs.bit_words.meet_vectors.Goals as goal

pub loop-words-preserved : goal.loop-words-preserved
loop-words-preserved c = combined_more bit_and c.args.words.now c.args.others.now c.loop-words.words c.loop-words.place c.loop-words.invariant (omega arith) (omega arith)
