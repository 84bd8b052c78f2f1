use Rattle.std.proofs.Common.{arith}
use Rattle.std.specs.Prelude.{bit_and}
use Rattle.mk_graph.proofs.BitWords.{combined_all}
use Rattle.mk_graph.proofs.bit_words.meet.Goals as goal

pub returns : goal.returns
returns c = combined_all bit_and c.args.words.now c.args.others.now c.loop-place.words c.loop-place.place c.loop-place.invariant (omega arith) (omega arith) (omega arith)
