use Rattle.std.proofs.Common.{arith}
use Rattle.std.specs.Prelude.{bit_or}
use Rattle.mk_graph.proofs.BitWords.{combined_all}
use Rattle.mk_graph.proofs.bit_words.unite.Goals as goal

pub returns : goal.returns
returns c = combined_all bit_or c.args.words.now c.args.others.now c.loop-place.words c.loop-place.place c.loop-place.invariant (omega arith) (omega arith) (omega arith)
