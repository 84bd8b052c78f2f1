use Rattle.std.proofs.Common.{◌<◌, length, arith}
use Rattle.mk_infer.proofs.Sources.{back_more}
use Rattle.mk_infer.proofs.backs.backs_among.Goals as goal

pub loop-name-preserved : goal.loop-name-preserved
loop-name-preserved c = λ suffix end parts.
    let items = c.as_slice-name-items.result.now in
    let lt : c.loop-name.name-index < length items = omega arith in
    back_more items c.loop-name.name-index _ c.cut.result.0 c.cut.result.1 suffix end _ _ c.cut.ensures.whole c.cut.ensures.parts parts (c.in_ok-add_back.ensures suffix) (c.loop-name.invariant suffix end parts) lt
