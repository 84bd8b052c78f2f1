use Rattle.std.proofs.Common.{◌<◌, ◌∙◌, ap, length, arith}
use Rattle.mk_macros.specs.Locals.{part_of}
use Rattle.mk_macros.proofs.Joined.{names_more}
use Rattle.mk_macros.proofs.locals.joined.Goals as goal

pub loop-i-preserved : goal.loop-i-preserved
loop-i-preserved c =
    let lt : c.loop-i.i < length c.args.names.now = omega arith in
    names_more (part_of c.args.part) c.args.names.now c.loop-i.i _ c.part_of.result.now c.loop-i.value.items c.push_next.new.into.items c.in_ok-push_next.ensures (c.part_of.ensures ∙ ap (part_of c.args.part) c.as_bytes.ensures.value) c.loop-i.invariant lt
