use Rattle.std.proofs.Common.{◌<◌, length, arith}
use Rattle.mk_lemmas.proofs.Texts.{texts-map_more}
use Rattle.mk_lines.specs.Names.{number_of}
use Rattle.mk_infer_select.proofs.groups.numbers.Goals as goal

pub loop-name-preserved : goal.loop-name-preserved
loop-name-preserved c =
    let lt : c.loop-name.name-index < length c.args.names.now = omega arith in
    texts-map_more (number_of c.args.met.now) c.args.names.now c.loop-name.name-index _ c.loop-name.numbers.items c.push.new.self.items _ c.in_ok-push.ensures.items c.number_of.ensures c.loop-name.invariant lt
