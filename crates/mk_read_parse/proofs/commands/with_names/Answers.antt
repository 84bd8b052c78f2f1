use Rattle.std.proofs.Common.{◌<◌, length, arith, ap, string_bytes, ◌∙◌}
use Rattle.mk_read_parse.proofs.Commanded.{one_added}
use Rattle.mk_read_parse.proofs.commands.with_names.Goals as goal

pub loop-name-preserved : goal.loop-name-preserved
loop-name-preserved c = λ name.
    let lt : c.loop-name.name-index < length c.args.names.now = omega arith in
    one_added c.loop-name.all c.args.set c.insert.new.self c.args.names.now c.loop-name.name-index _ _ name (c.in_ok-from_str.ensures.ok ∙ (c.deref.ensures ∙ ap string_bytes c.name-item.is)) c.in_ok-insert.ensures.ok (c.loop-name.invariant name) lt
