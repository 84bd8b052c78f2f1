use Rattle.std.proofs.Common.{◌∙◌}
use Rattle.mk_macros.proofs.Places.{ends_as}
use Rattle.mk_macros.proofs.bytes.ends_with.Goals as goal

pub returns : goal.returns
returns c = c.ends_with.ensures.value ∙ ends_as c.args.back.now c.args.text.now
