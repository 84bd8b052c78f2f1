use Rattle.std.proofs.Common.{ap, ◌∙◌}
use Rattle.serde_json.specs.Written.{has_float}
use Rattle.mk_core_json.proofs.SinceTexts.{named_has_no_float}
use Rattle.mk_core_json.proofs.comparing.named_in_json.Goals as goal

pub push_value-requires : goal.push_value-requires
push_value-requires c = ap has_float c.in_ok-value.ensures ∙ named_has_no_float c.args.files.now
