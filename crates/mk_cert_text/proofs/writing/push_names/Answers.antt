use Rattle.std.proofs.Common.{ap, ◌∙◌}
use Rattle.serde_json.specs.Written.{has_float}
use Rattle.mk_cert_text.proofs.WrittenTexts.{names_have_no_float}
use Rattle.mk_cert_text.proofs.writing.push_names.Goals as goal

pub push_value-requires : goal.push_value-requires
push_value-requires c = ap has_float c.in_ok-value.ensures ∙ names_have_no_float c.args.names.now
