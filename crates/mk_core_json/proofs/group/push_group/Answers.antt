use Rattle.std.proofs.Common.{ap, ◌∙◌}
use Rattle.serde_json.specs.Written.{has_float}
use Rattle.mk_core_json.specs.GroupView.{group_view}
use Rattle.mk_core_json.proofs.NoTexts.{group_has_no_float}
use Rattle.mk_core_json.proofs.group.push_group.Goals as goal

pub push_value-requires : goal.push_value-requires
push_value-requires c = ap has_float c.in_ok-value.ensures ∙ group_has_no_float c.args.places.now (group_view c.args.group)
