use Rattle.mk_foot.proofs.PartsPut.{goals_put, group_records_put, other_group_put}
use Rattle.mk_foot.proofs.groups.read_group_part.Goals as goal

pub returns-in_ok-parts-in-goals : goal.returns-in_ok-parts-in-goals
returns-in_ok-parts-in-goals c =
    let found = c.in_ok-parts-in-goals in
    let law = c.last_value_counts.ensures in
    (found.ensures.0, found.ensures.1, λ members was. goals_put law c.args.parts.now found.field-0 c.args.key.now found.ensures.0 members c.in-goals.is found.ensures.2 was)

pub returns-in_ok-parts-in-records : goal.returns-in_ok-parts-in-records
returns-in_ok-parts-in-records c =
    let found = c.in_ok-parts-in-records in
    let law = c.last_value_counts.ensures in
    (found.ensures.0, found.ensures.1, λ members was. group_records_put law c.args.parts.now found.field-0 c.args.key.now found.ensures.0 members c.in-records.is found.ensures.2 was)

pub returns-in_ok-skip_value-in_default : goal.returns-in_ok-skip_value-in_default
returns-in_ok-skip_value-in_default c =
    let passed = c.in_ok-skip_value-in_default.ensures in
    let law = c.last_value_counts.ensures in
    (passed.0, passed.1, λ members was. other_group_put law c.args.parts.now c.args.key.now passed.0 members c.in_default.not-goals c.in_default.not-records was)
