use Rattle.mk_foot.proofs.PartsPut.{file_format_put, file_fixed_put, file_sources_put, file_records_put, file_lists_put, file_groups_put, other_file_put}
use Rattle.mk_foot.proofs.shapes.read_part.Goals as goal

pub returns-in_ok-parts-in-format : goal.returns-in_ok-parts-in-format
returns-in_ok-parts-in-format c =
    let found = c.in_ok-parts-in-format in
    let law = c.last_value_counts.ensures in
    (found.ensures.0, found.ensures.1, λ members was. file_format_put law c.args.parts.now found.field-0 c.args.key.now found.ensures.0 members c.in-format.is found.ensures.2 was)

pub returns-in_ok-parts-in-fixed : goal.returns-in_ok-parts-in-fixed
returns-in_ok-parts-in-fixed c =
    let found = c.in_ok-parts-in-fixed in
    let law = c.last_value_counts.ensures in
    (found.ensures.0, found.ensures.1, λ members was. file_fixed_put law c.args.parts.now found.field-0 c.args.key.now found.ensures.0 members c.in-fixed.is found.ensures.2 was)

pub returns-in_ok-parts-in-sources : goal.returns-in_ok-parts-in-sources
returns-in_ok-parts-in-sources c =
    let found = c.in_ok-parts-in-sources in
    let law = c.last_value_counts.ensures in
    (found.ensures.0, found.ensures.1, λ members was. file_sources_put law c.args.parts.now found.field-0 c.args.key.now found.ensures.0 members c.in-sources.is found.ensures.2 was)

pub returns-in_ok-parts-in-records : goal.returns-in_ok-parts-in-records
returns-in_ok-parts-in-records c =
    let found = c.in_ok-parts-in-records in
    let law = c.last_value_counts.ensures in
    (found.ensures.0, found.ensures.1, λ members was. file_records_put law c.args.parts.now found.field-0 c.args.key.now found.ensures.0 members c.in-records.is found.ensures.2 was)

pub returns-in_ok-parts-in-lists : goal.returns-in_ok-parts-in-lists
returns-in_ok-parts-in-lists c =
    let found = c.in_ok-parts-in-lists in
    let law = c.last_value_counts.ensures in
    (found.ensures.0, found.ensures.1, λ members was. file_lists_put law c.args.parts.now found.field-0 c.args.key.now found.ensures.0 members c.in-lists.is found.ensures.2 was)

pub returns-in_ok-parts-in-groups : goal.returns-in_ok-parts-in-groups
returns-in_ok-parts-in-groups c =
    let found = c.in_ok-parts-in-groups in
    let law = c.last_value_counts.ensures in
    (found.ensures.0, found.ensures.1, λ members was. file_groups_put law c.args.parts.now found.field-0 c.args.key.now found.ensures.0 members c.in-groups.is found.ensures.2 was)

pub returns-in_ok-skip_value-in_default : goal.returns-in_ok-skip_value-in_default
returns-in_ok-skip_value-in_default c =
    let passed = c.in_ok-skip_value-in_default.ensures in
    let law = c.last_value_counts.ensures in
    (passed.0, passed.1, λ members was. other_file_put law c.args.parts.now c.args.key.now passed.0 members c.in_default.not-format c.in_default.not-fixed c.in_default.not-sources c.in_default.not-records c.in_default.not-lists c.in_default.not-groups was)
