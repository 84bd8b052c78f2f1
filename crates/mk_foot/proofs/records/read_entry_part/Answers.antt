use Rattle.mk_foot.proofs.PartsPut.{target_put, commands_put, reads_put, writes_put, other_put}
use Rattle.mk_foot.proofs.records.read_entry_part.Goals as goal

pub returns-in_ok-parts-in-target : goal.returns-in_ok-parts-in-target
returns-in_ok-parts-in-target c =
    let found = c.in_ok-parts-in-target in
    let law = c.last_value_counts.ensures in
    (found.ensures.0, found.ensures.1, λ members was. target_put law c.args.format c.args.parts.now found.field-0 c.args.key.now found.ensures.0 members c.in-target.is found.ensures.2 was)

pub returns-in_ok-parts-in-commands : goal.returns-in_ok-parts-in-commands
returns-in_ok-parts-in-commands c =
    let found = c.in_ok-parts-in-commands in
    let law = c.last_value_counts.ensures in
    (found.ensures.0, found.ensures.1, λ members was. commands_put law c.args.format c.args.parts.now found.field-0 c.args.key.now found.ensures.0 members c.in-commands.is found.ensures.2 was)

pub returns-in_ok-parts-in-reads : goal.returns-in_ok-parts-in-reads
returns-in_ok-parts-in-reads c =
    let found = c.in_ok-parts-in-reads in
    let law = c.last_value_counts.ensures in
    (found.ensures.0, found.ensures.1, λ members was. reads_put law c.args.format c.args.parts.now found.field-0 c.args.key.now found.ensures.0 members c.in-reads.is found.ensures.2 was)

pub returns-in_ok-parts-in-writes : goal.returns-in_ok-parts-in-writes
returns-in_ok-parts-in-writes c =
    let found = c.in_ok-parts-in-writes in
    let law = c.last_value_counts.ensures in
    (found.ensures.0, found.ensures.1, λ members was. writes_put law c.args.format c.args.parts.now found.field-0 c.args.key.now found.ensures.0 members c.in-writes.is found.ensures.2 was)

pub returns-in_ok-skip_value-in_default : goal.returns-in_ok-skip_value-in_default
returns-in_ok-skip_value-in_default c =
    let passed = c.in_ok-skip_value-in_default.ensures in
    let law = c.last_value_counts.ensures in
    (passed.0, passed.1, λ members was. other_put law c.args.format c.args.parts.now c.args.key.now passed.0 members c.in_default.not-target c.in_default.not-commands c.in_default.not-reads c.in_default.not-writes c.in_default.not-shared was)
