use Rattle.mk_cert_text.proofs.PartsPut.{format_put, goals_put, ways_put, another_put}
use Rattle.mk_cert_text.proofs.reading.read_part.Goals as goal

pub returns-in_ok-parts-in-format : goal.returns-in_ok-parts-in-format
returns-in_ok-parts-in-format c =
    let found = c.in_ok-parts-in-format in
    let law = c.last_value_counts.ensures in
    (found.ensures.0, found.ensures.1, λ members was. format_put law c.args.parts.now found.field-0 c.args.key.now found.ensures.0 members c.in-format.is found.ensures.2 was)

pub returns-in_ok-parts-in-goals : goal.returns-in_ok-parts-in-goals
returns-in_ok-parts-in-goals c =
    let found = c.in_ok-parts-in-goals in
    let law = c.last_value_counts.ensures in
    (found.ensures.0, found.ensures.1, λ members was. goals_put law c.args.parts.now found.field-0 c.args.key.now found.ensures.0 members c.in-goals.is found.ensures.2 was)

pub returns-in_ok-parts-in-ways : goal.returns-in_ok-parts-in-ways
returns-in_ok-parts-in-ways c =
    let found = c.in_ok-parts-in-ways in
    let law = c.last_value_counts.ensures in
    (found.ensures.0, found.ensures.1, λ members was. ways_put law c.args.parts.now found.field-0 c.args.key.now found.ensures.0 members c.in-ways.is found.ensures.2 was)

pub returns-in_ok-skip_value-in_default : goal.returns-in_ok-skip_value-in_default
returns-in_ok-skip_value-in_default c =
    let passed = c.in_ok-skip_value-in_default.ensures in
    let law = c.last_value_counts.ensures in
    (passed.0, passed.1, λ members was. another_put law c.args.parts.now c.args.key.now passed.0 members c.in_default.not-format c.in_default.not-goals c.in_default.not-ways was)
