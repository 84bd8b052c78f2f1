use Rattle.mk_cert_text.proofs.PartsPut.{end_put, file_put, path_put, recipe_put, other_put}
use Rattle.mk_cert_text.proofs.reading_ways.read_way_part.Goals as goal

pub returns-in_ok-parts-in-end : goal.returns-in_ok-parts-in-end
returns-in_ok-parts-in-end c =
    let found = c.in_ok-parts-in-end in
    let law = c.last_value_counts.ensures in
    (found.ensures.0, found.ensures.1, λ members was. end_put law c.args.parts.now found.field-0 c.args.key.now found.ensures.0 members c.in-end.is found.ensures.2 was)

pub returns-in_ok-parts-in-file : goal.returns-in_ok-parts-in-file
returns-in_ok-parts-in-file c =
    let found = c.in_ok-parts-in-file in
    let law = c.last_value_counts.ensures in
    (found.ensures.0, found.ensures.1, λ members was. file_put law c.args.parts.now found.field-0 c.args.key.now found.ensures.0 members c.in-file.is found.ensures.2 was)

pub returns-in_ok-parts-in-path : goal.returns-in_ok-parts-in-path
returns-in_ok-parts-in-path c =
    let found = c.in_ok-parts-in-path in
    let law = c.last_value_counts.ensures in
    (found.ensures.0, found.ensures.1, λ members was. path_put law c.args.parts.now found.field-0 c.args.key.now found.ensures.0 members c.in-path.is found.ensures.2 was)

pub returns-in_ok-parts-in-recipe : goal.returns-in_ok-parts-in-recipe
returns-in_ok-parts-in-recipe c =
    let found = c.in_ok-parts-in-recipe in
    let law = c.last_value_counts.ensures in
    (found.ensures.0, found.ensures.1, λ members was. recipe_put law c.args.parts.now found.field-0 c.args.key.now found.ensures.0 members c.in-recipe.is found.ensures.2 was)

pub returns-in_ok-skip_value-in_default : goal.returns-in_ok-skip_value-in_default
returns-in_ok-skip_value-in_default c =
    let passed = c.in_ok-skip_value-in_default.ensures in
    let law = c.last_value_counts.ensures in
    (passed.0, passed.1, λ members was. other_put law c.args.parts.now c.args.key.now passed.0 members c.in_default.not-end c.in_default.not-file c.in_default.not-path c.in_default.not-recipe was)
