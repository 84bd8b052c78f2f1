use Rattle.mk_foot.proofs.PartsPut.{shared_put, first_shared_put}
use Rattle.mk_foot.proofs.records.read_shared.Goals as goal

pub returns-in_ok-skip_value-in-One : goal.returns-in_ok-skip_value-in-One
returns-in_ok-skip_value-in-One c =
    let passed = c.in_ok-skip_value-in-One.ensures in
    let law = c.last_value_counts.ensures in
    (passed.0, passed.1, λ members was. rw c.in-One.is (first_shared_put law c.args.parts.now passed.0 members (rw c.in-One.is at was)))

pub returns-in_ok-parts-in-Two : goal.returns-in_ok-parts-in-Two
returns-in_ok-parts-in-Two c =
    let found = c.in_ok-parts-in-Two in
    let law = c.last_value_counts.ensures in
    (found.ensures.0, found.ensures.1, λ members was. rw c.in-Two.is (shared_put law c.args.parts.now found.field-0 found.ensures.0 members found.ensures.2 (rw c.in-Two.is at was)))
