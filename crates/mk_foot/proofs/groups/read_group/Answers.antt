use Rattle.std.proofs.Common.{◌≡◌, None, Err, inr, refl}
use Rattle.serde_json.specs.Data.{Data}
use Rattle.serde_json.specs.Find.{as_object}
use Rattle.mk_foot.specs.declared.fault.FootFault.TheVariants.{Shape}
use Rattle.mk_foot.specs.declared.key.Key.TheVariants as keys
use Rattle.mk_foot.specs.FootprintFile.{group_in}
use Rattle.mk_foot.proofs.groups.read_group.Goals as goal

no_object : (value : Data) → as_object value ≡ None → group_in value ≡ Err (Shape keys.Groups)
unfolding group_in
no_object value none = rw none refl

pub returns-then-not-branch : goal.returns-then-not-branch
returns-then-not-branch c =
    let passed = rw c.if-not-branch.true at c.in_ok-enter_object.ensures in
    (passed.0, passed.1, inr (no_object passed.0 passed.2))
