use Rattle.std.proofs.Common.{◌≡◌, None, Err, map, string_bytes, inr, refl}
use Rattle.serde_json.specs.Data.{Data}
use Rattle.serde_json.specs.Find.{as_array}
use Rattle.mk_json.proofs.Arrays.{next_value-array}
use Rattle.mk_json.specs.Kinds as json
use Rattle.mk_json.specs.Kinds.{array_of}
use Rattle.mk_foot.specs.declared.fault.FootFault.TheVariants.{Shape}
use Rattle.mk_foot.specs.declared.key.Key.{Key}
use Rattle.mk_foot.specs.Fields.{texts_of}
use Rattle.mk_foot.proofs.Grown.{texts_listed}
use Rattle.mk_foot.proofs.Read.{moved}
use Rattle.mk_foot.proofs.fields.read_texts.Goals as goal

no_array : (key : Key) (value : Data) → as_array value ≡ None → texts_of key value ≡ Err (Shape key)
unfolding json.texts_of
no_array key value none = rw none refl

pub returns-then-not-branch : goal.returns-then-not-branch
returns-then-not-branch c =
    let passed = rw c.if-not-branch.true at c.in_ok-enter_array.ensures in
    (passed.0, passed.1, inr (no_array c.args.key passed.0 passed.2))

pub returns : goal.returns
returns c =
    let found = c.in_ok-texts.ensures in
    let value = next_value-array c.args.depth c.args.reader.now c.enter_array.new.reader c.read_list.new.reader c.in_ok-enter_array.field-0 found.0 c.if-not-branch.false c.in_ok-enter_array.ensures found.1 in
    (array_of found.0, value, c.without_room.ensures _ (moved (λ all. map string_bytes all.items) c.in_ok-texts.texts _ _ found.2 (texts_listed c.args.key found.0)))
