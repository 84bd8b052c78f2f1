use Rattle.mk_json.proofs.Arrays.{next_value-array}
use Rattle.mk_json.specs.Kinds.{array_of}
use Rattle.mk_cert_text.proofs.Read.{names_listed}
use Rattle.mk_cert_text.proofs.PartsPut.{moved}
use Rattle.mk_cert_text.specs.declared.packed_names.PackedNames.{PackedNames}
use Rattle.mk_cert_text.proofs.fields.read_names.Goals as goal

pub returns : goal.returns
returns c =
    let found = c.in_ok-names.ensures in
    let value = next_value-array c.args.depth c.args.reader.now c.enter_array.new.reader c.read_list.new.reader c.in_ok-enter_array.field-0 found.0 c.if-not-branch.false c.in_ok-enter_array.ensures found.1 in
    (array_of found.0, value, moved (λ (all : PackedNames). all) c.in_ok-names.names _ _ found.2 (names_listed c.args.key found.0))
