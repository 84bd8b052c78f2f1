use Rattle.mk_json.proofs.Arrays.{next_value-array}
use Rattle.mk_json.specs.Kinds.{array_of}
use Rattle.mk_cert_text.specs.declared.key.Key.TheVariants as keys
use Rattle.mk_cert_text.proofs.Read.{listed}
use Rattle.mk_cert_text.proofs.reading_ways.read_ways.Goals as goal

pub returns : goal.returns
returns c =
    let found = c.in_ok-ways.ensures in
    let value = next_value-array c.args.depth c.args.reader.now c.enter_array.new.reader c.read_list.new.reader c.in_ok-enter_array.field-0 found.0 c.if-not-branch.false c.in_ok-enter_array.ensures found.1 in
    (array_of found.0, value, (found.0, listed keys.Ways found.0, found.2))
