use Rattle.std.proofs.Common.{◌∙◌}
use Rattle.mk_lines.specs.Bytes.{is_byte}
use Rattle.mk_lines.proofs.FirstByte.{found_some}
use Rattle.mk_lines.proofs.bytes.has_byte.Goals as goal

pub returns : goal.returns
returns c = c.is_some.ensures ∙ found_some (is_byte c.args.byte) c.args.text.now c.find_byte.result c.find_byte.ensures
