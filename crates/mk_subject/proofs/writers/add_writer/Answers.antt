use Rattle.std.proofs.Common.{arith}
use Rattle.std.proofs.lemmas.Grind.{text_groups}
use Rattle.mk_subject.proofs.writers.add_writer.Goals as goal

pub returns : goal.returns
returns c = λ name. grind (arith, text_groups)
