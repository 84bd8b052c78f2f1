use Rattle.std.proofs.Common.{arith}
use Rattle.std.proofs.lemmas.Map.Text.{text_keys}
use Rattle.mk_core_repair.proofs.known_files.add_text.Goals as goal

pub returns : goal.returns
returns c = λ other. grind (arith, text_keys)
