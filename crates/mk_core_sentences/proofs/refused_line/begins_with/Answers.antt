use Rattle.std.proofs.Common.{◌∙◌, length, take}
use Rattle.mk_lemmas.proofs.Texts.{bytes_eq-sym}
use Rattle.mk_core_sentences.proofs.refused_line.begins_with.Goals as goal

pub returns : goal.returns
returns c = c.starts_with.ensures.value ∙ bytes_eq-sym c.args.front.now (take (length c.args.front.now) c.args.text.now)
