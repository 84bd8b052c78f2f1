use Rattle.std.proofs.Common.{refl}
use Rattle.std.specs.Fmt.{digits}
use Rattle.mk_explain.specs.Explain.{fault_spelled, finding_sentence, finding_spelled, number_named}
use Rattle.mk_explain.specs.Texts.{term_text}
use Rattle.mk_explain.proofs.laws.each_term_is_explained.Goals as goal

pub returns : goal.returns
unfolding finding_sentence finding_spelled fault_spelled number_named term_text digits
returns c = refl
