use Rattle.std.proofs.Common.{refl}
use Rattle.mk_explain.specs.Explain.{fault_sentence}
use Rattle.mk_explain.specs.Texts.{certificates_text, fault_text, files_text, footprints_text, graph_text, kinds_text, lines_text, macros_text, names_text, plans_text}
use Rattle.mk_explain.proofs.laws.each_fault_is_explained.Goals as goal

pub returns : goal.returns
unfolding fault_sentence fault_text lines_text macros_text kinds_text names_text files_text graph_text footprints_text plans_text certificates_text
returns c = refl
