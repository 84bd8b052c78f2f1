-- Each two answers that differ exclude each other.
use Rattle.mk_cert.proofs.OneAnswer.{one_answer}
use Rattle.mk_cert.proofs.laws.answer_is_one.Goals as goal

pub returns : goal.returns
returns c = λ x certificate one other h k. one_answer x certificate one other h k
