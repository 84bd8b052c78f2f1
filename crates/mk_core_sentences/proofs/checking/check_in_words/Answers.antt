use Rattle.mk_core_sentences.proofs.YesInWords.{yes_answered}
use Rattle.mk_core_sentences.proofs.checking.check_in_words.Goals as goal

pub returns-clause-right : goal.returns-clause-right
returns-clause-right g c =
    λ told fits. yes_answered told c.args.request.now c.yes_is_right.ensures c.answer_judged.result (c.answer_judged.ensures.answer told fits)
