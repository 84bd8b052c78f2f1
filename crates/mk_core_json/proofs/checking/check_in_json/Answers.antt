use Rattle.mk_core_json.proofs.YesInJson.{yes_answered}
use Rattle.mk_core_json.proofs.checking.check_in_json.Goals as goal

pub returns-clause-right : goal.returns-clause-right
returns-clause-right g c =
    λ told fits. yes_answered told c.args.request.now c.yes_is_right.ensures c.answer_judged.result (c.answer_judged.ensures.answer told fits)
