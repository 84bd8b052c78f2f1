use Rattle.std.proofs.Common.{Ok, ap}
use Rattle.mkcheck_run.proofs.answering.answer_in_json.Goals as goal

pub returns-clause-answer : goal.returns-clause-answer
returns-clause-answer g c =
    λ told fits. (Ok c.in_ok-found.found, c.in_ok-found.ensures.answer told fits, ap Ok c.json_response.ensures)
