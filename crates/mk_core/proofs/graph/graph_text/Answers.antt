use Rattle.mk_core.specs.GraphAnswer.{AnswersGraph}
use Rattle.mk_core.specs.Steps.{seen}
use Rattle.mk_core.proofs.Seen.{seen_answers}
use Rattle.mk_core.proofs.graph.graph_text.Goals as goal

pub returns-clause-answer : goal.returns-clause-answer
returns-clause-answer g c =
    let request = c.args.request.now in
    λ told fits. seen_answers (λ text. text.items) told request
    (λ ready answer. AnswersGraph request.commands ready (seen (λ text. text.items) answer))
    (AnswersGraph request.commands) (λ ready answer h. h) c.answer_request.result
    (c.answer_request.ensures.answer told fits)
