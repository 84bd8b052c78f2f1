use Rattle.mk_core_since.proofs.BothBuilds.{known_answers, refused_answers, refused_is_no_fault, refused_notes_none}
use Rattle.mk_core_since.proofs.comparing.since.Goals as goal

pub returns-in-Ok-clause-answer : goal.returns-in-Ok-clause-answer
returns-in-Ok-clause-answer g c =
    λ was fits told agrees. known_answers c.args.words was told c.args.change.now.folder.now c.args.change.now.request.now c.in-Ok.known c.after_old.result (c.in-Ok.ensures.answer was fits) (c.after_old.ensures.answer told agrees)

pub returns-in-Ok-clause-next : goal.returns-in-Ok-clause-next
returns-in-Ok-clause-next g c =
    λ was fits told agrees. c.since_is_next.ensures c.args.words was told c.args.change.now.folder.now c.args.change.now.request.now c.after_old.result (returns-in-Ok-clause-answer g c was fits told agrees)

pub returns-in-Err-clause-answer : goal.returns-in-Err-clause-answer
returns-in-Err-clause-answer g c =
    λ was fits told agrees. refused_answers c.args.words was told c.args.change.now.folder.now c.args.change.now.request.now c.in-Err.fault c.refused.result (c.in-Err.ensures.answer was fits) c.refused.ensures

pub returns-in-Err-clause-next : goal.returns-in-Err-clause-next
returns-in-Err-clause-next g c =
    λ was fits told agrees. c.since_is_next.ensures c.args.words was told c.args.change.now.folder.now c.args.change.now.request.now c.refused.result (returns-in-Err-clause-answer g c was fits told agrees)

pub returns-in-Err-clause-memory : goal.returns-in-Err-clause-memory
returns-in-Err-clause-memory g c = refused_is_no_fault _ c.refused.result c.refused.ensures

pub returns-in-Err-clause-noted : goal.returns-in-Err-clause-noted
returns-in-Err-clause-noted g c = refused_notes_none _ c.refused.result _ c.refused.ensures
