use Rattle.std.proofs.lemmas.Result.{err_from_is_err_and}
use Rattle.mk_core_repair.proofs.Answered.{followed, refused}
use Rattle.mk_core_repair.proofs.Sufficing.{repair_finds_cycle, repair_suffices, repair_takes}
use Rattle.mk_core_repair.proofs.Surveys.{first_refuses}
use Rattle.mk_core_repair.proofs.repairing.repair.Goals as goal

pub returns-in_err-first-clause-answer : goal.returns-in_err-first-clause-answer
returns-in_err-first-clause-answer g c =
    let p = err_from_is_err_and c.from_residual.result c.from_residual.ensures.1 in
    let fault = c.in_err-first.field-0.0 in
    rw (p.1, p.2) (λ told fits. refused told c.args.request.now fault (first_refuses told c.args.request.now fault (c.in_err-first.ensures.answer told fits)))

pub returns-clause-answer : goal.returns-clause-answer
returns-clause-answer g c =
    let first = c.in_ok-first.first in
    λ told fits. followed told c.args.request.now first (c.in_ok-first.ensures.answer told (c.after_first.ensures.keeps told fits)) (g.F.Files.fits c.after_first.new.files) fits c.after_first.result c.after_first.ensures.answer c.after_first.ensures.fault

pub returns-clause-suffices : goal.returns-clause-suffices
returns-clause-suffices g c =
    λ told fits. repair_suffices c.yes_is_right.ensures c.only_named_files_count.ensures told c.args.request.now c.after_first.result (returns-clause-answer g c told fits)

pub returns-clause-part : goal.returns-clause-part
returns-clause-part g c =
    λ told fits. repair_takes c.yes_is_right.ensures c.only_named_files_count.ensures told c.args.request.now c.after_first.result (returns-clause-answer g c told fits)

pub returns-clause-cycle : goal.returns-clause-cycle
returns-clause-cycle g c =
    λ told fits. repair_finds_cycle c.first_cycle_cannot_be_mended.ensures told c.args.request.now c.after_first.result (returns-clause-answer g c told fits)
