use Rattle.mk_find_evidence.proofs.RunsAsPlan as proof
use Rattle.mk_find_evidence.proofs.plan_laws.shown_steps_run.Goals as goal

pub returns : goal.returns
returns c = proof.shown_steps_run c.names_of_subject_are_plain.ensures c.written_history_runs.ensures
