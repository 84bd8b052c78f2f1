use Rattle.mk_core_laws.proofs.EvidenceRuns.{evidence_runs}
use Rattle.mk_core_laws.proofs.plan_laws.evidence_runs.Goals as goal

pub returns : goal.returns
returns c = evidence_runs c.names_of_world_are_plain.ensures c.selection_is_one.ensures c.plain_paths_are_well_spelled.ensures c.legal_steps_are_readable.ensures c.text_is_read.ensures c.written_history_runs.ensures
