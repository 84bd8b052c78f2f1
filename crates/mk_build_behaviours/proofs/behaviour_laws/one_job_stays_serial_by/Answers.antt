-- Of two recipes one had ended when the other began.
use Rattle.mk_build_behaviours.proofs.Serial.{one_job_stays_serial}
use Rattle.mk_build_behaviours.proofs.behaviour_laws.one_job_stays_serial_by.Goals as goal

pub returns : goal.returns
returns c = λ g s b graph sound d now steps is one legal still leaves. one_job_stays_serial g s b graph sound d now steps is one legal still leaves
