-- A survey is never a fault of the makefile. These are lemmas that the laws of `Judge` cite; a
-- reader of the meaning may skip them.
use Rattle.std.proofs.Common.{Ok, Err}
use Rattle.mk_subject.specs.Subject.{Subject}
use Rattle.mk_read.specs.declared.fault.ReadFault.{ReadFault}
use Rattle.mk_core.specs.NotRead.{differs}
use Rattle.mk_core_text.specs.declared.fault.Fault.TheVariants.{Read}
use Rattle.mk_core_repair.specs.Survey.{GivesFirst, GivesSurvey}

pub survey_not_read : (x : Subject) (f : ReadFault) → GivesSurvey x (Err (Read f)) → ⊥
survey_not_read x f (survey, is, e) = differs f (Ok survey) tt e

pub first_not_read : (x : Subject) (f : ReadFault) → GivesFirst x (Err (Read f)) → ⊥
first_not_read x f (first, is, e) = differs f (Ok first) tt e
