-- No answer to a prepared request is a fault of the makefile. These are lemmas that the laws of
-- `Judge` cite; a reader of the meaning may skip them.
use Rattle.std.proofs.Common.{Bool, Ok, Err}
use Rattle.mk_subject.specs.Subject.{Subject}
use Rattle.mk_read.specs.declared.fault.ReadFault.{ReadFault}
use Rattle.mk_core.specs.NotRead.{differs}
use Rattle.mk_core_text.specs.declared.fault.Fault.TheVariants.{Read}
use Rattle.mk_since.specs.Past.{Past}
use Rattle.mk_core_since.specs.OldAnswer.{GivesOld}
use Rattle.mk_core_since.specs.SinceAnswer.{GivesSince}

pub old_not_read : (x : Subject) (f : ReadFault) → GivesOld x (Err (Read f)) → ⊥
old_not_read x f (old, is, e) = differs f (Ok old) tt e

pub since_not_read : (words : Bool) (past : Past) (y : Subject) (f : ReadFault) →
    GivesSince words past y (Err (Read f)) → ⊥
since_not_read words past y f (since, is, e) = differs f (Ok since) tt e
