-- The command never answers a prepared request with a fault of the makefile. This is a lemma that
-- the law of `Judge` cites; a reader of the meaning may skip it.
use Rattle.std.proofs.Common.{Ok, Err}
use Rattle.mk_subject.specs.Subject.{Subject}
use Rattle.mk_read.specs.declared.fault.ReadFault.{ReadFault}
use Rattle.mk_core.specs.NotRead.{differs}
use Rattle.mk_core_text.specs.declared.fault.Fault.TheVariants.{Read}
use Rattle.mk_core_json.specs.InJsonAnswer.{GivesInJson}

pub in_json_not_read : (x : Subject) (f : ReadFault) → GivesInJson x (Err (Read f)) → ⊥
in_json_not_read x f (found, is, e) = differs f (Ok found) tt e
