-- The command never answers a prepared request with a fault of the makefile. This is a lemma that
-- the law of `Judge` cites; a reader of the meaning may skip it.
use Rattle.std.proofs.Common.{ℕ, Ok, Err}
use Rattle.mk_subject.specs.Subject.{Subject}
use Rattle.mk_read.specs.declared.fault.ReadFault.{ReadFault}
use Rattle.mk_core.specs.NotRead.{differs}
use Rattle.mk_core_text.specs.declared.fault.Fault.TheVariants.{Read}
use Rattle.mk_core_evidence.specs.EvidenceAnswer.{GivesPlanOrVerdict}

pub evidence_not_read :
    (x : Subject) (number : ℕ) (f : ReadFault) → GivesPlanOrVerdict x number (Err (Read f)) → ⊥
evidence_not_read x number f (evidence, is, e) = differs f (Ok evidence) tt e
