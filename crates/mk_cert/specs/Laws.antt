-- Laws about certificates: what an accepted one shows, and that the one of a build without
-- findings is accepted.
use Rattle.std.specs.Prelude.{◌≡◌, ℕ, List, ◌∷◌, map, ⊤, Result, Ok}
use Rattle.mk_cert_text.specs.Certificate.{Certificate}
use Rattle.mk_graph.specs.Graph.{Graph, IsGraph}
use Rattle.mk_build.specs.Setting.{Setting}
use Rattle.mk_build.specs.World.{Disk, Idle, IsStartDisk}
use Rattle.mk_build.specs.Steps.{Step, Make, IsLegal, after_all}
use Rattle.mk_build.specs.BuildLaws.{AreInside}
use Rattle.mk_build.specs.Right.{IsRight, IsRightAt}
use Rattle.mk_infer.specs.Laws.{StaysSelected}
use Rattle.mk_subject.specs.Subject.{Subject, IsSubject, footprints, name_of, all_writes}
use Rattle.mk_find.specs.Findings.{NothingFound}
use Rattle.mk_find.specs.Certifying.{IsCertificate}
use Rattle.mk_find.specs.FindingLaws.{PartsStay}
use Rattle.mk_cert.specs.declared.fault.CertFault.{CertFault}
use Rattle.mk_cert.specs.Verdict.{Verifies}

-- From each start, one make of any of the goals, with any number of jobs and any overlap of
-- recipes, builds them.
abbrev pub IsRightOnce : Graph → Setting → Type 0
IsRightOnce g s =
    (d : Disk) (jobs : ℕ) (goals : List ℕ) (steps : List Step) → IsStartDisk s d → AreInside steps →
    IsLegal g s (Idle d) (Make jobs goals ∷ steps) →
    IsRightAt g s (after_all g s (Idle d) (Make jobs goals ∷ steps))

-- If a certificate is accepted, every legal history is right, a single make from a start is right,
-- and the same graph is selected whatever part of the files that recipes write exists, for the
-- goals and for each subset of them.
abbrev pub VerifiedIsRight : Type 0
VerifiedIsRight =
    (x : Subject) (c : Certificate) → IsGraph x.graph → IsSubject x → Verifies x c (Ok tt) →
    IsRight x.graph (footprints x.setting) × IsRightOnce x.graph (footprints x.setting) ×
    StaysSelected x.makefile x.there (all_writes x) (map (name_of x) x.graph.goals) x.graph ×
    PartsStay x.makefile x.there (all_writes x) (map (name_of x) x.graph.goals) x.graph

-- At most one answer to a certificate meets `Verifies`.
abbrev pub AnswerIsOne : Type 0
AnswerIsOne =
    (x : Subject) (c : Certificate) (one other : Result ⊤ CertFault) → Verifies x c one →
    Verifies x c other → one ≡ other

-- If there is no static finding and no race, the certificate is accepted.
abbrev pub CertificateIsAccepted : Type 0
CertificateIsAccepted =
    (x : Subject) (c : Certificate) → IsGraph x.graph → NothingFound x → IsCertificate x c →
    Verifies x c (Ok tt)
