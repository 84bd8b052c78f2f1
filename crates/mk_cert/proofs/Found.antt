-- The first of what is found.
use Rattle.std.proofs.Common.{◌≡◌, List, [], ◌⊎◌, inl, inr, ⊎_elim, refl}
use Rattle.std.specs.Prelude.{⊤, Result, Ok, Err, OnOk}
use Rattle.mk_cert_text.specs.Certificate.{Way, Certificate}
use Rattle.mk_cert.specs.declared.fault.CertFault.{CertFault}
use Rattle.mk_cert.specs.declared.fault.CertFault.TheVariants.{OtherGoals, NoWay, BadWay, Static, Memory}
use Rattle.mk_subject.specs.Subject.{Subject}
use Rattle.mk_find.specs.Certifying.{HasGoals}
use Rattle.mk_find.specs.Findings.{NothingFound}
use Rattle.mk_cert.specs.Verdict.{NoneBad, Verifies}
use Rattle.mk_cert.specs.Checks.{AnswersReads, AnswersWays}

-- where no entry is bad, the reads decide
pub ways_answer : (x : Subject) (ways : List Way) → NoneBad x [] ways → (r : Result ⊤ CertFault) → (r ≡ Err Memory) ⊎ AnswersReads x ways r → (r ≡ Err Memory) ⊎ AnswersWays x ways r
ways_answer x ways none (Ok done) answer = ⊎_elim (λ e. inl e) (λ lacks. inr (none, lacks)) answer
ways_answer x ways none (Err OtherGoals) answer = ⊎_elim (λ e. inl e) (λ h. absurd h) answer
ways_answer x ways none (Err (NoWay recipe file)) answer = ⊎_elim (λ e. inl e) (λ h. inr (none, h.0, h.1, h.2, h.3)) answer
ways_answer x ways none (Err (BadWay recipe file)) answer = ⊎_elim (λ e. inl e) (λ h. absurd h) answer
ways_answer x ways none (Err (Static finding)) answer = ⊎_elim (λ e. inl e) (λ h. absurd h) answer
ways_answer x ways none (Err Memory) answer = inl refl

-- what a yes is
pub accepted : (x : Subject) (c : Certificate) (r : Result ⊤ CertFault) → HasGoals x c → NothingFound x → (r ≡ Err Memory) ⊎ AnswersWays x c.ways r → (Q : Type 0) → (Verifies x c (Ok tt) → Q) → OnOk r Q
accepted x c (Ok done) goals found answer Q then = ⊎_elim (λ e. absurd (let k : Ok done ≡ Err Memory = e in cc)) (λ h. then (goals, found, h.0, h.1)) answer
accepted x c (Err fault) goals found answer Q then = tt

-- and what any answer is
pub verifies : (x : Subject) (c : Certificate) (r : Result ⊤ CertFault) → HasGoals x c → NothingFound x → (r ≡ Err Memory) ⊎ AnswersWays x c.ways r → (r ≡ Err Memory) ⊎ Verifies x c r
verifies x c (Ok done) goals found answer = ⊎_elim (λ e. inl e) (λ h. inr (goals, found, h.0, h.1)) answer
verifies x c (Err OtherGoals) goals found answer = ⊎_elim (λ e. inl e) (λ h. absurd h) answer
verifies x c (Err (NoWay recipe file)) goals found answer = ⊎_elim (λ e. inl e) (λ h. inr (goals, found, h.0, h.1, h.2, h.3, h.4)) answer
verifies x c (Err (BadWay recipe file)) goals found answer = ⊎_elim (λ e. inl e) (λ h. inr (goals, found, h.0, h.1, h.2, h.3)) answer
verifies x c (Err (Static finding)) goals found answer = ⊎_elim (λ e. inl e) (λ h. absurd h) answer
verifies x c (Err Memory) goals found answer = inl refl
