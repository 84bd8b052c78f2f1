-- Laws that a request has one answer.
use Rattle.std.specs.Prelude.{◌≡◌, ⊤, List, ℕ, Option, Result, Err}
use Rattle.mk_read.specs.declared.fault.ReadFault.TheVariants.{ReadFailed}
use Rattle.mk_read.specs.Files.{Told}
use Rattle.mk_core_text.specs.declared.fault.Fault.{Fault}
use Rattle.mk_core_text.specs.declared.fault.Fault.TheVariants.{Read, FileReadFailed, Memory}
use Rattle.mk_core.specs.declared.request.Request.{Request}
use Rattle.mk_core.specs.Answer.{Answers}
use Rattle.mk_core.specs.CheckAnswer.{AnswersCheck}
use Rattle.mk_core_evidence.specs.EvidenceAnswer.{AnswersEvidence}
use Rattle.mk_core.specs.GraphAnswer.{AnswersGraph}
use Rattle.mk_core.specs.Simulation.{Simulation}
use Rattle.mk_core.specs.SimulationAnswer.{AnswersSimulation}
use Rattle.mk_core.specs.Steps.{seen}
use Rattle.mk_core.specs.VerifyAnswer.{AnswersVerify}
use Rattle.mk_core_text.specs.declared.verdict.Verdict.{Verdict}

-- The answer is neither out of memory nor a failed read.
abbrev pub IsSettled : {A : Type 0} → Result A Fault → Type 0
IsSettled (Err Memory) = ⊥
IsSettled (Err (FileReadFailed name)) = ⊥
IsSettled (Err (Read (ReadFailed place name))) = ⊥
IsSettled answer = Unit {0}

-- A request for a graph, over files with the same contents, has at most one answer, except for out
-- of memory and failed reads.
abbrev pub AnswerIsOne : Type 0
AnswerIsOne =
    (files : Told) (request : Request) (one other : Result (List ℕ) Fault) → IsSettled one →
    IsSettled other → Answers files request (AnswersGraph request.commands) one →
    Answers files request (AnswersGraph request.commands) other → one ≡ other

-- A request for a verdict, over files with the same contents, has at most one answer, with the same
-- exceptions.
abbrev pub VerdictIsOne : Type 0
VerdictIsOne =
    (files : Told) (request : Request) (one other : Result Verdict Fault) → IsSettled one →
    IsSettled other → Answers files request AnswersCheck one →
    Answers files request AnswersCheck other → one ≡ other

-- A request to verify a certificate, over files with the same contents, has at most one answer,
-- with the same exceptions.
abbrev pub VerificationIsOne : Type 0
VerificationIsOne =
    (files : Told) (request : Request) (name : List ℕ) (one other : Result (List ℕ) Fault) →
    IsSettled one → IsSettled other → Answers files request (AnswersVerify files name) one →
    Answers files request (AnswersVerify files name) other → one ≡ other

-- A request to run a plan, over files with the same contents, has at most one answer, with the same
-- exceptions.
abbrev pub SimulationIsOne : Type 0
SimulationIsOne =
    (files : Told) (request : Request) (plan : List ℕ) (one other : Result Simulation Fault) →
    IsSettled one → IsSettled other → Answers files request (AnswersSimulation files plan) one →
    Answers files request (AnswersSimulation files plan) other → one ≡ other

-- The fault of an answer, if it is one.
abbrev pub refusal_of : {A : Type 0} → Result A Fault → Result ⊤ Fault
refusal_of answer = seen (λ given. tt) answer

-- A request for the plan that shows a finding is refused exactly if a request for a verdict is,
-- with the same fault, except for out of memory and failed reads.
abbrev pub EvidenceRefusesAsCheck : Type 0
EvidenceRefusesAsCheck =
    (files : Told) (request : Request) (number : ℕ) (verdict : Result Verdict Fault)
    (plan : Result (Option (List ℕ)) Fault) → IsSettled verdict → IsSettled plan →
    Answers files request AnswersCheck verdict →
    Answers files request (AnswersEvidence number) plan → refusal_of verdict ≡ refusal_of plan
