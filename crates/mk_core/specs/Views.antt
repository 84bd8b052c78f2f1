-- The contracts of the functions that compute parts of an answer. The meaning of an answer doesn't
-- depend on this file.
use Rattle.std.specs.Prelude.{◌≡◌, ◌⊎◌, ℕ, Bool, false, List, Option, Result, Ok, Err}
use Rattle.std.specs.Option.{is_none}
use Rattle.mk_subject.specs.Subject.{Subject}
use Rattle.mk_foot.specs.Setting.{Setting}
use Rattle.mk_graph.specs.Graph.{Graph}
use Rattle.mk_infer.specs.Goals.{goal_names}
use Rattle.mk_infer.specs.Selection.{Selects}
use Rattle.mk_infer.specs.There.{Exists}
use Rattle.mk_infer.specs.declared.fault.InferFault.{InferFault}
use Rattle.mk_infer.specs.Steps.{is_out_of_memory}
use Rattle.mk_read.specs.Files.{Told}
use Rattle.mk_read.specs.Reading.{Makefile}
use Rattle.mk_cert_text.specs.Certificate.{Certificate}
use Rattle.mk_core_text.specs.declared.fault.Fault.{Fault}
use Rattle.mk_core_text.specs.declared.fault.Fault.TheVariants.{Infer, Memory}
use Rattle.mk_core.specs.declared.request.Request.{Request}
use Rattle.mk_core.specs.Answer.{Draws, failing_of}
use Rattle.mk_core.specs.GraphAnswer.{AnswersGraph, PrintsSelected}
use Rattle.mk_core.specs.FileText.{text_of}
use Rattle.mk_core.specs.Ready.{Ready, book_for, setting_of}
use Rattle.mk_core.specs.Simulation.{Simulation}
use Rattle.mk_core.specs.SimulationAnswer.{AnswersSimulation, RunsText}
use Rattle.mk_core.specs.Steps.{◌>>=◌, as_fault}
use Rattle.mk_core.specs.VerifyAnswer.{VerifiesCertificate, VerifiesText}

-- The result is the defined one for the file whose failed read it reports, if it reports one; or it
-- is out of memory.
abbrev pub Finds : {A : Type 0} → (Option (List ℕ) → Result A Fault) → Result A Fault → Type 0
Finds defined found = (found ≡ Err Memory) ⊎ (defined (failing_of found) ≡ found)

-- The prepared request over its makefile and goals.
abbrev pub ready_with : Told → Option (List ℕ) → Request → Makefile → List (List ℕ) →
    Result Ready Fault
ready_with files failing request m goals = do
  book ← book_for files failing request.book goals
  Ok (record {
    makefile = m;
    goals = goals;
    setting = setting_of m book;
    any_leaf = is_none request.book;
  })

-- The prepared request over its makefile.
abbrev pub ready_over : Told → Option (List ℕ) → Request → Makefile → Result Ready Fault
ready_over files failing request m = do
  goals ← as_fault Infer (goal_names m request.goals)
  ready_with files failing request m goals

-- The answer of a command over a makefile, or out of memory.
abbrev pub AnswersOver : {A : Type 0} → Told → Request → Makefile →
    (Ready → Result A Fault → Type 0) → Result A Fault → Type 0
AnswersOver files request m answers answer =
    (answer ≡ Err Memory) ⊎
    Draws answers (ready_over files (failing_of answer) request m) answer

-- The graph that is selected for the goals if the files `there` exist. Out of memory is always
-- allowed.
abbrev pub Selected : Exists → Ready → Result Graph InferFault → Type 0
Selected there ready (Ok g) = Selects ready.makefile there ready.goals (Ok g)
Selected there ready (Err fault) =
    (is_out_of_memory fault ≡ false) → Selects ready.makefile there ready.goals (Err fault)

-- The output of running the plan with this name, or out of memory.
abbrev pub RunsTextOver : Told → List ℕ → Graph → Setting → Result Simulation Fault → Type 0
RunsTextOver files plan g s answer =
    (answer ≡ Err Memory) ⊎ RunsText g s (text_of files (failing_of answer) plan) answer

-- The answer of `simulate` to a prepared request, or out of memory.
abbrev pub SimulatesOver : Told → List ℕ → Ready → Result Simulation Fault → Type 0
SimulatesOver files plan ready answer =
    (answer ≡ Err Memory) ⊎ AnswersSimulation files plan ready answer

-- The answer to a certificate, or out of memory.
abbrev pub AcceptsOver : Subject → Certificate → Result (List ℕ) Fault → Type 0
AcceptsOver x certificate answer =
    (answer ≡ Err Memory) ⊎ VerifiesCertificate x (Ok certificate) answer

-- The answer to the certificate with this name, or out of memory.
abbrev pub VerifiesOver : Told → List ℕ → Subject → Result (List ℕ) Fault → Type 0
VerifiesOver files name x answer =
    (answer ≡ Err Memory) ⊎ VerifiesText x (text_of files (failing_of answer) name) answer

-- The text of the graph that is selected for the goals. Out of memory is always allowed.
abbrev pub PrintsOver : Bool → Ready → Result (List ℕ) InferFault → Type 0
PrintsOver asked ready (Ok text) = PrintsSelected asked ready (Ok text)
PrintsOver asked ready (Err fault) =
    (is_out_of_memory fault ≡ false) → PrintsSelected asked ready (Err fault)

-- The answer of `graph` to a prepared request, or out of memory.
abbrev pub DrawsOver : Bool → Ready → Result (List ℕ) Fault → Type 0
DrawsOver asked ready answer = (answer ≡ Err Memory) ⊎ AnswersGraph asked ready answer
