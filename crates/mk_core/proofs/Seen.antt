-- Mapping a function over an answer keeps it an answer.
use Rattle.std.proofs.Common.{◌≡◌, None, Some, Result, Ok, Err, inl, inr, ap}
use Rattle.mk_subject.specs.Subject.{Subject}
use Rattle.mk_read.specs.Files.{Told}
use Rattle.mk_core_text.specs.declared.fault.Fault.{Fault}
use Rattle.mk_core_text.specs.declared.fault.Fault.TheVariants.{Read, Infer, Foot, Plan, Certificate, Verify, FileReadFailed, NoFile, Memory}
use Rattle.mk_core.specs.declared.request.Request.{Request}
use Rattle.mk_core.specs.Answer.{Answers, Draws}
use Rattle.mk_core.specs.Judging.{AnswersJudged}
use Rattle.mk_core.specs.Ready.{Ready, ready_for}
use Rattle.mk_core.specs.Steps.{seen}

-- The fault of an answer.
abbrev of_error : {A : Type 0} → Result A Fault → Fault
of_error (Ok x) = Memory
of_error (Err fault) = fault

pub fault_same :
    {A B : Type 0} (one other : Fault) → ◌≡◌ {A = Result A Fault} (Err one) (Err other) →
    ◌≡◌ {A = Result B Fault} (Err one) (Err other)
fault_same {A} {B} one other h = ap (λ (f : Fault). Err f) (ap (of_error {A = A}) h)

-- If `f` maps each answer of one judging command to one of another, it does so for whole requests
-- too.
module _ {A B : Type 0} (f : A → B)
    (judges : Subject → Result A Fault → Type 0) (others : Subject → Result B Fault → Type 0)
    (along : (x : Subject) (answer : Result A Fault) →
    judges x answer → others x (seen f answer)) where
  pub judged_along :
      (ready : Ready) (answer : Result A Fault) → AnswersJudged judges ready answer →
      AnswersJudged others ready (seen f answer)
  judged_along ready answer (Ok g, s, inl (is_graph, is_subject, v)) =
      (Ok g, s, inl (is_graph, is_subject, along _ answer v))
  judged_along ready answer (Ok g, s, inr (fault, first, e)) =
      (Ok g, s, inr (fault, first, ap (seen f) e))
  judged_along ready answer (Err fault, s, (settled, e)) =
      (Err fault, s, (settled, ap (seen f) e))

-- If `f` maps each answer of one command to one of another, it does so for whole requests too.
module _ {A B : Type 0} (f : A → B) (files : Told) (request : Request)
    (one : Ready → Result A Fault → Type 0) (other : Ready → Result B Fault → Type 0)
    (turn : (ready : Ready) (answer : Result A Fault) →
    one ready answer → other ready (seen f answer)) where
  drawn_seen :
      (r : Result Ready Fault) (answer : Result A Fault) → Draws one r answer →
      Draws other r (seen f answer)
  drawn_seen (Ok ready) answer d = turn ready answer d
  drawn_seen (Err fault) (Ok x) d = absurd cc
  drawn_seen (Err fault) (Err also) d = fault_same also fault d

  pub seen_answers :
      (answer : Result A Fault) → Answers files request one answer →
      Answers files request other (seen f answer)
  seen_answers (Ok x) a = drawn_seen (ready_for files None request) (Ok x) a
  seen_answers (Err Memory) a = tt
  seen_answers (Err (Read fault)) a = a
  seen_answers (Err (FileReadFailed name)) a =
      drawn_seen (ready_for files (Some name) request) (Err (FileReadFailed name)) a
  seen_answers (Err (NoFile name)) a =
      drawn_seen (ready_for files None request) (Err (NoFile name)) a
  seen_answers (Err (Infer fault)) a =
      drawn_seen (ready_for files None request) (Err (Infer fault)) a
  seen_answers (Err (Foot fault)) a =
      drawn_seen (ready_for files None request) (Err (Foot fault)) a
  seen_answers (Err (Plan fault)) a =
      drawn_seen (ready_for files None request) (Err (Plan fault)) a
  seen_answers (Err (Certificate fault)) a =
      drawn_seen (ready_for files None request) (Err (Certificate fault)) a
  seen_answers (Err (Verify fault)) a =
      drawn_seen (ready_for files None request) (Err (Verify fault)) a
