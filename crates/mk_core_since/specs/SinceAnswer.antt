-- The answer of the command `since`.
use Rattle.std.specs.Prelude.{◌≡◌, ◌⊎◌, ℕ, Bool, List, Result, Ok, Err}
use Rattle.mk_read.specs.Files.{Told}
use Rattle.mk_subject.specs.Subject.{Subject}
use Rattle.mk_since.specs.Named.{AreNamedBy}
use Rattle.mk_since.specs.Past.{Past}
use Rattle.mk_core_text.specs.declared.fault.Fault.{Fault}
use Rattle.mk_core_text.specs.declared.fault.Fault.TheVariants.{Memory}
use Rattle.mk_core.specs.declared.request.Request.{Request}
use Rattle.mk_core.specs.Answer.{Answers}
use Rattle.mk_core.specs.Judging.{AnswersJudged}
use Rattle.mk_core_since.specs.declared.old_build.OldBuild.{OldBuild}
use Rattle.mk_core_since.specs.declared.old_build.OldBuild.TheVariants as old
use Rattle.mk_core_since.specs.declared.outcome.Since.{Since}
use Rattle.mk_core_since.specs.declared.outcome.Since.TheVariants.{Named, No, Unsure, Refused}
use Rattle.mk_core_since.specs.InFolder.{fault_in}
use Rattle.mk_core_since.specs.OldAnswer.{AnswersOld, HasYes}
use Rattle.mk_core_since.specs.Telling.{AreTold}

-- The named files if `check` says yes of the new build, else its findings, and their sentences in
-- words.
abbrev pub IsSince : (words : Bool) → Past → Subject → Since → Type 0
IsSince words past y (Named names) = HasYes y × AreNamedBy past y names
IsSince words past y (No found text) = AreTold words y found text.items
IsSince words past y since = ⊥

-- The answer is that, without a fault.
abbrev pub GivesSince : (words : Bool) → Past → Subject → Result Since Fault → Type 0
GivesSince words past y answer =
    (since : Since) × IsSince words past y since × (answer ≡ Ok since)

-- The answer once the old build is known: that for the new build; or the findings of the old one,
-- or its refusal with its files named from outside.
abbrev pub AfterOld : (words : Bool) → Told → List ℕ → Request → Result OldBuild Fault →
    Result Since Fault → Type 0
AfterOld words files folder request (Ok (old.Kept past)) answer =
    Answers files request (AnswersJudged (GivesSince words past)) answer
AfterOld words files folder request (Ok (old.Unsure found)) answer = answer ≡ Ok (Unsure found)
AfterOld words files folder request (Err fault) answer = answer ≡ Ok (Refused (fault_in folder fault))

-- The answers of `since` to a request when the folder of the old build has the first contents, by
-- names in it, and the files of the new build have the second ones. Out of memory is always
-- allowed.
abbrev pub AnswersSince : (words : Bool) → Told → Told → List ℕ → Request →
    Result Since Fault → Type 0
AnswersSince words was files folder request answer =
    (answer ≡ Err Memory) ⊎
    ((before : Result OldBuild Fault) ×
    AnswersOld was request before × AfterOld words files folder request before answer)
