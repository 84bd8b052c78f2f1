-- What is known of the old build.
use Rattle.std.specs.Prelude.{◌≡◌, ◌⊎◌, List, [], Result, Ok, Err}
use Rattle.mk_read.specs.Files.{Told}
use Rattle.mk_cert_text.specs.Certificate.{Certificate}
use Rattle.mk_find.specs.Certifying.{IsCertificate}
use Rattle.mk_find.specs.Findings.{AreFindings}
use Rattle.mk_subject.specs.Subject.{Subject}
use Rattle.mk_build.specs.Setting.{FileName}
use Rattle.mk_since.specs.Doubts.{AreDoubted, HasNoStatic}
use Rattle.mk_since.specs.Past.{past_of}
use Rattle.mk_core_text.specs.declared.fault.Fault.{Fault}
use Rattle.mk_core_text.specs.declared.fault.Fault.TheVariants.{FileReadFailed, Memory}
use Rattle.mk_core.specs.declared.request.Request.{Request}
use Rattle.mk_core.specs.Answer.{Answers}
use Rattle.mk_core.specs.Judging.{AnswersJudged}
use Rattle.mk_core_since.specs.declared.old_build.OldBuild.{OldBuild}
use Rattle.mk_core_since.specs.declared.old_build.OldBuild.TheVariants.{Kept, Unsure}
use Rattle.mk_core_since.specs.Before.{before}
use Rattle.mk_core_since.specs.Options.{options_name}
use Rattle.mk_core_since.specs.Words.{words_name}

-- `check` says yes of the build: nothing is found, and it has a certificate.
abbrev pub HasYes : Subject → Type 0
HasYes x = AreFindings x [] × (certificate : Certificate) × IsCertificate x certificate

-- What is kept of the old build, with the targets of its doubted recipes, if there is no static
-- finding; else its findings.
abbrev pub IsOld : Subject → OldBuild → Type 0
IsOld x (Kept past) =
    HasNoStatic x × (doubted : List FileName) × AreDoubted x doubted × (past ≡ past_of doubted x)
IsOld x (Unsure found) = (¬ (found ≡ [])) × (¬ (HasNoStatic x)) × AreFindings x found

-- The answer is what is known of the old build, without a fault.
abbrev pub GivesOld : Subject → Result OldBuild Fault → Type 0
GivesOld x answer = (old : OldBuild) × IsOld x old × (answer ≡ Ok old)

-- The answer for the request for the old build, or the fault of its words or options.
abbrev pub AnswersBefore : Told → Result Request Fault → Result OldBuild Fault → Type 0
AnswersBefore was (Ok request) answer = Answers was request (AnswersJudged GivesOld) answer
AnswersBefore was (Err fault) answer = answer ≡ Err fault

-- The answers for the old build when its folder has these contents: what is known of it, or the
-- first fault, which may be the failed read of its words or of its options. Out of memory is always
-- allowed.
abbrev pub AnswersOld : Told → Request → Result OldBuild Fault → Type 0
AnswersOld was request answer =
    (answer ≡ Err Memory) ⊎ (answer ≡ Err (FileReadFailed words_name)) ⊎
    (answer ≡ Err (FileReadFailed options_name)) ⊎
    AnswersBefore was (before was request) answer
