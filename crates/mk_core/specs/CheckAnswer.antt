-- The answer of the command `check`.
use Rattle.std.specs.Prelude.{◌≡◌, [], Result, Ok}
use Rattle.mk_subject.specs.Counts.{count_of_recipes, count_of_reads}
use Rattle.mk_subject.specs.Subject.{Subject}
use Rattle.mk_find.specs.Certifying.{IsCertificate}
use Rattle.mk_find.specs.Findings.{AreFindings}
use Rattle.mk_core_text.specs.declared.fault.Fault.{Fault}
use Rattle.mk_core_text.specs.declared.verdict.Verdict.{Verdict}
use Rattle.mk_core_text.specs.declared.verdict.Verdict.TheVariants.{Yes, No}
use Rattle.mk_core.specs.Judging.{AnswersJudged}
use Rattle.mk_core.specs.Ready.{Ready}

-- The verdict is yes with the certificate and the counts of recipes and reads, if nothing is found;
-- else no with the findings.
abbrev pub IsVerdict : Subject → Verdict → Type 0
IsVerdict x (Yes certificate recipes reads) =
    AreFindings x [] × IsCertificate x certificate × (recipes ≡ count_of_recipes x) ×
    (reads ≡ count_of_reads x)
IsVerdict x (No found) = (¬ (found ≡ [])) × AreFindings x found

-- The answer is the verdict, without a fault.
abbrev pub GivesVerdict : Subject → Result Verdict Fault → Type 0
GivesVerdict x answer = (verdict : Verdict) × IsVerdict x verdict × (answer ≡ Ok verdict)

-- The answer of `check` to a prepared request: the verdict on the build of its goals.
abbrev pub AnswersCheck : Ready → Result Verdict Fault → Type 0
AnswersCheck ready answer = AnswersJudged GivesVerdict ready answer

-- The answer is a yes.
abbrev pub IsYes : Result Verdict Fault → Type 0
IsYes (Ok (Yes certificate recipes reads)) = Unit {0}
IsYes answer = ⊥
