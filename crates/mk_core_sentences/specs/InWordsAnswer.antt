-- The answer of the command `check -w`.
use Rattle.std.specs.Prelude.{◌≡◌, ℕ, true, [], List, Result, Ok}
use Rattle.std.specs.List.{list_any}
use Rattle.mk_subject.specs.Subject.{Subject}
use Rattle.mk_find.specs.declared.finding.Finding.{Finding}
use Rattle.mk_find.specs.Findings.{AreFindings, AreHidden}
use Rattle.mk_claims.specs.Shown.{is_static}
use Rattle.mk_sentences.specs.Text.{HasSentences}
use Rattle.mk_core_text.specs.declared.fault.Fault.{Fault}
use Rattle.mk_core_text.specs.declared.verdict.Verdict.TheVariants as verdict
use Rattle.mk_core.specs.CheckAnswer.{IsVerdict}
use Rattle.mk_core.specs.Judging.{AnswersJudged}
use Rattle.mk_core.specs.Ready.{Ready}
use Rattle.mk_core_sentences.specs.declared.checking.InWords.{InWords}
use Rattle.mk_core_sentences.specs.declared.checking.InWords.TheVariants.{Yes, No}

-- The text has the sentences of the findings, and where they hide others, of these.
abbrev pub Tells : Subject → List Finding → List ℕ → Type 0
Tells x found text =
    (hidden : List Finding) × (list_any is_static found ≡ true → AreHidden x hidden) ×
    HasSentences x found hidden text

-- It is the verdict, if that is yes; else the sentences of the findings.
abbrev pub IsInWords : Subject → InWords → Type 0
IsInWords x (Yes (verdict.Yes certificate recipes reads)) =
    IsVerdict x (verdict.Yes certificate recipes reads)
IsInWords x (Yes (verdict.No found)) = ⊥
IsInWords x (No text) =
    (found : List Finding) × (¬ (found ≡ [])) × AreFindings x found × Tells x found text.items

-- The answer is such a verdict in words, without a fault.
abbrev pub GivesInWords : Subject → Result InWords Fault → Type 0
GivesInWords x answer = (found : InWords) × IsInWords x found × (answer ≡ Ok found)

-- The answer of `check -w` to a prepared request: the verdict in words on the build of its goals.
abbrev pub AnswersInWords : Ready → Result InWords Fault → Type 0
AnswersInWords ready answer = AnswersJudged GivesInWords ready answer

-- The answer is a verdict of yes.
abbrev pub HasYes : Result InWords Fault → Type 0
HasYes (Ok (Yes (verdict.Yes certificate recipes reads))) = Unit {0}
HasYes answer = ⊥
