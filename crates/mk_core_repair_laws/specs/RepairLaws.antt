-- The law that `repair` has one answer.
use Rattle.std.specs.Prelude.{◌≡◌, List, Result, Ok, Err}
use Rattle.mk_read.specs.Files.{Told}
use Rattle.mk_find.specs.declared.finding.Finding.{Finding}
use Rattle.mk_core_text.specs.declared.fault.Fault.{Fault}
use Rattle.mk_core.specs.declared.request.Request.{Request}
use Rattle.mk_core.specs.Steps.{seen}
use Rattle.mk_core_laws.specs.AnswerLaws.{IsSettled}
use Rattle.mk_core_repair.specs.declared.outcome.Repair.{Repair}
use Rattle.mk_core_repair.specs.Outcome.{Outcome, unmended, untried, refused_lines, tried, outcome_of}
use Rattle.mk_core_repair.specs.RepairAnswer.{AnswersRepair}

-- The outcome isn't that a read failed with the lines that were tried last.
abbrev pub IsReadThrough : Outcome → Type 0
IsReadThrough (unmended found (tried lines after stop)) = IsSettled after
IsReadThrough (unmended found (untried why (refused_lines lines fault))) =
    IsSettled {A = List Finding} (Err fault)
IsReadThrough outcome = Unit {0}

-- The answer is neither out of memory nor a failed read, also with the lines that were tried last.
abbrev pub IsSettledRepair : Result Repair Fault → Type 0
IsSettledRepair (Ok repair) = IsReadThrough (outcome_of repair)
IsSettledRepair (Err fault) = IsSettled {A = Repair} (Err fault)

-- A request for `repair`, over files with the same contents, has at most one answer, except for out
-- of memory and failed reads.
abbrev pub RepairIsOne : Type 0
RepairIsOne =
    (files : Told) (request : Request) (one other : Result Repair Fault) → IsSettledRepair one →
    IsSettledRepair other → AnswersRepair files request one → AnswersRepair files request other →
    seen outcome_of one ≡ seen outcome_of other
