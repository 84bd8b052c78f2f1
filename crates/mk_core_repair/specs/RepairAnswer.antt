-- The answer of the command `repair`.
use Rattle.std.specs.Prelude.{◌≡◌, ◌⊎◌, ℕ, List, [], ◌∷◌, Option, None, Some, Result, Ok, Err}
use Rattle.std.specs.String.{string_bytes}
use Rattle.mk_subject.specs.Subject.{footprints}
use Rattle.mk_graph.specs.Graph.{Graph, IsGraph}
use Rattle.mk_build.specs.Right.{AreSound, HaveNoRace}
use Rattle.mk_build_needs.specs.Extending.{Extends}
use Rattle.mk_infer.specs.Selection.{Selects}
use Rattle.mk_foot.specs.Names.{Has}
use Rattle.mk_read.specs.Files.{Told}
use Rattle.mk_core_text.specs.declared.fault.Fault.{Fault}
use Rattle.mk_core_text.specs.declared.fault.Fault.TheVariants.{FileReadFailed}
use Rattle.mk_core_text.specs.declared.verdict.Verdict.{Verdict}
use Rattle.mk_core_text.specs.declared.verdict.Verdict.TheVariants.{Yes, No}
use Rattle.mk_core.specs.declared.request.Request.{Request}
use Rattle.mk_core.specs.Answer.{Answers}
use Rattle.mk_core.specs.CheckAnswer.{AnswersCheck, IsYes}
use Rattle.mk_core.specs.Judging.{AnswersJudged, recorded}
use Rattle.mk_core.specs.Ready.{Ready, ready_for}
use Rattle.mk_core.specs.Right.{IsRightFor}
use Rattle.mk_repair.specs.Word.{Word}
use Rattle.mk_repair.specs.declared.obstacle.Obstacle.{Obstacle}
use Rattle.mk_core_repair.specs.declared.outcome.Repair.{Repair}
use Rattle.mk_core_repair.specs.declared.outcome.Repair.TheVariants as repairs
use Rattle.mk_core_repair.specs.declared.outcome.Why.TheVariants as whys
use Rattle.mk_core_repair.specs.declared.surveying.First.{First}
use Rattle.mk_core_repair.specs.Amending.{amended, names_known}
use Rattle.mk_core_repair.specs.Outcome.{Outcome, right, unmended, too_long, cycle, outcome_of}
use Rattle.mk_core_repair.specs.RepairText.{outcome_part}
use Rattle.mk_core_repair.specs.Rounds.{Rounds, max_rounds}
use Rattle.mk_core_repair.specs.Survey.{GivesFirst}
use Rattle.mk_core_repair.specs.Trial.{Trial, with_part}

-- The first judgement gives this survey.
abbrev pub IsFirstOf : Told → Request → First → Type 0
IsFirstOf files request first = Answers files request (AnswersJudged GivesFirst) (Ok first)

-- The file is one of those that are read again after the first judgement.
abbrev pub IsReadAgain : Told → Request → List ℕ → Type 0
IsReadAgain files request name =
    (first : First) × IsFirstOf files request first ×
    Has (names_known files request first.survey.files) name

-- What follows the judgement of the makefile as it is, over the files with these names. A yes is
-- the outcome. Where one of the findings gives no word, the lines of the others are tried once.
-- Where what the nodes need has a cycle, the findings are the outcome. Else the rounds begin with
-- the words of the findings.
abbrev pub AfterFirst : List (List ℕ) → Told → Request → Verdict → Option (List Word) →
    Option (List (List ℕ)) → Obstacle → Outcome → Type 0
AfterFirst names files request (Yes certificate recipes reads) words path o outcome =
    outcome ≡ right
AfterFirst names files request (No found) None path o outcome =
    Trial names files request (with_part found (string_bytes o.why)) (string_bytes o.lines) outcome
AfterFirst names files request (No found) (Some words) (Some path) o outcome =
    outcome ≡ unmended found (cycle path)
AfterFirst names files request (No found) (Some words) None o outcome =
    Rounds max_rounds names files request found words too_long outcome

-- The answers to a request when the files have these contents: the outcome by the rule. A fault is
-- that of `check`, or `FileReadFailed` where a file of the first judgement can't be read again. Out
-- of memory is always allowed.
abbrev pub AnswersRepair : Told → Request → Result Repair Fault → Type 0
AnswersRepair files request (Ok repair) =
    (first : First) × IsFirstOf files request first ×
    AfterFirst (names_known files request first.survey.files) files request first.survey.verdict
    first.survey.words first.cycle first.obstacle (outcome_of repair)
AnswersRepair files request (Err (FileReadFailed name)) =
    Answers files request AnswersCheck (Err (FileReadFailed name)) ⊎
    IsReadAgain files request name
AnswersRepair files request (Err fault) = Answers files request AnswersCheck (Err fault)

-- `check` says yes to the request over these files, and the build is right.
pub record IsAccepted (files : Told) (request : Request) : Type 0 where
  pub verdict : Verdict
  pub is_checked : Answers files request AnswersCheck (Ok verdict)
  pub is_yes : IsYes (Ok verdict)
  pub is_right : IsRightFor files request

-- The text mends the makefile: with the text appended the build is accepted. The empty text says
-- that it is accepted as it is.
abbrev pub Mends : Told → Request → List ℕ → Type 0
Mends files request [] = IsAccepted files request
Mends files request (first ∷ rest) = IsAccepted (amended files request (first ∷ rest)) request

-- Where the makefile is right, or lines mend it, the text that is printed mends it.
abbrev pub Suffices : Told → Request → Result Repair Fault → Type 0
Suffices files request (Ok repairs.Right) = Mends files request []
Suffices files request (Ok (repairs.Mended text)) = Mends files request text.items
Suffices files request answer = Unit {0}

-- The text is empty, or `check` has a verdict on the makefile with it at its end, so that it isn't
-- refused.
abbrev pub IsTaken : Told → Request → List ℕ → Type 0
IsTaken files request [] = Unit {0}
IsTaken files request (first ∷ rest) =
    (verdict : Verdict) ×
    Answers (amended files request (first ∷ rest)) request AnswersCheck (Ok verdict)

-- What is printed with `--part` is taken.
abbrev pub TakesPart : Told → Request → Result Repair Fault → Type 0
TakesPart files request (Ok repair) = IsTaken files request (outcome_part (outcome_of repair))
TakesPart files request (Err fault) = Unit {0}

-- The files and the request give a makefile, goals and footprints, and these give a graph. No graph
-- that has all nodes, recipes and prerequisites of this one, whatever else it has and whatever is
-- phony, has sound footprints and no race.
pub record CannotBeMended (files : Told) (request : Request) : Type 0 where
  pub ready : Ready
  pub graph : Graph
  pub is_ready : ready_for files None request ≡ Ok ready
  pub is_selected : Selects ready.makefile (recorded ready) ready.goals (Ok graph)
  pub is_graph : IsGraph graph
  pub no_mending : (other : Graph) → IsGraph other → Extends graph other →
      AreSound other (footprints ready.setting) → ¬ (HaveNoRace other (footprints ready.setting))

-- A cycle is the answer.
abbrev pub IsCycle : Result Repair Fault → Type 0
IsCycle (Ok (repairs.Unmended found (whys.Cycle names))) = Unit {0}
IsCycle answer = ⊥
