-- Laws of the plans that show findings, over the makefile, the footprints and the graph.
use Rattle.std.specs.Prelude.{◌≡◌, ℕ, ◌≤◌, Bool, true, List, [], length, Option, Ok, ◌⊎◌}
use Rattle.mk_lines.specs.Paths.{is_plain_path}
use Rattle.mk_read.specs.Reading.{Reader}
use Rattle.mk_read.specs.Reading as reading
use Rattle.mk_foot.specs.Book.{Book, no_book}
use Rattle.mk_foot.specs.Reading.{book_from}
use Rattle.mk_graph.specs.Graph.{IsGraph}
use Rattle.mk_build.specs.Setting.{FileName}
use Rattle.mk_build.specs.World.{IsOfWorld}
use Rattle.mk_infer.specs.Goals.{goal_names}
use Rattle.mk_infer.specs.Selection.{Selects}
use Rattle.mk_subject.specs.Subject.{Subject, footprints}
use Rattle.mk_find.specs.declared.finding.Finding.{Finding}
use Rattle.mk_world.specs.NamedStep.{Step}
use Rattle.mk_world.specs.Running.{stage_of}
use Rattle.mk_world.specs.State.{State, world_of}
use Rattle.mk_world.specs.Steps.{IsFirstOf}
use Rattle.mk_world.specs.declared.plan.PlanLine.{PlanLine}
use Rattle.mk_world_plan.specs.PlanLaws.{EachRunIsAsWritten, HasARun}
use Rattle.mk_world_plan.specs.PlanReading.{lines_of, max_lines, plan_of}
use Rattle.mk_world_plan.specs.PlanText.{plan_text}
use Rattle.mk_find_evidence.specs.Numbers.{HaveSmallNumbers}
use Rattle.mk_find_evidence.specs.Shown.{Shows}

-- The book was read from a footprint file for these goals, or there is no footprint file.
abbrev pub IsBookFor : List (List ℕ) → Book → Type 0
IsBookFor goals book = (book ≡ no_book) ⊎ ((bytes : List ℕ) × (book_from goals bytes ≡ Ok book))

-- The subject was read: its makefile was read without a fault, its goals are those of the makefile
-- for some words, its records and sources are those of a footprint file, and its graph was selected
-- for these goals when exactly the sources, the makefile's texts and what is under fixed prefixes
-- exist.
pub record WasRead (x : Subject) : Type 0 where
  pub reader : Reader
  pub file : Option (List ℕ)
  pub defaults : Bool
  pub operands : List (List ℕ)
  pub is_read : reading.makefile reader file defaults operands ≡ Ok x.makefile
  pub words : List (List ℕ)
  pub goals : List (List ℕ)
  pub are_goals : goal_names x.makefile words ≡ Ok goals
  pub book : Book
  pub is_book : IsBookFor goals book
  pub records : x.setting.records ≡ book.records
  pub sources : x.setting.sources ≡ book.sources
  pub present : x.there.sources ≡ book.sources
  pub texts : x.there.texts ≡ x.makefile.texts
  pub nothing_more : x.there.more ≡ []
  pub selected : Selects x.makefile x.there goals (Ok x.graph)

-- All names in the world of a subject that was read are plain paths: those of nodes and sources,
-- and those of files that recipes read or write.
abbrev pub NamesOfSubjectArePlain : Type 0
NamesOfSubjectArePlain =
    (x : Subject) → WasRead x → (f : FileName) → IsOfWorld x.graph (footprints x.setting) f →
    is_plain_path f ≡ true

-- The text of the steps is read as a plan. In this world the plan has a run that isn't refused, and
-- each of its runs takes these steps, except for passes of nodes without recipe, which a run takes
-- by itself.
pub record RunsAsPlan (x : Subject) (w : State) (steps : List Step) : Type 0 where
  pub lines : List PlanLine
  pub is_read : plan_of (plan_text x.graph steps) ≡ Ok lines
  pub to_its_end : HasARun (stage_of w) (world_of w) lines
  pub as_written : EachRunIsAsWritten (stage_of w) (world_of w) steps lines

-- Steps that show a finding of a subject that was read, written as a text of at most 65,536 lines,
-- run as a plan in the first world.
abbrev pub ShownStepsRun : Type 0
ShownStepsRun =
    (x : Subject) (finding : Finding) (steps : List Step) → IsGraph x.graph → WasRead x →
    Shows x finding steps → HaveSmallNumbers steps →
    length (lines_of (plan_text x.graph steps)) ≤ max_lines →
    (first : State) → IsFirstOf x.graph x.setting first → RunsAsPlan x first steps
