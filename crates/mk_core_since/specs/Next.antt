-- What `since` promises where it names files.
use Rattle.std.specs.Prelude.{◌≡◌, ℕ, Bool, List, None, Result, Ok}
use Rattle.mk_graph.specs.Graph.{Graph, IsGraph}
use Rattle.mk_build.specs.Setting.{FileName}
use Rattle.mk_build.specs.World.{Disk, Idle}
use Rattle.mk_build.specs.Steps.{Step}
use Rattle.mk_build_behaviours.specs.Behaviours.{Behaviours}
use Rattle.mk_build_behaviours.specs.BehaviourLaws.{StayPresent}
use Rattle.mk_build_behaviours.specs.CleanBy.{IsRightBy, ArePresent}
use Rattle.mk_build_behaviours.specs.CoherentBy.{IsCoherentBy}
use Rattle.mk_build_behaviours.specs.StepsBy.{IsLegalBy, after_all_by}
use Rattle.mk_build_behaviours.specs.Trusting.{IsCoherentTrusting}
use Rattle.mk_build_since.specs.Alike.{BehaveAlike}
use Rattle.mk_build_since.specs.Named.{all_rules}
use Rattle.mk_build_since.specs.Next.{IsFinished, IsNext, IsNextTrusting}
use Rattle.mk_infer.specs.Selection.{Selects}
use Rattle.mk_read.specs.Files.{Told}
use Rattle.mk_subject.specs.Subject.{Subject, IsSubject, footprints}
use Rattle.mk_since.specs.Doubts.{AreDoubted, HasNoStatic, trust_without}
use Rattle.mk_since.specs.Named.{AreNamed, AreNamedBy, AreNamedWithout, build_of}
use Rattle.mk_since.specs.Past.{past_of}
use Rattle.mk_core_text.specs.declared.fault.Fault.{Fault}
use Rattle.mk_core.specs.declared.request.Request.{Request}
use Rattle.mk_core.specs.Judging.{recorded, subject_over}
use Rattle.mk_core.specs.Ready.{Ready, ready_for}
use Rattle.mk_core_since.specs.Before.{before}
use Rattle.mk_core_since.specs.declared.outcome.Since.{Since}
use Rattle.mk_core_since.specs.declared.outcome.Since.TheVariants.{Named}
use Rattle.mk_core_since.specs.OldAnswer.{HasYes}
use Rattle.mk_core_since.specs.SinceAnswer.{AnswersSince}

-- Take recipes of both builds that behave alike where targets and commands are the same, and a
-- finished make of all goals of the old build x, with present footprints, from a coherent disk; then
-- any edits, new and deleted sources, and the removal of the files to remove. Each trace of the new
-- build y from there is right in which the footprints are present whenever a make begins.
abbrev pub MakesAreRight : Subject → Subject → Type 0
MakesAreRight x y =
    (b c : Behaviours) → BehaveAlike (build_of x b) (build_of y c) → (first earlier now : Disk) →
    IsCoherentBy x.graph (footprints x.setting) b first →
    ArePresent x.graph (footprints x.setting) b first →
    IsFinished (build_of x b) first earlier →
    IsNext all_rules (build_of x b) (build_of y c) earlier now → (steps : List Step) →
    IsLegalBy y.graph (footprints y.setting) c (Idle now) steps →
    StayPresent y.graph (footprints y.setting) c (Idle now) steps →
    IsRightBy y.graph (footprints y.setting) c
    (after_all_by y.graph (footprints y.setting) (Idle now) steps)

-- The same where all recipes of the old build are trusted but for those with these targets, and its
-- disk is coherent as far as they are.
abbrev pub MakesAreRightWithout : List FileName → Subject → Subject → Type 0
MakesAreRightWithout doubted x y =
    (b c : Behaviours) → BehaveAlike (build_of x b) (build_of y c) → (first earlier now : Disk) →
    IsCoherentTrusting x.graph (footprints x.setting) b (trust_without doubted) first →
    ArePresent x.graph (footprints x.setting) b first →
    IsFinished (build_of x b) first earlier →
    IsNextTrusting (trust_without doubted) (build_of x b) (build_of y c) earlier now →
    (steps : List Step) → IsLegalBy y.graph (footprints y.setting) c (Idle now) steps →
    StayPresent y.graph (footprints y.setting) c (Idle now) steps →
    IsRightBy y.graph (footprints y.setting) c
    (after_all_by y.graph (footprints y.setting) (Idle now) steps)

-- If `check` says yes of both builds, what is named are the files to remove, and after that makes
-- are right.
abbrev pub NamedIsRight : Type 0
NamedIsRight =
    (x y : Subject) → IsGraph x.graph → IsSubject x → HasYes x → IsGraph y.graph → IsSubject y →
    HasYes y → (doubted names : List FileName) → AreDoubted x doubted →
    AreNamedBy (past_of doubted x) y names → AreNamed x y names × MakesAreRight x y

-- If all findings of the old build are races and stale reads, the same holds without its doubted
-- recipes.
abbrev pub NamedIsRightWithout : Type 0
NamedIsRightWithout =
    (x y : Subject) → IsGraph x.graph → IsSubject x → HasNoStatic x → IsGraph y.graph →
    IsSubject y → HasYes y → (doubted names : List FileName) → AreDoubted x doubted →
    AreNamedBy (past_of doubted x) y names →
    AreNamedWithout doubted x y names × MakesAreRightWithout doubted x y

-- The contents of the old build's folder, the files and the request give two builds; these are the
-- targets of the doubted recipes of the first. The names are the files to remove from it before
-- makes of the second, and after that these are right. If `check` says yes of the first too, the
-- names are those of the rules, and makes are right after any coherent disk.
pub record IsNextFor (was files : Told) (request : Request) (names : List FileName) : Type 0 where
  pub old_request : Request
  pub old_ready : Ready
  pub old_graph : Graph
  pub ready : Ready
  pub graph : Graph
  pub doubted : List FileName
  pub is_old : before was request ≡ Ok old_request
  pub is_old_ready : ready_for was None old_request ≡ Ok old_ready
  pub is_old_selected : Selects old_ready.makefile (recorded old_ready) old_ready.goals (Ok old_graph)
  pub is_ready : ready_for files None request ≡ Ok ready
  pub is_selected : Selects ready.makefile (recorded ready) ready.goals (Ok graph)
  pub are_doubted : AreDoubted (subject_over old_ready old_graph) doubted
  pub are_named : AreNamedWithout doubted (subject_over old_ready old_graph)
      (subject_over ready graph) names
  pub are_right : MakesAreRightWithout doubted (subject_over old_ready old_graph)
      (subject_over ready graph)
  pub after_yes : HasYes (subject_over old_ready old_graph) →
      AreNamed (subject_over old_ready old_graph) (subject_over ready graph) names ×
      MakesAreRight (subject_over old_ready old_graph) (subject_over ready graph)

-- The claim holds of the named files, if files are named.
abbrev pub IfNamed : Result Since Fault → (List FileName → Type 0) → Type 0
IfNamed (Ok (Named names)) claim = claim names
IfNamed answer claim = Unit {0}

-- If `since` names files, `IsNextFor` holds of them.
abbrev pub SinceIsNext : Type 0
SinceIsNext =
    (words : Bool) (was files : Told) (folder : List ℕ) (request : Request)
    (answer : Result Since Fault) → AnswersSince words was files folder request answer →
    IfNamed answer (IsNextFor was files request)
