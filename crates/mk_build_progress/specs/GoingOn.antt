-- How every history can go on: by an edit, and by a make.
use Rattle.std.specs.Prelude.{◌≡◌, ℕ, List, [], ◌∷◌, ◌++◌, Bool, true, false, ◌⊎◌}
use Rattle.mk_graph.specs.Graph.{Graph, node, HasNoCycle}
use Rattle.mk_graph.specs.Schedules.{IsPart}
use Rattle.mk_graph.specs.Serial.{order_from}
use Rattle.mk_build.specs.Setting.{FileName, Setting, is_editable, writings}
use Rattle.mk_build.specs.World.{Disk, World, Idle, Busy, IsStartDisk, HasStampsFor, written, disk_of}
use Rattle.mk_build.specs.Steps.{Step, Edit, Pass, MustRun, make_of, after, after_all, IsLegal}
use Rattle.mk_build.specs.SerialMake.{whole_run, one_make}
use Rattle.mk_build.specs.NodeByNode.{to_put}

-- The steps make these nodes in order from this world. Nodes without a recipe are passed, and so
-- are the spared recipes that need not run then; the other recipes run whole.
pub data MakesInTurn (g : Graph) (s : Setting) (spared : ℕ → Bool) : World → List ℕ → List Step →
    Type 0 where
  ends : {w : World} → MakesInTurn g s spared w [] []
  passes : {w : World} {n : ℕ} {ns : List ℕ} {steps : List Step} → (node g n).recipe ≡ false →
      MakesInTurn g s spared (after g s w (Pass n)) ns steps →
      MakesInTurn g s spared w (n ∷ ns) (Pass n ∷ steps)
  spares : {w : World} {t : ℕ} {ns : List ℕ} {steps : List Step} → (node g t).recipe ≡ true →
      spared t ≡ true → ¬ (MustRun g (disk_of w) t) →
      MakesInTurn g s spared (after g s w (Pass t)) ns steps →
      MakesInTurn g s spared w (t ∷ ns) (Pass t ∷ steps)
  runs : {w : World} {t : ℕ} {ns : List ℕ} {steps : List Step} → (node g t).recipe ≡ true →
      (spared t ≡ false) ⊎ MustRun g (disk_of w) t →
      MakesInTurn g s spared (after_all g s w (whole_run g s t (to_put g s (disk_of w) t))) ns steps
      → MakesInTurn g s spared w (t ∷ ns) (whole_run g s t (to_put g s (disk_of w) t) ++ steps)

-- After a trace that leaves no make in progress, each editable file may be edited to any content,
-- if there is a stamp left.
abbrev pub EditsCanFollow : Type 0
EditsCanFollow =
    (g : Graph) (s : Setting) (d now : Disk) (steps : List Step) → IsLegal g s (Idle d) steps →
    after_all g s (Idle d) steps ≡ Idle now →
    (f : FileName) (c : ℕ) → is_editable s f ≡ true → HasStampsFor now 1 →
    IsLegal g s (Idle d) (steps ++ Edit f c ∷ []) ×
    (after_all g s (Idle d) (steps ++ Edit f c ∷ []) ≡ Idle (written now f c))

-- After a trace from a start disk that leaves no make in progress, each part of the goals can be
-- made with one job, whichever recipes are to be spared, if there are enough stamps.
abbrev pub MakesCanFollow : Type 0
MakesCanFollow =
    (g : Graph) (s : Setting) (d now : Disk) (steps : List Step) → HasNoCycle g →
    IsStartDisk s d → IsLegal g s (Idle d) steps → after_all g s (Idle d) steps ≡ Idle now →
    (goals : List ℕ) (spared : ℕ → Bool) → IsPart goals g.goals →
    HasStampsFor now (writings g s (order_from g goals)) →
    (more : List Step) ×
    MakesInTurn g s spared (Busy (make_of 1 goals) now) (order_from g goals) more ×
    IsLegal g s (Idle d) (steps ++ one_make goals more)
