-- Clean builds by behaviours, and footprints that cover what recipes read in them.
use Rattle.std.specs.Prelude.{◌≡◌, ℕ, List, [], ◌∷◌, true, Option, Some, option_and_then, fold, if◌then◌else◌}
use Rattle.mk_graph.specs.Membership.{Has, IsWithin}
use Rattle.mk_graph.specs.Graph.{Graph, node}
use Rattle.mk_graph.specs.Serial.{order_from}
use Rattle.mk_build.specs.Setting.{FileName, Setting, reads, writes}
use Rattle.mk_build.specs.World.{Disk, World, Idle, Busy, content}
use Rattle.mk_build.specs.Steps.{EndMake, Allowed}
use Rattle.mk_build.specs.Clean.{Contents, given_contents, put_all, ReachedFrom}
use Rattle.mk_build_behaviours.specs.Behaviours.{Behaviours, behaviour, path, result}

-- The contents after a recipe ran whole, or nothing if it wrote too few or too many contents.
abbrev pub run_by : Graph → Setting → Behaviours → Contents → ℕ → Option Contents
run_by g s b at t = put_all at (writes g s t) (result (behaviour g b t) at)

-- The contents after a node is made: its recipe is run, if it has one.
abbrev pub make_by : Graph → Setting → Behaviours → Contents → ℕ → Option Contents
make_by g s b at n = if (node g n).recipe then run_by g s b at n else Some at

-- The contents after these nodes are made in order.
abbrev pub make_all_by : Graph → Setting → Behaviours → Option Contents → List ℕ → Option Contents
make_all_by g s b =
    fold (λ at n. option_and_then (λ (before : Contents). make_by g s b before n) at)

-- The contents after a clean build of these goals from these contents.
abbrev pub build_by : Graph → Setting → Behaviours → Contents → (goals : List ℕ) → Option Contents
build_by g s b at goals = make_all_by g s b (Some at) (order_from g goals)

-- Each file written by a recipe that the goals reach is on the disk with the content that a clean
-- build of the goals gives, from the present contents of the given files.
pub record IsBuiltBy (g : Graph) (s : Setting) (b : Behaviours) (d : Disk) (goals : List ℕ) :
    Type 0 where
  pub clean : Contents
  pub has_value : build_by g s b (given_contents s d) goals ≡ Some clean
  pub holds : (t : ℕ) (f : FileName) → ReachedFrom g goals t → Has (writes g s t) f → (c : ℕ) ×
      (clean f ≡ Some c) × (content d f ≡ Some c)

-- If the make in progress may end here, its goals are built.
abbrev pub IsRightBy : Graph → Setting → Behaviours → World → Type 0
IsRightBy g s b (Idle d) = Unit {0}
IsRightBy g s b (Busy m d) = Allowed g s (Busy m d) EndMake → IsBuiltBy g s b d m.goals

-- These nodes can be made in order from these contents, and each recipe among them then reads only
-- files of its footprint.
abbrev pub ReadWithin : Graph → Setting → Behaviours → Contents → List ℕ → Type 0
ReadWithin g s b at [] = Unit {0}
ReadWithin g s b at (n ∷ ns) =
    ((node g n).recipe ≡ true → IsWithin (path (behaviour g b n) at) (reads g s n)) ×
    ((next : Contents) × (make_by g s b at n ≡ Some next) × ReadWithin g s b next ns)

-- The footprints are present: in the clean build of all goals from the present contents of the
-- given files, each recipe reads only files of its footprint.
abbrev pub ArePresent : Graph → Setting → Behaviours → Disk → Type 0
ArePresent g s b d = ReadWithin g s b (given_contents s d) (order_from g g.goals)
