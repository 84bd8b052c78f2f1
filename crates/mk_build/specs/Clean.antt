-- Clean builds: what files contain after all recipes that some goals reach are run from given files
-- alone.
use Rattle.std.specs.Prelude.{◌≡◌, ℕ, List, [], ◌∷◌, Option, Some, None, option_and_then, map, fold, if◌then◌else◌}
use Rattle.mk_graph.specs.Membership.{Has}
use Rattle.mk_graph.specs.Graph.{Graph, node, Reached}
use Rattle.mk_graph.specs.Serial.{order_from}
use Rattle.mk_build.specs.Setting.{FileName, Setting, is_given, reads, writes}
use Rattle.mk_build.specs.World.{Disk, Outcome, content, changed, outcome}

-- The content of each file, or nothing if the file is absent.
abbrev pub Contents : Type 0
Contents = FileName → Option ℕ

-- The contents of the given files on a disk; all other files are absent.
abbrev pub given_contents : Setting → Disk → Contents
given_contents s d f = if is_given s f then content d f else None

-- The contents after these values are written into these files in order, or nothing if their
-- numbers differ.
abbrev pub put_all : Contents → List FileName → List ℕ → Option Contents
put_all at [] [] = Some at
put_all at (f ∷ files) (c ∷ cs) = put_all (changed at f (Some c)) files cs
put_all at files cs = None

-- The contents after a recipe is run whole, or nothing if its outcome isn't known.
abbrev pub run_clean : Graph → Setting → List Outcome → Contents → ℕ → Option Contents
run_clean g s outcomes at t =
    option_and_then (put_all at (writes g s t)) (outcome outcomes t (map at (reads g s t)))

-- The contents after a node is made: its recipe is run, if it has one.
abbrev pub make_clean : Graph → Setting → List Outcome → Contents → ℕ → Option Contents
make_clean g s outcomes at n = if (node g n).recipe then run_clean g s outcomes at n else Some at

-- The contents after these nodes are made in order.
abbrev pub make_all_clean : Graph → Setting → List Outcome → Option Contents → List ℕ →
    Option Contents
make_all_clean g s outcomes =
    fold (λ at n. option_and_then (λ (before : Contents). make_clean g s outcomes before n) at)

-- The contents after a clean build of these goals from these contents, or nothing if an outcome
-- that it needs isn't known.
abbrev pub clean_build : Graph → Setting → List Outcome → Contents → (goals : List ℕ) →
    Option Contents
clean_build g s outcomes at goals = make_all_clean g s outcomes (Some at) (order_from g goals)

-- These goals reach the node.
abbrev pub ReachedFrom : Graph → (goals : List ℕ) → ℕ → Type 0
ReachedFrom g goals n = Reached (record g { goals = goals }) n

-- Each file written by a recipe that the goals reach is on the disk with the content that a clean
-- build of the goals gives, from the present contents of the given files and the known outcomes.
pub record IsBuilt (g : Graph) (s : Setting) (d : Disk) (goals : List ℕ) : Type 0 where
  pub clean : Contents
  pub has_value : clean_build g s d.known (given_contents s d) goals ≡ Some clean
  pub holds : (t : ℕ) (f : FileName) → ReachedFrom g goals t → Has (writes g s t) f → (c : ℕ) ×
      (clean f ≡ Some c) × (content d f ≡ Some c)

-- The recipe is fresh: what it writes contains the known outcome of what its reads contain.
pub record IsFresh (g : Graph) (s : Setting) (d : Disk) (t : ℕ) : Type 0 where
  pub written : List ℕ
  pub known : outcome d.known t (map (content d) (reads g s t)) ≡ Some written
  pub holds : map (content d) (writes g s t) ≡ map (λ c. Some c) written
