-- Two recipes that run at the same time.
use Rattle.std.specs.Prelude.{ℕ, List, [], ◌∷◌, ◌++◌}
use Rattle.mk_graph.specs.Graph.{Graph}
use Rattle.mk_build.specs.Setting.{Setting}
use Rattle.mk_build.specs.Steps.{Step, Begin, Make}
use Rattle.mk_build.specs.SerialMake.{rest_of_run}

-- The third list is an interleaving of the first two: it has exactly their elements and keeps the
-- order of each.
pub data Interleaves {A : Type 0} : List A → List A → List A → Type 0 where
  nothing : Interleaves [] [] []
  from_first : {x : A} {xs ys zs : List A} → Interleaves xs ys zs → Interleaves (x ∷ xs) ys (x ∷ zs)
  from_second : {y : A} {xs ys zs : List A} → Interleaves xs ys zs →
      Interleaves xs (y ∷ ys) (y ∷ zs)

-- Both recipes begin.
abbrev pub begin_both : (a b : ℕ) → List Step
begin_both a b = Begin a ∷ Begin b ∷ []

-- The steps after both recipes began: any interleaving of the rest of their whole runs, which write
-- these contents.
abbrev pub RunTogether : Graph → Setting → (a : ℕ) → List ℕ → (b : ℕ) → List ℕ → List Step → Type 0
RunTogether g s a puts_a b puts_b between =
    Interleaves (rest_of_run g s a puts_a) (rest_of_run g s b puts_b) between

-- A make of these goals that takes the steps `before`, begins both recipes, and takes the steps
-- `between`.
abbrev pub overlapping : (jobs : ℕ) (goals : List ℕ) (before : List Step) (a b : ℕ)
    (between : List Step) → List Step
overlapping jobs goals before a b between =
    Make jobs goals ∷ (before ++ (begin_both a b ++ between))
