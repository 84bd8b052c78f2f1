-- The steps that make some goals with one job, one recipe after another.
use Rattle.std.specs.Prelude.{◌≡◌, ℕ, List, [], ◌∷◌, ◌++◌, map, true, false, Some}
use Rattle.mk_graph.specs.Graph.{Graph, node}
use Rattle.mk_build.specs.Setting.{FileName, Setting, reads, writes}
use Rattle.mk_build.specs.World.{Outcome, outcome}
use Rattle.mk_build.specs.Steps.{Step, Make, Begin, Look, Put, End, Pass, EndMake}
use Rattle.mk_build.specs.Clean.{Contents, put_all}

-- The recipe writes these contents into these files in order.
abbrev pub puts : ℕ → List FileName → List ℕ → List Step
puts t (f ∷ files) (c ∷ cs) = Put t f c ∷ puts t files cs
puts t files cs = []

-- The steps of a whole run after its begin: read each file, write these contents, and end.
abbrev pub rest_of_run : Graph → Setting → ℕ → List ℕ → List Step
rest_of_run g s t cs = map (λ f. Look t f) (reads g s t) ++ (puts t (writes g s t) cs ++ End t ∷ [])

-- The steps of a whole run of a recipe that writes these contents.
abbrev pub whole_run : Graph → Setting → ℕ → List ℕ → List Step
whole_run g s t cs = Begin t ∷ rest_of_run g s t cs

-- A make of these goals with one job that takes these steps and ends.
abbrev pub one_make : (goals : List ℕ) → List Step → List Step
one_make goals steps = Make 1 goals ∷ (steps ++ EndMake ∷ [])

-- The steps run each recipe of these nodes whole, with its outcome for the contents at that point,
-- and pass the other nodes; they lead from the first contents to the last.
pub data RunsSerially (g : Graph) (s : Setting) (outcomes : List Outcome) : Contents → List ℕ →
    List Step → Contents → Type 0 where
  ends : {at : Contents} → RunsSerially g s outcomes at [] [] at
  passes : {at end : Contents} {n : ℕ} {ns : List ℕ} {steps : List Step} →
      (node g n).recipe ≡ false → RunsSerially g s outcomes at ns steps end →
      RunsSerially g s outcomes at (n ∷ ns) (Pass n ∷ steps) end
  runs : {at end : Contents} {t : ℕ} {ns : List ℕ} {steps : List Step} (cs : List ℕ)
      (new : Contents) → (node g t).recipe ≡ true →
      outcome outcomes t (map at (reads g s t)) ≡ Some cs →
      put_all at (writes g s t) cs ≡ Some new → RunsSerially g s outcomes new ns steps end →
      RunsSerially g s outcomes at (t ∷ ns) (whole_run g s t cs ++ steps) end
