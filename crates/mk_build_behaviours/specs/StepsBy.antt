-- The steps of builds whose recipes behave as trees.
use Rattle.std.specs.Prelude.{◌≡◌, ℕ, List, [], ◌∷◌, None, fold}
use Rattle.std.specs.Option.{option_flatten}
use Rattle.mk_graph.specs.Membership.{Has}
use Rattle.mk_graph.specs.Graph.{Graph}
use Rattle.mk_build.specs.Setting.{FileName, Setting}
use Rattle.mk_build.specs.World.{Making, World, Busy, content}
use Rattle.mk_build.specs.Steps.{Step, Look, End, Allowed, after, finished, put_by, HasPutAll}
use Rattle.mk_build.specs.Clean.{Contents}
use Rattle.mk_build_behaviours.specs.Behaviours.{Behaviours, behaviour, path, result}

-- What a running recipe saw in each file when it last looked at it; nothing if it didn't look.
abbrev pub saw_in : Making → ℕ → Contents
saw_in m t f = option_flatten (m.seen t f)

-- The recipe runs and may end: it has looked at each file of its path and written all its files,
-- and what it wrote is the result of what it saw.
pub record MayEndBy (g : Graph) (s : Setting) (b : Behaviours) (m : Making) (t : ℕ) : Type 0 where
  pub runs : Has m.running t
  pub seen : (f : FileName) → Has (path (behaviour g b t) (saw_in m t)) f → ¬ (m.seen t f ≡ None)
  pub put : HasPutAll g s m t
  pub agrees : put_by g s m t ≡ result (behaviour g b t) (saw_in m t)

-- The step is allowed in the world. A running recipe may look at any file; what counts is what it
-- saw along its path.
abbrev pub AllowedBy : Graph → Setting → Behaviours → World → Step → Type 0
AllowedBy g s b (Busy m d) (Look t f) = Has m.running t
AllowedBy g s b (Busy m d) (End t) = MayEndBy g s b m t
AllowedBy g s b world other = Allowed g s world other

-- The world after an allowed step. No outcome is noted: the behaviours say what recipes write.
abbrev pub after_by : Graph → Setting → World → Step → World
after_by g s (Busy m d) (End t) = Busy (finished m t) d
after_by g s world other = after g s world other

-- The steps are a trace: each is allowed in the world that those before it leave.
abbrev pub IsLegalBy : Graph → Setting → Behaviours → World → List Step → Type 0
IsLegalBy g s b world [] = Unit {0}
IsLegalBy g s b world (step ∷ steps) =
    AllowedBy g s b world step × IsLegalBy g s b (after_by g s world step) steps

-- The world after these steps.
abbrev pub after_all_by : Graph → Setting → World → List Step → World
after_all_by g s world steps = fold (after_by g s) world steps

-- If the step is the end of a recipe, each file of the recipe's path still contains what it saw.
abbrev pub IsUndisturbed : Graph → Setting → Behaviours → World → Step → Type 0
IsUndisturbed g s b (Busy m d) (End t) =
    (f : FileName) → Has (path (behaviour g b t) (saw_in m t)) f → content d f ≡ saw_in m t f
IsUndisturbed g s b world other = Unit {0}

-- No file that a recipe reads changes before the end of its run.
abbrev pub AreUndisturbed : Graph → Setting → Behaviours → World → List Step → Type 0
AreUndisturbed g s b world [] = Unit {0}
AreUndisturbed g s b world (step ∷ steps) =
    IsUndisturbed g s b world step × AreUndisturbed g s b (after_by g s world step) steps
