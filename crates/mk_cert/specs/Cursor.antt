-- A read, found by the names of its recipe and its file.
use Rattle.std.specs.Prelude.{◌≡◌, ℕ, List}
use Rattle.mk_graph.specs.Membership.{Has}
use Rattle.mk_subject.specs.Subject.{IsRecipe, Subject, name_of, reads_of}
use Rattle.mk_subject.specs.Target.{Target, target_of}

-- The node t is the recipe with this name, it reads the file with this name, and `target` is that
-- file with all that is known about it.
pub record IsReadOf (x : Subject) (recipe file : List ℕ) (t : ℕ) (target : Target) : Type 0 where
  pub is_recipe : IsRecipe x t
  pub named : name_of x t ≡ recipe
  pub reads : Has (reads_of x t) file
  pub known : target ≡ target_of x file
