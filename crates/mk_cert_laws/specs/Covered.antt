-- What an accepted certificate covers of a recipe.
use Rattle.std.specs.Prelude.{◌≡◌, ℕ, false, List, Some, Result, Ok}
use Rattle.mk_graph.specs.Graph.{node}
use Rattle.mk_graph.specs.Membership.{Has, IsWithin}
use Rattle.mk_foot.specs.Book.{Record}
use Rattle.mk_infer.specs.Commands.{Commands, commands}
use Rattle.mk_infer.specs.Laws.{with_more}
use Rattle.mk_infer.specs.declared.fault.InferFault.{InferFault}
use Rattle.mk_subject.specs.Subject.{all_writes, Subject, name_of, record_of, writes_of}

-- The commands that make would run for a node if these files existed too.
abbrev pub commands_with : Subject → List (List ℕ) → ℕ → Result Commands InferFault
commands_with x files t = commands x.makefile (with_more x.there files) (name_of x t)

-- The recipe has a record. Whatever part of the files that recipes write exists, make would run
-- just the commands of this record, and they don't vary from make to make. The recipe writes its
-- target, unless that is phony.
pub record IsCovered (x : Subject) (t : ℕ) : Type 0 where
  pub recorded : Record
  pub has_record : record_of x t ≡ Some recorded
  pub runs_recorded : (part : List (List ℕ)) → IsWithin part (all_writes x) →
      commands_with x part t ≡ Ok (record { lines = recorded.commands; varying = false })
  pub writes_target : (node x.graph t).phony ≡ false → Has (writes_of x t) (name_of x t)
