-- The conditions of the twelve findings, over nodes by number and files by name. Each comment
-- begins with the finding's number.
use Rattle.std.specs.Prelude.{◌≡◌, ℕ, List, true, false, Some, None, Ok, ◌⊎◌}
use Rattle.mk_lines.specs.Names.{has_name}
use Rattle.mk_foot.specs.Book.{Record}
use Rattle.mk_foot.specs.Setting.{is_given}
use Rattle.mk_graph.specs.Membership.{Has}
use Rattle.mk_graph.specs.Graph.{node, prerequisites}
use Rattle.mk_graph.specs.Schedules.{Before}
use Rattle.mk_build.specs.Ways.{Way, CanChange}
use Rattle.mk_infer.specs.Commands.{Commands}
use Rattle.mk_infer.specs.Inference.{choice}
use Rattle.mk_infer.specs.Laws.{with_more}
use Rattle.mk_subject.specs.Subject.{Subject, footprints, name_of, reads_of, writes_of, record_of, commands_of, IsRecipe, all_writes}

-- 1: the recipe t has no record.
abbrev pub HasNoRecord : Subject → ℕ → Type 0
HasNoRecord x t = IsRecipe x t × (record_of x t ≡ None)

-- 2: the commands of t don't vary, and its record has other commands.
abbrev pub HasOtherCommands : Subject → ℕ → Type 0
HasOtherCommands x t =
    IsRecipe x t ×
    (r : Record) × (record_of x t ≡ Some r) ×
    (c : Commands) × (commands_of x t ≡ Ok c) ×
    (c.varying ≡ false) × (¬ (r.commands ≡ c.lines))

-- 3: the commands of t vary from make to make, since they use `$?`.
abbrev pub HasVaryingCommands : Subject → ℕ → Type 0
HasVaryingCommands x t =
    IsRecipe x t × (c : Commands) × (commands_of x t ≡ Ok c) × (c.varying ≡ true)

-- 4: t has a record, isn't phony, and doesn't write its target.
abbrev pub LacksItsTarget : Subject → ℕ → Type 0
LacksItsTarget x t =
    IsRecipe x t ×
    ((r : Record) × (record_of x t ≡ Some r)) ×
    ((node x.graph t).phony ≡ false) ×
    (¬ (Has (writes_of x t) (name_of x t)))

-- 5: two recipes, o and t, write the file.
abbrev pub AreTwoWriters : Subject → (o t : ℕ) → List ℕ → Type 0
AreTwoWriters x o t f = (¬ (o ≡ t)) × Has (writes_of x o) f × Has (writes_of x t) f

-- 6: t writes a file that is given, listed by `.PHONY`, or passed over as missing when the makefile
-- was read.
abbrev pub WritesWhatIsGiven : Subject → ℕ → List ℕ → Type 0
WritesWhatIsGiven x t f =
    Has (writes_of x t) f ×
    ((is_given x.setting f ≡ true) ⊎
    ((has_name x.makefile.phony f ≡ true) ⊎ (has_name x.setting.passed_over f ≡ true)))

-- 7: t reads a file that it writes.
abbrev pub ReadsItsOwn : Subject → ℕ → List ℕ → Type 0
ReadsItsOwn x t f = Has (reads_of x t) f × Has (writes_of x t) f

-- 8: t reads a file that is neither given nor written by any recipe.
abbrev pub ReadsWhatIsUnknown : Subject → ℕ → List ℕ → Type 0
ReadsWhatIsUnknown x t f =
    Has (reads_of x t) f × (is_given x.setting f ≡ false) × ((o : ℕ) → ¬ (Has (writes_of x o) f))

-- 9: the node n has no recipe, o writes its file, and o isn't one of its direct prerequisites.
abbrev pub IsLoose : Subject → (n o : ℕ) → Type 0
IsLoose x n o =
    ((node x.graph n).recipe ≡ false) × Has (writes_of x o) (name_of x n) ×
    (¬ (Has (prerequisites x.graph n) o))

-- 10: t reads a file that another recipe o writes, and o doesn't happen before t.
abbrev pub RacesWith : Subject → (t o : ℕ) → List ℕ → Type 0
RacesWith x t o f =
    (¬ (o ≡ t)) × Has (reads_of x t) f × Has (writes_of x o) f × (¬ (Before x.graph o t))

-- 11: t reads a file that can change, and has no way to it.
abbrev pub IsStale : Subject → ℕ → List ℕ → Type 0
IsStale x t f =
    Has (reads_of x t) f × CanChange (footprints x.setting) f ×
    (¬ (Way x.graph (footprints x.setting) f t))

-- 12: once all files that recipes write exist, the inferred prerequisite of n is c, and before it
-- isn't.
abbrev pub ChoosesOtherwise : Subject → ℕ → List ℕ → Type 0
ChoosesOtherwise x n c =
    (choice x.makefile (with_more x.there (all_writes x)) (name_of x n) ≡ Some c) ×
    (¬ (choice x.makefile x.there (name_of x n) ≡ Some c))
