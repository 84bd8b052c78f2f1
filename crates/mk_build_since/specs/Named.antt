-- Which files of an old build are to be removed before makes of a new one.
use Rattle.std.specs.Prelude.{◌≡◌, ℕ, List, [], ◌∷◌, true, false, ◌⊎◌, ◌↔◌}
use Rattle.mk_graph.specs.Membership.{Has}
use Rattle.mk_graph.specs.Graph.{Graph, node}
use Rattle.mk_build.specs.Setting.{FileName, Setting, is_given, name, reads, writes, IsAlwaysMade}
use Rattle.mk_build_behaviours.specs.Behaviours.{Behaviours}
use Rattle.mk_build_behaviours.specs.Trusting.{Trust}

-- The commands of a recipe, each as its bytes.
abbrev pub Commands : Type 0
Commands = List (List ℕ)

-- A build: its graph, its footprints and files, and by a target's name the commands of its recipe
-- and how that behaves.
pub record Build : Type 0 where
  pub graph : Graph
  pub setting : Setting
  pub commands : FileName → Commands
  pub behaviours : Behaviours

-- A recipe of the build writes the file.
abbrev pub IsWritten : Build → FileName → Type 0
IsWritten x f = (o : ℕ) × Has (writes x.graph x.setting o) f

-- The build has the file: it is given, or a recipe writes it.
abbrev pub HasFile : Build → FileName → Type 0
HasFile x f = (is_given x.setting f ≡ true) ⊎ IsWritten x f

-- The build has the file itself: it is a source or a makefile text, or a recipe writes it. Files
-- under fixed prefixes are elsewhere.
abbrev pub OwnsFile : Build → FileName → Type 0
OwnsFile x f = Has x.setting.sources f ⊎ Has x.setting.texts f ⊎ IsWritten x f

-- o is the recipe of the old build whose target is that of t in the new build.
abbrev pub WasRecipe : (old new : Build) → (o t : ℕ) → Type 0
WasRecipe old new o t =
    ((node old.graph o).recipe ≡ true) × (name old.graph o ≡ name new.graph t)

-- Both lists have the same files.
abbrev pub AreSameFiles : List FileName → List FileName → Type 0
AreSameFiles files others = (f : FileName) → Has files f ↔ Has others f

-- The rules by which what a recipe wrote before can't stay.
pub data Rule : Type 0 where
  NewRecipe : Rule
  OtherCommands : Rule
  OtherWrites : Rule
  OtherReads : Rule
  ReadText : Rule

-- All rules.
abbrev pub all_rules : List Rule
all_rules = NewRecipe ∷ OtherCommands ∷ OtherWrites ∷ OtherReads ∷ ReadText ∷ []

-- The rule holds of the recipe t of the new build. The old build has no recipe with its target; or
-- that has other commands, writes other files, reads other files, or read a makefile text.
abbrev pub HoldsOf : Rule → (old new : Build) → ℕ → Type 0
HoldsOf NewRecipe old new t = (o : ℕ) → ¬ (WasRecipe old new o t)
HoldsOf OtherCommands old new t =
    (o : ℕ) × WasRecipe old new o t ×
    (¬ (old.commands (name old.graph o) ≡ new.commands (name new.graph t)))
HoldsOf OtherWrites old new t =
    (o : ℕ) × WasRecipe old new o t ×
    (¬ (AreSameFiles (writes old.graph old.setting o) (writes new.graph new.setting t)))
HoldsOf OtherReads old new t =
    (o : ℕ) × WasRecipe old new o t ×
    (¬ (AreSameFiles (reads old.graph old.setting o) (reads new.graph new.setting t)))
HoldsOf ReadText old new t =
    (o : ℕ) × WasRecipe old new o t ×
    ((f : FileName) × Has (reads old.graph old.setting o) f × Has new.setting.texts f)

-- One of these rules holds of the recipe, so what it wrote before can't stay.
abbrev pub CantStay : List Rule → (old new : Build) → ℕ → Type 0
CantStay rules old new t = (rule : Rule) × Has rules rule × HoldsOf rule old new t

-- The file is left over: a recipe of the old build wrote it, and the new build doesn't have it.
abbrev pub IsLeftOver : (old new : Build) → FileName → Type 0
IsLeftOver old new f = IsWritten old f × (¬ (HasFile new f))

-- What the recipe t of the new build wrote before can't stay where only these recipes of the old
-- build are trusted: one of the rules holds of it, or the old recipe isn't trusted.
abbrev pub CantStayTrusting : Trust → (old new : Build) → ℕ → Type 0
CantStayTrusting trusted old new t =
    CantStay all_rules old new t ⊎ (trusted (name new.graph t) ≡ false)

-- The file is made anew: a recipe of the new build writes it that isn't made in every make, and what
-- that wrote before can't stay.
abbrev pub IsMadeAnew : (CantStayOf : ℕ → Type 0) → (new : Build) → FileName → Type 0
IsMadeAnew CantStayOf new f =
    (t : ℕ) × Has (writes new.graph new.setting t) f × (¬ (IsAlwaysMade new.graph t)) × CantStayOf t

-- The file is named: the old build has it itself, and it is left over or made anew.
abbrev pub IsNamedWhere : (CantStayOf : ℕ → Type 0) → (old new : Build) → FileName → Type 0
IsNamedWhere CantStayOf old new f =
    OwnsFile old f × (IsLeftOver old new f ⊎ IsMadeAnew CantStayOf new f)

-- These rules name the file.
abbrev pub IsNamed : List Rule → (old new : Build) → FileName → Type 0
IsNamed rules old new = IsNamedWhere (CantStay rules old new) old new

-- The file is named where only these recipes of the old build are trusted.
abbrev pub IsNamedTrusting : Trust → (old new : Build) → FileName → Type 0
IsNamedTrusting trusted old new = IsNamedWhere (CantStayTrusting trusted old new) old new
