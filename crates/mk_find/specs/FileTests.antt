-- Tests of a file.
use Rattle.std.specs.Prelude.{◌≡◌, ℕ, Bool, false, List}
use Rattle.mk_foot.specs.Setting.{is_given}
use Rattle.mk_graph.specs.Membership.{Has}
use Rattle.mk_subject.specs.FileInfo.{taken_by}
use Rattle.mk_subject.specs.Subject.{Subject, writes_of}

-- Whether it is given, phony, or passed over as missing when the makefile was read.
abbrev pub is_taken : Subject → List ℕ → Bool
is_taken x f = taken_by x.makefile x.setting f

-- It is neither given nor written by any recipe.
abbrev pub IsUnknown : Subject → List ℕ → Type 0
IsUnknown x f = (is_given x.setting f ≡ false) × ((o : ℕ) → ¬ (Has (writes_of x o) f))
