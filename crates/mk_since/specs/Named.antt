-- The files to remove.
use Rattle.std.specs.Prelude.{◌≡◌, ◌↔◌, ◌⊎◌, ℕ, true, false, Bool, List, slice_index_or}
use Rattle.mk_graph.specs.Membership.{Has}
use Rattle.mk_infer.specs.Commands.{commands}
use Rattle.mk_build.specs.Setting.{FileName, IsAlwaysMade}
use Rattle.mk_build_behaviours.specs.Behaviours.{Behaviours}
use Rattle.mk_build_since.specs.Named.{Build, IsNamed, IsNamedTrusting, all_rules}
use Rattle.mk_subject.specs.NodeRow.{NodeRow, AreRows}
use Rattle.mk_subject.specs.Subject.{Subject, footprints}
use Rattle.mk_find.specs.declared.finding.Finding.{Finding}
use Rattle.mk_since.specs.Doubts.{AreDoubtedBy, trust_without}
use Rattle.mk_since.specs.Parts.{Among, Leaves, Renews}
use Rattle.mk_since.specs.Past.{Past, lines_in, past_of}

-- The build of a subject, with the commands as its makefile has them, whose recipes behave so.
abbrev pub build_of : Subject → Behaviours → Build
build_of x b = record {
  graph = x.graph;
  setting = footprints x.setting;
  commands = λ name. lines_in (commands x.makefile x.there name);
  behaviours = b;
}

-- These are the files to remove from the old build x before makes of the new build y, however their
-- recipes behave.
abbrev pub AreNamed : Subject → Subject → List FileName → Type 0
AreNamed x y names =
    (b c : Behaviours) (f : FileName) →
    Has names f ↔ IsNamed all_rules (build_of x b) (build_of y c) f

-- These are the files to remove where all recipes of the old build x are trusted but for those with
-- these targets.
abbrev pub AreNamedWithout : List FileName → Subject → Subject → List FileName → Type 0
AreNamedWithout doubted x y names =
    (b c : Behaviours) (f : FileName) →
    Has names f ↔ IsNamedTrusting (trust_without doubted) (build_of x b) (build_of y c) f

-- This is what is kept of the build with these findings.
abbrev pub IsPastOf : Subject → List Finding → Past → Type 0
IsPastOf x found past =
    (doubted : List FileName) × AreDoubtedBy x found doubted × (past ≡ past_of doubted x)

-- The names are those that an old recipe leaves, and those of the old build that a row of the new
-- build y renews.
pub record AreNamedBy (past : Past) (y : Subject) (names : List FileName) : Type 0 where
  pub always : List Bool
  pub always_made : (t : ℕ) → (slice_index_or always t false ≡ true) ↔ IsAlwaysMade y.graph t
  pub entries : List NodeRow
  pub are_entries : AreRows y entries
  pub all : (f : FileName) →
      Has names f ↔
      (Among (Leaves y) past.recipes f ⊎ Among (Renews past y always) entries f)
