-- Which recipes of an old build are doubted.
use Rattle.std.specs.Prelude.{◌≡◌, ◌↔◌, ℕ, not, List, []}
use Rattle.mk_lines.specs.Names.{has_name}
use Rattle.mk_graph.specs.Membership.{Has}
use Rattle.mk_graph.specs.Graph.{IsGraph}
use Rattle.mk_build.specs.Setting.{FileName}
use Rattle.mk_build_behaviours.specs.Trusting.{Trust, MayBeTrusted}
use Rattle.mk_subject.specs.Subject.{Subject, IsSubject, IsRecipe, footprints, name_of, reads_of, writes_of}
use Rattle.mk_find.specs.Candidates.{static_candidates}
use Rattle.mk_find.specs.Conditions.{RacesWith, IsStale}
use Rattle.mk_find.specs.Findings.{AreFindings}
use Rattle.mk_find.specs.Listing.{Lists}
use Rattle.mk_find.specs.declared.finding.Finding.{Finding}

-- The recipe t is doubted: it races with one that writes what it reads, it reads a file that can
-- change and has no way to it, or it reads what a doubted recipe writes.
pub data IsDoubted (x : Subject) : ℕ → Type 0 where
  races : {t : ℕ} (o : ℕ) (f : FileName) → RacesWith x t o f → IsDoubted x t
  stale : {t : ℕ} (f : FileName) → IsStale x t f → IsDoubted x t
  reads : {t : ℕ} (o : ℕ) (f : FileName) → Has (reads_of x t) f → Has (writes_of x o) f →
      IsDoubted x o → IsDoubted x t

-- These are the targets of the doubted recipes.
abbrev pub AreDoubted : Subject → List FileName → Type 0
AreDoubted x doubted =
    (target : FileName) →
    Has doubted target ↔ ((t : ℕ) × IsRecipe x t × IsDoubted x t × (name_of x t ≡ target))

-- There is no static finding, so that all findings are races and stale reads.
abbrev pub HasNoStatic : Subject → Type 0
HasNoStatic x = Lists x (static_candidates x) []

-- These are the targets of the doubted recipes, if the findings are those of the build, and all of
-- them races and stale reads.
abbrev pub AreDoubtedBy : Subject → List Finding → List FileName → Type 0
AreDoubtedBy x found doubted = HasNoStatic x → AreFindings x found → AreDoubted x doubted

-- All recipes are trusted but for those with these targets.
abbrev pub trust_without : List FileName → Trust
trust_without doubted target = not (has_name doubted target)

-- If there is no static finding, all recipes may be trusted but for the doubted ones.
abbrev pub DoubtsLeaveTrust : Type 0
DoubtsLeaveTrust =
    (x : Subject) (doubted : List FileName) → IsGraph x.graph → IsSubject x → HasNoStatic x →
    AreDoubted x doubted → MayBeTrusted x.graph (footprints x.setting) (trust_without doubted)
