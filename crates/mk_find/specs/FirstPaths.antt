-- The first of all paths from a recipe to a file: the shortest; among these the one over the
-- earliest recipes; with the first finish possible.
use Rattle.std.specs.Prelude.{◌≡◌, ℕ, ◌<◌, ◌≤◌, List, reverse, ◌⊎◌}
use Rattle.mk_cert_text.specs.declared.certificate.Finish.{Finish}
use Rattle.mk_cert_text.specs.declared.certificate.Finish.TheVariants.{Written, Source, Always}
use Rattle.mk_graph_search.specs.Places as search
use Rattle.mk_graph_search.specs.Ways.{along, Precedes}
use Rattle.mk_build.specs.Setting.{IsAlwaysMade}
use Rattle.mk_subject.specs.Carried.{carried}
use Rattle.mk_subject.specs.Paths.{EndsAt, IsPath}
use Rattle.mk_subject.specs.Subject.{Subject, footprints}

-- The order of finishes: `Written`, `Source`, `Always`.
abbrev pub rank : Finish → ℕ
rank Written = 0
rank Source = 1
rank Always = 2

-- A path to the file may end with this finish at recipe n.
abbrev pub MayEnd : Subject → List ℕ → Finish → ℕ → Type 0
MayEnd x f finish n = EndsAt x.graph (footprints x.setting) f finish n

-- This is the first finish with which a path to the file may end at recipe n.
abbrev pub IsFirstFinish : Subject → List ℕ → Finish → ℕ → Type 0
IsFirstFinish x f finish n =
    MayEnd x f finish n × ((other : Finish) → MayEnd x f other n → rank finish ≤ rank other)

-- A path leads from t over these others to the file, with this finish.
abbrev pub IsPathOver : Subject → List ℕ → Finish → ℕ → List ℕ → Type 0
IsPathOver x f finish t others = IsPath x.graph (footprints x.setting) f finish t others

-- A path leads from t over `way`, which is in reverse order, to the file with this finish, and each
-- path to the file is the same with no earlier finish or comes after this one.
pub record IsFirstPath (x : Subject) (f : List ℕ) (t : ℕ) (way : List ℕ) (finish : Finish) :
    Type 0 where
  pub path : IsPathOver x f finish t (reverse way)
  pub before : (other : List ℕ) (other_finish : Finish) →
      IsPathOver x f other_finish t (reverse other) →
      ((other ≡ way) × (rank finish ≤ rank other_finish)) ⊎ Precedes (carried x) t way other

-- The first path from t to the file is along `nodes`, which begin with t, and has this finish.
pub record IsAlongFirstPath (x : Subject) (f : List ℕ) (t : ℕ) (nodes : List ℕ) (finish : Finish) :
    Type 0 where
  pub way : List ℕ
  pub first : IsFirstPath x f t way finish
  pub goes : nodes ≡ along t way

-- No path leads from t to the file.
abbrev pub HasNoPath : Subject → List ℕ → ℕ → Type 0
HasNoPath x f t = (finish : Finish) (others : List ℕ) → ¬ (IsPathOver x f finish t others)

-- No path from t to the file may end at a place of the search from t before this one.
pub record EndsNoneBefore (x : Subject) (f : List ℕ) (t place : ℕ) : Type 0 where
  pub none : (k n : ℕ) → k < place → search.EndsAt (carried x) t k n → (finish : Finish) →
      ¬ (MayEnd x f finish n)

-- The recipes at places of the search from t before this one aren't always made.
pub record AlwaysNoneBefore (x : Subject) (t place : ℕ) : Type 0 where
  pub none : (k n : ℕ) → k < place → search.EndsAt (carried x) t k n →
      ¬ (IsAlwaysMade x.graph n)

-- A path to the file may end at this place of the search from t, at the earliest with this finish.
pub record IsEndAt (x : Subject) (f : List ℕ) (t place : ℕ) (finish : Finish) : Type 0 where
  pub number : ℕ
  pub there : search.EndsAt (carried x) t place number
  pub first : IsFirstFinish x f finish number
