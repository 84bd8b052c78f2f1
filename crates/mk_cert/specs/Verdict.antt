-- The answer to a certificate.
use Rattle.std.specs.Prelude.{◌≡◌, ⊤, ℕ, List, [], ◌∷◌, ◌++◌, All, map, ◌⊎◌, Result, Ok, Err}
use Rattle.mk_cert_text.specs.Certificate.{Way, Certificate}
use Rattle.mk_graph.specs.Membership.{Has}
use Rattle.mk_subject.specs.Subject.{Subject, footprints, name_of, IsRecipe}
use Rattle.mk_subject.specs.Paths.{IsPath}
use Rattle.mk_subject.specs.Reads.{Read, NeedsWay, all_reads}
use Rattle.mk_find.specs.Candidates.{Candidate, IsFinding, static_candidates, race_candidates}
use Rattle.mk_find.specs.Listed.{named}
use Rattle.mk_find.specs.Listing.{IsFirstIn}
use Rattle.mk_find.specs.Findings.{NothingFound}
use Rattle.mk_find.specs.Certifying.{HasGoals}
use Rattle.mk_cert.specs.declared.fault.CertFault.{CertFault}
use Rattle.mk_cert.specs.declared.fault.CertFault.TheVariants.{OtherGoals, NoWay, BadWay, Static, Memory}

-- An entry is good: its path names recipes, begins with the entry's recipe, and leads to its file
-- with the end that it says; and this read needs a way.
pub record IsGood (x : Subject) (w : Way) : Type 0 where
  pub start : ℕ
  pub others : List ℕ
  pub names : w.path ≡ map (name_of x) (start ∷ others)
  pub begins : w.recipe ≡ name_of x start
  pub recipes : All (IsRecipe x) (start ∷ others)
  pub path : IsPath x.graph (footprints x.setting) w.file w.finish start others
  pub needed : NeedsWay x start w.file

-- One of these entries is for this recipe and this file.
abbrev pub HasEntry : List Way → (recipe file : List ℕ) → Type 0
HasEntry ways recipe file = (w : Way) × Has ways w × (w.recipe ≡ recipe) × (w.file ≡ file)

-- The entry is good, and none of the others is for its recipe and file. Otherwise it is bad.
abbrev pub MayStand : Subject → List Way → Way → Type 0
MayStand x others w = IsGood x w × (¬ (HasEntry others w.recipe w.file))

-- None of `ways` is bad, where the entries in `before` come before them.
abbrev pub NoneBad : Subject → (before : List Way) → List Way → Type 0
NoneBad x before [] = Unit {0}
NoneBad x before (w ∷ ways) = MayStand x before w × NoneBad x (w ∷ before) ways

-- It is the first bad entry of `ways`, where the entries in `before` come before them.
abbrev pub IsFirstBad : Subject → (before : List Way) → List Way → Way → Type 0
IsFirstBad x before [] found = ⊥
IsFirstBad x before (w ∷ ways) found =
    ((¬ (MayStand x before w)) × (w ≡ found)) ⊎
    (MayStand x before w × IsFirstBad x (w ∷ before) ways found)

-- The read needs a way and has no entry.
abbrev pub LacksWay : Subject → List Way → Read → Type 0
LacksWay x ways r =
    NeedsWay x r.recipe r.file × (¬ (HasEntry ways (name_of x r.recipe) r.file))

-- Each read that needs a way has an entry.
abbrev pub NoneLacks : Subject → List Way → Type 0
NoneLacks x ways =
    (r : Read) → NeedsWay x r.recipe r.file → HasEntry ways (name_of x r.recipe) r.file

-- The answer to a certificate: `Ok` if its goals are the graph's, nothing is found, no entry is
-- bad, and no read lacks its way; else the error for the first of these that fails: `OtherGoals`
-- (73), `Static` (76) with the first finding, `BadWay` (75) for the first bad entry, `NoWay` (74)
-- for the first read that lacks its way.
abbrev pub Verifies : Subject → Certificate → Result ⊤ CertFault → Type 0
Verifies x c (Ok accepted) =
    HasGoals x c × NothingFound x × NoneBad x [] c.ways × NoneLacks x c.ways
Verifies x c (Err OtherGoals) = ¬ (HasGoals x c)
Verifies x c (Err (Static finding)) =
    HasGoals x c × (k : Candidate) ×
    IsFirstIn (IsFinding x) (static_candidates x ++ race_candidates x) k × (finding ≡ named x k)
Verifies x c (Err (BadWay recipe file)) =
    HasGoals x c × NothingFound x ×
    (w : Way) × IsFirstBad x [] c.ways w × (recipe ≡ w.recipe) × (file ≡ w.file)
Verifies x c (Err (NoWay recipe file)) =
    HasGoals x c × NothingFound x × NoneBad x [] c.ways ×
    (r : Read) × IsFirstIn (LacksWay x c.ways) (all_reads x) r ×
    (recipe ≡ name_of x r.recipe) × (file ≡ r.file)
Verifies x c (Err Memory) = ⊥
