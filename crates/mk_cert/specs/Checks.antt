-- What each test of a certificate returns; together they make up `Verifies`.
use Rattle.std.specs.Prelude.{◌≡◌, ⊤, ℕ, Bool, true, false, List, [], ◌∷◌, ◌++◌, length, map, Result, Ok, Err}
use Rattle.mk_cert_text.specs.Certificate.{Way}
use Rattle.mk_subject.specs.Subject.{Subject, name_of, reads_of}
use Rattle.mk_subject.specs.Reads.{Read, all_reads}
use Rattle.mk_find.specs.Candidates.{Candidate, IsFinding, static_candidates, race_candidates}
use Rattle.mk_find.specs.Listing.{IsFirstIn}
use Rattle.mk_find.specs.Listed.{named}
use Rattle.mk_find.specs.Findings.{NothingFound}
use Rattle.mk_cert.specs.declared.fault.CertFault.{CertFault}
use Rattle.mk_cert.specs.declared.fault.CertFault.TheVariants.{NoWay, BadWay, Static}
use Rattle.mk_cert.specs.WalkTables.{AreSeen}
use Rattle.mk_cert.specs.Verdict.{MayStand, NoneBad, IsFirstBad, LacksWay, NoneLacks}

-- `Ok` means that there is no static finding and no race; else the error is `Static` with the first
-- one.
abbrev pub AnswersFound : Subject → Result ⊤ CertFault → Type 0
AnswersFound x (Ok nothing) = NothingFound x
AnswersFound x (Err (Static finding)) =
    (k : Candidate) × IsFirstIn (IsFinding x) (static_candidates x ++ race_candidates x) k ×
    (finding ≡ named x k)
AnswersFound x (Err other) = ⊥

-- `Ok` means that no entry is bad; else the error is `BadWay` for the first bad entry.
abbrev pub AnswersEntries : Subject → List Way → Result ⊤ CertFault → Type 0
AnswersEntries x ways (Ok none) = NoneBad x [] ways
AnswersEntries x ways (Err (BadWay recipe file)) =
    (w : Way) × IsFirstBad x [] ways w × (recipe ≡ w.recipe) × (file ≡ w.file)
AnswersEntries x ways (Err other) = ⊥

-- `Ok` means that each read that needs a way has an entry; else the error is `NoWay` for the first
-- read without one.
abbrev pub AnswersReads : Subject → List Way → Result ⊤ CertFault → Type 0
AnswersReads x ways (Ok none) = NoneLacks x ways
AnswersReads x ways (Err (NoWay recipe file)) =
    (r : Read) × IsFirstIn (LacksWay x ways) (all_reads x) r × (recipe ≡ name_of x r.recipe) ×
    (file ≡ r.file)
AnswersReads x ways (Err other) = ⊥

-- `Ok` means that no entry is bad and each read that needs a way has one; else the error is for the
-- first bad entry, or, if there is none, for the first read without an entry.
abbrev pub AnswersWays : Subject → List Way → Result ⊤ CertFault → Type 0
AnswersWays x ways (Ok none) = NoneBad x [] ways × NoneLacks x ways
AnswersWays x ways (Err (BadWay recipe file)) =
    (w : Way) × IsFirstBad x [] ways w × (recipe ≡ w.recipe) × (file ≡ w.file)
AnswersWays x ways (Err (NoWay recipe file)) =
    NoneBad x [] ways ×
    (r : Read) × IsFirstIn (LacksWay x ways) (all_reads x) r × (recipe ≡ name_of x r.recipe) ×
    (file ≡ r.file)
AnswersWays x ways (Err other) = ⊥

-- For an entry that comes after those in `old`: `true` means that it is good and in `new`, `false`
-- that it is bad.
abbrev pub Judges : Subject → Way → (old new : List (List (List ℕ))) → Bool → Type 0
Judges x w old new true =
    (before : List Way) → AreSeen x before old →
    MayStand x before w × AreSeen x (w ∷ before) new
Judges x w old new false = (before : List Way) → AreSeen x before old → ¬ (MayStand x before w)

-- The reads of one recipe.
abbrev pub reads_by : Subject → ℕ → List Read
reads_by x t = map (λ f. record { recipe = t; file = f }) (reads_of x t)

-- There is one set for each node.
abbrev pub HasSets : Subject → List (List (List ℕ)) → Type 0
HasSets x seen = length seen ≡ length x.graph.nodes
