-- The certificate of a build without findings.
use Rattle.std.specs.Prelude.{◌≡◌, ◌≤◌, ℕ, List, [], ◌∷◌, ◌++◌, length, map}
use Rattle.std.specs.List.{flat_map}
use Rattle.mk_lines.specs.Names.{once}
use Rattle.mk_cert_text.specs.Certificate.{Way, Certificate}
use Rattle.mk_cert_text.specs.declared.certificate.Finish.{Finish}
use Rattle.mk_graph.specs.Membership.{Has}
use Rattle.mk_graph.specs.Serial.{serial_order}
use Rattle.mk_subject.specs.Subject.{IsRecipe, Subject, name_of, reads_of}
use Rattle.mk_subject.specs.Reads.{Read, NeedsWay}
use Rattle.mk_find.specs.FirstPaths.{IsAlongFirstPath, IsPathOver}

-- The certificate's goals are those of the graph, in their order.
abbrev pub HasGoals : Subject → Certificate → Type 0
HasGoals x c = c.goals ≡ map (name_of x) x.graph.goals

-- The reads of a recipe, each file once, in the order of its record.
abbrev pub reads_by : Subject → ℕ → List Read
reads_by x t = map (λ f. record { recipe = t; file = f }) (once (reads_of x t))

-- The reads of all recipes, each once, by the recipe's position in the serial order.
abbrev pub reads_once : Subject → List Read
reads_once x = flat_map (reads_by x) (serial_order x.graph)

-- The read is of a file that can change.
abbrev pub ReadNeedsWay : Subject → Read → Type 0
ReadNeedsWay x r = NeedsWay x r.recipe r.file

-- The entry is for this read: it has its recipe, its file, and the names along the first path from
-- the recipe to the file.
pub record IsEntryFor (x : Subject) (r : Read) (w : Way) : Type 0 where
  pub nodes : List ℕ
  pub first : IsAlongFirstPath x r.file r.recipe nodes w.finish
  pub same_recipe : w.recipe ≡ name_of x r.recipe
  pub same_file : w.file ≡ r.file
  pub same_path : w.path ≡ map (name_of x) nodes

-- These are the entries for those of the reads that need a way, in their order.
pub data AreEntriesFor (x : Subject) : List Read → List Way → Type 0 where
  nothing : AreEntriesFor x [] []
  entry : {r : Read} {w : Way} {reads : List Read} {ways : List Way} → ReadNeedsWay x r →
      IsEntryFor x r w → AreEntriesFor x reads ways → AreEntriesFor x (r ∷ reads) (w ∷ ways)
  none : {r : Read} {reads : List Read} {ways : List Way} → ¬ (ReadNeedsWay x r) →
      AreEntriesFor x reads ways → AreEntriesFor x (r ∷ reads) ways

-- The new list is the old one followed by the entries for those of these reads that need a way.
pub record AddsEntries (x : Subject) (reads : List Read) (old new : List Way) : Type 0 where
  pub more : List Way
  pub right : AreEntriesFor x reads more
  pub added : new ≡ old ++ more

-- The certificate has the goals of the graph in their order, and an entry for each read that needs
-- a way, which has the first path.
pub record IsCertificate (x : Subject) (c : Certificate) : Type 0 where
  pub goals : HasGoals x c
  pub ways : AreEntriesFor x (reads_once x) c.ways

-- No way is shorter than the certificate's: a path from the recipe of an entry to its file has at
-- least as many recipes as the entry's path.
abbrev pub HasShortestWays : Subject → Certificate → Type 0
HasShortestWays x c =
    (w : Way) → Has c.ways w → (t : ℕ) → IsRecipe x t → name_of x t ≡ w.recipe →
    (finish : Finish) (others : List ℕ) → IsPathOver x w.file finish t others →
    length w.path ≤ length (t ∷ others)
