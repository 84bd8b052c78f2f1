-- What is known of the reads and entries of each node on a walk along a way.
use Rattle.std.specs.Prelude.{◌≡◌, ◌<◌, ℕ, true, ◌↔◌, List, [], length, slice_index_or}
use Rattle.mk_lines.specs.Names.{has_name}
use Rattle.mk_cert_text.specs.Certificate.{Way}
use Rattle.mk_graph.specs.Membership.{Has}
use Rattle.mk_subject.specs.Subject.{Subject, name_of, reads_of}
use Rattle.mk_cert.specs.Verdict.{HasEntry}

-- For each node, the list has the files that its recipe reads.
abbrev pub HoldReads : Subject → List (List (List ℕ)) → Type 0
HoldReads x lists =
    (t : ℕ) (f : List ℕ) →
    (has_name (slice_index_or lists t []) f ≡ true) ↔ Has (reads_of x t) f

-- For each node, the set has the files for which its recipe has an entry among these.
abbrev pub AreSeen : Subject → List Way → List (List (List ℕ)) → Type 0
AreSeen x ways seen =
    (t : ℕ) → t < length x.graph.nodes → (f : List ℕ) →
    (has_name (slice_index_or seen t []) f ≡ true) ↔ HasEntry ways (name_of x t) f
