-- What a subject keeps, by what contracts see of it.
use Rattle.std.proofs.Common.{◌≡◌, ℕ, [], get_or, subst}
use Rattle.mk_lemmas.proofs.Texts.{texts}
use Rattle.mk_subject.specs.declared.tables.Tables.{Tables}
use Rattle.mk_subject.specs.Kept.{AreTablesOf}
use Rattle.mk_subject.specs.FileInfo.{AreFiles, StandAt, all_names, known_of}
use Rattle.mk_subject.specs.Subject.{Subject, reads_of, writes_of}
use Rattle.mk_subject.specs.Target.{unsettled_of}

-- the files are those of what is seen
pub files_held : (inside x : Subject) (t : Tables) → inside ≡ x → AreTablesOf inside t → AreFiles (known_of x) (all_names x) (writes_of x) (reads_of x) (texts t.files.names.keys) t.files.known.items t.files.nodes.items t.files.writes t.files.reads
files_held inside x t same h =
    subst (λ (y : Subject). AreFiles (known_of y) (all_names y) (writes_of y) (reads_of y) (texts t.files.names.keys) t.files.known.items t.files.nodes.items t.files.writes t.files.reads) same h.tables.files_held

-- so are the places of those that aren't settled
pub unsettled_held : (inside x : Subject) (t : Tables) → inside ≡ x → AreTablesOf inside t → (n : ℕ) → StandAt (texts t.files.names.keys) (get_or t.unsettled n []) (unsettled_of x n)
unsettled_held inside x t same h n =
    subst (λ (y : Subject). StandAt (texts t.files.names.keys) (get_or t.unsettled n []) (unsettled_of y n)) same (h.tables.unsettled_held n)
