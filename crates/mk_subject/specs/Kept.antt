-- The invariant of a subject.
use Rattle.std.specs.Prelude.{map}
use Rattle.mk_subject.specs.declared.tables.Tables.{Tables}
use Rattle.mk_subject.specs.Subject.{Subject, IsSubject}
use Rattle.mk_subject.specs.Tables.{AreTables}

-- The value is a valid subject, and the tables are those of it.
pub record AreTablesOf (x : Subject) (t : Tables) : Type 0 where
  pub is_subject : IsSubject x
  pub tables :
      AreTables x t.entries.items t.names (map (λ name. name.now) t.files.names.keys)
      t.files.known.items t.files.nodes.items t.files.writes t.files.reads t.unsettled
