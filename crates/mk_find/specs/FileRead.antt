-- Reads, as the checks of reads take them.
use Rattle.std.specs.Prelude.{◌≡◌}
use Rattle.mk_graph.specs.Membership.{Has}
use Rattle.mk_subject.specs.NodeRow.{IsRow}
use Rattle.mk_subject.specs.Subject.{reads_of}
use Rattle.mk_subject.specs.Target.{target_of}
use Rattle.mk_find.specs.declared.file_read.FileRead.{FileRead}

-- The row and the file are the subject's, and the recipe of the row reads the file.
pub record IsRead (r : FileRead) : Type 0 where
  pub row : IsRow r.subject.now r.row.now
  pub file : r.file ≡ target_of r.subject.now r.file.file
  pub read : Has (reads_of r.subject.now r.row.now.number) r.file.file
