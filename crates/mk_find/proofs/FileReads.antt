-- Reads, as the checks of reads take them.
use Rattle.std.proofs.Common.{◌≡◌, ℕ, ◌<◌, [], length, get_or, sym, subst}
use Rattle.mk_lemmas.proofs.Members.{Has-get_or}
use Rattle.mk_graph.specs.Membership.{Has}
use Rattle.mk_subject.specs.NodeRow.{IsRow}
use Rattle.mk_subject.specs.Subject.{reads_of}
use Rattle.mk_subject.specs.Target.{Target, target_of}
use Rattle.mk_subject.proofs.Targets.{by_name}
use Rattle.mk_find.specs.declared.file_read.FileRead.{FileRead}
use Rattle.mk_find.specs.FileRead.{IsRead}

-- the file at a place of what a recipe reads is read by it
pub read_at : (r : FileRead) (i : ℕ) → IsRow r.subject.now r.row.now → i < length (reads_of r.subject.now r.row.now.number) → r.file ≡ target_of r.subject.now (get_or (reads_of r.subject.now r.row.now.number) i []) → IsRead r
read_at r i is low same =
    let files = reads_of r.subject.now r.row.now.number in
    record {
      row = is;
      file = by_name r.subject.now r.file _ same;
      read = subst (λ (v : Target). Has files v.file) (sym same) (Has-get_or files i [] low);
    }
