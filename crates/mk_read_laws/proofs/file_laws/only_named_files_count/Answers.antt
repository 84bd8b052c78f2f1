use Rattle.mk_read_laws.proofs.NamedFiles.{only_named_files_count}
use Rattle.mk_read_laws.proofs.file_laws.only_named_files_count.Goals as goal

pub returns : goal.returns
returns c = only_named_files_count
