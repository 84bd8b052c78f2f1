use Rattle.mk_read_laws.proofs.Spelled.{spelled_lines_include_their_file}
use Rattle.mk_read_laws.proofs.include_laws.spelled_lines_include_their_file.Goals as goal

pub returns : goal.returns
returns c = spelled_lines_include_their_file c.nothing_to_uncomment.ensures c.plain_texts_stay.ensures
