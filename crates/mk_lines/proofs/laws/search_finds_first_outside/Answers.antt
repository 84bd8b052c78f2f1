use Rattle.mk_lines.proofs.Outside.{search_finds_first_outside}
use Rattle.mk_lines.proofs.laws.search_finds_first_outside.Goals as goal

pub returns : goal.returns
returns c = search_finds_first_outside
