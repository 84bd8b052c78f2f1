use Rattle.mk_read_laws.proofs.SameLines.{comments_and_numbers_change_only_places}
use Rattle.mk_read_laws.proofs.place_laws.comments_and_numbers_change_only_places.Goals as goal

pub returns : goal.returns
returns c = comments_and_numbers_change_only_places
