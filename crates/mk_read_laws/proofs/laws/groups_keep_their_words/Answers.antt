use Rattle.mk_read_laws.proofs.Groups.{groups_keep_their_words}
use Rattle.mk_read_laws.proofs.laws.groups_keep_their_words.Goals as goal

pub returns : goal.returns
returns c = groups_keep_their_words
