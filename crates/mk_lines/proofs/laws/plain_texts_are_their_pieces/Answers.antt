use Rattle.mk_lines.proofs.PlainTexts.{plain_texts_are_their_pieces}
use Rattle.mk_lines.proofs.laws.plain_texts_are_their_pieces.Goals as goal

pub returns : goal.returns
returns c = plain_texts_are_their_pieces
