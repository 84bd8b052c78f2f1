use Rattle.mk_read.proofs.DefaultText.{default_text_says_this}
use Rattle.mk_read.proofs.default_text.default_text_says_this.Goals as goal

pub returns : goal.returns
returns c = default_text_says_this
