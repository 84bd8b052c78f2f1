use Rattle.mk_read.specs.Steps.{seen}
use Rattle.std.proofs.Common.{[], refl}
use Rattle.mk_read_parse.proofs.Histories.{notes_no_name}
use Rattle.mk_read_parse.proofs.OwnText.{default_read}
use Rattle.mk_read_parse.proofs.Stepping.{gives_right, own_left}
use Rattle.mk_read_parse.proofs.reading.read_default.Goals as goal

pub returns-clause-exact : goal.returns-clause-exact
returns-clause-exact c = λ none. gives_right (λ done. c.read_text.new.state) c.read_text.result _
    (default_read c.args.defaults c.in_ok-file.file c.args.state.now (seen (λ done. c.read_text.new.state) c.read_text.result) c.if-not-defaults.false c.in_ok-file.ensures
    (own_left (λ done. c.read_text.new.state) c.read_text.result (notes_no_name c.read_text.result c.read_text.ensures.noted))
    (c.read_text.ensures.follows [] refl) none)

pub returns-clause-own : goal.returns-clause-own
returns-clause-own c = notes_no_name c.read_text.result c.read_text.ensures.noted
