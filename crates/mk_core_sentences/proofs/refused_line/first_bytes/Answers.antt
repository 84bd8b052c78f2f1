use Rattle.std.proofs.Common.{sym, arith}
use Rattle.std.proofs.lemmas.List.{length-take-le, take_all}
use Rattle.mk_core_sentences.proofs.refused_line.first_bytes.Goals as goal

pub slice_bounds-result-end : goal.slice_bounds-result-end
slice_bounds-result-end c =
    sym (length-take-le 200 c.args.line.now (omega (arith, c.if-line-gt-MAX_SHOWN.true)))

pub returns-else-line-gt-MAX_SHOWN : goal.returns-else-line-gt-MAX_SHOWN
returns-else-line-gt-MAX_SHOWN c =
    sym (take_all 200 c.args.line.now (omega (arith, c.if-line-gt-MAX_SHOWN.false)))
