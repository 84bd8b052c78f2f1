use Rattle.std.proofs.Common.{◌≡◌, ◌<◌, ◌∙◌, ap, length, get_or, arith}
use Rattle.std.specs.String.{string_bytes}
use Rattle.mk_infer.proofs.TableLemmas.{seen_more}
use Rattle.mk_infer.proofs.suffix_set.suffixes_among.Goals as goal

pub loop-word-preserved : goal.loop-word-preserved
loop-word-preserved c = λ name.
    let lt : c.loop-word.word-index < length c.args.words.now = omega arith in
    let is : c.as_bytes.result.now ≡ string_bytes (get_or c.args.words.now c.loop-word.word-index c.word-item.result) = c.as_bytes.ensures.value ∙ ap string_bytes c.word-item.is in
    seen_more string_bytes c.loop-word.set c.insert.new.self c.args.words.now c.loop-word.word-index c.word-item.result c.as_bytes.result.now name c.in_ok-insert.ensures is (c.loop-word.invariant name) lt
