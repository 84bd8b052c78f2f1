use Rattle.std.proofs.Common.{◌∙◌, refl, ap, rules, tests}
use Rattle.std.specs.List.{slice_get, slice_split}
use Rattle.std.proofs.lemmas.Iterator.Consumers.{nth_from_yields_List}
use Rattle.std.proofs.lemmas.Iterator.Splits.{YieldsList-from_slice_split}
use Rattle.mk_lines.specs.Bytes.{is_byte}
use Rattle.mk_core_sentences.proofs.refused_line.physical_line.Goals as goal

pub returns : goal.returns
returns c =
    nth_from_yields_List c.nth.result c.nth.new.self _ c.nth.ensures.ran
    (YieldsList-from_slice_split _ (is_byte 10) c.args.text.now (cc) (cc) refl (λ x b q k. search (rules, tests)))
    ∙ ap (λ n. slice_get (slice_split (is_byte 10) c.args.text.now) n) c.saturating_sub.ensures
