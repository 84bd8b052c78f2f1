use Rattle.std.proofs.Common.{◌==◌, refl, rules, tests}
use Rattle.std.proofs.lemmas.Iterator.Consumers.{map_from_collect}
use Rattle.std.proofs.lemmas.Iterator.Splits.{YieldsList-from_slice_split}
use Rattle.mk_core_since.proofs.words.lines_of.Goals as goal

pub returns : goal.returns
returns c =
    map_from_collect _ c.collect.ensures.ran
    (YieldsList-from_slice_split _ (λ b. b == 10) c.args.text.now (cc) (cc) refl (λ x b q k. search (rules, tests)))
