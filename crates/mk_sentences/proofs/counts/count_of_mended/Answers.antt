use Rattle.std.proofs.Common.{◌∙◌, rules, tests}
use Rattle.std.proofs.lemmas.Iterator.{YieldsList-from_slice}
use Rattle.std.proofs.lemmas.Iterator.Consumers.{YieldsList-from_filter, count_from_yields_List}
use Rattle.mk_sentences.proofs.MendedClaims.{is_mended, mended_seen}
use Rattle.mk_sentences.proofs.counts.count_of_mended.Goals as goal

pub returns : goal.returns
returns c =
    count_from_yields_List c.filter.result _ c.count.ensures.ran (YieldsList-from_filter _ is_mended (YieldsList-from_slice c.args.claims.now (cc)) c.filter.ensures.closure (λ x b q k. search (rules, tests)))
    ∙ mended_seen c.args.claims.now
