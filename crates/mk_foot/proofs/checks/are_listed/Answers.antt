use Rattle.std.proofs.Common.{◌∙◌, sym, rules, tests, string_bytes, String, Global}
use Rattle.mk_foot.specs.Names.{has_name}
use Rattle.std.proofs.lemmas.Iterator.{YieldsList-from_slice}
use Rattle.std.proofs.lemmas.Iterator.Search.{all_from_yields_List}
use Rattle.mk_lemmas.proofs.Lists.{list_all-map}
use Rattle.mk_foot.proofs.checks.are_listed.Goals as goal

pub returns : goal.returns
returns c =
    all_from_yields_List (λ (text : String Global). has_name c.args.names.now (string_bytes text)) _ _ _ c.all.ensures.ran (YieldsList-from_slice c.args.shared.now cc) (λ x b q k. search (rules, tests))
    ∙ sym (list_all-map (has_name c.args.names.now) (λ (text : String Global). string_bytes text) c.args.shared.now)
