use Rattle.std.proofs.Common.{◌∙◌, sym, rules, tests, string_bytes, String, Global}
use Rattle.mk_lines.specs.Paths.{is_plain_path}
use Rattle.std.proofs.lemmas.Iterator.{YieldsList-from_slice}
use Rattle.std.proofs.lemmas.Iterator.Search.{all_from_yields_List}
use Rattle.mk_lemmas.proofs.Lists.{list_all-map}
use Rattle.mk_foot.proofs.checks.are_paths.Goals as goal

pub returns : goal.returns
returns c =
    all_from_yields_List (λ (text : String Global). is_plain_path (string_bytes text)) _ _ _ c.all.ensures.ran (YieldsList-from_slice c.args.texts.now cc) (λ x b q k. search (rules, tests))
    ∙ sym (list_all-map (is_plain_path) (λ (text : String Global). string_bytes text) c.args.texts.now)
