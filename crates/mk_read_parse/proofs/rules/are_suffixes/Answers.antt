use Rattle.std.proofs.Common.{◌∙◌, sym, String, string_bytes, rules, tests}
use Rattle.std.specs.declared.alloc.Global.{Global}
use Rattle.mk_read.specs.Special.{is_suffix}
use Rattle.std.proofs.lemmas.Iterator.{YieldsList-from_slice}
use Rattle.std.proofs.lemmas.Iterator.Search.{all_from_yields_List}
use Rattle.mk_lemmas.proofs.Lists.{list_all-map}
use Rattle.mk_read_parse.proofs.rules.are_suffixes.Goals as goal

pub returns : goal.returns
returns c =
    all_from_yields_List (λ (word : String Global). is_suffix (string_bytes word)) _ _ _ c.all.ensures.ran (YieldsList-from_slice c.args.words.now cc) (λ x b q k. search (rules, tests))
    ∙ sym (list_all-map is_suffix (λ (word : String Global). string_bytes word) c.args.words.now)
