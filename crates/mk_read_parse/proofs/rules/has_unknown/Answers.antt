use Rattle.std.proofs.Common.{◌∙◌, sym, String, string_bytes, rules, tests}
use Rattle.std.specs.declared.alloc.Global.{Global}
use Rattle.mk_read.specs.Special.{is_unknown_special}
use Rattle.std.proofs.lemmas.Iterator.{YieldsList-from_slice}
use Rattle.std.proofs.lemmas.Iterator.Search.{any_from_yields_List}
use Rattle.mk_lemmas.proofs.Lists.{list_any-map}
use Rattle.mk_read_parse.proofs.rules.has_unknown.Goals as goal

pub returns : goal.returns
returns c =
    any_from_yields_List (λ (word : String Global). is_unknown_special (string_bytes word)) _ _ _ c.any.ensures.ran (YieldsList-from_slice c.args.targets.now cc) (λ x b q k. search (rules, tests))
    ∙ sym (list_any-map is_unknown_special (λ (word : String Global). string_bytes word) c.args.targets.now)
