use Rattle.std.proofs.Common.{◌∙◌, sym, List, ℕ, String, string_bytes, codes, rules, tests}
use Rattle.std.specs.declared.alloc.Global.{Global}
use Rattle.std.specs.Str.{bytes_eq}
use Rattle.std.proofs.lemmas.Iterator.{YieldsList-from_slice}
use Rattle.std.proofs.lemmas.Iterator.Search.{any_from_yields_List}
use Rattle.mk_lemmas.proofs.Lists.{list_any-map}
use Rattle.mk_read_parse.proofs.rules.has_wait.Goals as goal

pub returns : goal.returns
returns c =
    any_from_yields_List (λ (word : String Global). bytes_eq (codes ".WAIT") (string_bytes word)) _ _ _ c.any.ensures.ran (YieldsList-from_slice c.args.words.now cc) (λ x b q k. search (rules, tests))
    ∙ sym (list_any-map (λ (word : List ℕ). bytes_eq (codes ".WAIT") word) (λ (word : String Global). string_bytes word) c.args.words.now)
