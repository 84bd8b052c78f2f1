use Rattle.std.proofs.Common.{List, ℕ, sym, ap, ◌∙◌}
use Rattle.std.specs.Str.{bytes_eq}
use Rattle.mk_lemmas.proofs.Lists.{list_any-map}
use Rattle.mk_read.specs.Names.{has_name}
use Rattle.mk_infer.proofs.suffix_set.SuffixSet.contains.Goals as goal

pub returns : goal.returns
returns c =
    c.contains.ensures ∙ (sym (list_any-map (λ (other : List ℕ). bytes_eq c.args.bytes.now other) (λ name. name.now) c.self.inside.suffixes.keys) ∙ ap (λ names. has_name names c.args.bytes.now) c.self.view_is)
