use Rattle.std.proofs.Common.{map, string_bytes, sym, subst}
use Rattle.mk_read.proofs.SuffixLists.{AllSuffixes, all_in_both}
use Rattle.mk_read.proofs.suffix_list.SuffixList.with_all.Goals as goal

pub invariant_of-result : goal.invariant_of-result
invariant_of-result c = subst AllSuffixes (sym c.in_ok-with_all.ensures) (all_in_both c.self.inside.names (map string_bytes c.args.words.now) c.self.invariant c.requires)
