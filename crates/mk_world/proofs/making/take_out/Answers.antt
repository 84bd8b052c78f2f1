use Rattle.std.proofs.Common.{not, nat_eq, rules}
use Rattle.std.proofs.lemmas.Fn.{filter_same}
use Rattle.mk_world.proofs.making.take_out.Goals as goal

pub returns : goal.returns
returns c = filter_same _ (λ n. not (nat_eq c.args.number n)) _ (λ x b f' k. search rules) _ _ c.retain.ensures.filtered
