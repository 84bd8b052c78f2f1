use Rattle.std.proofs.Common.{◌∙◌, ◌+◌, ap, sym}
use Rattle.std.specs.Option.{option_map, unwrap_or}
use Rattle.mk_claims.proofs.Numbers.{number_at}
use Rattle.mk_claims.proofs.numbering.number_with.Goals as goal

pub returns-in-None : goal.returns-in-None
returns-in-None c =
    sym (ap (λ o. unwrap_or (option_map (λ i. i + 1) o) 0) c.in-None.is)
    ∙ number_at (record { topic = c.args.topic.now; what = c.args.files }) c.args.groups.now.entries c.get_index_of.result c.get_index_of.ensures.index

pub returns-in-Some : goal.returns-in-Some
returns-in-Some c =
    sym (ap (λ o. unwrap_or (option_map (λ i. i + 1) o) 0) c.in-Some.is)
    ∙ number_at (record { topic = c.args.topic.now; what = c.args.files }) c.args.groups.now.entries c.get_index_of.result c.get_index_of.ensures.index
