use Rattle.std.proofs.Common.{List, [], ap, subst, ◌∙◌}
use Rattle.mk_lemmas.proofs.Results.{IfOk-map}
use Rattle.mk_read.specs.State.{RuleRead}
use Rattle.mk_infer.specs.Table.{HoldsDotted, commanded_in, sources_by, texts_at}
use Rattle.mk_infer.proofs.Sources.{are_sources}
use Rattle.mk_infer.proofs.source_suffixes.sources_among.Goals as goal

pub returns : goal.returns
returns c =
    let m = c.args.makefile.now in
    let held = subst (λ (rules : List RuleRead). HoldsDotted [] (commanded_in rules) c.in_ok-names.names) c.rules.ensures c.in_ok-names.ensures in
    IfOk-map c.sources_by.result (λ sources are. are_sources m c.suffixes.ensures.suffixes c.in_ok-names.names
    held (texts_at c.in_ok-backs.backs) c.in_ok-backs.ensures (texts_at sources)
    (λ name. are name ∙ ap (sources_by (texts_at c.in_ok-backs.backs) name) c.suffixes.ensures.exact))
    c.sources_by.ensures
