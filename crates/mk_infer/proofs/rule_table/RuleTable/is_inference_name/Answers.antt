use Rattle.std.proofs.Common.{◌≡◌, false, ap, sym, ◌∙◌}
use Rattle.mk_read.specs.Reading.{Makefile}
use Rattle.mk_read.specs.Special.{is_inference_name}
use Rattle.mk_infer.specs.Table.{is_dotted, is_joined}
use Rattle.mk_infer.proofs.InferenceNames.{joined_by, not_inferring}
use Rattle.mk_infer.proofs.rule_table.RuleTable.is_inference_name.Goals as goal

pub returns-then-is_dotted : goal.returns-then-is_dotted
returns-then-is_dotted c =
    c.is_joined.ensures ∙ (ap (is_joined c.self.inside.suffixes) c.as_bytes-bytes.ensures.value
    ∙ (joined_by c.self.inside.suffixes c.self.inside.makefile.now.suffixes c.self.invariant.are_suffixes c.self.invariant.suffixes_held c.args.name.now ∙ ap (λ (m : Makefile). is_inference_name m.suffixes c.args.name.now) c.self.view_is))

pub returns-else-is_dotted : goal.returns-else-is_dotted
returns-else-is_dotted c =
    let name = c.args.name.now in
    let plain : is_dotted name ≡ false = ap is_dotted (sym c.as_bytes-bytes.ensures.value) ∙ (sym c.is_dotted.ensures ∙ c.if-is_dotted.false) in
    c.if-is_dotted.false ∙ sym (sym (ap (λ (m : Makefile). is_inference_name m.suffixes name) c.self.view_is) ∙ not_inferring c.self.inside.makefile.now.suffixes c.self.invariant.are_suffixes name plain)
