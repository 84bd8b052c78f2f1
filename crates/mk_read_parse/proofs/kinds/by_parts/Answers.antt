use Rattle.std.proofs.Common.{rules, sym, subst}
use Rattle.std.proofs.lemmas.List.{take_rest}
use Rattle.mk_read.proofs.RuleBytes.{by_parts-rule_line}
use Rattle.mk_read.specs.Kinds.{rule_line}
use Rattle.mk_read_parse.specs.KindViews.{GivesKind, kind_view}
use Rattle.mk_read_parse.proofs.kinds.by_parts.Goals as goal
use Rattle.mk_read_parse.proofs.kinds.by_parts.Goals.{then-from-lt2+in-58-1, else-from-lt2+then-from-lt3+in-58+in_default-1, else-from-lt2+else-from-lt3+then-from-lt4+in-58+in_default-1, else-from-lt2+else-from-lt3+else-from-lt4+in-58+in_default-1}

pub returns-in-58-5 : goal.returns-in-58-5
returns-in-58-5 c =
    let before = c.args.before.now in
    let from = c.args.from.now in
    let given = subst (λ rest. GivesKind kind_view c.rule_line.result (rule_line before rest)) (take_rest from 1) c.rule_line.ensures in
    elim c.in-58-5-1.branch [
      | then-from-lt2+in-58-1 w ↦ search rules
      | else-from-lt2+then-from-lt3+in-58+in_default-1 w ↦ subst (λ kind. GivesKind kind_view c.rule_line.result kind) (sym (by_parts-rule_line before from (search rules) (search rules) (search rules) (search rules))) given
      | else-from-lt2+else-from-lt3+then-from-lt4+in-58+in_default-1 w ↦ subst (λ kind. GivesKind kind_view c.rule_line.result kind) (sym (by_parts-rule_line before from (search rules) (search rules) (search rules) (search rules))) given
      | else-from-lt2+else-from-lt3+else-from-lt4+in-58+in_default-1 w ↦ subst (λ kind. GivesKind kind_view c.rule_line.result kind) (sym (by_parts-rule_line before from (search rules) (search rules) (search rules) (search rules))) given
    ]
