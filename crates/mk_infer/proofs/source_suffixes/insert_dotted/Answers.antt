use Rattle.std.proofs.Common.{◌∙◌, ◌<◌, ◌∷◌, map, take, ◌+◌, ap, sym, subst, length, arith}
use Rattle.std.specs.String.{string_bytes}
use Rattle.mk_infer.specs.Table.{HoldsDotted}
use Rattle.mk_infer.proofs.Added.{one_added}
use Rattle.mk_infer.proofs.Sources.{skipped_more}
use Rattle.mk_infer.proofs.source_suffixes.insert_dotted.Goals as goal
use Rattle.mk_infer.proofs.source_suffixes.insert_dotted.Goals.{then-is_dotted+in_ok-insert, else-is_dotted}

pub loop-name-preserved : goal.loop-name-preserved
loop-name-preserved c =
    let names = c.args.names.now in
    let i = c.loop-name.name-index in
    let lt : i < length names = omega arith in
    elim c.if-is_dotted.branch [
      | then-is_dotted+in_ok-insert w ↦
          subst (HoldsDotted c.args.set.now (map string_bytes (take (i + 1) names))) (sym w.set-is)
          (λ rest. one_added string_bytes c.loop-name.set c.args.set.now w.insert.new.self names i c.name-item.result w.deref.result.now (46 ∷ rest) w.in_ok-insert.ensures.ok (w.deref.ensures ∙ ap string_bytes c.name-item.is) (c.loop-name.invariant rest) lt)
      | else-is_dotted w ↦
          subst (HoldsDotted c.args.set.now (map string_bytes (take (i + 1) names))) (sym w.set-is)
          (skipped_more string_bytes c.args.set.now c.loop-name.set names i c.name-item.result c.as_bytes.result.now (c.as_bytes.ensures.value ∙ ap string_bytes c.name-item.is) (sym c.is_dotted.ensures ∙ w.if-is_dotted.false) c.loop-name.invariant lt)
    ]
