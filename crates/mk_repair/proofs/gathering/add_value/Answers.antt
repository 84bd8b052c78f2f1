use Rattle.std.proofs.Common.{◌∙◌, [], ◌∷◌, ◌++◌, unwrap_or, ap, arith}
use Rattle.mk_repair.specs.Rows.{table_rows}
use Rattle.mk_repair.proofs.Gathered.{value_put}
use Rattle.mk_repair.proofs.gathering.add_value.Goals as goal

pub returns : goal.returns
returns g c =
    let row = c.push.new.self in
    let items = c.in_ok-push.ensures.items ∙ ap (λ old. old.items ++ c.args.value ∷ []) (c.or_insert-row.ensures.value ∙ ap (λ found. unwrap_or found c.new.result) c.in_ok-rows.ensures.value) in
    let put = value_put g.K.PartialEq.eq c.args.rows.now.entries c.args.key c.args.value c.new.result row c.new.ensures.items items in
    let entries = c.in_ok-rows.ensures.update.1 row in
    ap table_rows (first_of (cc, grind arith)) ∙ put
