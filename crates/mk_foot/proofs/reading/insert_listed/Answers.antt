use Rattle.std.proofs.Common.{◌<◌, length, arith, ap, ◌∙◌, string_bytes, String, Global, List, ℕ}
use Rattle.std.specs.Prelude.{fold}
use Rattle.mk_foot.specs.Names.{with_name}
use Rattle.mk_foot.specs.Reading.{listed}
use Rattle.mk_foot.proofs.Found.{next_list}
use Rattle.mk_foot.proofs.reading.insert_listed.Goals as goal

pub loop-name-preserved : goal.loop-name-preserved
loop-name-preserved c =
    let lt : c.loop-name.name-index < length c.args.shared.now = omega arith in
    let is = c.as_str.ensures.value ∙ ap (λ (s : String Global). string_bytes s) c.name-item.is in
    let grown = c.in_ok-insert_list.ensures ∙ ap (λ (n : List ℕ). fold with_name c.loop-name.set (listed c.args.lists.now n)) is in
    next_list c.args.lists.now c.loop-name.set c.insert_list.new.set c.args.shared.now c.loop-name.name-index c.name-item.result _ grown c.loop-name.invariant lt
