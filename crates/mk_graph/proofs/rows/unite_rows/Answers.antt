use Rattle.std.proofs.Common.{ℕ, List, get_or, subst, arith}
use Rattle.std.specs.Prelude.{◌↔◌}
use Rattle.mk_lemmas.proofs.Members.{Has-get_or}
use Rattle.mk_graph.specs.BitRows.{Lacks, RowLacks}
use Rattle.mk_graph.proofs.RowBits.{lacks_united, united_more}
use Rattle.mk_graph.proofs.rows.unite_rows.Goals as goal

pub row-requires : goal.row-requires
row-requires c = c.requires.rows _ (Has-get_or c.args.numbers.now c.loop-number.number-index 0 c.loop-number-test.true)

pub loop-number-preserved : goal.loop-number-preserved
loop-number-preserved c =
    let number = get_or c.args.numbers.now c.loop-number.number-index 0 in
    let united : (o : ℕ) → Lacks c.unite.new.words o ↔ (Lacks c.loop-number.gate o
    × RowLacks c.args.stride c.args.words.now number o) = λ o. subst
    (λ (l : List ℕ). Lacks c.unite.new.words o ↔ (Lacks c.loop-number.gate o × Lacks l o))
    c.row.ensures.value (lacks_united c.loop-number.gate c.row.result.now c.unite.new.words (omega arith)
    (omega arith) o c.unite.ensures) in
    united_more c.args.numbers.now c.loop-number.number-index c.loop-number-test.true c.args.stride c.args.words.now c.args.gate.now c.loop-number.gate c.unite.new.words united c.loop-number.invariant
