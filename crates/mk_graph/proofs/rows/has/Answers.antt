use Rattle.std.proofs.Common.{◌/◌, List, ℕ, get_or, sym, ap, ◌∙◌}
use Rattle.mk_graph.specs.BitRows.{row}
use Rattle.mk_graph.proofs.RowBits.{reads_row, lacks_beyond}
use Rattle.mk_graph.proofs.rows.has.Goals as goal

pub returns-in-Some : goal.returns-in-Some
returns-in-Some c = reads_row (row c.args.stride c.args.words.now c.args.number) c.args.member c.in-Some.word.now (c.in-Some.ensures.lookup.3.1 0 ∙ ap (λ (l : List ℕ). get_or l (c.args.member / 64) 0) c.row.ensures.value)

pub returns-in-None : goal.returns-in-None
returns-in-None c = sym (lacks_beyond (row c.args.stride c.args.words.now c.args.number) c.args.member (rw c.row.ensures.value at c.in-None.ensures.lookup.3))
