-- Rows begin full, and full rows lack what is no node alone.
use Rattle.std.proofs.Common.{◌≡◌, ◌*◌, length, replicate, ap, ◌∙◌}
use Rattle.mk_graph.specs.BitRows.{RowLacks}
use Rattle.mk_graph.proofs.RowBits.{ones_full}
use Rattle.mk_graph.proofs.Settling.{full_wanted, full_free, goals_cleared}
use Rattle.mk_graph.proofs.bit_rows.settle.Goals as goal

pub pass_forwards-requires-clause-free : goal.pass_forwards-requires-clause-free
pass_forwards-requires-clause-free c =
    let g = c.args.graph.now in
    let stride = c.args.stride in
    let full : c.fill-2.new.self ≡ replicate (length g.nodes * stride) 18446744073709551615 = c.fill-2.ensures.after (λ y e. e) ∙ ap (λ k. replicate k 18446744073709551615) c.requires.done.long in
    full_free g c.requires.graph (RowLacks stride c.fill-2.new.self) (ones_full stride (length g.nodes) c.fill-2.new.self full c.requires.done.wide)

pub pass_backwards-requires-clause-wanted : goal.pass_backwards-requires-clause-wanted
pass_backwards-requires-clause-wanted c =
    let g = c.args.graph.now in
    let stride = c.args.stride in
    let long = c.fill.ensures.len in
    let full : c.fill-3.new.self ≡ replicate (length g.nodes * stride) 18446744073709551615 = c.fill-3.ensures.after (λ y e. e) ∙ ap (λ k. replicate k 18446744073709551615) (long ∙ c.requires.first.long) in
    goals_cleared g (RowLacks stride c.fill-3.new.self) (RowLacks stride c.clear_goals.new.first) (full_wanted g c.requires.graph (RowLacks stride c.fill-3.new.self) (ones_full stride (length g.nodes) c.fill-3.new.self full c.requires.first.wide)) c.clear_goals.ensures
