use Rattle.mk_graph_ready.proofs.Blocks.{none_after, first_found}
use Rattle.mk_graph_ready.proofs.bytes.Bytes.first_one.Goals as goal

pub returns-in_err-place : goal.returns-in_err-place
returns-in_err-place c =
    let b = c.self.inside in
    let first = rw c.deref.ensures.value at c.in_ok-block.ensures in
    let none = rw c.deref-2.ensures.value at c.in_err-place.ensures in
    rw (c.from_residual-in_err-place.ensures, ← c.self.view_is) (none_after b.bytes.items b.blocks.items c.in_ok-block.block c.self.invariant first.2 none)

pub returns : goal.returns
returns c =
    let b = c.self.inside in
    let first = rw c.deref.ensures.value at c.in_ok-block.ensures in
    let found = rw c.deref-2.ensures.value at c.in_ok-place.ensures in
    rw (← c.self.view_is) (first_found b.bytes.items b.blocks.items c.in_ok-block.block c.in_ok-place.place c.self.invariant first.2 found.0 found.1 found.2)
