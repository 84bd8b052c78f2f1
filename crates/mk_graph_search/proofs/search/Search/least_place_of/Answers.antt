-- No earlier visit has the node.
use Rattle.std.proofs.Common.{sym, subst, ℕ}
use Rattle.mk_graph_search.specs.Ways.{successors}
use Rattle.mk_graph_search.specs.Places.{SearchInput, IsOutBefore}
use Rattle.mk_graph_search.proofs.Going.{out_before_visit, out_before_rest}
use Rattle.mk_graph_search.proofs.search.Search.least_place_of.Goals as goal

pub returns-in-Some : goal.returns-in-Some
returns-in-Some c =
    let inside = c.self.inside in
    let now = inside.progress in
    subst (λ (task : SearchInput). IsOutBefore (successors task.rows) task.start c.in-Some.place c.args.node) c.self.view_is (out_before_visit (successors inside.rows.now) now.start now.visits now.at now.looked c.args.node c.in-Some.place c.self.invariant c.in-Some.ensures)

pub returns-in-None : goal.returns-in-None
returns-in-None c =
    let inside = c.self.inside in
    let now = inside.progress in
    subst (λ (task : SearchInput). IsOutBefore (successors task.rows) task.start c.len.result c.args.node) c.self.view_is (subst (λ (k : ℕ). IsOutBefore (successors inside.rows.now) now.start k c.args.node) (sym c.len.ensures) (out_before_rest (successors inside.rows.now) now.start now.visits now.at now.looked c.args.node c.self.invariant c.in-None.ensures))
