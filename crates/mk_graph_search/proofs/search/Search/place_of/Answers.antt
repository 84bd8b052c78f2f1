-- The place is that of the visit.
use Rattle.std.proofs.Common.{MatchOption, subst}
use Rattle.mk_graph_search.specs.Ways.{successors}
use Rattle.mk_graph_search.specs.Places.{SearchInput, EndsAt, IsOut}
use Rattle.mk_graph_search.proofs.Going.{place_answer}
use Rattle.mk_graph_search.proofs.search.Search.place_of.Goals as goal

pub returns-clause-found : goal.returns-clause-found
returns-clause-found c =
    let now = c.go_on_until.new.self in
    let inside = c.self.inside in
    let node = c.args.node in
    subst (λ (task : SearchInput). MatchOption c.place_of.result
    (IsOut (successors task.rows) task.start node) (λ place. EndsAt (successors task.rows) task.start
    place node)) c.self.view_is (place_answer (successors inside.rows.now) inside.progress.start
    now.visits now.at now.looked node c.in_ok-go_on_until.ensures.stands
    c.in_ok-go_on_until.ensures.reached c.place_of.result c.place_of.ensures)
