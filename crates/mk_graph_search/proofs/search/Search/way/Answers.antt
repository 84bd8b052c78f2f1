-- The way at the place goes back along visits, or there are no more.
use Rattle.std.proofs.Common.{◌≤◌, ℕ, length, IfOk, MatchOption, subst}
use Rattle.mk_graph_search.specs.Ways.{successors}
use Rattle.mk_graph_search.specs.Places.{SearchInput, GoesAt, HasAtMost}
use Rattle.mk_graph_search.proofs.Going.{no_more, all_looked}
use Rattle.mk_graph_search.proofs.search.Search.way.Goals as goal
use Rattle.mk_graph_search.proofs.search.Search.way.Goals.{then-place-len+in_ok-along, else-place-len}

pub returns-clause-found : goal.returns-clause-found
returns-clause-found c =
    let now = c.go_on_to.new.self in
    let succ = successors c.self.inside.rows.now in
    let start = c.self.inside.progress.start in
    let place = c.args.place in
    let stands = c.in_ok-go_on_to.ensures.stands in
    subst (λ (task : SearchInput). IfOk c.if-place-len.result
    (λ found. MatchOption found (HasAtMost (successors task.rows) task.start place)
    (λ nodes. GoesAt (successors task.rows) task.start place nodes.items))) c.self.view_is
    (elim c.if-place-len.branch [
      | then-place-len+in_ok-along w ↦ rw w.result-is
          (subst (λ (n : ℕ). GoesAt succ n place w.in_ok-along.field-0.items) c.in_ok-go_on_to.ensures.start
          w.in_ok-along.ensures)
      | else-place-len w ↦ rw w.result-is
          (let past : length now.visits ≤ place = subst (λ (n : ℕ). n ≤ place) c.len.ensures
          w.if-place-len.false in no_more succ start now.visits now.at now.looked place stands
          (all_looked place (length now.visits) now.at c.in_ok-go_on_to.ensures.reached past) past)
    ])
