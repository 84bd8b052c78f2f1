-- A node that isn't there yet goes to the end.
use Rattle.std.proofs.Common.{List, nat_eq, sym, subst}
use Rattle.indexmap.specs.IndexMap.{get}
use Rattle.mk_graph_search.specs.declared.visits.Visit.{Visit}
use Rattle.mk_graph_search.specs.Visits.{AreNoted}
use Rattle.mk_graph_search.proofs.Tables.{noted_pushed, visited_again}
use Rattle.mk_graph_search.proofs.visits.Visits.visit.Goals as goal
use Rattle.mk_graph_search.proofs.visits.Visits.visit.Goals.{then-len-ge-FEW+in_ok-note_all, else-len-ge-FEW}

pub returns-then-is_some-clause-ok : goal.returns-then-is_some-clause-ok
returns-then-is_some-clause-ok c = visited_again c.args.self.now c.args.node c.args.from c.place_of.result (sym c.if-is_some.ensures) c.place_of.ensures

pub invariant_of-self-2 : goal.invariant_of-self-2
invariant_of-self-2 c =
    let inside = c.if-len-ge-FEW.self-inside in
    let noted : AreNoted inside.list.items (get nat_eq inside.places) inside.noted = elim c.if-len-ge-FEW.branch [
      | then-len-ge-FEW+in_ok-note_all w ↦ rw w.self-inside-is (subst (λ (l : List Visit). AreNoted l (get nat_eq w.note_all.new.places) w.note_all.new.noted) w.as_slice.ensures.value w.note_all.ensures)
      | else-len-ge-FEW w ↦ rw w.self-inside-is c.self.invariant
    ] in
    subst (λ (l : List Visit). AreNoted l (get nat_eq inside.places) inside.noted) (sym c.in_ok-push.ensures.items) (noted_pushed inside.list.items (get nat_eq inside.places) inside.noted _ noted)
