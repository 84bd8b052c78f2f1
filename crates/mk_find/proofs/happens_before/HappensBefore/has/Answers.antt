use Rattle.std.proofs.Common.{ℕ, refl}
use Rattle.mk_graph.proofs.Turning.{HasAll-has}
use Rattle.mk_graph.specs.Membership.{Has}
use Rattle.mk_graph.specs.Graph.{Graph, prerequisites}
use Rattle.mk_graph.specs.Schedules.{Before}
use Rattle.mk_find.proofs.happens_before.HappensBefore.has.Goals as goal

-- a prerequisite is before what lists it
direct_before : (g : Graph) (o t : ℕ) → Has (prerequisites g t) o → Before g o t
direct_before g o t listed = λ recipe goals ns part turns may. HasAll-has ns (prerequisites g t) o may.prerequisites listed

pub returns-then-lists-clause-before : goal.returns-then-lists-clause-before
returns-then-lists-clause-before c =
    let e = c.args.self.now in
    (λ yes. direct_before e.graph c.args.other e.number (c.lists.ensures c.if-lists.true), λ before. refl)
