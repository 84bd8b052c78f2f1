use Rattle.std.proofs.Common.{◌≡◌, ℕ, List, Option, Some, None, true, sym, subst, ◌∙◌}
use Rattle.std.specs.Prelude.{◌↔◌, MatchOption}
use Rattle.mk_graph.specs.Graph.{Graph}
use Rattle.mk_graph.specs.Membership.{Has}
use Rattle.mk_graph.specs.Schedules.{Before}
use Rattle.mk_find.specs.HappensBefore.{AreBefore, RowsAreOf}
use Rattle.mk_find.proofs.happens_before.HappensBefore.told_by_rows.Goals as goal
use Rattle.mk_find.proofs.happens_before.HappensBefore.told_by_rows.Goals.{in-Some-take, in-None+in_ok-rows-in-None, in-Some-before, in-None-before}

pub returns-in-Some-clause-before : goal.returns-in-Some-clause-before
returns-in-Some-clause-before c =
    let e = c.self.inside in
    let held = subst (λ (o : Option (List ℕ)). AreBefore e.graph.now e.number o) c.in-Some.is c.self.invariant.4 c.args.other in
    let has = c.has.ensures in
    rw (← c.self.view_is) (λ h. held.0 (has.0 h), λ before. has.1 (held.1 before))

-- the rows are of the graph
rows_of : (c : goal.After-self-2-1) → c.match-take.rows ≡ c.self.inside.graph.now
rows_of c = elim c.match-take.branch [
  | in-Some-take w ↦ w.rows-is ∙ subst (λ (r : Option Graph). RowsAreOf c.self.inside.graph.now r) (sym c.take.ensures.value ∙ w.in-Some-take.is) c.self.invariant.3
  | in-None+in_ok-rows-in-None w ↦ w.rows-is ∙ w.in_ok-rows-in-None.ensures
]

-- so their answer holds for it
told : (g : Graph) (number : ℕ) (found : Option (List ℕ)) → MatchOption found ((o : ℕ) → Before g o number) (λ set. (o : ℕ) → Has set o ↔ Before g o number) → AreBefore g number found
told g number None all = tt
told g number (Some set) all = all

pub invariant_of-self-2 : goal.invariant_of-self-2
invariant_of-self-2 c =
    let e = c.self.inside in
    let before = subst (λ (g : Graph). MatchOption c.predecessors-before.result ((o : ℕ) → Before g o e.number) (λ set. (o : ℕ) → Has set o ↔ Before g o e.number)) (rows_of c) c.predecessors-before.ensures in
    (c.self.invariant.0, c.self.invariant.1, c.self.invariant.2, rows_of c, told e.graph.now e.number c.predecessors-before.result before)

pub returns-clause-before : goal.returns-clause-before
returns-clause-before c =
    let e = c.self.inside in
    let before = subst (λ (g : Graph). MatchOption c.predecessors-before.result ((o : ℕ) → Before g o e.number) (λ set. (o : ℕ) → Has set o ↔ Before g o e.number)) (rows_of c) c.predecessors-before.ensures in
    let is : (c.match-before.is ≡ true) ↔ Before e.graph.now c.args.other e.number = elim c.match-before.branch [
      | in-Some-before w ↦ (let has = w.has-is.ensures in let held = subst
          (λ (f : Option (List ℕ)). MatchOption f ((o : ℕ) → Before e.graph.now o e.number)
          (λ set. (o : ℕ) → Has set o ↔ Before e.graph.now o e.number)) w.in-Some-before.is before
          c.args.other in (λ h. held.0 (has.0 (sym w.is-is ∙ h)), λ h. w.is-is ∙ has.1 (held.1 h)))
      | in-None-before w ↦ (let held = subst (λ (f : Option (List ℕ)). MatchOption f ((o : ℕ) → Before e.graph.now o e.number) (λ set. (o : ℕ) → Has set o ↔ Before e.graph.now o e.number)) w.in-None-before.is before c.args.other in (λ h. held, λ h. w.is-is))
    ] in
    rw (← c.self.view_is) is
