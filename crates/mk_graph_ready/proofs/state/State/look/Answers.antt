use Rattle.std.proofs.Common.{◌≡◌, ℕ, ◌<◌, List, [], false, length, get_or, set, ap, sym, subst, ◌∙◌, arith}
use Rattle.std.proofs.lemmas.Bool.{true≢false}
use Rattle.std.specs.Vec.{with_item}
use Rattle.std.proofs.lemmas.List.{get_or_default}
use Rattle.mk_graph.specs.Membership.{Has}
use Rattle.mk_graph.specs.Graph.{Graph, node}
use Rattle.mk_graph_ready.specs.Rest.{Rest}
use Rattle.mk_graph_ready.specs.RemainingGroups.{IsLeft}
use Rattle.mk_graph_ready.specs.Stages.{WantsOpened}
use Rattle.mk_graph_ready.specs.State.{Stands, no_rest}
use Rattle.mk_graph_ready.proofs.Standing.{MarksOne, looked, looked_less, behind_low, written_left, marks_none, marks_one}
use Rattle.mk_graph_ready.proofs.state.State.look.Goals as goal
use Rattle.mk_graph_ready.proofs.state.State.look.Goals.{else-is_over-via-then-is_over+then-not-has_recipe+else-not-has, else-is_over-via-then-is_over+else-not-has_recipe, else-is_over-via-else-is_over}

pub advance-requires : goal.advance-requires
advance-requires c = λ n h.
    let s = c.args.self.now in
    let at = c.index_mut.ensures.value ∙ get_or_default s.left.items c.args.number c.index_mut.result.now no_rest (rw c.requires.stands.lefts c.requires.node) in
    subst (λ (l : List ℕ). n < length l) (sym c.write.ensures) (behind_low c.args.layout.now s c.args.number n c.index_mut.result.now c.graph-graph.ensures.graph c.requires.stands c.requires.node at h)

pub returns-then-not-has-clause-stands : goal.returns-then-not-has-clause-stands
returns-then-not-has-clause-stands c =
    let g = c.args.layout.now in
    let s = c.args.self.now in
    let t = c.args.number in
    let low : t < length s.left.items = rw c.requires.stands.lefts c.requires.node in
    let at = c.index_mut.ensures.value ∙ get_or_default s.left.items t c.index_mut.result.now no_rest low in
    let wants : ¬ (get_or s.stages t 0 ≡ 0) = λ e. let a = c.if-at-ne-WANTED.false in let b : c.at.result ≡ 0 = c.at.ensures ∙ e in omega arith in
    let opened = subst (λ (r : Rest). WantsOpened (set s.stages t 2) c.advance.new.stages s.done r) at (subst (λ (l : List ℕ). WantsOpened l c.advance.new.stages s.done c.index_mut.result.now) c.write.ensures c.advance.ensures.wants) in
    let lefts = subst (λ (r : Rest). (groups : List (List ℕ)) → IsLeft (set s.stages t 2) s.done groups r
    → IsLeft c.advance.new.stages s.done groups c.advance.new.left) at
    (subst (λ (l : List ℕ). (groups : List (List ℕ)) → IsLeft l s.done groups c.index_mut.result.now
    → IsLeft c.advance.new.stages s.done groups c.advance.new.left) c.write.ensures
    c.advance.ensures.left) in
    let read = written_left s.left.items t c.advance.new.left c.index.result.now low c.index.ensures in
    let over = subst (λ (r : Rest). r.group ≡ []) read (c.is_over.ensures.0 c.if-is_over.true) in
    let plain : (node g t).recipe ≡ false = sym (c.has_recipe.ensures ∙ ap (λ (k : Graph). (node k t).recipe) c.graph-graph.ensures.value) ∙ c.if-not-has_recipe.true in
    let out : ¬ (Has s.done t) = λ h. true≢false (sym (c.has.ensures.1 h) ∙ c.if-not-has.true) in
    subst (λ (l : List ℕ). Stands g (record { goals = s.goals; done = s.done; stages = c.advance.new.stages; left = with_item s.left t c.advance.new.left; marks = l })) (sym c.write_one.ensures)
    (looked g s t c.advance.new.stages c.advance.new.left _ c.requires.stands c.requires.node wants opened lefts c.advance.ensures.stopped (marks_one g s t c.place.result c.advance.new.left c.requires.stands c.place.ensures.within c.place.ensures.is c.place.ensures.only over plain out))

pub returns-then-not-has-clause-less : goal.returns-then-not-has-clause-less
returns-then-not-has-clause-less c = looked_less c.args.self.now c.args.number c.advance.new.stages
    c.index_mut.result.now (rw c.requires.stands.stages c.requires.node)
    (subst (λ (l : List ℕ). WantsOpened l c.advance.new.stages c.args.self.now.done c.index_mut.result.now)
    c.write.ensures c.advance.ensures.wants)

pub returns-else-is_over-clause-stands : goal.returns-else-is_over-clause-stands
returns-else-is_over-clause-stands c =
    let g = c.args.layout.now in
    let s = c.args.self.now in
    let t = c.args.number in
    let low : t < length s.left.items = rw c.requires.stands.lefts c.requires.node in
    let at = c.index_mut.ensures.value ∙ get_or_default s.left.items t c.index_mut.result.now no_rest low in
    let wants : ¬ (get_or s.stages t 0 ≡ 0) = λ e. let a = c.if-at-ne-WANTED.false in let b : c.at.result ≡ 0 = c.at.ensures ∙ e in omega arith in
    let opened = subst (λ (r : Rest). WantsOpened (set s.stages t 2) c.advance.new.stages s.done r) at (subst (λ (l : List ℕ). WantsOpened l c.advance.new.stages s.done c.index_mut.result.now) c.write.ensures c.advance.ensures.wants) in
    let lefts = subst (λ (r : Rest). (groups : List (List ℕ)) → IsLeft (set s.stages t 2) s.done groups r
    → IsLeft c.advance.new.stages s.done groups c.advance.new.left) at
    (subst (λ (l : List ℕ). (groups : List (List ℕ)) → IsLeft l s.done groups c.index_mut.result.now
    → IsLeft c.advance.new.stages s.done groups c.advance.new.left) c.write.ensures
    c.advance.ensures.left) in
    let read = written_left s.left.items t c.advance.new.left c.index.result.now low c.index.ensures in
    let none : MarksOne g s t c.advance.new.left s.marks = marks_none g s t c.advance.new.left (λ over out plain. elim c.else-is_over.branch [
      | else-is_over-via-then-is_over+then-not-has_recipe+else-not-has w ↦ out (w.has.ensures.0 w.if-not-has.false)
      | else-is_over-via-then-is_over+else-not-has_recipe w ↦
          true≢false (sym w.if-not-has_recipe.false ∙ (w.has_recipe.ensures ∙ (ap (λ (k : Graph). (node k t).recipe) c.graph-graph.ensures.value ∙ plain)))
      | else-is_over-via-else-is_over w ↦ true≢false (sym (c.is_over.ensures.1 (ap (λ (r : Rest). r.group) read ∙ over)) ∙ w.if-is_over.false)
    ]) in
    looked g s t c.advance.new.stages c.advance.new.left s.marks c.requires.stands c.requires.node wants opened lefts c.advance.ensures.stopped none

pub returns-else-is_over-clause-less : goal.returns-else-is_over-clause-less
returns-else-is_over-clause-less c = looked_less c.args.self.now c.args.number c.advance.new.stages
    c.index_mut.result.now (rw c.requires.stands.stages c.requires.node)
    (subst (λ (l : List ℕ). WantsOpened l c.advance.new.stages c.args.self.now.done c.index_mut.result.now)
    c.write.ensures c.advance.ensures.wants)
