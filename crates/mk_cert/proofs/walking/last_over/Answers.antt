use Rattle.std.proofs.Common.{◌≡◌, ◌+◌, ◌<◌, ◌∷◌, ◌∙◌, [], ℕ, List, sym, subst, get_or, length, drop, arith}
use Rattle.std.proofs.lemmas.Bool.{true≢false}
use Rattle.std.proofs.lemmas.List.{drop_more}
use Rattle.mk_graph.specs.Membership.{Has}
use Rattle.mk_cert.specs.Walking.{GoesOver}
use Rattle.mk_cert.proofs.Walks.{step_on, no_step}
use Rattle.mk_cert.proofs.walking.last_over.Goals as goal

pub returns-then-not-has_at : goal.returns-then-not-has_at
returns-then-not-has_at c = λ end over.
    let x = c.args.subject.now in
    let names = c.args.path.now in
    let i = c.loop-place.place in
    let at = c.loop-place.last in
    let name = get_or names i [] in
    let lt : i < length names = omega arith in
    let rest : drop i names ≡ name ∷ drop (i + 1) names = drop_more names i [] lt in
    let rows : c.deref.result.now ≡ c.args.links.now.carried.items = c.deref.ensures.value in
    no_step x c.graph-graph.ensures.graph c.names_have_one_number.ensures at c.in-Some.next name (drop (i + 1) names) c.in-Some.ensures.0 (c.in-Some.ensures.1 ∙ c.at.ensures)
    (λ carries. true≢false (sym (c.has_at.ensures.1 (subst (λ (l : List (List ℕ)). Has (get_or l at []) c.in-Some.next) (sym rows) ((c.requires.carried_held at c.in-Some.next).1 carries))) ∙ c.if-not-has_at.true)) end
    (subst (λ (ns : List (List ℕ)). GoesOver x at ns end) rest ((c.loop-place.invariant end).1 over))

pub loop-place-preserved : goal.loop-place-preserved
loop-place-preserved c = λ end.
    let x = c.args.subject.now in
    let names = c.args.path.now in
    let i = c.loop-place.place in
    let at = c.loop-place.last in
    let name = get_or names i [] in
    let lt : i < length names = omega arith in
    let rest : drop i names ≡ name ∷ drop (i + 1) names = drop_more names i [] lt in
    let rows : c.deref.result.now ≡ c.args.links.now.carried.items = c.deref.ensures.value in
    let carries = (c.requires.carried_held at c.in-Some.next).0 (subst (λ (l : List (List ℕ)). Has (get_or l at []) c.in-Some.next) rows (c.has_at.ensures.0 c.if-not-has_at.false)) in
    let step = step_on x c.graph-graph.ensures.graph c.names_have_one_number.ensures at c.in-Some.next name (drop (i + 1) names) c.in-Some.ensures.0 (c.in-Some.ensures.1 ∙ c.at.ensures) carries end in
    (λ h. (c.loop-place.invariant end).0 (subst (λ (ns : List (List ℕ)). GoesOver x at ns end) (sym rest) (step.0 h)), λ h. step.1 (subst (λ (ns : List (List ℕ)). GoesOver x at ns end) rest ((c.loop-place.invariant end).1 h)))
