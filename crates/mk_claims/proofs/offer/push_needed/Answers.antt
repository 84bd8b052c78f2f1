use Rattle.std.proofs.Common.{◌≡◌, ◌∙◌, ◌<◌, ◌++◌, ◌∷◌, [], ℕ, List, Vec, Global, length, ap, sym, arith}
use Rattle.std.proofs.lemmas.List.{get_or-map}
use Rattle.mk_graph.specs.Progress.{row}
use Rattle.mk_claims.proofs.OfferRows.{row_pushed}
use Rattle.mk_claims.proofs.offer.push_needed.Goals as goal

pub returns-in_ok-push-clause-added : goal.returns-in_ok-push-clause-added
returns-in_ok-push-clause-added c = λ n low.
    let rows = c.args.rows.now.items in
    let k = c.args.step.target in
    let lt : k < length rows = omega arith in
    let was : c.index_mut.result.now.items ≡ row rows k = ap (λ (r : Vec ℕ Global). r.items) c.index_mut.ensures.value ∙ sym (get_or-map (λ (r : Vec ℕ Global). r.items) rows k c.index_mut.result.now [] lt) in
    row_pushed rows k c.args.step.prerequisite n c.push.new.self lt (c.in_ok-push.ensures.items ∙ ap (λ (l : List ℕ). l ++ c.args.step.prerequisite ∷ []) was)
