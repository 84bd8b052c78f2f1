use Rattle.std.proofs.Common.{◌<◌, ◌∙◌, ℕ, List, refl, inl, ap, sym, subst, length, get_or}
use Rattle.std.proofs.lemmas.Result.{err_from_is_err_and}
use Rattle.mk_graph.specs.Graph.{Graph}
use Rattle.mk_graph.specs.Serial.{serial_order}
use Rattle.mk_infer.specs.Choosing.{Looked}
use Rattle.mk_subject.proofs.looking_up.entries_for.Goals as goal

pub returns-in_err-order-clause-fault : goal.returns-in_err-order-clause-fault
returns-in_err-order-clause-fault c =
    let p = err_from_is_err_and c.from_residual.result c.from_residual.ensures.1 in
    rw (p.1, p.2) (inl refl)

pub returns-in_err-after-clause-fault : goal.returns-in_err-after-clause-fault
returns-in_err-after-clause-fault c =
    let p = err_from_is_err_and c.from_residual-in_err-after.result c.from_residual-in_err-after.ensures.1 in
    rw (p.1, p.2) (inl refl)

pub returns-in_err-choices-clause-fault : goal.returns-in_err-choices-clause-fault
returns-in_err-choices-clause-fault c =
    let p = err_from_is_err_and c.from_residual-in_err-choices.result c.from_residual-in_err-choices.ensures.1 in
    rw (p.1, p.2) (inl refl)

pub entries_that_stay-requires : goal.entries_that_stay-requires
entries_that_stay-requires c =
    let g = c.args.records.now.graph in
    let nodes = subst (λ (h : Graph). (k d : ℕ) → k < length c.in_ok-order.order.items → get_or c.in_ok-order.order.items k d < length h.nodes) c.graph.ensures c.in_ok-order.ensures.nodes in
    record {
      nodes = subst (λ (ns : List ℕ). (k d : ℕ) → k < length ns → get_or ns k d < length g.nodes) (sym c.deref.ensures.value) nodes;
      order = c.deref.ensures.value ∙ (c.in_ok-order.ensures.order ∙ ap (λ (k : Graph). serial_order k) c.graph.ensures);
      nothing_more = ap (λ (l : Looked). l.exists.more) c.in_ok-choices.ensures ∙ c.requires;
    }
