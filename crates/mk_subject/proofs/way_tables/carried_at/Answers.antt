use Rattle.std.proofs.Common.{◌≡◌, ◌<◌, ◌∙◌, ℕ, List, [], Vec, Global, length, ap, sym, subst, get_or, arith}
use Rattle.std.specs.Prelude.{◌↔◌}
use Rattle.std.proofs.lemmas.List.{get_or-map, length-map}
use Rattle.mk_graph.specs.Membership.{Has}
use Rattle.mk_build.specs.Ways.{Carries}
use Rattle.mk_subject.specs.Carried.{carried}
use Rattle.mk_subject.specs.Subject.{footprints, name_of}
use Rattle.mk_subject.proofs.FileDecided.{writer_is_node}
use Rattle.mk_subject.proofs.way_tables.carried_at.Goals as goal

pub new-requires : goal.new-requires
new-requires c = λ o h.
    let x = c.args.subject.now in
    let t = c.args.number in
    let rows = c.as_slice.result.now in
    let items = λ (v : Vec ℕ Global). v.items in
    let lt : t < length rows = omega (arith, ap (λ (l : List (List ℕ)). length l) c.as_slice.ensures, length-map rows items, c.requires.many, c.requires.node) in
    let row : c.as_slice-2.result.now ≡ carried x t =
    c.as_slice-2.ensures.value ∙ (ap items c.index-as_slice-number.is ∙ (sym (get_or-map items rows t c.index-as_slice-number.result [] lt) ∙ (ap (λ (l : List (List ℕ)). get_or l t []) c.as_slice.ensures ∙ c.requires.lists t))) in
    let (p, needed, wrote) = (c.carried_exactly.ensures x c.graph-graph.ensures.graph t o).0 (subst (λ (l : List ℕ). Has l o) row h) in
    omega (arith, writer_is_node x o (name_of x p) wrote, c.graph-graph.ensures.graph.few)

pub returns : goal.returns
returns c = λ o.
    let x = c.args.subject.now in
    let t = c.args.number in
    let rows = c.as_slice.result.now in
    let items = λ (v : Vec ℕ Global). v.items in
    let lt : t < length rows = omega (arith, ap (λ (l : List (List ℕ)). length l) c.as_slice.ensures, length-map rows items, c.requires.many, c.requires.node) in
    let row : c.as_slice-2.result.now ≡ carried x t =
    c.as_slice-2.ensures.value ∙ (ap items c.index-as_slice-number.is ∙ (sym (get_or-map items rows t c.index-as_slice-number.result [] lt) ∙ (ap (λ (l : List (List ℕ)). get_or l t []) c.as_slice.ensures ∙ c.requires.lists t))) in
    subst (λ (l : List ℕ). Has l o ↔ Carries x.graph (footprints x.setting) t o) (sym (c.in_ok-set.ensures ∙ row)) (c.carried_exactly.ensures x c.graph-graph.ensures.graph t o)
