use Rattle.std.proofs.Common.{◌∙◌, ◌++◌, ℕ, false, true, List, [], Vec, Global, ap, sym, append-nil}
use Rattle.std.proofs.lemmas.Bool.{cond-false, cond-true}
use Rattle.mk_subject.specs.NodeRow.{writers_of}
use Rattle.mk_subject.specs.Subject.{footprints, name_of}
use Rattle.mk_graph.specs.Graph.{Graph, node}
use Rattle.mk_build_needs.specs.Needs.{writers_of_reads}
use Rattle.mk_core_repair.proofs.NeedRows.{recipe_at}
use Rattle.mk_core_repair.proofs.needing.needs_of.Goals.{then-not-nodes-number+in_ok-extend_from_slice, else-not-nodes-number}
use Rattle.mk_core_repair.proofs.needing.needs_of.Goals as goal

pub returns : goal.returns
returns c =
    let x = c.args.subject.now in
    let n = c.args.number in
    let reads = writers_of_reads x.graph (footprints x.setting) n in
    let own = writers_of x (name_of x n) in
    let nodes = c.nodes.ensures.value ∙ ap (λ (g : Graph). g.nodes) c.graph-graph.ensures.value in
    elim c.if-not-nodes-number.branch [
      | then-not-nodes-number+in_ok-extend_from_slice w ↦
          ap (λ (row : Vec ℕ Global). row.items) w.row-is ∙ (w.in_ok-extend_from_slice.ensures.items
          ∙ (ap (λ (l : List ℕ). l ++ w.writers.result.now) c.in_ok-row.ensures
          ∙ (ap (λ (l : List ℕ). reads ++ l) (w.writers.ensures ∙ ap (writers_of x) w.name.ensures)
          ∙ ap (λ (l : List ℕ). reads ++ l) (sym (cond-false (node x.graph n).recipe [] own (recipe_at x.graph _ n _ false nodes c.requires w.if-not-nodes-number.true))))))
      | else-not-nodes-number w ↦
          ap (λ (row : Vec ℕ Global). row.items) w.row-is ∙ (c.in_ok-row.ensures
          ∙ (sym (append-nil reads) ∙ ap (λ (l : List ℕ). reads ++ l) (sym (cond-true (node x.graph n).recipe [] own (recipe_at x.graph _ n _ true nodes c.requires w.if-not-nodes-number.false)))))
    ]
