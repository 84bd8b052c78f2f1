use Rattle.std.proofs.Common.{◌≡◌, ◌∙◌, ℕ, List, ap, length, take, arith}
use Rattle.std.specs.Prelude.{filter, sum_by}
use Rattle.std.proofs.lemmas.List.{take_all}
use Rattle.mk_graph.specs.Graph.{node}
use Rattle.mk_subject.specs.NodeRow.{NodeRow}
use Rattle.mk_subject.specs.Subject.{reads_of}
use Rattle.mk_subject.proofs.Counted.{recipes_counted, reads_counted}
use Rattle.mk_subject.proofs.counting.counts.Goals as goal

pub returns-clause-recipes : goal.returns-clause-recipes
returns-clause-recipes c =
    let x = c.args.subject.now in
    let entries = c.entries-entry-items.result.now in
    let all : take c.loop-entry.entry-index entries ≡ entries = take_all c.loop-entry.entry-index entries (omega arith) in
    c.loop-entry.invariant.recipes ∙ (ap (λ (es : List NodeRow). length
    (filter (λ (e : NodeRow). e.node.recipe) es)) all ∙ (recipes_counted x entries
    c.entries-entry-items.ensures.right ∙ ap (λ (ns : List ℕ). length
    (filter (λ t. (node x.graph t).recipe) ns)) c.entries-entry-items.ensures.in_order))

pub returns-clause-reads : goal.returns-clause-reads
returns-clause-reads c =
    let x = c.args.subject.now in
    let entries = c.entries-entry-items.result.now in
    let all : take c.loop-entry.entry-index entries ≡ entries = take_all c.loop-entry.entry-index entries (omega arith) in
    c.loop-entry.invariant.reads ∙ (ap (λ (es : List NodeRow). sum_by (λ (e : NodeRow). length (reads_of x e.number)) es) all ∙ (reads_counted x entries ∙ ap (λ (ns : List ℕ). sum_by (λ t. length (reads_of x t)) ns) c.entries-entry-items.ensures.in_order))
