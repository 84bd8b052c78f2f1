use Rattle.std.proofs.Common.{◌≡◌, ◌∙◌, ℕ, List, ap, length, take, arith}
use Rattle.std.specs.Prelude.{sum_by}
use Rattle.std.proofs.lemmas.List.{take_all}
use Rattle.mk_subject.specs.NodeRow.{NodeRow, row_writes}
use Rattle.mk_subject.specs.Subject.{writes_of}
use Rattle.mk_find_evidence.proofs.Counted.{writes_counted}
use Rattle.mk_find_evidence.proofs.bound.writings.Goals as goal

pub returns : goal.returns
returns c =
    let x = c.args.subject.now in
    let entries = c.entries-entry-items.result.now in
    let all : take c.loop-entry.entry-index entries ≡ entries = take_all c.loop-entry.entry-index entries (omega arith) in
    c.loop-entry.invariant.writings ∙ (ap (λ (es : List NodeRow). sum_by (λ (e : NodeRow). length (row_writes e)) es) all ∙ (writes_counted x entries c.entries-entry-items.ensures.right ∙ ap (λ (ns : List ℕ). sum_by (λ t. length (writes_of x t)) ns) c.entries-entry-items.ensures.in_order))
