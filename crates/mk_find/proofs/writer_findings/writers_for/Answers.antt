use Rattle.std.proofs.Common.{◌≡◌, ◌∙◌, ap}
use Rattle.mk_subject.specs.Subject.{name_of}
use Rattle.mk_subject.specs.NodeRow.{NodeRow, writers_of}
use Rattle.mk_find.proofs.Decided.{name_is}
use Rattle.mk_find.proofs.writer_findings.writers_for.Goals as goal

pub returns-then-row-nodes : goal.returns-then-row-nodes
returns-then-row-nodes c =
    let x = c.args.subject.now in
    let number : c.row.inside.number ≡ c.args.row.now.number = ap (λ (k : NodeRow). k.number) c.row.view_is in
    c.writers_of_node.ensures ∙ ap (λ n. writers_of x (name_of x n)) number

pub returns : goal.returns
returns c =
    let x = c.args.subject.now in
    c.writers.ensures ∙ ap (writers_of x) (name_is x c.args.row.now c.name.result.now c.requires c.name.ensures)
