-- The writers of a file are those that write it.
use Rattle.std.proofs.Common.{◌≡◌, ◌∙◌, ℕ, List, ap, eqb}
use Rattle.std.specs.List.{list_any}
use Rattle.mk_subject.specs.NodeRow.{NodeRow, writers_of}
use Rattle.mk_subject.specs.Target.{Target}
use Rattle.mk_find.proofs.OwnReads.{own_exactly}
use Rattle.mk_find.proofs.hidden.is_own.Goals as goal

pub returns : goal.returns
returns c =
    let x = c.args.subject.now in
    let f = c.args.file.now.file in
    let writers : c.writers.result.now ≡ writers_of x f = c.writers.ensures ∙ ap (λ (v : Target). v.known.writers) c.requires in
    let number : c.row.inside.number ≡ c.args.row.now.number = ap (λ (e : NodeRow). e.number) c.row.view_is in
    c.contains.ensures.value
    ∙ (ap (λ (l : List ℕ). list_any (λ n. eqb n c.row.inside.number) l) writers
    ∙ (ap (λ (k : ℕ). list_any (λ n. eqb n k) (writers_of x f)) number
    ∙ own_exactly c.serial_reaches_each_once.ensures x c.graph-graph.ensures.graph f c.args.row.now.number))
