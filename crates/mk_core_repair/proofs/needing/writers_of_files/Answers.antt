use Rattle.std.proofs.Common.{ℕ, ◌<◌, ◌∙◌, ◌++◌, List, filter, length, not, ap, string_bytes, arith}
use Rattle.std.specs.Prelude.{◌==◌}
use Rattle.mk_subject.specs.NodeRow.{writers_of}
use Rattle.mk_core_repair.proofs.Appending.{keep_list}
use Rattle.mk_core_repair.proofs.needing.writers_of_files.Goals as goal

pub loop-file-preserved : goal.loop-file-preserved
loop-file-preserved c =
    let x = c.args.subject.now in
    let row = c.loop-file.row.items in
    let others : List ℕ → List ℕ = filter (λ writer. not (writer == c.args.number)) in
    let lt : c.loop-file.file-index < length c.args.files.now = omega arith in
    keep_list (λ writer. not (writer == c.args.number)) (writers_of x) string_bytes c.args.files.now c.loop-file.file-index c.file-item.result row _ _ lt c.file-item.is
    (c.in_ok-push_others.ensures ∙ ap (λ (ws : List ℕ). row ++ others ws) (c.writers.ensures ∙ ap (writers_of x) c.as_str.ensures.value)) c.loop-file.invariant
