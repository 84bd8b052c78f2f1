use Rattle.std.proofs.Common.{ℕ, ◌<◌, ◌∙◌, ◌++◌, List, String, Global, length, ap, string_bytes, arith}
use Rattle.std.specs.List.{flat_map}
use Rattle.mk_repair.specs.Lines.{line_with}
use Rattle.mk_repair.proofs.Appending.{append_more}
use Rattle.mk_repair.proofs.lines.push_lines.Goals as goal

pub loop-piece-preserved : goal.loop-piece-preserved
loop-piece-preserved c =
    let parts = c.args.prerequisites.now in
    let lt : c.loop-piece.piece-index < length c.args.targets.now = omega arith in
    append_more (λ (piece : String Global). flat_map (λ (part : String Global). line_with (string_bytes piece) (string_bytes part)) parts) c.args.targets.now c.loop-piece.piece-index c.piece-item.result (string_bytes c.loop-piece.out) _ _ lt c.piece-item.is
    (c.in_ok-push_lines_with.ensures ∙ ap (λ (text : List ℕ). (string_bytes c.loop-piece.out) ++ flat_map (λ (part : String Global). line_with text (string_bytes part)) parts) c.as_str.ensures.value) c.loop-piece.invariant
