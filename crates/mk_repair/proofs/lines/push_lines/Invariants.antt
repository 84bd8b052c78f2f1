use Rattle.std.proofs.Common.{◌≡◌, ◌++◌, drop, string_bytes}
use Rattle.std.specs.List.{flat_map}
use Rattle.mk_repair.specs.Lines.{line_with}
use Rattle.mk_repair.proofs.lines.push_lines.Given as goal

-- the text so far, with the lines that are left
abbrev pub invariant-loop-piece : goal.invariant-loop-piece
invariant-loop-piece l =
    string_bytes l.out ++ flat_map (λ piece. flat_map (λ part. line_with (string_bytes piece) (string_bytes part)) l.prerequisites) (drop l.piece-index l.targets)
    ≡ string_bytes l.fn.out ++ flat_map (λ piece. flat_map (λ part. line_with (string_bytes piece) (string_bytes part)) l.prerequisites) l.targets
