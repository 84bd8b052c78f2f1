use Rattle.std.proofs.Common.{◌≡◌, ◌++◌, take, string_bytes}
use Rattle.std.specs.List.{flat_map}
use Rattle.mk_sentences.specs.Adding.{added_with}
use Rattle.mk_sentences.proofs.adding.push_added_pieces.Given as goal

-- the text so far: that at first, and the lines of the pieces so far
abbrev pub invariant-loop-piece : goal.invariant-loop-piece
invariant-loop-piece l = string_bytes l.out ≡ string_bytes l.initial.out ++ flat_map (λ piece. flat_map (λ part. added_with (string_bytes piece) (string_bytes part)) l.prerequisites) (take l.piece-index l.targets)
