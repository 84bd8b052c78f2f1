use Rattle.std.proofs.Common.{◌≡◌, ◌++◌, take, string_bytes}
use Rattle.std.specs.List.{flat_map}
use Rattle.mk_sentences.specs.Listing.{listed_line}
use Rattle.mk_sentences.proofs.listing.push_listed.Given as goal

-- the text so far: that at first, and the lines of the pieces so far
abbrev pub invariant-loop-piece : goal.invariant-loop-piece
invariant-loop-piece l = string_bytes l.out ≡ string_bytes l.initial.out ++ flat_map (λ piece. listed_line l.what (string_bytes piece)) (take l.piece-index l.pieces)
