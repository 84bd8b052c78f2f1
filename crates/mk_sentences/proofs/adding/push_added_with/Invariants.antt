use Rattle.std.proofs.Common.{◌≡◌, ◌++◌, take, string_bytes}
use Rattle.std.specs.List.{flat_map}
use Rattle.mk_sentences.specs.Adding.{added_with}
use Rattle.mk_sentences.proofs.adding.push_added_with.Given as goal

-- the text so far: that at first, and the lines of the parts so far
abbrev pub invariant-loop-part : goal.invariant-loop-part
invariant-loop-part l = string_bytes l.out ≡ string_bytes l.initial.out ++ flat_map (λ part. added_with l.targets (string_bytes part)) (take l.part-index l.prerequisites)
