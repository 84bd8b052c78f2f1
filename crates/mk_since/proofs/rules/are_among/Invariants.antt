use Rattle.std.proofs.Common.{◌≡◌, drop, map}
use Rattle.std.specs.String.{string_bytes}
use Rattle.mk_since.specs.Parts.{are_among}
use Rattle.mk_since.proofs.rules.are_among.Given as goal

-- the list that is known is that of the others, and the names that are left decide
abbrev pub invariant-loop-name : goal.invariant-loop-name
invariant-loop-name l =
    (l.known ≡ map string_bytes l.others) ×
    (are_among (map string_bytes (drop l.name-index l.names)) (map string_bytes l.others) ≡ are_among (map string_bytes l.names) (map string_bytes l.others))
