use Rattle.std.proofs.Common.{◌≡◌, take}
use Rattle.std.specs.List.{flat_map}
use Rattle.mk_macros.specs.Definitions.{doubled_byte}
use Rattle.mk_macros.proofs.definitions.doubled.Given as goal

-- the bytes so far, each dollar doubled
abbrev pub invariant-loop-byte : goal.invariant-loop-byte
invariant-loop-byte l = l.made.items ≡ flat_map doubled_byte (take l.byte-index l.text)
