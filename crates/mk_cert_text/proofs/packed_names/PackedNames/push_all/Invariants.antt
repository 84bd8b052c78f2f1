use Rattle.std.proofs.Common.{◌≡◌, ◌++◌, take}
use Rattle.mk_cert_text.proofs.packed_names.PackedNames.push_all.Given as goal

-- the names so far
abbrev pub invariant-loop-place : goal.invariant-loop-place
invariant-loop-place l = l.self ≡ l.initial.self ++ take l.place l.names
