use Rattle.std.proofs.Common.{◌≡◌, ◌++◌, map, drop, string_bytes}
use Rattle.mk_world.specs.Running.{new_stamps}
use Rattle.mk_world.proofs.finishing.stamps_for.Given as goal

-- the stamps so far, and those of the files that are left
abbrev pub invariant-loop-file : goal.invariant-loop-file
invariant-loop-file l = l.stamps.items ++ new_stamps l.last (map string_bytes (drop l._file-index l.files)) ≡ new_stamps l.disk.clock (map string_bytes l.files)
