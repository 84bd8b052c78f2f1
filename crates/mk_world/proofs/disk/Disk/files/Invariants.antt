use Rattle.std.proofs.Common.{◌≡◌, ◌++◌, drop}
use Rattle.mk_lemmas.proofs.Texts.{texts}
use Rattle.mk_world.specs.Listing.{there_among, entry, listing}
use Rattle.mk_world.proofs.disk.Disk.files.Given as goal

-- the files so far, with those of the names that are left
abbrev pub invariant-loop-name : goal.invariant-loop-name
invariant-loop-name l = l.files.items ++ there_among (entry l.self) (texts (drop l.name-index l.name-items)) ≡ listing l.self
