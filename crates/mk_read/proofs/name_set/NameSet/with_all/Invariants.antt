use Rattle.std.proofs.Common.{◌≡◌, drop}
use Rattle.std.specs.Prelude.{fold}
use Rattle.mk_read.specs.Names.{with_name, once}
use Rattle.mk_read.proofs.NameSets.{names_of}
use Rattle.mk_read.proofs.name_set.NameSet.with_all.Given as goal

-- the names so far, each once, and with those that are left
abbrev pub invariant-loop-name : goal.invariant-loop-name
invariant-loop-name l = (once (names_of l.all.keys) ≡ names_of l.all.keys) × (fold with_name (names_of l.all.keys) (names_of (drop l.name-index l.names)) ≡ fold with_name l.fn.self (names_of l.names))
