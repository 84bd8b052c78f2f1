use Rattle.std.proofs.Common.{◌≡◌, ◌++◌, map}
use Rattle.std.specs.Vec.Iter.{into_iter_items}
use Rattle.mk_foot.specs.Reading.{record_of}
use Rattle.mk_foot.proofs.reading.records_of.Given as goal

-- the records so far and those of the entries that are left
abbrev pub invariant-loop-entry : goal.invariant-loop-entry
invariant-loop-entry l = l.records.items ++ map (record_of l.lists) (into_iter_items l.entry-iterator) ≡ map (record_of l.lists) l.fn.entries.items
