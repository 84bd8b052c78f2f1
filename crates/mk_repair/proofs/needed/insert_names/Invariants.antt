use Rattle.std.proofs.Common.{◌≡◌, drop, map}
use Rattle.std.specs.Prelude.{fold}
use Rattle.mk_lines.specs.Names.{with_name}
use Rattle.mk_subject.specs.Subject.{name_of}
use Rattle.mk_repair.proofs.needed.insert_names.Given as goal

-- the names so far, with those that are left
abbrev pub invariant-loop-number : goal.invariant-loop-number
invariant-loop-number l = fold with_name l.set (map (name_of l.subject) (drop l.number-index l.numbers)) ≡ fold with_name l.fn.set (map (name_of l.subject) l.numbers)
