use Rattle.std.proofs.Common.{◌≡◌, map, drop, []}
use Rattle.mk_foot.specs.Names.{first_repeat}
use Rattle.mk_foot.specs.Parts.{RawRecord}
use Rattle.mk_foot.proofs.checks.first_repeat.Given as goal

-- the targets that are left, behind those that came
abbrev pub invariant-loop-entry : goal.invariant-loop-entry
invariant-loop-entry l = first_repeat l.seen (map (λ (e : RawRecord). e.target) (drop l.entry-index l.entries)) ≡ first_repeat [] (map (λ (e : RawRecord). e.target) l.entries)
