use Rattle.std.proofs.Common.{◌≡◌, ◌<◌, ℕ, length}
use Rattle.mk_subject.specs.Subject.{footprints}
use Rattle.mk_graph.specs.Progress.{row}
use Rattle.mk_build_needs.specs.Needs.{more_needs}
use Rattle.mk_core_repair.proofs.needing.rows_of_needs.Given as goal

-- a row for each node before this one
abbrev pub invariant-loop-number : goal.invariant-loop-number
invariant-loop-number l = record {
  count : length l.rows.items ≡ l.number;
  rows : (n : ℕ) → n < l.number → row l.rows.items n ≡ more_needs l.subject.graph (footprints l.subject.setting) n;
}
