use Rattle.std.proofs.Common.{◌≡◌, ℕ, List, [], length, true}
use Rattle.std.specs.Prelude.{◌↔◌}
use Rattle.mk_lines.specs.Names.{has_name}
use Rattle.mk_graph.specs.Membership.{Has}
use Rattle.mk_build.specs.Setting as build
use Rattle.mk_subject.specs.Subject.{footprints}
use Rattle.mk_subject.proofs.Rows.{RowsHold}
use Rattle.mk_cert.proofs.read_lists.lists_of.Given as goal

-- the lists so far
abbrev pub invariant-loop-number : goal.invariant-loop-number
invariant-loop-number l = record {
  many : length l.lists.items ≡ l.number;
  held : RowsHold (λ (t : ℕ) (set : List (List ℕ)). (f : List ℕ) → (has_name set f ≡ true) ↔ Has (build.reads l.graph (footprints l.setting) t) f) l.lists.items [];
}
