use Rattle.std.proofs.Common.{◌≡◌, ℕ, List, [], length, map}
use Rattle.mk_lemmas.proofs.Texts.{texts}
use Rattle.mk_graph.specs.declared.node.Node.{Node}
use Rattle.mk_build.specs.Setting as build
use Rattle.mk_subject.specs.FileInfo.{StandAt, known_by}
use Rattle.mk_subject.specs.Subject.{footprints}
use Rattle.mk_subject.specs.Writers.{numbers_at}
use Rattle.mk_subject.proofs.Rows.{RowsHold}
use Rattle.mk_subject.proofs.files.files_of.Given as goal

-- the nodes so far have the places of what they write and read
abbrev pub invariant-loop-number : goal.invariant-loop-number
invariant-loop-number l = record {
  all : l.known.items ≡ map (λ f. known_by l.table l.records.setting (numbers_at l.writers) l.names f.now) l.files.keys;
  nodes : StandAt (texts l.files.keys) l.nodes.items (map (λ (n : Node). n.name) l.records.graph.nodes);
  many_written : length l.writes ≡ l.number;
  many_read : length l.reads ≡ l.number;
  written : RowsHold (λ (t : ℕ) (row : List ℕ). StandAt (texts l.files.keys) row (build.writes l.records.graph (footprints l.records.setting) t)) l.writes [];
  read : RowsHold (λ (t : ℕ) (row : List ℕ). StandAt (texts l.files.keys) row (build.reads l.records.graph (footprints l.records.setting) t)) l.reads [];
}
