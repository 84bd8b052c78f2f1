-- Which recipes a node carries.
use Rattle.std.proofs.Common.{◌≡◌, ℕ, List, sym, subst}
use Rattle.std.specs.Prelude.{◌↔◌}
use Rattle.mk_lemmas.proofs.Members.{Has-filter}
use Rattle.mk_lines.specs.Names.{has_name}
use Rattle.mk_graph.specs.Membership.{Has}
use Rattle.mk_graph.specs.Graph.{IsGraph}
use Rattle.mk_graph.specs.Laws.{SerialReachesEachOnce}
use Rattle.mk_graph.specs.Serial.{serial_order}
use Rattle.mk_subject.specs.Subject.{Subject, writes_of}
use Rattle.mk_subject.specs.NodeRow.{writers_of}
use Rattle.mk_subject.proofs.Decided.{has_decides}
use Rattle.mk_subject.proofs.FileDecided.{writers_write}
use Rattle.mk_subject.proofs.InOrder.{writer_in_order}

module _ (x : Subject) (is : IsGraph x.graph) (reaches : SerialReachesEachOnce) where
  -- among the writers of a file stands just who writes it
  pub listed : (f : List ℕ) (ns : List ℕ) → ns ≡ writers_of x f → (o : ℕ) → Has ns o ↔ Has (writes_of x o) f
  listed f ns same o =
      (λ h. writers_write x f ns same o h, λ wrote. subst (λ (l : List ℕ). Has l o) (sym same) (Has-filter (λ n. has_name (writes_of x n) f) (serial_order x.graph) o (writer_in_order x is reaches o f wrote) ((has_decides (writes_of x o) f).1 wrote)))
