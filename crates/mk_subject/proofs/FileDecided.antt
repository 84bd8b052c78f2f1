-- What is tested of files decides what is found.
use Rattle.std.proofs.Common.{◌≡◌, ℕ, ◌<◌, List, [], cond, length, ap, subst, ⊎_elim}
use Rattle.std.proofs.lemmas.Bool.{cases_lt}
use Rattle.std.proofs.lemmas.List.{get_or_past}
use Rattle.mk_lemmas.proofs.Members.{Has-from_filter}
use Rattle.mk_lines.specs.Names.{has_name}
use Rattle.mk_graph.specs.Membership.{Has}
use Rattle.mk_graph.specs.declared.node.Node.{Node}
use Rattle.mk_graph.specs.Graph.{node, no_node}
use Rattle.mk_graph.specs.Serial.{serial_order}
use Rattle.mk_foot.specs.Setting as foot
use Rattle.mk_subject.specs.Subject.{Subject, writes_of}
use Rattle.mk_subject.specs.NodeRow.{writers_of}
use Rattle.mk_subject.proofs.Decided.{has_decides}

-- who writes a file is a node
pub writer_is_node : (x : Subject) (o : ℕ) (f : List ℕ) → Has (writes_of x o) f → o < length x.graph.nodes
writer_is_node x o f wrote =
    ⊎_elim (λ low. low) (λ past. absurd (let none : node x.graph o ≡ no_node = get_or_past x.graph.nodes o no_node past in subst (λ (fs : List (List ℕ)). Has fs f) (ap (λ (n : Node). cond n.recipe (foot.writes x.setting n.name) []) none) wrote)) (cases_lt o (length x.graph.nodes))

-- those that are looked up write the file
pub writers_write : (x : Subject) (f : List ℕ) (ns : List ℕ) → ns ≡ writers_of x f → (o : ℕ) → Has ns o → Has (writes_of x o) f
writers_write x f ns same o h = (has_decides (writes_of x o) f).0 ((Has-from_filter (λ n. has_name (writes_of x n) f) (serial_order x.graph) o (subst (λ (l : List ℕ). Has l o) same h)).1)
