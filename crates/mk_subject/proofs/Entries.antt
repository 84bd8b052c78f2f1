-- What is looked up of nodes, one after another.
use Rattle.std.proofs.Common.{◌≡◌, ℕ, zero, suc, inl, inr, ◌+◌, ◌<◌, List, [], ◌∷◌, ◌++◌, length, get_or, map, take, false, Bool, true, cond, Option, None, Some, Ok, Err, refl, sym, ap, subst, ◌∙◌, arith}
use Rattle.std.specs.Prelude.{All, filter}
use Rattle.std.proofs.lemmas.List.{take_more, map_push, get_or-map, get_or-take, length-map, length-take}
use Rattle.std.proofs.lemmas.List.Elements.{All-push, All-head, All-tail}
use Rattle.mk_graph.proofs.Nodes.{reached_is_node}
use Rattle.mk_lines.specs.Names.{has_name}
use Rattle.mk_graph.specs.declared.node.Node.{Node}
use Rattle.mk_graph.specs.Graph.{Graph, IsGraph, node, no_node}
use Rattle.mk_graph.specs.Laws.{SerialReachesEachOnce}
use Rattle.mk_graph.specs.Membership.{Has}
use Rattle.mk_graph.specs.Serial.{serial_order}
use Rattle.mk_foot.specs.Book.{Record}
use Rattle.mk_foot.specs.Setting as foot
use Rattle.mk_infer.specs.Commands.{Commands, no_commands}
use Rattle.mk_infer.specs.declared.fault.InferFault.{InferFault}
use Rattle.mk_subject.specs.Subject.{Subject, name_of, commands_of, reads_of, writes_of}
use Rattle.mk_subject.specs.NodeRow.{NodeRow, IsRow, AreEntriesOf, AreRows, IsFirstFault, row_reads, row_writes, reads_in, writes_in, writers_of}
use Rattle.mk_subject.proofs.InOrder.{in_order}

no_entry : NodeRow
no_entry = record { number = 0; node = no_node; recorded = None; commands = no_commands; others = false; unwritten = false; chosen = None; chosen_after = None }

-- one node more
pub entry_more : (x : Subject) (order : List ℕ) (i : ℕ) (entries new : List NodeRow) (e : NodeRow) → new ≡ entries ++ e ∷ [] → e.number ≡ get_or order i 0 → i < length order → IsRow x e → AreEntriesOf x (take i order) entries → AreEntriesOf x (take (i + 1) order) new
entry_more x order i entries new e pushed same lt is h = record {
  in_order = ap (map (λ (k : NodeRow). k.number)) pushed ∙ (map_push (λ (k : NodeRow). k.number) entries e ∙ (ap (λ ns. ns ++ e.number ∷ []) h.in_order ∙ (ap (λ n. take i order ++ n ∷ []) same ∙ sym (take_more order i 0 lt))));
  right = subst (λ (es : List NodeRow). All (IsRow x) es) (sym pushed) (All-push (IsRow x) entries e h.right is);
}

-- the fault of a node behind others that have none is the first
pub first_told : (x : Subject) (order : List ℕ) (i : ℕ) (entries : List NodeRow) (fault : InferFault)
    → i < length order → map (λ (e : NodeRow). e.number) entries ≡ take i order
    → All (λ (e : NodeRow). commands_of x e.number ≡ Ok e.commands) entries → commands_of x (get_or order i 0)
    ≡ Err fault → IsFirstFault x order fault
first_told x order i entries fault lt in_order told failed = record {
  place = i;
  within = lt;
  here = failed;
  before = λ k low.
      let many : length entries ≡ length (take i order) = sym (length-map entries (λ (e : NodeRow). e.number)) ∙ ap length in_order in
      let within : k < length entries = omega (arith, length-take i order) in
      let same : get_or order k 0 ≡ (get_or entries k no_entry).number = sym (get_or-take i order k 0 low) ∙ (ap (λ ns. get_or ns k 0) (sym in_order) ∙ get_or-map (λ (e : NodeRow). e.number) entries k no_entry 0 within) in
      ((get_or entries k no_entry).commands, ap (commands_of x) same ∙ told k no_entry within);
}

pub first_fault : (x : Subject) (order : List ℕ) (i : ℕ) (entries : List NodeRow) (fault : InferFault) → i < length order → AreEntriesOf x (take i order) entries → commands_of x (get_or order i 0) ≡ Err fault → IsFirstFault x order fault
first_fault x order i entries fault lt h failed =
    first_told x order i entries fault lt h.in_order (λ k d low. (h.right k d low).same_commands) failed

-- what is looked up of the files of a record is what the setting says
pub reads_by : (s : foot.Setting) (name : List ℕ) (r : Option Record) → foot.record_for s.records name ≡ r → reads_in r ≡ foot.reads s name
reads_by s name None e = rw e refl
reads_by s name (Some r) e = rw e refl

pub writes_by : (s : foot.Setting) (name : List ℕ) (r : Option Record) → foot.record_for s.records name ≡ r → writes_in r ≡ foot.writes s name
writes_by s name None e = rw e refl
writes_by s name (Some r) e = rw e refl

-- so an entry reads and writes what the recipe of its node does
pub same_reads : (x : Subject) (e : NodeRow) → IsRow x e → row_reads e ≡ reads_of x e.number
same_reads x e is = ap (λ (n : Node). cond n.recipe (reads_in e.recorded) []) is.same_node ∙ ap (λ fs. cond (node x.graph e.number).recipe fs []) (reads_by x.setting (name_of x e.number) e.recorded (sym is.same_record))

pub same_writes : (x : Subject) (e : NodeRow) → IsRow x e → row_writes e ≡ writes_of x e.number
same_writes x e is = ap (λ (n : Node). cond n.recipe (writes_in e.recorded) []) is.same_node ∙ ap (λ fs. cond (node x.graph e.number).recipe fs []) (writes_by x.setting (name_of x e.number) e.recorded (sym is.same_record))

-- the numbers of the entries that write a file are those of the nodes that do
abbrev Writing : Subject → List ℕ → List NodeRow → Type 0
Writing x f entries = map (λ (e : NodeRow). e.number) (filter (λ (e : NodeRow). has_name (row_writes e) f) entries) ≡ filter (λ o. has_name (writes_of x o) f) (map (λ (e : NodeRow). e.number) entries)

one_writing : (x : Subject) (f : List ℕ) (e : NodeRow) (es : List NodeRow) (b : Bool) → has_name (row_writes e) f ≡ b → has_name (writes_of x e.number) f ≡ b → Writing x f es → Writing x f (e ∷ es)
one_writing x f e es true t u later = rw (t, u) (ap (λ ns. e.number ∷ ns) later)
one_writing x f e es false t u later = rw (t, u) later

numbers_of_writers : (x : Subject) (f : List ℕ) (entries : List NodeRow) → All (IsRow x) entries → Writing x f entries
numbers_of_writers x f [] h = refl
numbers_of_writers x f (e ∷ es) h = one_writing x f e es (has_name (row_writes e) f) refl (ap (λ ws. has_name ws f) (sym (same_writes x e (All-head (IsRow x) e es h)))) (numbers_of_writers x f es (All-tail (IsRow x) e es h))

pub writers_are : (x : Subject) (f : List ℕ) (entries : List NodeRow) → AreRows x entries
    → map (λ (e : NodeRow). e.number) (filter (λ (e : NodeRow). has_name (row_writes e) f) entries) ≡ writers_of x f
writers_are x f entries h = numbers_of_writers x f entries h.right ∙ ap (λ ns. filter (λ o. has_name (writes_of x o) f) ns) h.in_order

-- a node of the order has an entry
entry_for : (x : Subject) (entries : List NodeRow) (n : ℕ) → All (IsRow x) entries → Has (map (λ (e : NodeRow). e.number) entries) n → (e : NodeRow) × IsRow x e × (e.number ≡ n)
entry_for x [] n h stands = absurd stands
entry_for x (e ∷ es) n h (inl here) = (e, All-head (IsRow x) e es h, here)
entry_for x (e ∷ es) n h (inr there) = entry_for x es n (All-tail (IsRow x) e es h) there

-- so the commands of all nodes have no fault
pub all_told : (x : Subject) (entries : List NodeRow) → IsGraph x.graph → SerialReachesEachOnce → AreRows x entries → (n : ℕ) → n < length x.graph.nodes → (found : Commands) × (commands_of x n ≡ Ok found)
all_told x entries is reaches h n low =
    let found = entry_for x entries n h.right (subst (λ (ns : List ℕ). Has ns n) (sym h.in_order) (in_order x is reaches n low)) in
    (found.0.commands, ap (commands_of x) (sym found.2) ∙ found.1.same_commands)

-- what stands in the serial order are nodes
pub order_below : (g : Graph) → IsGraph g → SerialReachesEachOnce → (order : List ℕ) → order ≡ serial_order g → (k d : ℕ) → k < length order → get_or order k d < length g.nodes
order_below g is reaches order same k d low = reached_is_node g is (get_or order k d) (((reaches g is.no_cycle).1 (get_or order k d)).0 (subst (λ (ns : List ℕ). Has ns (get_or order k d)) same (at order k d low)))
  where
    at : (ns : List ℕ) (k d : ℕ) → k < length ns → Has ns (get_or ns k d)
    at [] k d h = absurd (omega arith)
    at (n ∷ ns) zero d h = inl refl
    at (n ∷ ns) (suc k) d h = inr (at ns k d (omega arith))
