-- Entries that are made as though no choice changes.
use Rattle.std.proofs.Common.{◌≡◌, ℕ, ◌+◌, ◌<◌, List, [], ◌∷◌, ◌++◌, length, get_or, map, take, Ok, Err, refl, sym, ap, subst, ◌∙◌, arith}
use Rattle.std.specs.Prelude.{All}
use Rattle.std.proofs.lemmas.List.{take_more, map_push}
use Rattle.std.proofs.lemmas.List.Elements.{All-push}
use Rattle.mk_graph.specs.Graph.{Graph}
use Rattle.mk_graph.specs.Serial.{serial_order}
use Rattle.mk_foot.specs.Setting as foot
use Rattle.mk_read.specs.Reading.{Makefile}
use Rattle.mk_infer.specs.There.{Exists}
use Rattle.mk_infer.specs.declared.fault.InferFault.{InferFault}
use Rattle.mk_subject.specs.Subject.{Subject, commands_of, subject_of}
use Rattle.mk_subject.specs.NodeRow.{NodeRow, IsRow, IsFirstFault, AreEntriesOf, StaysChosen}
use Rattle.mk_subject.proofs.Entries.{first_told}

-- they are these nodes', with their commands, and right if the choices stay
pub record AreStaying (x : Subject) (order : List ℕ) (entries : List NodeRow) : Type 0 where
  pub in_order : map (λ (e : NodeRow). e.number) entries ≡ order
  pub told : All (λ (e : NodeRow). commands_of x e.number ≡ Ok e.commands) entries
  pub right : All (λ (e : NodeRow). StaysChosen x e.number → IsRow x e) entries

pub none_yet : (x : Subject) → AreStaying x [] []
none_yet x = record {
  in_order = refl;
  told = λ k d low. absurd (omega arith);
  right = λ k d low. absurd (omega arith);
}

-- one more
pub staying_more : (x : Subject) (order : List ℕ) (i : ℕ) (entries new : List NodeRow) (e : NodeRow) → new
    ≡ entries ++ e ∷ [] → e.number ≡ get_or order i 0 → i < length order → commands_of x e.number
    ≡ Ok e.commands → (StaysChosen x e.number → IsRow x e) → AreStaying x (take i order) entries
    → AreStaying x (take (i + 1) order) new
staying_more x order i entries new e pushed same lt told is h = record {
  in_order = ap (map (λ (k : NodeRow). k.number)) pushed ∙ (map_push (λ (k : NodeRow). k.number) entries e ∙ (ap (λ ns. ns ++ e.number ∷ []) h.in_order ∙ (ap (λ n. take i order ++ n ∷ []) same ∙ sym (take_more order i 0 lt))));
  told = subst (λ (es : List NodeRow). All (λ (k : NodeRow). commands_of x k.number ≡ Ok k.commands) es) (sym pushed) (All-push (λ (k : NodeRow). commands_of x k.number ≡ Ok k.commands) entries e h.told told);
  right = subst (λ (es : List NodeRow). All (λ (k : NodeRow). StaysChosen x k.number → IsRow x k) es) (sym pushed) (All-push (λ (k : NodeRow). StaysChosen x k.number → IsRow x k) entries e h.right is);
}

-- where no choice changes, they are right
pub all_stay : (x : Subject) (order : List ℕ) (entries : List NodeRow) → ((n : ℕ) → StaysChosen x n) → AreStaying x order entries → AreEntriesOf x order entries
all_stay x order entries stay h = record {
  in_order = h.in_order;
  right = λ k d low. h.right k d low (stay (get_or entries k d).number);
}

-- the fault of a node behind them is the first
pub first_behind : (m : Makefile) (e : Exists) (g : Graph) (s : foot.Setting) (order : List ℕ)
    (i : ℕ) (entries : List NodeRow) (fault : InferFault) → order
    ≡ serial_order g → i < length order → AreStaying (subject_of m e g s) (take i order) entries
    → commands_of (subject_of m e g s) (get_or order i 0) ≡ Err fault
    → IsFirstFault (subject_of m e g s) (serial_order g) fault
first_behind m e g s order i entries fault serial lt h failed =
    let x = subject_of m e g s in
    subst (λ (ns : List ℕ). IsFirstFault x ns fault) serial (first_told x order i entries fault lt h.in_order h.told failed)
