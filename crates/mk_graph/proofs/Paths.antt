-- The closed path, as the code collects it from the innermost frame on.
use Rattle.std.proofs.Common.{◌≡◌, ℕ, cond, eqb, List, [], ◌∷◌, ◌++◌, reverse, ⊎_elim, refl, sym, ap, ◌∙◌, eq-eqb, append-nil}
use Rattle.std.proofs.lemmas.Bool.{cases_Bool, cond-true}
use Rattle.std.proofs.lemmas.List.{reverse-append}
use mathlib.Core.List.{reverse-cons}
use Rattle.mk_graph.specs.declared.walk.Frame.{Frame}
use Rattle.mk_graph.specs.Walk.{path_from, closed_path}
use Rattle.mk_graph.proofs.Frames.{nodes_of}

-- of the nodes that are under way, the innermost first: those down to n
abbrev pub down_to : ℕ → List ℕ → List ℕ
down_to n [] = []
down_to n (m ∷ under) = cond (eqb m n) (m ∷ []) (m ∷ down_to n under)

-- the path down to n, the other way round
path_from_is : (n : ℕ) (under : List ℕ) → reverse (down_to n under) ≡ path_from n under
path_from_is n [] = refl
path_from_is n (m ∷ under) = ⊎_elim (λ e. rw e) (λ e. rw e (reverse-cons m (down_to n under) ∙ ap (λ (l : List ℕ). l ++ m ∷ []) (path_from_is n under))) (cases_Bool (eqb m n))

-- the closed path is what was collected, the other way round
pub closed_path_is : (n : ℕ) (under : List ℕ) → reverse (n ∷ down_to n under) ≡ closed_path n under
closed_path_is n under = reverse-cons n (down_to n under) ∙ ap (λ (l : List ℕ). l ++ n ∷ []) (path_from_is n under)

-- where the last frame that was collected is the node's
pub collected_some : (node : ℕ) (start path : List ℕ) (all frames : List Frame) (frame : Frame) → all ≡ frames ++ frame ∷ [] → path ++ down_to node (nodes_of (reverse all)) ≡ node ∷ down_to node start → frame.node ≡ node → reverse (path ++ frame.node ∷ []) ≡ closed_path node start
collected_some node start path all frames frame popped is here =
    let newest : reverse all ≡ frame ∷ reverse frames = ap (λ (l : List Frame). reverse l) popped ∙ reverse-append frames (frame ∷ []) in
    let last : down_to node (nodes_of (reverse all)) ≡ frame.node ∷ [] = ap (λ (l : List Frame). down_to node (nodes_of l)) newest ∙ cond-true (eqb frame.node node) (frame.node ∷ []) (frame.node ∷ down_to node (nodes_of (reverse frames))) (eq-eqb frame.node node here) in
    ap (λ (l : List ℕ). reverse l) (sym (ap (λ (l : List ℕ). path ++ l) last) ∙ is) ∙ closed_path_is node start

-- where no frame is left
pub collected_all : (node : ℕ) (start path : List ℕ) (all : List Frame) → all ≡ [] → path ++ down_to node (nodes_of (reverse all)) ≡ node ∷ down_to node start → reverse path ≡ closed_path node start
collected_all node start path all none is =
    let last : path ++ down_to node (nodes_of (reverse all)) ≡ path = ap (λ (l : List Frame). path ++ down_to node (nodes_of (reverse l))) none ∙ append-nil path in
    ap (λ (l : List ℕ). reverse l) (sym last ∙ is) ∙ closed_path_is node start
