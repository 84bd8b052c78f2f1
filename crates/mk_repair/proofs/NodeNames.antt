-- Names of nodes.
use Rattle.std.proofs.Common.{◌≡◌, ℕ, ◌<◌, ◌≤◌, List, [], length, map, get_or, sym, ap, ◌∙◌, arith}
use Rattle.std.specs.Borrow.{Bor}
use Rattle.std.proofs.lemmas.List.{get_or-map, get_or_past, length-map}
use Rattle.mk_lemmas.proofs.Lists.{get_or-map_default}
use Rattle.mk_graph.specs.declared.node.Node.{Node}
use Rattle.mk_graph.specs.Graph.{no_node}
use Rattle.mk_subject.specs.FileInfo.{all_names}
use Rattle.mk_subject.specs.Subject.{Subject, name_of}

-- the name of a node, among all names
among_names : (x : Subject) (i : ℕ) → get_or (all_names x) i [] ≡ name_of x i
among_names x i = get_or-map_default (λ (n : Node). n.name) x.graph.nodes i no_node

-- a name that was read
pub name_read : (x : Subject) (names : List (Bor (List ℕ))) (i : ℕ) (name : Bor (List ℕ)) → map (λ n. n.now) names ≡ all_names x → i < length names → name ≡ get_or names i name → name.now ≡ name_of x i
name_read x names i name e lt is =
    ap (λ (n : Bor (List ℕ)). n.now) is ∙ (sym (get_or-map (λ (n : Bor (List ℕ)). n.now) names i name [] lt) ∙ (ap (λ l. get_or l i []) e ∙ among_names x i))

-- a number without a node
pub name_past : (x : Subject) (names : List (Bor (List ℕ))) (i : ℕ) → map (λ n. n.now) names ≡ all_names x → length names ≤ i → [] ≡ name_of x i
name_past x names i e le =
    let past : length (map (λ (n : Bor (List ℕ)). n.now) names) ≤ i = omega (arith, length-map names (λ (n : Bor (List ℕ)). n.now)) in
    sym (get_or_past (map (λ (n : Bor (List ℕ)). n.now) names) i [] past) ∙ (ap (λ l. get_or l i []) e ∙ among_names x i)
