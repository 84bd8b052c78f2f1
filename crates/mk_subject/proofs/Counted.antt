-- What is counted of entries is what is counted of their nodes.
use Rattle.std.proofs.Common.{◌≡◌, ℕ, suc, ◌+◌, List, [], ◌∷◌, Bool, true, false, cond, length, map, refl, sym, ap, ◌∙◌}
use Rattle.std.specs.Prelude.{All, filter, sum_by}
use Rattle.std.proofs.lemmas.List.Elements.{All-head, All-tail}
use Rattle.std.proofs.lemmas.List.Sums.{sum_by-cons}
use Rattle.mk_graph.specs.declared.node.Node.{Node}
use Rattle.mk_graph.specs.Graph.{node}
use Rattle.mk_subject.specs.Subject.{Subject, reads_of}
use Rattle.mk_subject.specs.NodeRow.{NodeRow, IsRow}

one_recipe : (e : NodeRow) (es : List NodeRow) (n : ℕ) (ns : List ℕ) (b : Bool) → length es ≡ length ns → length (cond b (e ∷ es) es) ≡ length (cond b (n ∷ ns) ns)
one_recipe e es n ns true same = ap (λ k. suc k) same
one_recipe e es n ns false same = same

pub recipes_counted : (x : Subject) (entries : List NodeRow) → All (IsRow x) entries → length (filter (λ (e : NodeRow). e.node.recipe) entries) ≡ length (filter (λ t. (node x.graph t).recipe) (map (λ (e : NodeRow). e.number) entries))
recipes_counted x [] h = refl
recipes_counted x (e ∷ es) h =
    let same : e.node.recipe ≡ (node x.graph e.number).recipe = ap (λ (n : Node). n.recipe) (All-head (IsRow x) e es h).same_node in
    ap (λ b. length (cond b (e ∷ filter (λ (k : NodeRow). k.node.recipe) es) (filter (λ (k : NodeRow). k.node.recipe) es))) same
    ∙ one_recipe e (filter (λ (k : NodeRow). k.node.recipe) es) e.number (filter (λ t. (node x.graph t).recipe) (map (λ (k : NodeRow). k.number) es)) (node x.graph e.number).recipe (recipes_counted x es (All-tail (IsRow x) e es h))

pub reads_counted : (x : Subject) (entries : List NodeRow) → sum_by (λ (e : NodeRow). length (reads_of x e.number)) entries ≡ sum_by (λ t. length (reads_of x t)) (map (λ (e : NodeRow). e.number) entries)
reads_counted x [] = refl
reads_counted x (e ∷ es) =
    sum_by-cons (λ (k : NodeRow). length (reads_of x k.number)) e es
    ∙ (ap (λ n. length (reads_of x e.number) + n) (reads_counted x es)
    ∙ sym (sum_by-cons (λ t. length (reads_of x t)) e.number (map (λ (k : NodeRow). k.number) es)))
