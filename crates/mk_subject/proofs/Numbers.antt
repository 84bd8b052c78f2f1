-- The number at which a name stands among the names of nodes.
use Rattle.std.proofs.Common.{◌≡◌, ℕ, ◌+◌, ◌<◌, List, [], ◌∷◌, ◌++◌, get_or, map, take, length, cond, true, false, sym, ap, subst, ◌∙◌, ⊎_elim, arith}
use Rattle.std.specs.Prelude.{bytes_eq}
use Rattle.std.proofs.lemmas.Bool.{true≢false, cases_Bool, cases_lt}
use Rattle.std.proofs.lemmas.List.{get_or-map, length-map, map_push, take-map, take_more}
use Rattle.std.proofs.lemmas.List.Sums.{fails_before_first, passes_at_first}
use Rattle.std.proofs.lemmas.Slice.Eq.{bytes_eq-Decides}
use Rattle.mk_lines.specs.Names.{has_name, number_of, with_name}
use Rattle.mk_graph.specs.declared.node.Node.{Node}
use Rattle.mk_graph.specs.Graph.{IsGraph, no_node}
use Rattle.mk_build.specs.BuildLaws.{NamesHaveOneNumber}
use Rattle.mk_graph.specs.Membership.{Has, IsDistinct}
use Rattle.mk_subject.specs.FileInfo.{all_names}
use Rattle.mk_subject.specs.Subject.{Subject, name_of}
use Rattle.mk_subject.proofs.Decided.{has_decides}
use Rattle.mk_subject.proofs.Rows.{not_before}

-- at a number that is a node's stands the name
pub number_names : (x : Subject) (f : List ℕ) → number_of (all_names x) f < length x.graph.nodes → name_of x (number_of (all_names x) f) ≡ f
number_names x f low =
    let name = λ (n : Node). n.name in
    let within : number_of (all_names x) f < length (all_names x) = omega (arith, length-map x.graph.nodes name) in
    let passes : bytes_eq f (get_or (all_names x) (number_of (all_names x) f) []) ≡ true = passes_at_first (λ other. bytes_eq f other) (all_names x) [] within in
    sym (get_or-map name x.graph.nodes (number_of (all_names x) f) no_node [] low) ∙ sym ((bytes_eq-Decides f (get_or (all_names x) (number_of (all_names x) f) [])).0 passes)

-- the number of a node's name is its own
pub number_is : (x : Subject) → IsGraph x.graph → NamesHaveOneNumber → (n : ℕ) → n < length x.graph.nodes → (f : List ℕ) → name_of x n ≡ f → number_of (all_names x) f ≡ n
number_is x is one n low f same =
    let name = λ (v : Node). v.name in
    let here : bytes_eq f (get_or (all_names x) n []) ≡ true = (bytes_eq-Decides f (get_or (all_names x) n [])).1 (sym (get_or-map name x.graph.nodes n no_node [] low ∙ same)) in
    ⊎_elim (λ before. absurd (true≢false (sym here ∙ fails_before_first (λ other. bytes_eq f other) (all_names x) n [] before))) (λ past.
    let within : number_of (all_names x) f < length x.graph.nodes = omega arith in
    one x.graph is.sound f (number_of (all_names x) f) n (within, number_names x f within) (low, same)) (cases_lt n (number_of (all_names x) f))

-- the names so far, and one more
pub names_more : (nodes : List Node) (i : ℕ) (d : Node) (old new : List (List ℕ)) (f : List ℕ) → IsDistinct (map (λ (n : Node). n.name) nodes) → i < length nodes → old ≡ map (λ (n : Node). n.name) (take i nodes) → f ≡ (get_or nodes i d).name
    → new ≡ with_name old f → new ≡ map (λ (n : Node). n.name) (take (i + 1) nodes)
names_more nodes i d old new f distinct lt so_far named added =
    let name = λ (n : Node). n.name in
    let low : i < length (map name nodes) = omega (arith, length-map nodes name) in
    let here : get_or (map name nodes) i [] ≡ f = get_or-map name nodes i d [] lt ∙ sym named in
    let before : old ≡ take i (map name nodes) = so_far ∙ sym (take-map name i nodes) in
    let out : has_name old f ≡ false = ⊎_elim (λ t. absurd (not_before (map name nodes) i [] distinct low (subst (λ (k : List ℕ). Has (take i (map name nodes)) k) (sym here) (subst (λ (ns : List (List ℕ)). Has ns f) before ((has_decides old f).0 t))))) (λ e. e) (cases_Bool (has_name old f)) in
    added ∙ (ap (λ b. cond b old (old ++ f ∷ [])) out ∙ (ap (λ (ns : List (List ℕ)). ns ++ f ∷ []) so_far ∙ (ap (λ (k : List ℕ). map name (take i nodes) ++ k ∷ []) named ∙ (sym (map_push name (take i nodes) (get_or nodes i d)) ∙ ap (map name) (sym (take_more nodes i d lt))))))
