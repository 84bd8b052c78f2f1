-- Walks along names, and good entries.
use Rattle.std.proofs.Common.{◌≡◌, ℕ, ◌<◌, false, List, [], ◌∷◌, map, length, get_or, drop, refl, sym, ap, subst, ◌∙◌, ⊎_elim}
use Rattle.std.specs.Prelude.{All, ◌↔◌, ◌==◌}
use Rattle.std.proofs.lemmas.Bool.{true≢false, cases_lt}
use Rattle.std.proofs.lemmas.List.{get_or_past}
use Rattle.std.proofs.lemmas.List.Elements.{All-nil, All-cons, All-head, All-tail}
use Rattle.mk_graph.specs.declared.node.Node.{Node}
use Rattle.mk_graph.specs.Graph.{IsGraph, node, no_node}
use Rattle.mk_build.specs.BuildLaws.{NamesHaveOneNumber}
use Rattle.mk_build.specs.Ways.{Carries}
use Rattle.mk_cert_text.specs.Certificate.{Way}
use Rattle.mk_cert_text.specs.declared.certificate.Finish.TheVariants.{Written}
use Rattle.mk_subject.specs.Subject.{Subject, footprints, name_of, IsRecipe}
use Rattle.mk_subject.specs.Paths.{AreCarried, last_of, EndsAt}
use Rattle.mk_cert.specs.Verdict.{IsGood}
use Rattle.mk_subject.specs.Reads.{NeedsWay}
use Rattle.mk_cert.specs.Walking.{GoesOver}

-- the first names of two lists that are equal, and the others
pub first_same : (a b : List ℕ) (xs ys : List (List ℕ)) → a ∷ xs ≡ b ∷ ys → a ≡ b
first_same a b xs ys e = cc

pub rest_same : (a b : List ℕ) (xs ys : List (List ℕ)) → a ∷ xs ≡ b ∷ ys → xs ≡ ys
rest_same a b xs ys e = cc

-- the first name of a path, and the others
pub split_first : (names path : List (List ℕ)) (first : List ℕ) → names ≡ path → (length names == 0) ≡ false → first ≡ get_or names 0 [] → path ≡ first ∷ drop 1 path
split_first [] path first same some is = absurd (true≢false some)
split_first (name ∷ names) path first same some is = subst (λ (l : List (List ℕ)). l ≡ first ∷ drop 1 l) same (ap (λ n. n ∷ names) (sym is))

-- what has a recipe is a node
pub recipe_is_node : (x : Subject) (n : ℕ) → IsRecipe x n → n < length x.graph.nodes
recipe_is_node x n recipe =
    ⊎_elim (λ low. low) (λ past. let none : node x.graph n ≡ no_node = get_or_past x.graph.nodes n no_node past in absurd (true≢false (sym recipe ∙ ap (λ (v : Node). v.recipe) none))) (cases_lt n (length x.graph.nodes))

-- recipes with one name are one
pub one_recipe : (x : Subject) → IsGraph x.graph → NamesHaveOneNumber → (n m : ℕ) → IsRecipe x n → IsRecipe x m → name_of x n ≡ name_of x m → n ≡ m
one_recipe x is one n m n_recipe m_recipe same = one x.graph is.sound (name_of x m) n m (recipe_is_node x n n_recipe, same) (recipe_is_node x m m_recipe, refl)

-- the recipes of a walk
pub walked : (x : Subject) (t : ℕ) (names : List (List ℕ)) (last : ℕ) → GoesOver x t names last →
    (others : List ℕ) × (names ≡ map (name_of x) others) × All (IsRecipe x) others × AreCarried x.graph (footprints x.setting) t others × (last_of t others ≡ last)
walked x t [] last same = ([], refl, All-nil (IsRecipe x), tt, same)
walked x t (name ∷ names) last (o, recipe, named, carries, more) =
    let (others, same, recipes, carried, ends) = walked x o names last more in
    (o ∷ others, ap (λ (n : List ℕ). n ∷ names) (sym named) ∙ ap (λ (ns : List (List ℕ)). name_of x o ∷ ns) same, All-cons (IsRecipe x) o others recipe recipes, (carries, carried), ends)

-- and a walk along recipes
pub walk : (x : Subject) (t : ℕ) (others : List ℕ) → All (IsRecipe x) others → AreCarried x.graph (footprints x.setting) t others → GoesOver x t (map (name_of x) others) (last_of t others)
walk x t [] recipes carried = refl
walk x t (o ∷ others) recipes (here, more) = (o, All-head (IsRecipe x) o others recipes, refl, here, walk x o others (All-tail (IsRecipe x) o others recipes) more)

-- it has one end
pub one_end : (x : Subject) → IsGraph x.graph → NamesHaveOneNumber → (t : ℕ) (names : List (List ℕ)) (a b : ℕ) → GoesOver x t names a → GoesOver x t names b → a ≡ b
one_end x is one t [] a b e f = sym e ∙ f
one_end x is one t (name ∷ names) a b (o, o_recipe, o_named, o_carried, o_more) (p, p_recipe, p_named, p_carried, p_more) =
    let same : p ≡ o = one_recipe x is one p o p_recipe o_recipe (p_named ∙ sym o_named) in
    one_end x is one o names a b o_more (subst (λ (k : ℕ). GoesOver x k names b) same p_more)

-- a walk goes on where the next name is that of a recipe which is carried
pub step_on : (x : Subject) → IsGraph x.graph → NamesHaveOneNumber → (t next : ℕ) (name : List ℕ) (names : List (List ℕ)) → IsRecipe x next → name_of x next ≡ name → Carries x.graph (footprints x.setting) t next
    → (end : ℕ) → GoesOver x next names end ↔ GoesOver x t (name ∷ names) end
step_on x is one t next name names recipe named carries end =
    (λ more. (next, recipe, named, carries, more), λ (o, o_recipe, o_named, o_carried, o_more). subst (λ (k : ℕ). GoesOver x k names end) (one_recipe x is one o next o_recipe recipe (o_named ∙ sym named)) o_more)

-- and ends elsewhere
pub no_step : (x : Subject) → IsGraph x.graph → NamesHaveOneNumber → (t next : ℕ) (name : List ℕ) (names : List (List ℕ)) → IsRecipe x next → name_of x next ≡ name → ¬ (Carries x.graph (footprints x.setting) t next)
    → (end : ℕ) → ¬ (GoesOver x t (name ∷ names) end)
no_step x is one t next name names recipe named not end (o, o_recipe, o_named, o_carried, o_more) = not (subst (λ (k : ℕ). Carries x.graph (footprints x.setting) t k) (one_recipe x is one o next o_recipe recipe (o_named ∙ sym named)) o_carried)

-- an entry with such a walk is good
pub good_entry : (x : Subject) (w : Way) (start : ℕ) (names : List (List ℕ)) (last : ℕ) → w.path ≡ name_of x start ∷ names → w.recipe ≡ name_of x start → IsRecipe x start → NeedsWay x start w.file
    → GoesOver x start names last → EndsAt x.graph (footprints x.setting) w.file w.finish last → (w.finish ≡ Written → ¬ (names ≡ [])) → IsGood x w
good_entry x w start names last path begins recipe needed over ends not_alone =
    let (others, same, recipes, carried, end) = walked x start names last over in
    record {
      start = start;
      others = others;
      names = path ∙ ap (λ (ns : List (List ℕ)). name_of x start ∷ ns) same;
      begins = begins;
      recipes = All-cons (IsRecipe x) start others recipe recipes;
      path = record {
        carried = carried;
        ends = subst (λ (k : ℕ). EndsAt x.graph (footprints x.setting) w.file w.finish k) (sym end) ends;
        not_alone = λ written none. not_alone written (same ∙ ap (map (name_of x)) none);
      };
      needed = needed;
    }

-- what is known of a good entry whose first recipe has a name
pub record IsGoodFrom (x : Subject) (w : Way) (start : ℕ) (names : List (List ℕ)) : Type 0 where
  pub last : ℕ
  pub over : GoesOver x start names last
  pub ends : EndsAt x.graph (footprints x.setting) w.file w.finish last
  pub others : w.finish ≡ Written → ¬ (names ≡ [])
  pub needed : NeedsWay x start w.file

pub good_begins : (x : Subject) (w : Way) (first : List ℕ) (names : List (List ℕ)) → w.path ≡ first ∷ names → IsGood x w → (first ≡ w.recipe) × ((n : ℕ) × IsRecipe x n × (name_of x n ≡ first))
good_begins x w first names path good =
    let same : first ≡ name_of x good.start = first_same first (name_of x good.start) names (map (name_of x) good.others) (sym path ∙ good.names) in
    (same ∙ sym good.begins, (good.start, All-head (IsRecipe x) good.start good.others good.recipes, sym same))

map_nil : (x : Subject) (ns : List ℕ) → map (name_of x) ns ≡ [] → ns ≡ []
map_nil x [] e = refl
map_nil x (n ∷ ns) e = absurd (cc)

pub good_from : (x : Subject) → IsGraph x.graph → NamesHaveOneNumber → (w : Way) (start : ℕ) (first : List ℕ) (names : List (List ℕ)) → w.path ≡ first ∷ names → IsRecipe x start → name_of x start ≡ first → IsGood x w → IsGoodFrom x w start names
good_from x is one w start first names path recipe named good =
    let g = x.graph in
    let s = footprints x.setting in
    let same : first ≡ name_of x good.start = first_same first (name_of x good.start) names (map (name_of x) good.others) (sym path ∙ good.names) in
    let rest : names ≡ map (name_of x) good.others = rest_same first (name_of x good.start) names (map (name_of x) good.others) (sym path ∙ good.names) in
    let it : good.start ≡ start = one_recipe x is one good.start start (All-head (IsRecipe x) good.start good.others good.recipes) recipe (sym (named ∙ same)) in
    let over : GoesOver x good.start (map (name_of x) good.others) (last_of good.start good.others) = walk x good.start good.others (All-tail (IsRecipe x) good.start good.others good.recipes) good.path.carried in
    record {
      last = last_of good.start good.others;
      over = subst (λ (k : ℕ). GoesOver x k names (last_of good.start good.others)) it (subst (λ (ns : List (List ℕ)). GoesOver x good.start ns (last_of good.start good.others)) (sym rest) over);
      ends = good.path.ends;
      others = λ written none. good.path.not_alone written (map_nil x good.others (sym rest ∙ none));
      needed = subst (λ (k : ℕ). NeedsWay x k w.file) it good.needed;
    }
