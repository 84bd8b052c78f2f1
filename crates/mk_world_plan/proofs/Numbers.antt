-- The numbers of names.
use Rattle.std.proofs.Common.{◌≡◌, ◌⊎◌, ℕ, zero, suc, ◌+◌, ◌<◌, Bool, true, false, cond, not, ◌&&◌, ◌||◌, List, [], ◌∷◌, length, map, get_or, Some, None, unwrap_or, bytes_eq, refl, sym, ap, ◌∙◌, subst, inl, inr, arith}
use Rattle.std.specs.List.{list_any}
use Rattle.std.proofs.lemmas.Bool.{false≢true, and_parts, or_cases, or_left, or_right}
use Rattle.std.proofs.lemmas.Slice.Eq.{bytes_eq-Decides}
use Rattle.mk_lemmas.proofs.Members.{Has-map, list_all-Has}
use Rattle.mk_lines.proofs.NameTests.{Has-from_has_name}
use Rattle.mk_lines.specs.Names.{has_name, place_from}
use Rattle.mk_graph.specs.declared.node.Node.{Node}
use Rattle.mk_graph.specs.Membership.{Has}
use Rattle.mk_graph.specs.Graph.{Graph, IsGraph, no_node, node}
use Rattle.mk_build.specs.Setting.{FileName, IsNumberOf, name}
use Rattle.mk_build.specs.BuildLaws.{NamesHaveOneNumber}
use Rattle.mk_world.specs.State.{number_of}
use Rattle.mk_world.specs.Running.{is_node}
use Rattle.mk_world_plan.specs.PlanText.{are_all_named, is_idle, is_idle_at}

abbrev names_of : List Node → List FileName
names_of nodes = map (λ (v : Node). v.name) nodes

-- the place of a name, and that it is there
record IsPlacedAt (k : ℕ) (nodes : List Node) (t : FileName) (j : ℕ) : Type 0 where
  place : place_from k (names_of nodes) t ≡ Some (k + j)
  low : j < length nodes
  name : (get_or nodes j no_node).name ≡ t
  there : has_name (names_of nodes) t ≡ true

record IsNoPlace (k : ℕ) (nodes : List Node) (t : FileName) : Type 0 where
  place : place_from k (names_of nodes) t ≡ None
  absent : has_name (names_of nodes) t ≡ false

placed : (k : ℕ) (nodes : List Node) (t : FileName) → IsNoPlace k nodes t ⊎ ((j : ℕ) × IsPlacedAt k nodes t j)
unfolding place_from
placed k [] t = inl (record { place = refl; absent = refl })
placed k (v ∷ nodes) t = at (bytes_eq t v.name) refl (placed (k + 1) nodes t)
  where
    first : bytes_eq t v.name ≡ true → IsPlacedAt k (v ∷ nodes) t 0
    first e = record {
      place = ap (λ b. cond b (Some k) (place_from (k + 1) (names_of nodes) t)) e ∙ ap (λ i. Some i) (omega arith);
      low = omega arith;
      name = sym ((bytes_eq-Decides t v.name).0 e);
      there = or_left (bytes_eq t v.name) (has_name (names_of nodes) t) e;
    }

    none : bytes_eq t v.name ≡ false → IsNoPlace (k + 1) nodes t → IsNoPlace k (v ∷ nodes) t
    none e r = record {
      place = ap (λ b. cond b (Some k) (place_from (k + 1) (names_of nodes) t)) e ∙ r.place;
      absent = ap (λ b. b || has_name (names_of nodes) t) e ∙ r.absent;
    }

    later : (j : ℕ) → bytes_eq t v.name ≡ false → IsPlacedAt (k + 1) nodes t j → IsPlacedAt k (v ∷ nodes) t (suc j)
    later j e r = record {
      place = ap (λ b. cond b (Some k) (place_from (k + 1) (names_of nodes) t)) e ∙ (r.place ∙ ap (λ i. Some i) (omega arith));
      low = let l = r.low in omega arith;
      name = r.name;
      there = or_right (bytes_eq t v.name) (has_name (names_of nodes) t) r.there;
    }

    at : (b : Bool) → bytes_eq t v.name ≡ b → IsNoPlace (k + 1) nodes t ⊎ ((j : ℕ) × IsPlacedAt (k + 1) nodes t j) → IsNoPlace k (v ∷ nodes) t ⊎ ((j : ℕ) × IsPlacedAt k (v ∷ nodes) t j)
    at true e rest = inr (0, first e)
    at false e (inl r) = inl (none e r)
    at false e (inr (j, r)) = inr (suc j, later j e r)

-- a name is a node's and has its number, or has the number behind all nodes
pub number_cases : (g : Graph) (t : FileName) → ((is_node g t ≡ false) × (number_of g t ≡ length g.nodes)) ⊎ ((is_node g t ≡ true) × IsNumberOf g t (number_of g t))
number_cases g t = elim (placed 0 g.nodes t) [
  | inl r ↦ inl (r.absent, ap (λ o. unwrap_or o (length g.nodes)) r.place)
  | inr r ↦
      let is : number_of g t ≡ r.0 = ap (λ o. unwrap_or o (length g.nodes)) r.1.place ∙ omega arith in
      inr (r.1.there, subst (λ n. IsNumberOf g t n) (sym is) (r.1.low, r.1.name))
]

-- a low number is that of a node
pub low_known : (g : Graph) (t : FileName) → number_of g t < length g.nodes → is_node g t ≡ true
low_known g t low = elim (number_cases g t) [ inl r ↦ absurd (let e = r.1 in omega arith) | inr r ↦ r.0 ]

pub low_number : (g : Graph) (t : FileName) → number_of g t < length g.nodes → IsNumberOf g t (number_of g t)
low_number g t low = elim (number_cases g t) [ inl r ↦ absurd (let e = r.1 in omega arith) | inr r ↦ r.1 ]

-- the name of a node is one
name_stands : (nodes : List Node) (n : ℕ) → n < length nodes → has_name (names_of nodes) (get_or nodes n no_node).name ≡ true
name_stands [] n low = absurd (omega arith)
name_stands (v ∷ nodes) zero low = or_left (bytes_eq v.name v.name) (has_name (names_of nodes) v.name) ((bytes_eq-Decides v.name v.name).1 refl)
name_stands (v ∷ nodes) (suc n) low = or_right (bytes_eq (get_or nodes n no_node).name v.name) (has_name (names_of nodes) (get_or nodes n no_node).name) (name_stands nodes n (omega arith))

-- and its number is the node's
pub number_is : (one : NamesHaveOneNumber) (g : Graph) (n : ℕ) → IsGraph g → n < length g.nodes → number_of g (name g n) ≡ n
number_is one g n is low = elim (number_cases g (name g n)) [
  | inl r ↦ absurd (false≢true (sym r.0 ∙ name_stands g.nodes n low))
  | inr r ↦ one g is.sound (name g n) (number_of g (name g n)) n r.1 (low, refl)
]

-- a node without recipe of this name
idle_place : (nodes : List Node) (t : FileName) → list_any (is_idle_at t) nodes ≡ true → (j : ℕ) × (j < length nodes) × ((get_or nodes j no_node).name ≡ t) × ((get_or nodes j no_node).recipe ≡ false)
idle_place [] t e = absurd cc
idle_place (v ∷ nodes) t e = elim (or_cases (is_idle_at t v) (list_any (is_idle_at t) nodes) e) [
  | inl here ↦
      let parts = and_parts (not v.recipe) (bytes_eq t v.name) here in
      (0, omega arith, sym ((bytes_eq-Decides t v.name).0 parts.1), off v.recipe parts.0)
  | inr later ↦ let r = idle_place nodes t later in (suc r.0, (let low = r.1 in omega arith), r.2, r.3)
]
  where
    off : (b : Bool) → not b ≡ true → b ≡ false
    off true h = absurd cc
    off false h = refl

place_idle : (nodes : List Node) (t : FileName) (j : ℕ) → j < length nodes → (get_or nodes j no_node).name ≡ t → (get_or nodes j no_node).recipe ≡ false → list_any (is_idle_at t) nodes ≡ true
place_idle [] t j low named off = absurd (omega arith)
place_idle (v ∷ nodes) t zero low named off = or_left (is_idle_at t v) (list_any (is_idle_at t) nodes) (ap (λ b. not b && bytes_eq t v.name) off ∙ (bytes_eq-Decides t v.name).1 (sym named))
place_idle (v ∷ nodes) t (suc j) low named off = or_right (is_idle_at t v) (list_any (is_idle_at t) nodes) (place_idle nodes t j (omega arith) named off)

-- a name is an idle one just where its node has no recipe
pub idle_is : (one : NamesHaveOneNumber) (g : Graph) (t : FileName) → IsGraph g → number_of g t < length g.nodes → is_idle g t ≡ true → (node g (number_of g t)).recipe ≡ false
idle_is one g t is low e =
    let r = idle_place g.nodes t e in
    let same : r.0 ≡ number_of g t = one g is.sound t r.0 (number_of g t) (r.1, r.2) (low_number g t low) in
    subst (λ n. (node g n).recipe ≡ false) same r.3

pub busy_is : (g : Graph) (t : FileName) → number_of g t < length g.nodes → is_idle g t ≡ false → (node g (number_of g t)).recipe ≡ true
busy_is g t low e = at (node g (number_of g t)).recipe refl
  where
    at : (b : Bool) → (node g (number_of g t)).recipe ≡ b → b ≡ true
    at true h = refl
    at false h = absurd (false≢true (sym e ∙ place_idle g.nodes t (number_of g t) low (low_number g t low).1 h))

-- where all goals are named, each is the number of a named one
pub all_named : (one : NamesHaveOneNumber) (g : Graph) (names : List FileName) (n : ℕ) → IsGraph g → are_all_named g names ≡ true → Has g.goals n → Has (map (number_of g) names) n
all_named one g names n is e h =
    let there = Has-from_has_name names (name g n) (list_all-Has (λ k. has_name names (name g k)) g.goals n e h) in
    subst (Has (map (number_of g) names)) (number_is one g n is (is.sound.goals n h)) (Has-map (number_of g) names (name g n) there)
