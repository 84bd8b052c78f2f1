-- A graph and what is recorded have a first disk.
use Rattle.std.proofs.Common.{◌≡◌, ◌<◌, ℕ, Bool, true, false, List, [], ◌∷◌, ◌++◌, length, get_or, filter, inl, inr, ◌⊎◌, zero, suc, refl, sym, ap, subst, ◌∙◌, ⊎_elim, arith}
use Rattle.std.specs.Prelude.{◌↔◌, cond}
use Rattle.std.specs.List.{flat_map}
use Rattle.std.specs.Cmp.Lexicographic.{slice_cmp}
use Rattle.std.specs.Ordering.{is_eq, match_ordering, nat_cmp, ordering_reverse}
use Rattle.std.specs.declared.cmp.Ordering.{Ordering}
use Rattle.std.specs.declared.cmp.Ordering.TheVariants.{Less, Equal, Greater}
use Rattle.std.proofs.lemmas.Bool.{cases_lt}
use Rattle.std.proofs.lemmas.Cmp.{nat_list_cmp_total}
use Rattle.std.proofs.lemmas.List.{get_or_past}
use Rattle.std.proofs.lemmas.Map.Text.{is_eq-slice_cmp}
use Rattle.std.proofs.lemmas.Slice.Eq.{bytes_eq-Decides}
use Rattle.mk_lemmas.proofs.Members.{Has-cases, Has-left, Has-right}
use Rattle.mk_graph.specs.declared.node.Node.{Node}
use Rattle.mk_graph.specs.Graph.{Graph, node, no_node}
use Rattle.mk_graph.specs.Membership.{Has}
use Rattle.mk_build.specs.Setting.{FileName, Setting, is_given, name, reads, writes}
use Rattle.mk_build.specs.World.{AreAscending, Disk, IsFirstDisk, IsOfWorld, numbered_disk}
use Rattle.mk_core_laws.specs.EvidenceLaws.{FirstDiskIsThere}

-- ---- names in the order of their bytes

abbrev compare : FileName → FileName → Ordering
compare f k = slice_cmp nat_cmp f k

-- the names with one more in its place
insert : FileName → List FileName → List FileName
insert f [] = f ∷ []
insert f (k ∷ names) = match_ordering (compare f k) (f ∷ k ∷ names) (k ∷ names) (k ∷ insert f names)

sorted : List FileName → List FileName
sorted [] = []
sorted (f ∷ names) = insert f (sorted names)

-- the first of the names comes behind this one
abbrev StartsBehind : FileName → List FileName → Type 0
StartsBehind f [] = Unit {0}
StartsBehind f (k ∷ names) = compare f k ≡ Less

joined : (f : FileName) (names : List FileName) → StartsBehind f names → AreAscending names → AreAscending (f ∷ names)
joined f [] starts up = tt
joined f (k ∷ names) starts up = (starts, up)

parted : (f : FileName) (names : List FileName) → AreAscending (f ∷ names) → StartsBehind f names × AreAscending names
parted f [] up = (tt, tt)
parted f (k ∷ names) up = (up.0, up.1)

starts_with_more : (k f : FileName) (names : List FileName) → compare k f ≡ Less → StartsBehind k names → StartsBehind k (insert f names)
unfolding insert
starts_with_more k f [] less starts = less
starts_with_more k f (x ∷ names) less starts = at (compare f x)
  where
    at : (o : Ordering) → StartsBehind k (match_ordering o (f ∷ x ∷ names) (x ∷ names) (x ∷ insert f names))
    at Less = less
    at Equal = starts
    at Greater = starts

turned : (f k : FileName) → compare f k ≡ Greater → compare k f ≡ Less
turned f k e = nat_list_cmp_total.antisymm k f ∙ ap ordering_reverse e

ascends_with_more : (f : FileName) (names : List FileName) → AreAscending names → AreAscending (insert f names)
unfolding insert
ascends_with_more f [] up = tt
ascends_with_more f (x ∷ names) up = at (compare f x) refl (ascends_with_more f names (parted x names up).1)
  where
    at : (o : Ordering) → compare f x ≡ o → AreAscending (insert f names) → AreAscending (match_ordering o (f ∷ x ∷ names) (x ∷ names) (x ∷ insert f names))
    at Less e more = (e, up)
    at Equal e more = up
    at Greater e more = joined x (insert f names) (starts_with_more x f names (turned f x e) (parted x names up).0) more

ascends : (names : List FileName) → AreAscending (sorted names)
unfolding sorted
ascends [] = tt
ascends (f ∷ names) = ascends_with_more f (sorted names) (ascends names)

has_more : (f : FileName) (names : List FileName) (g : FileName) → Has (insert f names) g ↔ (Has names g ⊎ (f ≡ g))
unfolding insert
has_more f [] g = (λ h. elim h [ inl e ↦ inr e | inr none ↦ absurd none ], λ h. elim h [ inl none ↦ absurd none | inr e ↦ inl e ])
has_more f (x ∷ names) g = at (compare f x) refl (has_more f names g)
  where
    at : (o : Ordering) → compare f x ≡ o → (Has (insert f names) g ↔ (Has names g ⊎ (f ≡ g))) → Has (match_ordering o (f ∷ x ∷ names) (x ∷ names) (x ∷ insert f names)) g ↔ (Has (x ∷ names) g ⊎ (f ≡ g))
    at Less e ih = (λ h. elim h [ inl is ↦ inr is | inr r ↦ inl r ], λ h. elim h [ inl r ↦ inr r | inr is ↦ inl is ])
    at Equal e ih =
        let same : f ≡ x = (bytes_eq-Decides f x).0 (sym (is_eq-slice_cmp f x) ∙ ap is_eq e) in
        (λ h. inl h, λ h. elim h [ inl r ↦ r | inr is ↦ inl (sym same ∙ is) ])
    at Greater e ih = (
      λ h. elim h [ inl is ↦ inl (inl is) | inr r ↦ elim (ih.0 r) [ inl there ↦ inl (inr there) | inr is ↦ inr is ] ],
      λ h. elim h [ inl l ↦ elim l [ inl is ↦ inl is | inr there ↦ inr (ih.1 (inl there)) ] | inr is ↦ inr (ih.1 (inr is)) ],
    )

has_sorted : (names : List FileName) (g : FileName) → Has (sorted names) g ↔ Has names g
unfolding sorted
has_sorted [] g = (λ h. h, λ h. h)
has_sorted (f ∷ names) g = (
  λ h. elim ((has_more f (sorted names) g).0 h) [ inl there ↦ inr ((has_sorted names g).0 there) | inr is ↦ inl is ],
  λ h. (has_more f (sorted names) g).1 (elim h [ inl is ↦ inr is | inr there ↦ inl ((has_sorted names g).1 there) ]),
)

-- ---- lists

module _ (p : FileName → Bool) where
  kept : (xs : List FileName) (f : FileName) → Has (filter p xs) f → Has xs f × (p f ≡ true)
  kept [] f h = absurd h
  kept (x ∷ xs) f h = at (p x) refl h (kept xs f)
    where
      at : (b : Bool) → p x ≡ b → Has (cond b (x ∷ filter p xs) (filter p xs)) f → (Has (filter p xs) f → Has xs f × (p f ≡ true)) → Has (x ∷ xs) f × (p f ≡ true)
      at true t (inl e) ih = (inl e, ap p (sym e) ∙ t)
      at true t (inr k) ih = let r = ih k in (inr r.0, r.1)
      at false t k ih = let r = ih k in (inr r.0, r.1)

  keeps : (xs : List FileName) (f : FileName) → Has xs f → p f ≡ true → Has (filter p xs) f
  keeps [] f h t = absurd h
  keeps (x ∷ xs) f h t = at (p x) refl h (keeps xs f)
    where
      at : (b : Bool) → p x ≡ b → Has (x ∷ xs) f → (Has xs f → p f ≡ true → Has (filter p xs) f) → Has (cond b (x ∷ filter p xs) (filter p xs)) f
      at true e (inl is) ih = inl is
      at true e (inr k) ih = inr (ih k t)
      at false e (inl is) ih = let k = ap p is in absurd cc
      at false e (inr k) ih = ih k t

-- what stands in one of the lists at a place
module _ (names : Node → List FileName) where
  at_place : (nodes : List Node) (f : FileName) → Has (flat_map names nodes) f → (n : ℕ) × ((n < length nodes) × Has (names (get_or nodes n no_node)) f)
  at_place [] f h = absurd h
  at_place (x ∷ nodes) f h =
      ⊎_elim (λ k. (0, (omega arith, k))) (λ k. let r = at_place nodes f k in (suc r.0, (omega (arith, r.1.0), r.1.1))) (Has-cases (names x) (flat_map names nodes) f h)

  from_place : (nodes : List Node) (n : ℕ) (f : FileName) → n < length nodes → Has (names (get_or nodes n no_node)) f → Has (flat_map names nodes) f
  from_place [] n f low h = absurd (omega arith)
  from_place (x ∷ nodes) zero f low h = Has-left (names x) (flat_map names nodes) f h
  from_place (x ∷ nodes) (suc n) f low h = Has-right (names x) (flat_map names nodes) f (from_place nodes n f (omega arith) h)

-- ---- the names of the world

module _ (g : Graph) (s : Setting) where
  -- the name of a node, and the files of its recipe
  abbrev names_at : Node → List FileName
  names_at n = n.name ∷ cond n.recipe (s.reads n.name ++ s.writes n.name) []

  abbrev all_names : List FileName
  all_names = s.sources ++ flat_map names_at g.nodes

  in_recipe : (n : ℕ) (f : FileName) → Has (cond (node g n).recipe (s.reads (name g n) ++ s.writes (name g n)) []) f → Has (reads g s n) f ⊎ Has (writes g s n) f
  in_recipe n f h = at (node g n).recipe h
    where
      at : (b : Bool) → Has (cond b (s.reads (name g n) ++ s.writes (name g n)) []) f → Has (cond b (s.reads (name g n)) []) f ⊎ Has (cond b (s.writes (name g n)) []) f
      at true k = Has-cases (s.reads (name g n)) (s.writes (name g n)) f k
      at false k = absurd k

  of_recipe : (n : ℕ) (f : FileName) → Has (reads g s n) f ⊎ Has (writes g s n) f → Has (cond (node g n).recipe (s.reads (name g n) ++ s.writes (name g n)) []) f
  of_recipe n f h = at (node g n).recipe h
    where
      at : (b : Bool) → Has (cond b (s.reads (name g n)) []) f ⊎ Has (cond b (s.writes (name g n)) []) f → Has (cond b (s.reads (name g n) ++ s.writes (name g n)) []) f
      at true (inl k) = Has-left (s.reads (name g n)) (s.writes (name g n)) f k
      at true (inr k) = Has-right (s.reads (name g n)) (s.writes (name g n)) f k
      at false (inl k) = absurd k
      at false (inr k) = absurd k

  -- a recipe that reads or writes is a node's
  is_node : (n : ℕ) (f : FileName) → Has (reads g s n) f ⊎ Has (writes g s n) f → n < length g.nodes
  is_node n f h = ⊎_elim (λ lt. lt) (λ le. absurd (none (get_or_past g.nodes n no_node le))) (cases_lt n (length g.nodes))
    where
      none : node g n ≡ no_node → ⊥
      none e = subst (λ (k : Node). Has (cond k.recipe (s.reads k.name ++ s.writes k.name) []) f) e (of_recipe n f h)

  are_names : (f : FileName) → Has all_names f ↔ IsOfWorld g s f
  are_names f = (told, tells)
    where
      by_node : (n : ℕ) → n < length g.nodes → Has (names_at (node g n)) f → IsOfWorld g s f
      by_node n low (inl is) = inl (n, (low, is))
      by_node n low (inr h) = inr (inr (n, in_recipe n f h))

      told : Has all_names f → IsOfWorld g s f
      told h = ⊎_elim (λ k. inr (inl k)) (λ k. let r = at_place names_at g.nodes f k in by_node r.0 r.1.0 r.1.1) (Has-cases s.sources (flat_map names_at g.nodes) f h)

      tells : IsOfWorld g s f → Has all_names f
      tells (inl (n, (low, is))) = Has-right s.sources (flat_map names_at g.nodes) f (from_place names_at g.nodes n f low (inl is))
      tells (inr (inl h)) = Has-left s.sources (flat_map names_at g.nodes) f h
      tells (inr (inr (n, h))) = Has-right s.sources (flat_map names_at g.nodes) f (from_place names_at g.nodes n f (is_node n f h) (inr (of_recipe n f h)))

  abbrev given_names : List FileName
  given_names = sorted (filter (is_given s) all_names)

  pub first_disk : Disk
  first_disk = numbered_disk given_names

  pub is_first : IsFirstDisk g s first_disk
  unfolding first_disk
  is_first = record {
    names = given_names;
    ascending = ascends (filter (is_given s) all_names);
    given = λ f. (
      (λ h. let k = kept (is_given s) all_names f ((has_sorted (filter (is_given s) all_names) f).0 h) in ((are_names f).0 k.0, k.1)),
      (λ h. (has_sorted (filter (is_given s) all_names) f).1 (keeps (is_given s) all_names f ((are_names f).1 h.0) h.1)),
    );
    disk = refl;
  }

pub first_disk_is_there : FirstDiskIsThere
first_disk_is_there g s = (first_disk g s, is_first g s)
