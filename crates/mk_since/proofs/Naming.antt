-- What is noted of one node after another.
use Rattle.std.proofs.Common.{◌≡◌, ◌∙◌, ℕ, zero, suc, ◌+◌, ◌<◌, Bool, true, false, cond, List, [], ◌∷◌, ◌++◌, length, map, take, get_or, refl, sym, ap, subst, ◌⊎◌, inl, inr, ⊎_elim, arith, append_assoc, append-nil}
use Rattle.std.specs.Prelude.{◌↔◌, All, filter, fold, not}
use Rattle.std.specs.Borrow.{Bor}
use Rattle.std.specs.List.{Contains}
use Rattle.std.specs.Cmp.Lexicographic.{slice_cmp}
use Rattle.std.specs.List.Sorted.{IsPermutation, IsSorted}
use Rattle.std.specs.Ordering.{nat_cmp}
use Rattle.std.specs.List.{flat_map}
use Rattle.std.proofs.lemmas.Bool.{and_from, and_parts}
use Rattle.std.proofs.lemmas.List.{get_or-map, length-map, map_push, take_more}
use Rattle.std.proofs.lemmas.List.Elements.{All-head, All-tail, filter_more}
use Rattle.std.proofs.lemmas.List.Sorted.{Contains-permutation, IsPermutation-map, IsPermutation-sym}
use Rattle.mk_lemmas.proofs.Members.{Has-cases, Has-filter, Has-from_filter, Has-from_map, Has-left, Has-map, Has-right}
use Rattle.mk_lines.specs.Names.{has_name, with_name}
use Rattle.mk_lines.proofs.NameTests.{Has-from_has_name}
use Rattle.mk_graph.specs.declared.node.Node.{Node}
use Rattle.mk_graph.specs.Graph.{IsGraph, node}
use Rattle.mk_graph.specs.Laws.{SerialReachesEachOnce}
use Rattle.mk_graph.specs.Membership.{Has}
use Rattle.mk_graph.specs.Serial.{serial_order}
use Rattle.mk_build.specs.BuildLaws.{NamesHaveOneNumber}
use Rattle.mk_build.specs.Setting.{IsAlwaysMade}
use Rattle.mk_build_behaviours.specs.Behaviours.{Behaviours}
use Rattle.mk_build_since.specs.Named.{CantStayTrusting, IsLeftOver, IsMadeAnew, IsNamedTrusting, OwnsFile}
use Rattle.mk_subject.specs.Laws.{AllWritesExactly}
use Rattle.mk_subject.specs.NodeRow.{NodeRow, AreRows, IsRow, row_reads, row_writes}
use Rattle.mk_subject.specs.Subject.{Subject, all_writes, commands_of, name_of, reads_of, writes_of}
use Rattle.mk_subject.proofs.Entries.{same_reads, same_writes}
use Rattle.mk_subject.proofs.InOrder.{writer_has_recipe, writer_in_order}
use Rattle.mk_subject.proofs.Rows.{in_take_more}
use Rattle.mk_since.specs.Doubts.{trust_without}
use Rattle.mk_since.specs.Laws.{NamedAreNamed}
use Rattle.mk_since.specs.Named.{AreNamedBy, build_of}
use Rattle.mk_since.specs.Past.{Past, PastRecipe, lines_in, past_of, recipe_of}
use Rattle.mk_since.specs.Parts.{Among, Leaves, Renews, cant_stay, has_file, is_made_anew, recipe_in, with_those}
use Rattle.mk_since.proofs.Deciding.{has_is, not_from, not_true, owns_is, stay_decides}

-- what stands among names to which one was added,
pub one_has : (names : List (List ℕ)) (name f : List ℕ) → Has (with_name names name) f ↔ (Has names f ⊎ (name ≡ f))
one_has names name f = at (has_name names name) refl
  where
    at : (b : Bool) → has_name names name ≡ b → Has (cond b names (names ++ name ∷ [])) f ↔ (Has names f ⊎ (name ≡ f))
    at true t = (λ h. inl h, λ h. elim h [ inl there ↦ there | inr e ↦ subst (Has names) e (Has-from_has_name names name t) ])
    at false t = (
      λ h. elim (Has-cases names (name ∷ []) f h) [ inl before ↦ inl before | inr (inl last) ↦ inr last | inr (inr none) ↦ absurd none ],
      λ h. elim h [ inl before ↦ Has-left names (name ∷ []) f before | inr last ↦ Has-right names (name ∷ []) f (inl last) ],
    )

-- to which others were,
pub all_has : (more names : List (List ℕ)) (f : List ℕ) → Has (fold with_name names more) f ↔ (Has names f ⊎ Has more f)
all_has [] names f = (λ h. inl h, λ h. elim h [ inl there ↦ there | inr none ↦ absurd none ])
all_has (name ∷ more) names f =
    let rest = all_has more (with_name names name) f in
    let one = one_has names name f in (
      λ h. elim (rest.0 h) [ inl w ↦ elim (one.0 w) [ inl there ↦ inl there | inr e ↦ inr (inl e) ] | inr r ↦ inr (inr r) ],
      λ h. elim h [ inl there ↦ rest.1 (inl (one.1 (inl there))) | inr r ↦ elim r [ inl e ↦ rest.1 (inl (one.1 (inr e))) | inr k ↦ rest.1 (inr k) ] ],
    )

-- and to which those were that pass
those_has : (passes : List ℕ → Bool) (names files : List (List ℕ)) (f : List ℕ) → Has (with_those passes names files) f ↔ (Has names f ⊎ (Has files f × (passes f ≡ true)))
those_has passes names files f =
    let all = all_has (filter passes files) names f in (
      λ h. elim (all.0 h) [ inl there ↦ inl there | inr k ↦ inr (Has-from_filter passes files f k) ],
      λ h. elim h [ inl there ↦ all.1 (inl there) | inr k ↦ all.1 (inr (Has-filter passes files f k.0 k.1)) ],
    )

-- the names are those at first, and the files to which one of the list leads
abbrev pub AreNoted : {A : Type 0} → (A → List ℕ → Type 0) → (names initial : List (List ℕ)) → List A → Type 0
AreNoted P names initial items = (f : List ℕ) → Has names f ↔ (Has initial f ⊎ Among P items f)

module _ {A : Type 0} (P : A → List ℕ → Type 0) where
  -- none at first
  pub none_noted : (names initial : List (List ℕ)) → names ≡ initial → AreNoted P names initial []
  none_noted names initial same f =
      (λ h. inl (subst (λ (l : List (List ℕ)). Has l f) same h), λ h. elim h [ inl k ↦ subst (λ (l : List (List ℕ)). Has l f) (sym same) k | inr (e, none, p) ↦ absurd none ])

  -- one row more
  pub noted_more : (names new initial : List (List ℕ)) (rows : List A) (i : ℕ) (d : A) → i < length rows → ((f : List ℕ) → Has new f ↔ (Has names f ⊎ P (get_or rows i d) f)) → AreNoted P names initial (take i rows) → AreNoted P new initial (take (i + 1) rows)
  noted_more names new initial rows i d lt now before f = (there, back)
    where
      there : Has new f → Has initial f ⊎ Among P (take (i + 1) rows) f
      there h =
          ⊎_elim (λ o. ⊎_elim (λ k. inl k) (λ k. inr (k.0, (in_take_more rows i d k.0 lt).1 (inl k.1), k.2)) ((before f).0 o)) (λ p. inr (get_or rows i d, (in_take_more rows i d (get_or rows i d) lt).1 (inr refl), p)) ((now f).0 h)

      back : Has initial f ⊎ Among P (take (i + 1) rows) f → Has new f
      back h =
          ⊎_elim (λ k. (now f).1 (inl ((before f).1 (inl k)))) (λ k. ⊎_elim (λ old. (now f).1 (inl ((before f).1 (inr (k.0, old, k.2))))) (λ same. (now f).1 (inr (subst (λ (e : A). P e f) (sym same) k.2))) ((in_take_more rows i d k.0 lt).0 k.1)) h

  -- one row more, that leads to no file
  pub noted_same : (names initial : List (List ℕ)) (rows : List A) (i : ℕ) (d : A) → i < length rows → ((f : List ℕ) → ¬ (P (get_or rows i d) f)) → AreNoted P names initial (take i rows) → AreNoted P names initial (take (i + 1) rows)
  noted_same names initial rows i d lt none before =
      noted_more names names initial rows i d lt (λ f. (λ h. inl h, λ h. ⊎_elim (λ k. k) (λ p. absurd (none f p)) h)) before

-- the row of a node
all_at : (P : NodeRow → Type 0) (rows : List NodeRow) (e : NodeRow) → All P rows → Has rows e → P e
all_at P [] e h k = absurd k
all_at P (r ∷ rows) e h (inl here) = subst P here (All-head P r rows h)
all_at P (r ∷ rows) e h (inr there) = all_at P rows e (All-tail P r rows h) there

row_for : (rows : List NodeRow) (n : ℕ) → Has (map (λ (e : NodeRow). e.number) rows) n → (e : NodeRow) × Has rows e × (e.number ≡ n)
row_for [] n h = absurd h
row_for (e ∷ rows) n (inl here) = (e, inl refl, here)
row_for (e ∷ rows) n (inr there) = let rest = row_for rows n there in (rest.0, inr rest.1, rest.2)

module _ (x : Subject) (is : IsGraph x.graph) (reaches : SerialReachesEachOnce) (rows : List NodeRow) (entries : AreRows x rows) where
  pub is_entry : (e : NodeRow) → Has rows e → IsRow x e
  is_entry e h = all_at (IsRow x) rows e entries.right h

  -- what writes a file has a row, which has that file
  pub writer_row : (n : ℕ) (f : List ℕ) → Has (writes_of x n) f → (e : NodeRow) × Has rows e × (e.number ≡ n) × Has (row_writes e) f
  writer_row n f wrote =
      let found = row_for rows n (subst (λ (l : List ℕ). Has l n) (sym entries.in_order) (writer_in_order x is reaches n f wrote)) in
      (found.0, found.1, found.2, subst (λ (l : List (List ℕ)). Has l f) (sym (same_writes x found.0 (is_entry found.0 found.1))) (subst (λ (k : ℕ). Has (writes_of x k) f) (sym found.2) wrote))

  pub row_wrote : (e : NodeRow) (f : List ℕ) → Has rows e → Has (row_writes e) f → Has (writes_of x e.number) f
  row_wrote e f h w = subst (λ (l : List (List ℕ)). Has l f) (same_writes x e (is_entry e h)) w

pub leaves_noted : (y : Subject) (r : PastRecipe) (names new files : List (List ℕ)) → files ≡ r.writes → new ≡ with_those (λ f. not (has_file y f)) names files → (f : List ℕ) → Has new f ↔ (Has names f ⊎ Leaves y r f)
leaves_noted y r names new files same added f =
    subst (λ (l : List (List ℕ)). Has l f ↔ (Has names f ⊎ Leaves y r f)) (sym added) (subst (λ (l : List (List ℕ)). Has (with_those (λ k. not (has_file y k)) names files) f ↔ (Has names f ⊎ (Has l f × (not (has_file y f) ≡ true)))) same (those_has (λ k. not (has_file y k)) names files f))

pub renews_noted : (past : Past) (y : Subject) (always : List Bool) (e : NodeRow) (names new files : List (List ℕ)) → files ≡ row_writes e → new ≡ with_those (has_name past.own) names files
    → is_made_anew past y always e ≡ true → (f : List ℕ) → Has new f ↔ (Has names f ⊎ Renews past y always e f)
renews_noted past y always e names new files same added anew f =
    let those = those_has (has_name past.own) names files f in
    subst (λ (l : List (List ℕ)). Has l f ↔ (Has names f ⊎ Renews past y always e f)) (sym added) (
      λ h. ⊎_elim (λ k. inl k) (λ k. inr (subst (λ (l : List (List ℕ)). Has l f) same k.0, k.1, anew)) (those.0 h),
      λ h. ⊎_elim (λ k. those.1 (inl k)) (λ k. those.1 (inr (subst (λ (l : List (List ℕ)). Has l f) (sym same) k.0, k.1))) h,
    )

module _ (doubted : List (List ℕ)) (x y : Subject) (b c : Behaviours) (is_x : IsGraph x.graph) (is_y : IsGraph y.graph) (reaches : SerialReachesEachOnce) (exact : AllWritesExactly) (one : NamesHaveOneNumber) where
  abbrev is_recipe : ℕ → Bool
  is_recipe n = (node x.graph n).recipe

  abbrev kept : List ℕ
  kept = filter is_recipe (serial_order x.graph)

  -- old recipes lead to what is left over
  left_from : (f : List ℕ) → Among (Leaves y) (past_of doubted x).recipes f → IsLeftOver (build_of x b) (build_of y c) f
  left_from f (r, among, (wrote, lacks)) =
      let (o, stands, is) = Has-from_map (recipe_of x) kept r among in
      ((o, subst (λ (k : PastRecipe). Has k.writes f) (sym is) wrote), λ has. not_from (has_file y f) lacks ((has_is doubted y is_y exact c f).1 has))

  left_for : (f : List ℕ) → IsLeftOver (build_of x b) (build_of y c) f → Among (Leaves y) (past_of doubted x).recipes f
  left_for f ((o, wrote), lacks) =
      let recipe = writer_has_recipe x is_x reaches o f wrote in
      (recipe_of x o, Has-map (recipe_of x) kept o (Has-filter is_recipe (serial_order x.graph) o (writer_in_order x is_x reaches o f wrote) recipe), (wrote, not_true (has_file y f) (λ has. lacks ((has_is doubted y is_y exact c f).0 has))))

  module _ (always : List Bool) (made : (t : ℕ) → (get_or always t false ≡ true) ↔ IsAlwaysMade y.graph t) (rows : List NodeRow) (entries : AreRows y rows) where
    -- rows of the new build lead to what is made anew
    anew_from : (f : List ℕ) → Among (Renews (past_of doubted x) y always) rows f → OwnsFile (build_of x b) f × IsMadeAnew (CantStayTrusting (trust_without doubted) (build_of x b) (build_of y c)) (build_of y c) f
    anew_from f (e, among, (wrote, own, anew)) =
        let both = and_parts (not (get_or always e.number false)) (cant_stay (past_of doubted x) y e) anew in (
          (owns_is doubted x is_x exact b f).0 own,
          (e.number, row_wrote y is_y reaches rows entries e f among wrote, (λ m. not_from (get_or always e.number false) both.0 ((made e.number).1 m)), (stay_decides x y b c is_x is_y reaches exact one doubted e (is_entry y is_y reaches rows entries e among)).0 both.1),
        )

    anew_for : (f : List ℕ) → OwnsFile (build_of x b) f → IsMadeAnew (CantStayTrusting (trust_without doubted) (build_of x b) (build_of y c)) (build_of y c) f → Among (Renews (past_of doubted x) y always) rows f
    anew_for f own (t, wrote, once, cant) =
        let row = writer_row y is_y reaches rows entries t f wrote in
        let e = row.0 in
        let is : e.number ≡ t = row.2 in
        let cant_here = subst (λ (n : ℕ). CantStayTrusting (trust_without doubted) (build_of x b) (build_of y c) n) (sym is) cant in
        let once_here = subst (λ (n : ℕ). ¬ (IsAlwaysMade y.graph n)) (sym is) once in
        (e, row.1, (row.3, (owns_is doubted x is_x exact b f).1 own, and_from (not (get_or always e.number false)) (cant_stay (past_of doubted x) y e) (not_true (get_or always e.number false) (λ m. once_here ((made e.number).0 m))) ((stay_decides x y b c is_x is_y reaches exact one doubted e (is_entry y is_y reaches rows entries e row.1)).1 cant_here)))

-- all that is named is to be removed, and the other way round
pub named_are_named : SerialReachesEachOnce → AllWritesExactly → NamesHaveOneNumber → NamedAreNamed
named_are_named reaches exact one doubted x y is_x is_y names by b c f = (there, back)
  where
    there : Has names f → IsNamedTrusting (trust_without doubted) (build_of x b) (build_of y c) f
    there h =
        ⊎_elim (λ k. let left = left_from doubted x y b c is_x is_y reaches exact one f k in (inr (inr left.0), inl left)) (λ k. let anew = anew_from doubted x y b c is_x is_y reaches exact one by.always by.always_made by.entries by.are_entries f k in (anew.0, inr anew.1)) ((by.all f).0 h)

    back : IsNamedTrusting (trust_without doubted) (build_of x b) (build_of y c) f → Has names f
    back (own, h) =
        (by.all f).1 (⊎_elim (λ k. inl (left_for doubted x y b c is_x is_y reaches exact one f k)) (λ k. inr (anew_for doubted x y b c is_x is_y reaches exact one by.always by.always_made by.entries by.are_entries f own k)) h)

-- names in another order are the same ones
contains_has : (names : List (List ℕ)) (f : List ℕ) → Contains names f → Has names f
contains_has [] f (k, lt, e) = absurd (omega arith)
contains_has (n ∷ names) f (zero, lt, e) = inl e
contains_has (n ∷ names) f (suc k, lt, e) = inr (contains_has names f (k, omega arith, e))

has_contains : (names : List (List ℕ)) (f : List ℕ) → Has names f → Contains names f
has_contains [] f h = absurd h
has_contains (n ∷ names) f (inl e) = (0, omega arith, e)
has_contains (n ∷ names) f (inr h) = let k = has_contains names f h in (suc k.0, omega (arith, k.1), k.2)

pub moved_has : (before after : List (Bor (List ℕ))) → IsPermutation before after → (f : List ℕ) → Has (map (λ (t : Bor (List ℕ)). t.now) after) f ↔ Has (map (λ (t : Bor (List ℕ)). t.now) before) f
moved_has before after moved f =
    let one = map (λ (t : Bor (List ℕ)). t.now) before in
    let other = map (λ (t : Bor (List ℕ)). t.now) after in
    let turned : IsPermutation one other = IsPermutation-map (λ (t : Bor (List ℕ)). t.now) before after moved in (
      λ h. contains_has one f (Contains-permutation other one f (IsPermutation-sym one other turned) (has_contains other f h)),
      λ h. contains_has other f (Contains-permutation one other f turned (has_contains one f h)),
    )

-- what rows hold is what is kept of their recipes
abbrev kept_as : List ℕ → List (List ℕ) → List (List ℕ) → List (List ℕ) → PastRecipe
kept_as target commands reads writes = record { target = target; commands = commands; reads = reads; writes = writes }

row_kept : (x : Subject) (e : NodeRow) → IsRow x e → recipe_in e ≡ recipe_of x e.number
row_kept x e is =
    ap (λ (t : List ℕ). kept_as t e.commands.lines (row_reads e) (row_writes e)) (ap (λ (n : Node). n.name) is.same_node) ∙
    (ap (λ (l : List (List ℕ)). kept_as (name_of x e.number) l (row_reads e) (row_writes e)) (sym (ap lines_in is.same_commands)) ∙
    (ap (λ (l : List (List ℕ)). kept_as (name_of x e.number) (lines_in (commands_of x e.number)) l (row_writes e)) (same_reads x e is) ∙
    ap (λ (l : List (List ℕ)). kept_as (name_of x e.number) (lines_in (commands_of x e.number)) (reads_of x e.number) l) (same_writes x e is)))

kept_all : (x : Subject) (rows : List NodeRow) → All (IsRow x) rows
    → map recipe_in (filter (λ (e : NodeRow). e.node.recipe) rows) ≡ map (recipe_of x) (filter (λ n. (node x.graph n).recipe) (map (λ (e : NodeRow). e.number) rows))
kept_all x [] h = refl
kept_all x (e ∷ rows) h =
    by (node x.graph e.number).recipe (ap (λ (n : Node). n.recipe) (All-head (IsRow x) e rows h).same_node) (row_kept x e (All-head (IsRow x) e rows h)) (kept_all x rows (All-tail (IsRow x) e rows h))
  where
    front : {v : Bool} → e.node.recipe ≡ v
        → map recipe_in (cond e.node.recipe (e ∷ filter (λ (k : NodeRow). k.node.recipe) rows) (filter (λ (k : NodeRow). k.node.recipe) rows))
        ≡ map recipe_in (cond v (e ∷ filter (λ (k : NodeRow). k.node.recipe) rows) (filter (λ (k : NodeRow). k.node.recipe) rows))
    front t = ap (λ (u : Bool). map recipe_in (cond u (e ∷ filter (λ (k : NodeRow). k.node.recipe) rows) (filter (λ (k : NodeRow). k.node.recipe) rows))) t

    by : (v : Bool) → e.node.recipe ≡ v → recipe_in e ≡ recipe_of x e.number
        → map recipe_in (filter (λ (k : NodeRow). k.node.recipe) rows) ≡ map (recipe_of x) (filter (λ n. (node x.graph n).recipe) (map (λ (k : NodeRow). k.number) rows))
        → map recipe_in (cond e.node.recipe (e ∷ filter (λ (k : NodeRow). k.node.recipe) rows) (filter (λ (k : NodeRow). k.node.recipe) rows))
        ≡ map (recipe_of x) (cond v (e.number ∷ filter (λ n. (node x.graph n).recipe) (map (λ (k : NodeRow). k.number) rows)) (filter (λ n. (node x.graph n).recipe) (map (λ (k : NodeRow). k.number) rows)))
    by true t this rest = front t ∙ (ap (λ (r : PastRecipe). r ∷ map recipe_in (filter (λ (k : NodeRow). k.node.recipe) rows)) this ∙ ap (λ (l : List PastRecipe). recipe_of x e.number ∷ l) rest)
    by false t this rest = front t ∙ rest

pub recipes_kept : (x : Subject) (rows : List NodeRow) → AreRows x rows → map recipe_in (filter (λ (e : NodeRow). e.node.recipe) rows) ≡ (past_of [] x).recipes
recipes_kept x rows entries =
    kept_all x rows entries.right ∙ ap (λ (ns : List ℕ). map (recipe_of x) (filter (λ n. (node x.graph n).recipe) ns)) entries.in_order

-- a row more
pub recipe_push : (rows : List NodeRow) (i : ℕ) (d : NodeRow) (recipes new : List PastRecipe) (r : PastRecipe) → i < length rows → (get_or rows i d).node.recipe ≡ true → r ≡ recipe_in (get_or rows i d) → new ≡ recipes ++ r ∷ []
    → recipes ≡ map recipe_in (filter (λ (e : NodeRow). e.node.recipe) (take i rows)) → new ≡ map recipe_in (filter (λ (e : NodeRow). e.node.recipe) (take (i + 1) rows))
recipe_push rows i d recipes new r lt recipe is pushed so =
    let test : NodeRow → Bool = λ (e : NodeRow). e.node.recipe in
    let this = get_or rows i d in
    let more : filter test (take (i + 1) rows) ≡ filter test (take i rows) ++ this ∷ [] = filter_more test rows i d lt ∙ ap (λ (v : Bool). filter test (take i rows) ++ cond v (this ∷ []) []) recipe in
    pushed ∙ (ap (λ (l : List PastRecipe). l ++ r ∷ []) so ∙ (ap (λ (k : PastRecipe). map recipe_in (filter test (take i rows)) ++ k ∷ []) is ∙ (sym (map_push recipe_in (filter test (take i rows)) this) ∙ ap (map recipe_in) (sym more))))

pub recipe_skip : (rows : List NodeRow) (i : ℕ) (d : NodeRow) (recipes : List PastRecipe) → i < length rows → (get_or rows i d).node.recipe ≡ false
    → recipes ≡ map recipe_in (filter (λ (e : NodeRow). e.node.recipe) (take i rows)) → recipes ≡ map recipe_in (filter (λ (e : NodeRow). e.node.recipe) (take (i + 1) rows))
recipe_skip rows i d recipes lt none so =
    let test : NodeRow → Bool = λ (e : NodeRow). e.node.recipe in
    let this = get_or rows i d in
    so ∙ ap (map recipe_in) (sym (filter_more test rows i d lt ∙ (ap (λ (v : Bool). filter test (take i rows) ++ cond v (this ∷ []) []) none ∙ append-nil (filter test (take i rows)))))

-- what rows write is what recipes write
writes_by : (x : Subject) (rows : List NodeRow) → All (IsRow x) rows → flat_map (λ (e : NodeRow). row_writes e) rows ≡ flat_map (writes_of x) (map (λ (e : NodeRow). e.number) rows)
writes_by x [] h = refl
writes_by x (e ∷ rows) h =
    ap (λ (l : List (List ℕ)). l ++ flat_map (λ (k : NodeRow). row_writes k) rows) (same_writes x e (All-head (IsRow x) e rows h)) ∙ ap (λ (l : List (List ℕ)). writes_of x e.number ++ l) (writes_by x rows (All-tail (IsRow x) e rows h))

pub all_written : (x : Subject) (rows : List NodeRow) → AreRows x rows → flat_map (λ (e : NodeRow). row_writes e) rows ≡ all_writes x
all_written x rows entries = writes_by x rows entries.right ∙ ap (λ (ns : List ℕ). flat_map (writes_of x) ns) entries.in_order

-- what a list leads to, with one more
flat_append : {A : Type 0} (f : A → List (List ℕ)) (xs ys : List A) → flat_map f (xs ++ ys) ≡ flat_map f xs ++ flat_map f ys
flat_append f [] ys = refl
flat_append f (x ∷ xs) ys = ap (λ (l : List (List ℕ)). f x ++ l) (flat_append f xs ys) ∙ sym (append_assoc (f x) (flat_map f xs) (flat_map f ys))

flat_more : (rows : List NodeRow) (i : ℕ) (d : NodeRow) → i < length rows → flat_map (λ (e : NodeRow). row_writes e) (take (i + 1) rows) ≡ flat_map (λ (e : NodeRow). row_writes e) (take i rows) ++ row_writes (get_or rows i d)
flat_more rows i d lt =
    let writes : NodeRow → List (List ℕ) = λ (e : NodeRow). row_writes e in
    let this = get_or rows i d in
    ap (flat_map writes) (take_more rows i d lt) ∙ (flat_append writes (take i rows) (this ∷ []) ∙ ap (λ (l : List (List ℕ)). flat_map writes (take i rows) ++ l) (append-nil (row_writes this)))

pub written_more : (rows : List NodeRow) (i : ℕ) (d : NodeRow) (initial names new files : List (List ℕ)) → i < length rows → files ≡ row_writes (get_or rows i d) → new ≡ names ++ files
    → names ≡ initial ++ flat_map (λ (e : NodeRow). row_writes e) (take i rows) → new ≡ initial ++ flat_map (λ (e : NodeRow). row_writes e) (take (i + 1) rows)
written_more rows i d initial names new files lt same pushed so =
    let writes : NodeRow → List (List ℕ) = λ (e : NodeRow). row_writes e in
    pushed ∙ (ap (λ (l : List (List ℕ)). l ++ files) so ∙ (append_assoc initial (flat_map writes (take i rows)) files ∙ ap (λ (l : List (List ℕ)). initial ++ l) (ap (λ (l : List (List ℕ)). flat_map writes (take i rows) ++ l) same ∙ sym (flat_more rows i d lt))))

-- the same names in another order
pub named_in_order : (past : Past) (y : Subject) (names copies : List (List ℕ)) → ((f : List ℕ) → Has copies f ↔ Has names f) → AreNamedBy past y names → AreNamedBy past y copies
named_in_order past y names copies same by = record {
  always = by.always;
  always_made = by.always_made;
  entries = by.entries;
  are_entries = by.are_entries;
  all = λ f. (λ h. (by.all f).0 ((same f).0 h), λ h. (same f).1 ((by.all f).1 h));
}

-- what is noted of none, then once and once more
pub both_noted : {P Q : Type 0} (none names new : List (List ℕ)) (f : List ℕ) → none ≡ [] → Has names f ↔ (Has none f ⊎ P) → Has new f ↔ (Has names f ⊎ Q) → Has new f ↔ (P ⊎ Q)
both_noted none names new f empty one two = (
  λ h. ⊎_elim (λ k. ⊎_elim (λ i. absurd (subst (λ (l : List (List ℕ)). Has l f) empty i)) (λ p. inl p) (one.0 k)) (λ q. inr q) (two.0 h),
  λ h. two.1 (⊎_elim (λ p. inl (one.1 (inr p))) (λ q. inr q) h),
)

-- names spelled by sorted texts are sorted
pub sorted_names : (xs : List (Bor (List ℕ))) → IsSorted (λ (a b : Bor (List ℕ)). slice_cmp nat_cmp a.now b.now) xs → IsSorted (slice_cmp nat_cmp) (map (λ (t : Bor (List ℕ)). t.now) xs)
sorted_names [] sorted k d low high = absurd (omega arith)
sorted_names (x ∷ xs) sorted k d low high =
    let spell : Bor (List ℕ) → List ℕ = λ (t : Bor (List ℕ)). t.now in
    let within : k + 1 < length (x ∷ xs) = rw length-map at high in
    rw (get_or-map spell (x ∷ xs) (k + 1) x d within, get_or-map spell (x ∷ xs) k x d (omega arith)) (sorted k x low within)
