-- What is tested decides the rules.
use Rattle.std.proofs.Common.{◌≡◌, ◌∙◌, ℕ, Bool, true, false, cond, List, [], ◌∷◌, ◌++◌, length, map, Option, Some, None, refl, sym, ap, subst, ◌⊎◌, inl, inr, ⊎_elim, arith}
use Rattle.std.specs.Prelude.{◌&&◌, ◌||◌, ◌==◌, ◌↔◌, filter, find, not}
use Rattle.std.specs.List.{flat_map, list_all, list_any}
use Rattle.std.specs.Str.{bytes_eq}
use Rattle.std.proofs.lemmas.Bool.{and_from, and_parts, ne_eqb, or_cases, or_left, or_right, false≢true, true≢false}
use Rattle.std.proofs.lemmas.List.Folds.{list_any-append}
use Rattle.std.proofs.lemmas.Slice.Eq.{bytes_eq-Decides}
use Rattle.mk_lemmas.proofs.Members.{Has-cases, Has-filter, Has-from_filter, Has-from_map, Has-left, Has-map, Has-right, find-Has, list_all-Has}
use Rattle.mk_lines.specs.Names.{has_name}
use Rattle.mk_lines.proofs.NameTests.{Has-from_has_name, has_name-from_Has}
use Rattle.mk_foot.specs.Setting.{is_given}
use Rattle.mk_graph.specs.declared.node.Node.{Node}
use Rattle.mk_graph.specs.Graph.{IsGraph, node}
use Rattle.mk_graph.specs.Laws.{SerialReachesEachOnce}
use Rattle.mk_graph.specs.Membership.{Has}
use Rattle.mk_graph.specs.Serial.{serial_order}
use Rattle.mk_build.specs.BuildLaws.{NamesHaveOneNumber}
use Rattle.mk_build_behaviours.specs.Behaviours.{Behaviours}
use Rattle.mk_build_since.specs.Named.{AreSameFiles, CantStay, CantStayTrusting, HasFile, HoldsOf, IsWritten, NewRecipe, OtherCommands, OtherWrites, OwnsFile, OtherReads, ReadText, Rule, WasRecipe, all_rules}
use Rattle.mk_subject.specs.Laws.{AllWritesExactly}
use Rattle.mk_subject.specs.NodeRow.{NodeRow, IsRow, row_reads, row_writes, lines_eq, writers_of}
use Rattle.mk_subject.specs.Subject.{Subject, IsRecipe, all_writes, commands_of, name_of, reads_of, writes_of}
use Rattle.mk_subject.proofs.Decided.{lines_same}
use Rattle.mk_subject.proofs.Entries.{same_reads, same_writes}
use Rattle.mk_subject.proofs.InOrder.{in_order, recipe_is_node}
use Rattle.mk_since.specs.Doubts.{trust_without}
use Rattle.mk_since.specs.Named.{build_of}
use Rattle.mk_since.specs.Past.{PastRecipe, lines_in, past_of, recipe_of}
use Rattle.mk_since.specs.Parts.{are_among, are_others, cant_stay, cant_stay_by, has_file, is_other, read_text, recipe_for}

-- a test that says no
pub not_from : (v : Bool) → not v ≡ true → v ≡ true → ⊥
not_from true n e = false≢true n
not_from false n e = false≢true e

true_from_not : (v : Bool) → not v ≡ false → v ≡ true
true_from_not true e = refl
true_from_not false e = absurd (true≢false e)

pub not_true : (v : Bool) → (v ≡ true → ⊥) → not v ≡ true
not_true true h = absurd (h refl)
not_true false h = refl

-- a file is written just where it has writers
nonempty : (m : ℕ) (ns : List ℕ) → (length (m ∷ ns) == 0) ≡ false
nonempty m ns = ne_eqb (length (m ∷ ns)) 0 (λ e. absurd (omega (arith, e)))

written_step : (b v : Bool) (m : ℕ) (ns : List ℕ) → v ≡ not (length ns == 0) → (b || v) ≡ not (length (cond b (m ∷ ns) ns) == 0)
written_step true v m ns e = sym (ap (λ u. not u) (nonempty m ns))
written_step false v m ns e = e

writers_decide : (g : ℕ → List (List ℕ)) (ns : List ℕ) (f : List ℕ) → has_name (flat_map g ns) f ≡ not (length (filter (λ o. has_name (g o) f) ns) == 0)
writers_decide g [] f = refl
writers_decide g (m ∷ ns) f =
    list_any-append _ (g m) (flat_map g ns) ∙ written_step (has_name (g m) f) (has_name (flat_map g ns) f) m (filter (λ o. has_name (g o) f) ns) (writers_decide g ns f)

pub written_decides : (y : Subject) (f : List ℕ) (ns : List ℕ) (b : Bool) → ns ≡ writers_of y f → b ≡ (length ns == 0) → not b ≡ has_name (all_writes y) f
written_decides y f ns b same e =
    ap (λ v. not v) (e ∙ ap (λ (l : List ℕ). length l == 0) same) ∙ sym (writers_decide (writes_of y) (serial_order y.graph) f)

-- where none is found, none passes
none_found : {A : Type 0} (test : A → Bool) (xs : List A) → find test xs ≡ None → (x : A) → Has xs x → test x ≡ false
none_found test [] none x h = absurd h
none_found test (z ∷ xs) none x h = by (test z) refl none h (λ e k. none_found test xs e x k)
  where
    by : (v : Bool) → test z ≡ v → cond v (Some z) (find test xs) ≡ None → Has (z ∷ xs) x → (find test xs ≡ None → Has xs x → test x ≡ false) → test x ≡ false
    by true t e k rest = absurd cc
    by false t e (inl here) rest = ap test (sym here) ∙ t
    by false t e (inr there) rest = rest e there

-- what passes stands in the list
pub any_from : {A : Type 0} (test : A → Bool) (xs : List A) → list_any test xs ≡ true → (x : A) × Has xs x × (test x ≡ true)
any_from test [] e = absurd (false≢true e)
any_from test (x ∷ xs) e =
    ⊎_elim (λ here. (x, inl refl, here)) (λ there. let rest = any_from test xs there in (rest.0, inr rest.1, rest.2)) (or_cases (test x) (list_any test xs) e)

pub any_for : {A : Type 0} (test : A → Bool) (xs : List A) (x : A) → Has xs x → test x ≡ true → list_any test xs ≡ true
any_for test [] x h e = absurd h
any_for test (z ∷ xs) x (inl here) e = or_left (test z) (list_any test xs) (ap test here ∙ e)
any_for test (z ∷ xs) x (inr there) e = or_right (test z) (list_any test xs) (any_for test xs x there e)

all_for : {A : Type 0} (test : A → Bool) (xs : List A) → ((x : A) → Has xs x → test x ≡ true) → list_all test xs ≡ true
all_for test [] h = refl
all_for test (x ∷ xs) h = and_from (test x) (list_all test xs) (h x (inl refl)) (all_for test xs (λ z k. h z (inr k)))

-- lists have the same files just where the tests say so
among_decides : (names others : List (List ℕ)) → (are_among names others ≡ true) ↔ ((f : List ℕ) → Has names f → Has others f)
among_decides names others = (
  λ e f h. Has-from_has_name others f (list_all-Has (has_name others) names f e h),
  λ h. all_for (has_name others) names (λ f k. has_name-from_Has others f (h f k)),
)

same_decides : (names others : List (List ℕ)) → ((are_among names others && are_among others names) ≡ true) ↔ AreSameFiles names others
same_decides names others = (
  λ e f. let both = and_parts (are_among names others) (are_among others names) e in ((among_decides names others).0 both.0 f, (among_decides others names).0 both.1 f),
  λ h. and_from (are_among names others) (are_among others names) ((among_decides names others).1 (λ f. (h f).0)) ((among_decides others names).1 (λ f. (h f).1)),
)

-- lists of lines equal themselves
lines_equal : (xs ys : List (List ℕ)) → xs ≡ ys → lines_eq xs ys ≡ true
lines_equal xs ys same = subst (λ (l : List (List ℕ)). lines_eq xs l ≡ true) same (own xs)
  where
    own : (zs : List (List ℕ)) → lines_eq zs zs ≡ true
    own [] = refl
    own (z ∷ zs) = and_from (bytes_eq z z) (lines_eq zs zs) ((bytes_eq-Decides z z).1 refl) (own zs)

-- equal lists have the same files
pub equal_are_same : (xs ys : List (List ℕ)) → lines_eq xs ys ≡ true → are_others xs ys ≡ false
equal_are_same xs ys e =
    ap (λ b. not b) ((same_decides xs ys).1 (subst (λ (l : List (List ℕ)). AreSameFiles xs l) (lines_same xs ys e) (λ f. (λ h. h, λ h. h))))

-- which files a build has
module _ (doubted : List (List ℕ)) (x : Subject) (is : IsGraph x.graph) (exact : AllWritesExactly) (b : Behaviours) (f : List ℕ) where
  pub written_is : (has_name (all_writes x) f ≡ true) ↔ IsWritten (build_of x b) f
  written_is = (λ e. (exact x is f).0 (Has-from_has_name (all_writes x) f e), λ w. has_name-from_Has (all_writes x) f ((exact x is f).1 w))

  pub has_is : (has_file x f ≡ true) ↔ HasFile (build_of x b) f
  has_is = (
    λ e. ⊎_elim (λ g. inl g) (λ w. inr (written_is.0 w)) (or_cases (is_given x.setting f) (has_name (all_writes x) f) e),
    λ h. ⊎_elim (λ g. or_left (is_given x.setting f) (has_name (all_writes x) f) g) (λ w. or_right (is_given x.setting f) (has_name (all_writes x) f) (written_is.1 w)) h,
  )

  pub owns_is : (has_name (past_of doubted x).own f ≡ true) ↔ OwnsFile (build_of x b) f
  owns_is = (
    λ e. there (Has-cases x.setting.sources (x.setting.texts ++ all_writes x) f (Has-from_has_name (past_of doubted x).own f e)),
    λ h. has_name-from_Has (past_of doubted x).own f (⊎_elim (Has-left x.setting.sources (x.setting.texts ++ all_writes x) f) (λ r. Has-right x.setting.sources (x.setting.texts ++ all_writes x) f (⊎_elim (Has-left x.setting.texts (all_writes x) f) (λ w. Has-right x.setting.texts (all_writes x) f ((exact x is f).1 w)) r)) h),
  )
    where
      there : Has x.setting.sources f ⊎ Has (x.setting.texts ++ all_writes x) f → OwnsFile (build_of x b) f
      there h = ⊎_elim (λ k. inl k) (λ r. inr (⊎_elim (λ k. inl k) (λ w. inr ((exact x is f).0 w)) (Has-cases x.setting.texts (all_writes x) f r))) h

-- two nodes with one target
module _ (x y : Subject) (b c : Behaviours) (is_x : IsGraph x.graph) (is_y : IsGraph y.graph) (reaches : SerialReachesEachOnce) (exact : AllWritesExactly) (one : NamesHaveOneNumber) where
  module _ (o : ℕ) (e : NodeRow) (is_e : IsRow y e) (recipe : IsRecipe x o) (same : name_of x o ≡ name_of y e.number) where
    was : WasRecipe (build_of x b) (build_of y c) o e.number
    was = (recipe, same)

    this : (n : ℕ) → WasRecipe (build_of x b) (build_of y c) n e.number → n ≡ o
    this n w = one x.graph is_x.sound (name_of y e.number) n o (recipe_is_node x is_x reaches n w.0, w.1) (recipe_is_node x is_x reaches o recipe, same)

    new_lines : lines_in (commands_of y e.number) ≡ e.commands.lines
    new_lines = ap lines_in is_e.same_commands

    other_commands : not (lines_eq (lines_in (commands_of x o)) e.commands.lines) ≡ true → CantStay all_rules (build_of x b) (build_of y c) e.number
    other_commands h =
        (OtherCommands, inr (inl refl), (o, was, λ k. not_from (lines_eq (lines_in (commands_of x o)) e.commands.lines) h (lines_equal (lines_in (commands_of x o)) e.commands.lines (k ∙ new_lines))))

    other_writes : are_others (writes_of x o) (row_writes e) ≡ true → CantStay all_rules (build_of x b) (build_of y c) e.number
    other_writes h =
        (OtherWrites, inr (inr (inl refl)), (o, was, λ k. not_from (are_among (writes_of x o) (row_writes e) && are_among (row_writes e) (writes_of x o)) h ((same_decides (writes_of x o) (row_writes e)).1 (subst (λ (l : List (List ℕ)). AreSameFiles (writes_of x o) l) (sym (same_writes y e is_e)) k))))

    other_reads : are_others (reads_of x o) (row_reads e) ≡ true → CantStay all_rules (build_of x b) (build_of y c) e.number
    other_reads h =
        (OtherReads, inr (inr (inr (inl refl))), (o, was, λ k. not_from (are_among (reads_of x o) (row_reads e) && are_among (row_reads e) (reads_of x o)) h ((same_decides (reads_of x o) (row_reads e)).1 (subst (λ (l : List (List ℕ)). AreSameFiles (reads_of x o) l) (sym (same_reads y e is_e)) k))))

    text : read_text y (recipe_of x o) ≡ true → CantStay all_rules (build_of x b) (build_of y c) e.number
    text h =
        let found = any_from (has_name y.setting.texts) (reads_of x o) h in
        (ReadText, inr (inr (inr (inr (inl refl)))), (o, was, (found.0, found.1, Has-from_has_name y.setting.texts found.0 found.2)))

    -- what is tested says that it can't stay,
    other_cant : is_other y (recipe_of x o) e ≡ true → CantStay all_rules (build_of x b) (build_of y c) e.number
    other_cant h =
        let one_test = not (lines_eq (lines_in (commands_of x o)) e.commands.lines) in
        let two = are_others (writes_of x o) (row_writes e) in
        let three = are_others (reads_of x o) (row_reads e) in
        let four = read_text y (recipe_of x o) in
        ⊎_elim other_commands (λ r. ⊎_elim other_writes (λ s. ⊎_elim other_reads text (or_cases three four s)) (or_cases two (three || four) r)) (or_cases one_test (two || (three || four)) h)

    read_here : (n : ℕ) (f : List ℕ) → WasRecipe (build_of x b) (build_of y c) n e.number → Has (reads_of x n) f → Has (reads_of x o) f
    read_here n f w h = subst (λ (k : ℕ). Has (reads_of x k) f) (this n w) h

    by_commands : (n : ℕ) → WasRecipe (build_of x b) (build_of y c) n e.number → ¬ (lines_in (commands_of x n) ≡ lines_in (commands_of y e.number)) → not (lines_eq (lines_in (commands_of x o)) e.commands.lines) ≡ true
    by_commands n w differ =
        not_true (lines_eq (lines_in (commands_of x o)) e.commands.lines) (λ k. differ (ap (λ (i : ℕ). lines_in (commands_of x i)) (this n w) ∙ (lines_same (lines_in (commands_of x o)) e.commands.lines k ∙ sym new_lines)))

    by_writes : (n : ℕ) → WasRecipe (build_of x b) (build_of y c) n e.number → ¬ (AreSameFiles (writes_of x n) (writes_of y e.number)) → are_others (writes_of x o) (row_writes e) ≡ true
    by_writes n w differ =
        not_true (are_among (writes_of x o) (row_writes e) && are_among (row_writes e) (writes_of x o)) (λ k. differ (subst (λ (i : ℕ). AreSameFiles (writes_of x i) (writes_of y e.number)) (sym (this n w)) (subst (λ (l : List (List ℕ)). AreSameFiles (writes_of x o) l) (same_writes y e is_e) ((same_decides (writes_of x o) (row_writes e)).0 k))))

    by_reads : (n : ℕ) → WasRecipe (build_of x b) (build_of y c) n e.number → ¬ (AreSameFiles (reads_of x n) (reads_of y e.number)) → are_others (reads_of x o) (row_reads e) ≡ true
    by_reads n w differ =
        not_true (are_among (reads_of x o) (row_reads e) && are_among (row_reads e) (reads_of x o)) (λ k. differ (subst (λ (i : ℕ). AreSameFiles (reads_of x i) (reads_of y e.number)) (sym (this n w)) (subst (λ (l : List (List ℕ)). AreSameFiles (reads_of x o) l) (same_reads y e is_e) ((same_decides (reads_of x o) (row_reads e)).0 k))))

    by_text : (n : ℕ) → WasRecipe (build_of x b) (build_of y c) n e.number → (f : List ℕ) → Has (reads_of x n) f → Has y.setting.texts f → read_text y (recipe_of x o) ≡ true
    by_text n w f h k = any_for (has_name y.setting.texts) (reads_of x o) f (read_here n f w h) (has_name-from_Has y.setting.texts f k)

    holds_other : (rule : Rule) → HoldsOf rule (build_of x b) (build_of y c) e.number → is_other y (recipe_of x o) e ≡ true
    holds_other rule h = by rule h
      where
        first : Bool
        first = not (lines_eq (lines_in (commands_of x o)) e.commands.lines)

        second : Bool
        second = are_others (writes_of x o) (row_writes e)

        third : Bool
        third = are_others (reads_of x o) (row_reads e)

        fourth : Bool
        fourth = read_text y (recipe_of x o)

        by : (rule : Rule) → HoldsOf rule (build_of x b) (build_of y c) e.number → (first || (second || (third || fourth))) ≡ true
        by NewRecipe none = absurd (none o was)
        by OtherCommands (n, w, differ) = or_left first (second || (third || fourth)) (by_commands n w differ)
        by OtherWrites (n, w, differ) = or_right first (second || (third || fourth)) (or_left second (third || fourth) (by_writes n w differ))
        by OtherReads (n, w, differ) = or_right first (second || (third || fourth)) (or_right second (third || fourth) (or_left third fourth (by_reads n w differ)))
        by ReadText (n, w, (f, h, k)) = or_right first (second || (third || fourth)) (or_right second (third || fourth) (or_right third fourth (by_text n w f h k)))

    -- just where it can't
    other_decides : (is_other y (recipe_of x o) e ≡ true) ↔ CantStay all_rules (build_of x b) (build_of y c) e.number
    other_decides = (other_cant, λ (rule, among, holds). holds_other rule holds)

  -- without an old recipe it can't stay
  none_decides : (e : NodeRow) → ((o : ℕ) → IsRecipe x o → ¬ (name_of x o ≡ name_of y e.number)) → (true ≡ true) ↔ CantStay all_rules (build_of x b) (build_of y c) e.number
  none_decides e none = (λ h. (NewRecipe, inl refl, λ o w. none o w.0 w.1), λ h. refl)

  abbrev is_recipe : ℕ → Bool
  is_recipe n = (node x.graph n).recipe

  abbrev kept : List ℕ
  kept = filter is_recipe (serial_order x.graph)

  -- the old recipe with a target decides
  old_decides : (doubted : List (List ℕ)) (e : NodeRow) → IsRow y e → (cant_stay_by (recipe_for (past_of doubted x) e.node.name) y e ≡ true) ↔ CantStay all_rules (build_of x b) (build_of y c) e.number
  old_decides doubted e is_e = by (recipe_for (past_of doubted x) e.node.name) refl
    where
      named : e.node.name ≡ name_of y e.number
      named = ap (λ (n : Node). n.name) is_e.same_node

      test : PastRecipe → Bool
      test r = bytes_eq e.node.name r.target

      by : (found : Option PastRecipe) → recipe_for (past_of doubted x) e.node.name ≡ found → (cant_stay_by found y e ≡ true) ↔ CantStay all_rules (build_of x b) (build_of y c) e.number
      by None lacks =
          none_decides e (λ o recipe same. true≢false (sym ((bytes_eq-Decides e.node.name (name_of x o)).1 (named ∙ sym same)) ∙ none_found test (map (recipe_of x) kept) lacks (recipe_of x o) (Has-map (recipe_of x) kept o (Has-filter is_recipe (serial_order x.graph) o (in_order x is_x reaches o (recipe_is_node x is_x reaches o recipe)) recipe))))
      by (Some r) found =
          let stands = find-Has test (map (recipe_of x) kept) r found in
          let (o, among, is) = Has-from_map (recipe_of x) kept r stands.0 in
          let recipe = (Has-from_filter is_recipe (serial_order x.graph) o among).1 in
          let target : e.node.name ≡ r.target = (bytes_eq-Decides e.node.name r.target).0 stands.1 in
          let same : name_of x o ≡ name_of y e.number = ap (λ (k : PastRecipe). k.target) is ∙ (sym target ∙ named) in
          subst (λ (k : PastRecipe). (is_other y k e ≡ true) ↔ CantStay all_rules (build_of x b) (build_of y c) e.number) is (other_decides o e is_e recipe same)

  -- and whether that is doubted
  pub stay_decides : (doubted : List (List ℕ)) (e : NodeRow) → IsRow y e → (cant_stay (past_of doubted x) y e ≡ true) ↔ CantStayTrusting (trust_without doubted) (build_of x b) (build_of y c) e.number
  stay_decides doubted e is_e =
      let named : e.node.name ≡ name_of y e.number = ap (λ (n : Node). n.name) is_e.same_node in
      let old = cant_stay_by (recipe_for (past_of doubted x) e.node.name) y e in (
        λ h. ⊎_elim (λ d. inr (ap (λ b. not b) (sym (ap (has_name doubted) named) ∙ d))) (λ o. inl ((old_decides doubted e is_e).0 o)) (or_cases (has_name doubted e.node.name) old h),
        λ h. ⊎_elim (λ cant. or_right (has_name doubted e.node.name) old ((old_decides doubted e is_e).1 cant)) (λ d. or_left (has_name doubted e.node.name) old (ap (has_name doubted) named ∙ true_from_not (has_name doubted (name_of y e.number)) d)) h,
      )
