-- The first disk, in tables and as the model has it.
use Rattle.std.proofs.Common.{◌≡◌, ℕ, suc, ◌+◌, ◌<◌, ◌≤◌, Bool, true, false, cond, List, [], ◌∷◌, ◌++◌, length, map, Option, Some, None, refl, sym, ap, ◌∙◌, arith, inl, inr, subst, ◌⊎◌, get_or, drop, true≢false}
use Rattle.std.specs.Borrow.{Bor}
use Rattle.std.specs.Prelude.{◌↔◌, fold, option_map, OnOk, Result, Ok, Err}
use Rattle.std.proofs.lemmas.List.{drop_more, append_assoc}
use Rattle.std.proofs.Math.ListN.{get_or-eq_default, drop_of_length-le}
use Rattle.std.proofs.lemmas.Bool.{cases_Bool, cases_lt, cond-true, cond-false}
use Rattle.std.proofs.lemmas.Slice.Eq.{bytes_eq-Decides}
use Rattle.std.proofs.lemmas.List.Kept.{IsStrictlySortedBy-filter}
use Rattle.std.specs.Ordering.{nat_cmp}
use Rattle.std.specs.Cmp.Lexicographic.{slice_cmp}
use Rattle.std.specs.Str.{bytes_eq}
use Rattle.mk_lemmas.proofs.Texts.{texts as spelled}
use Rattle.mk_lines.specs.Names.{place_from, with_name}
use Rattle.mk_foot.specs.Setting as recorded
use Rattle.mk_graph.specs.Membership.{Has}
use Rattle.mk_graph.specs.Graph.{Graph, node, no_node}
use Rattle.mk_graph.specs.declared.node.Node.{Node}
use Rattle.mk_build.specs.Setting.{FileName}
use Rattle.mk_build.specs.World as world
use Rattle.mk_build.specs.World.{numbered_disk, IsFirstDisk, IsOfWorld}
use Rattle.mk_world.specs.declared.file.File.{File}
use Rattle.mk_world.specs.Tables.{look}
use Rattle.mk_world.specs.State.{disk_of, file_of, setting_of}
use Rattle.mk_world.specs.First.{first_files, first_disk, given_among, AreSorted, IsNameOf, reads_of, writes_of}
use Rattle.mk_world.proofs.Ascending.{all_has, ascending, one_has}

-- the file with this number, as the model has it
abbrev numbered_file : ℕ → world.File
numbered_file n = record { content = n; stamp = n }

-- what isn't given has no place among the given ones
no_place : (s : recorded.Setting) (n : ℕ) (names : List FileName) (f : FileName) → recorded.is_given s f ≡ false → place_from n (given_among s names) f ≡ None
unfolding place_from
no_place s n [] f e = refl
no_place s n (h ∷ names) f e = at (recorded.is_given s h) refl (no_place s n names f e) (no_place s (n + 1) names f e)
  where
    at : (b : Bool) → recorded.is_given s h ≡ b → place_from n (given_among s names) f ≡ None → place_from (n + 1) (given_among s names) f ≡ None → place_from n (cond b (h ∷ given_among s names) (given_among s names)) f ≡ None
    at false g this next = this
    at true g this next = elim (cases_Bool (bytes_eq f h)) [
      | inl same ↦ absurd (true≢false (sym g ∙ (ap (recorded.is_given s) (sym ((bytes_eq-Decides f h).0 same)) ∙ e)))
      | inr other ↦ cond-false (bytes_eq f h) (Some n) _ other ∙ next
    ]

-- what stands in the table is what is numbered
first_from : (s : recorded.Setting) (n : ℕ) (names : List FileName) (f : FileName) → option_map file_of (look names (first_files s n names) f) ≡ option_map numbered_file (place_from (n + 1) (given_among s names) f)
unfolding place_from
first_from s n [] f = refl
first_from s n (h ∷ names) f = at (recorded.is_given s h) refl (first_from s (n + 1) names f) (first_from s n names f)
  where
    at : (b : Bool) → recorded.is_given s h ≡ b
        → option_map file_of (look names (first_files s (n + 1) names) f) ≡ option_map numbered_file (place_from (n + 1 + 1) (given_among s names) f)
        → option_map file_of (look names (first_files s n names) f) ≡ option_map numbered_file (place_from (n + 1) (given_among s names) f)
        → option_map file_of (look (h ∷ names) (cond b (Some (record { content = n + 1; stamp = n + 1 }) ∷ first_files s (n + 1) names) (None ∷ first_files s n names)) f) ≡ option_map numbered_file (place_from (n + 1) (cond b (h ∷ given_among s names) (given_among s names)) f)
    at true g next this = elim (cases_Bool (bytes_eq f h)) [
      | inl e ↦ ap (option_map file_of) (cond-true (bytes_eq f h) _ _ e) ∙ sym (ap (option_map numbered_file) (cond-true (bytes_eq f h) (Some (n + 1)) _ e))
      | inr e ↦ ap (option_map file_of) (cond-false (bytes_eq f h) _ _ e) ∙ (next ∙ sym (ap (option_map numbered_file) (cond-false (bytes_eq f h) (Some (n + 1)) _ e)))
    ]
    at false g next this = elim (cases_Bool (bytes_eq f h)) [
      | inl e ↦ ap (option_map file_of) (cond-true (bytes_eq f h) _ _ e) ∙ sym (ap (option_map numbered_file) (no_place s (n + 1) names f (ap (recorded.is_given s) ((bytes_eq-Decides f h).0 e) ∙ g)))
      | inr e ↦ ap (option_map file_of) (cond-false (bytes_eq f h) _ _ e) ∙ this
    ]

-- it is the disk on which the given names are numbered
pub first_is : (s : recorded.Setting) (names : List FileName) → disk_of (first_disk s names) ≡ numbered_disk (given_among s names)
first_is s names =
    let at : (f : FileName) → option_map file_of (look names (first_files s 0 names) f) ≡ option_map numbered_file (place_from 1 (given_among s names) f) = λ f. first_from s 0 names f in
    λ i. record { files = λ f. at f i; clock = length (given_among s names); known = [] }

-- what stands among the given ones
given_has : (s : recorded.Setting) (names : List FileName) (f : FileName) → Has (given_among s names) f ↔ (Has names f × (recorded.is_given s f ≡ true))
given_has s [] f = (λ h. absurd h, λ h. h.0)
given_has s (h ∷ names) f = at (recorded.is_given s h) refl (given_has s names f)
  where
    at : (b : Bool) → recorded.is_given s h ≡ b → (Has (given_among s names) f ↔ (Has names f × (recorded.is_given s f ≡ true))) → Has (cond b (h ∷ given_among s names) (given_among s names)) f ↔ (Has (h ∷ names) f × (recorded.is_given s f ≡ true))
    at true g ih = (λ k. elim k [ inl e ↦ (inl e, ap (recorded.is_given s) (sym e) ∙ g) | inr r ↦ (inr (ih.0 r).0, (ih.0 r).1) ], λ k. elim k.0 [ inl e ↦ inl e | inr r ↦ inr (ih.1 (r, k.1)) ])
    at false g ih = (λ k. (inr (ih.0 k).0, (ih.0 k).1), λ k. elim k.0 [ inl e ↦ absurd (true≢false (sym k.1 ∙ (ap (recorded.is_given s) (sym e) ∙ g))) | inr r ↦ ih.1 (r, k.1) ])

-- So the first disk of a world is a first one.
pub is_first : (g : Graph) (s : recorded.Setting) (names : List FileName) → AreSorted names → ((f : FileName) → Has names f ↔ IsOfWorld g (setting_of s) f) → IsFirstDisk g (setting_of s) (disk_of (first_disk s names))
is_first g s names sorted all =
    record {
      names = given_among s names;
      ascending = ascending (given_among s names) (IsStrictlySortedBy-filter (slice_cmp nat_cmp) (recorded.is_given s) names sorted);
      given = λ f. (λ h. let both = (given_has s names f).0 h in ((all f).0 both.0, both.1), λ h. (given_has s names f).1 ((all f).1 h.0, h.1));
      disk = first_is s names;
    }

-- the texts that are left
pub rest_is : {A : Type 0} (text : A → FileName) (names : List A) (i : ℕ) (d : A) (name : FileName) → i < length names → name ≡ text (get_or names i d) → map text (drop i names) ≡ name ∷ map text (drop (i + 1) names)
rest_is text names i d name lt is = ap (map text) (drop_more names i d lt) ∙ ap (λ n. n ∷ map text (drop (i + 1) names)) (sym is)

pub texts_left : (texts : List (Bor FileName)) (i : ℕ) (z : Bor FileName) → i < length texts → spelled (drop i texts) ≡ (get_or texts i z).now ∷ spelled (drop (i + 1) texts)
texts_left texts i z lt = rest_is (λ (text : Bor FileName). text.now) texts i z (get_or texts i z).now lt refl

pub files_pass : (s : recorded.Setting) (n : ℕ) (name : FileName) (texts rest : List FileName) (old new all : List (Option File)) → texts ≡ name ∷ rest → recorded.is_given s name ≡ false → new ≡ old ++ None ∷ [] → old ++ first_files s n texts ≡ all → new ++ first_files s n rest ≡ all
files_pass s n name texts rest old new all is g e so_far =
    ap (λ l. l ++ first_files s n rest) e ∙ (append_assoc old (None ∷ []) (first_files s n rest)
    ∙ (ap (λ l. old ++ l) (sym (cond-false (recorded.is_given s name)
    (Some (record { content = n + 1; stamp = n + 1 }) ∷ first_files s (n + 1) rest)
    (None ∷ first_files s n rest) g)) ∙ (ap (λ t. old ++ first_files s n t) (sym is) ∙ so_far)))

pub files_take : (s : recorded.Setting) (n : ℕ) (name : FileName) (texts rest : List FileName)
    (old new all : List (Option File)) → texts ≡ name ∷ rest → recorded.is_given s name ≡ true → new ≡ old
    ++ Some (record { content = n + 1; stamp = n + 1 }) ∷ [] → old ++ first_files s n texts ≡ all → new
    ++ first_files s (n + 1) rest ≡ all
files_take s n name texts rest old new all is g e so_far =
    ap (λ l. l ++ first_files s (n + 1) rest) e ∙ (append_assoc old
    (Some (record { content = n + 1; stamp = n + 1 }) ∷ []) (first_files s (n + 1) rest)
    ∙ (ap (λ l. old ++ l) (sym (cond-true (recorded.is_given s name)
    (Some (record { content = n + 1; stamp = n + 1 }) ∷ first_files s (n + 1) rest)
    (None ∷ first_files s n rest) g)) ∙ (ap (λ t. old ++ first_files s n t) (sym is) ∙ so_far)))

pub count_pass : (s : recorded.Setting) (n many : ℕ) (name : FileName) (texts rest : List FileName) → texts ≡ name ∷ rest → recorded.is_given s name ≡ false → n + length (given_among s texts) ≡ many → n + length (given_among s rest) ≡ many
count_pass s n many name texts rest is g so_far = ap (λ l. n + length l) (sym (cond-false (recorded.is_given s name) (name ∷ given_among s rest) (given_among s rest) g)) ∙ (ap (λ t. n + length (given_among s t)) (sym is) ∙ so_far)

pub count_take : (s : recorded.Setting) (n many : ℕ) (name : FileName) (texts rest : List FileName) → texts ≡ name ∷ rest → recorded.is_given s name ≡ true → n + length (given_among s texts) ≡ many → n + 1 + length (given_among s rest) ≡ many
count_take s n many name texts rest is g so_far =
    let step : n + suc (length (given_among s rest)) ≡ many = ap (λ l. n + length l) (sym (cond-true (recorded.is_given s name) (name ∷ given_among s rest) (given_among s rest) g)) ∙ (ap (λ t. n + length (given_among s t)) (sym is) ∙ so_far) in
    omega (arith, step)

-- as many files as names
pub many_first : (s : recorded.Setting) (n : ℕ) (names : List FileName) → length (first_files s n names) ≡ length names
many_first s n [] = refl
many_first s n (h ∷ names) = at (recorded.is_given s h) (many_first s (n + 1) names) (many_first s n names)
  where
    at : (b : Bool) → length (first_files s (n + 1) names) ≡ length names → length (first_files s n names) ≡ length names → length (cond b (Some (record { content = n + 1; stamp = n + 1 }) ∷ first_files s (n + 1) names) (None ∷ first_files s n names)) ≡ suc (length names)
    at true e k = ap suc e
    at false e k = ap suc k

-- the names with those of a node
pub node_named : (s : recorded.Setting) (n : Node) (old first second new : List FileName) (name : FileName)
    (reads writes : List FileName) → name ≡ n.name → reads ≡ reads_of s n → writes ≡ writes_of s n → first
    ≡ with_name old name → second ≡ fold with_name first reads → new ≡ fold with_name second writes
    → (f : FileName) → Has new f ↔ (Has old f ⊎ IsNameOf s n f)
node_named s n old first second new name reads writes is_name is_reads is_writes one two three f =
    let to_first : Has first f ↔ (Has old f ⊎ (n.name ≡ f)) = rw (one, is_name) (one_has old n.name f) in
    let to_second : Has second f ↔ (Has first f ⊎ Has (reads_of s n) f) = rw (two, is_reads) (all_has (reads_of s n) first f) in
    let to_new : Has new f ↔ (Has second f ⊎ Has (writes_of s n) f) = rw (three, is_writes) (all_has (writes_of s n) second f) in (
      λ h. elim (to_new.0 h) [ inl k ↦ elim (to_second.0 k) [ inl j ↦ elim (to_first.0 j) [ inl there ↦ inl there | inr e ↦ inr (inl e) ] | inr r ↦ inr (inr (inl r)) ] | inr w ↦ inr (inr (inr w)) ],
      λ h. elim h [ inl there ↦ to_new.1 (inl (to_second.1 (inl (to_first.1 (inl there))))) | inr k ↦ elim k [ inl e ↦ to_new.1 (inl (to_second.1 (inl (to_first.1 (inr e))))) | inr j ↦ elim j [ inl r ↦ to_new.1 (inl (to_second.1 (inr r))) | inr w ↦ to_new.1 (inr w) ] ] ],
    )

-- one more node
pub next_node : (P : ℕ → Type 0) (old new src : Type 0) (i : ℕ) → new ↔ (old ⊎ P i) → old ↔ (src ⊎ ((n : ℕ) × (n < i) × P n)) → new ↔ (src ⊎ ((n : ℕ) × (n < i + 1) × P n))
next_node P old new src i step so_far = (
  λ h. elim (step.0 h) [ inl o ↦ elim (so_far.0 o) [ inl s ↦ inl s | inr b ↦ inr (b.0, omega (arith, b.1), b.2) ] | inr p ↦ inr (i, omega arith, p) ],
  λ h. elim h [ inl s ↦ step.1 (inl (so_far.1 (inl s))) | inr b ↦ elim (cases_lt b.0 i) [ inl lt ↦ step.1 (inl (so_far.1 (inr (b.0, lt, b.2)))) | inr ge ↦ step.1 (inr (subst P (same b.0 b.1 ge) b.2)) ] ],
)
  where
    same : (n : ℕ) → n < i + 1 → i ≤ n → n ≡ i
    same n lt ge = omega arith

-- all names of nodes and sources are those of the world
pub of_world : (X : Type 0) (g : Graph) (s : recorded.Setting) (i : ℕ) (f : FileName) → i ≡ length g.nodes → X ↔ (Has s.sources f ⊎ ((n : ℕ) × (n < i) × IsNameOf s (node g n) f)) → X ↔ IsOfWorld g (setting_of s) f
of_world X g s i f is h = (
  λ x. elim (h.0 x) [ inl src ↦ inr (inl src) | inr b ↦ elim b.2 [ inl e ↦ inl (b.0, (omega (arith, b.1, is), e)) | inr files ↦ inr (inr (b.0, files)) ] ],
  λ w. elim w [ inl n ↦ h.1 (inr (n.0, omega (arith, n.1.0, is), inl n.1.1)) | inr rest ↦ elim rest [ inl src ↦ h.1 (inl src) | inr t ↦ elim (cases_lt t.0 i) [ inl lt ↦ h.1 (inr (t.0, lt, inr t.1)) | inr ge ↦ absurd (none t.0 (omega (arith, ge, is)) t.1) ] ] ],
)
  where
    none : (t : ℕ) → length g.nodes ≤ t → Has (reads_of s (node g t)) f ⊎ Has (writes_of s (node g t)) f → ⊥
    none t ge k = elim (subst (λ (v : Node). Has (reads_of s v) f ⊎ Has (writes_of s v) f) (get_or-eq_default g.nodes no_node ge) k) [ inl a ↦ a | inr b ↦ b ]

pub on_ok : {A E P Q : Type 0} (r : Result A E) → (P → Q) → OnOk r P → OnOk r Q
on_ok (Ok x) f h = f h
on_ok (Err e) f h = tt

-- past the end nothing is left
pub nothing_left : {A : Type 0} (text : A → FileName) (names : List A) (i : ℕ) → length names ≤ i → map text (drop i names) ≡ []
nothing_left text names i le = ap (map text) (drop_of_length-le names le)
