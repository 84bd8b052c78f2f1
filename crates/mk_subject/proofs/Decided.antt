-- What is tested of nodes decides what is found.
use Rattle.std.proofs.Common.{◌≡◌, ℕ, List, [], ◌∷◌, length, Bool, true, false, Option, None, Some, refl, sym, ap, subst, ◌∙◌, ⊎_elim}
use Rattle.std.specs.Prelude.{is_some, bytes_eq, ◌||◌}
use Rattle.std.specs.Option.{option_map}
use Rattle.std.proofs.lemmas.Bool.{cases_Bool, and_parts, not-false}
use Rattle.std.proofs.lemmas.Slice.Eq.{bytes_eq-Decides}
use Rattle.mk_lines.proofs.NameTests.{Has-from_has_name, has_name-from_Has}
use Rattle.mk_lines.specs.Names.{has_name}
use Rattle.mk_graph.specs.Membership.{Has}
use Rattle.mk_foot.specs.Book.{Record}
use Rattle.mk_subject.specs.NodeRow.{has_others, lines_eq, lines_with}

or_rest : (a b : Bool) → a ≡ false → (a || b) ≡ true → b ≡ true
or_rest a b e t = let f : (false || b) ≡ true = subst (λ (c : Bool). (c || b) ≡ true) e t in f

pub has_decides : (files : List (List ℕ)) (f : List ℕ) → (has_name files f ≡ true → Has files f) × (Has files f → has_name files f ≡ true)
has_decides files f = (Has-from_has_name files f, has_name-from_Has files f)

-- lists of lines are equal just where the test says so
pub lines_same : (xs ys : List (List ℕ)) → lines_eq xs ys ≡ true → xs ≡ ys
lines_same [] [] t = refl
lines_same [] (y ∷ ys) t = absurd (let e : false ≡ true = t in cc)
lines_same (x ∷ xs) [] t = absurd (let e : false ≡ true = t in cc)
lines_same (x ∷ xs) (y ∷ ys) t =
    let both = and_parts (bytes_eq x y) (lines_eq xs ys) t in
    let here : x ≡ y = (bytes_eq-Decides x y).0 both.0 in
    ap (λ (h : List ℕ). h ∷ xs) here ∙ ap (λ (l : List (List ℕ)). y ∷ l) (lines_same xs ys both.1)

-- where a record has no others, its lines are these
recorded_lines : (recorded : Option Record) (lines own : List (List ℕ)) → is_some recorded ≡ true → has_others recorded lines ≡ false → lines_with recorded false own ≡ lines
recorded_lines None lines own some same = absurd (let f : false ≡ true = some in cc)
recorded_lines (Some r) lines own some same = lines_same r.commands lines (not-false (lines_eq r.commands lines) same)

pub some_mapped : {A B : Type 0} (f : A → B) (o : Option A) → is_some o ≡ true → is_some (option_map f o) ≡ true
some_mapped f None e = absurd (let g : false ≡ true = e in cc)
some_mapped f (Some a) e = refl

pub lines_recorded : (recorded : Option Record) (others : Bool) (lines own : List (List ℕ)) → is_some recorded ≡ true → others ≡ false → others ≡ has_others recorded lines → lines_with recorded others own ≡ lines
lines_recorded recorded others lines own some none same =
    ap (λ (b : Bool). lines_with recorded b own) none ∙ recorded_lines recorded lines own some (sym same ∙ none)

-- lists of different lengths differ
pub lines_differ : (xs ys : List (List ℕ)) → ¬ (length xs ≡ length ys) → false ≡ lines_eq xs ys
lines_differ xs ys differ = ⊎_elim (λ t. absurd (differ (ap (λ (l : List (List ℕ)). length l) (lines_same xs ys t)))) (λ f. sym f) (cases_Bool (lines_eq xs ys))
