-- Which names are given, and which are editable.
use Rattle.std.proofs.Common.{◌≡◌, ℕ, true, false, not, ◌||◌, List, [], ◌∷◌, ◌++◌, inl, inr, refl, sym, ap, ◌∙◌, true≢false}
use Rattle.std.specs.Prelude.{◌⊎◌}
use Rattle.std.proofs.lemmas.Bool.{false_from_ne_true, and_parts, not-true, or_cases, or_left, or_right}
use Rattle.mk_lines.proofs.Fronts.{front_tells, front_told}
use Rattle.mk_lines.proofs.NameTests.{Has-from_has_name, has_name-from_Has}
use Rattle.mk_lines.specs.Bytes.{begins_with}
use Rattle.mk_foot.specs.Names.{Has, has_name, begins_with_any}
use Rattle.mk_foot.specs.Setting.{Setting, is_given, is_editable}
use Rattle.mk_foot.specs.Laws.{Under, GivenExactly, EditableExactly, EditableIsGiven}

pub under_told : (fixed : List (List ℕ)) (name : List ℕ) → begins_with_any fixed name ≡ true → Under fixed name
under_told [] name e = absurd (true≢false (sym e))
under_told (prefix ∷ fixed) name e =
    elim (or_cases (begins_with prefix name) (begins_with_any fixed name) e) [
      | inl t ↦ (prefix, inl refl, front_told name prefix t)
      | inr h ↦ (let u = under_told fixed name h in (u.0, inr u.1, u.2))
    ]

pub under_tells : (fixed : List (List ℕ)) (name prefix rest : List ℕ) → Has fixed prefix → name ≡ prefix ++ rest → begins_with_any fixed name ≡ true
under_tells [] name prefix rest h e = absurd h
under_tells (other ∷ fixed) name prefix rest (inl same) e = or_left (begins_with other name) (begins_with_any fixed name) (front_tells name other rest (e ∙ ap (λ p. p ++ rest) (sym same)))
under_tells (other ∷ fixed) name prefix rest (inr h) e = or_right (begins_with other name) (begins_with_any fixed name) (under_tells fixed name prefix rest h e)

given_told : (s : Setting) (name : List ℕ) → is_given s name ≡ true → Has s.sources name ⊎ (Under s.fixed name ⊎ Has s.texts name)
given_told s name e =
    elim (or_cases (has_name s.sources name) (begins_with_any s.fixed name || has_name s.texts name) e) [
      | inl t ↦ inl (Has-from_has_name s.sources name t)
      | inr f ↦ (elim (or_cases (begins_with_any s.fixed name) (has_name s.texts name) f) [ inl u ↦ inr (inl (under_told s.fixed name u)) | inr t ↦ inr (inr (Has-from_has_name s.texts name t)) ])
    ]

given_tells : (s : Setting) (name : List ℕ) → Has s.sources name ⊎ (Under s.fixed name ⊎ Has s.texts name) → is_given s name ≡ true
given_tells s name (inl h) = or_left (has_name s.sources name) (begins_with_any s.fixed name || has_name s.texts name) (has_name-from_Has s.sources name h)
given_tells s name (inr (inl u)) = or_right (has_name s.sources name) (begins_with_any s.fixed name || has_name s.texts name) (or_left (begins_with_any s.fixed name) (has_name s.texts name) (under_tells s.fixed name u.0 u.2.0 u.1 u.2.1))
given_tells s name (inr (inr h)) = or_right (has_name s.sources name) (begins_with_any s.fixed name || has_name s.texts name) (or_right (begins_with_any s.fixed name) (has_name s.texts name) (has_name-from_Has s.texts name h))

pub given_exactly : GivenExactly
given_exactly s name = (given_told s name, given_tells s name)

editable_told : (s : Setting) (name : List ℕ) → is_editable s name ≡ true → Has s.sources name × (¬ Has s.texts name)
editable_told s name e =
    let both = and_parts (has_name s.sources name) (not (has_name s.texts name)) e in
    (Has-from_has_name s.sources name both.0, λ h. true≢false (sym (has_name-from_Has s.texts name h) ∙ not-true (has_name s.texts name) both.1))

editable_tells : (s : Setting) (name : List ℕ) → Has s.sources name × (¬ Has s.texts name) → is_editable s name ≡ true
editable_tells s name h =
    let text : has_name s.texts name ≡ false = false_from_ne_true _ (λ t. h.1 (Has-from_has_name s.texts name t)) in
    rw (has_name-from_Has s.sources name h.0, text) refl

pub editable_exactly : EditableExactly
editable_exactly s name = (editable_told s name, editable_tells s name)

pub editable_is_given : EditableIsGiven
editable_is_given s name e = or_left (has_name s.sources name) (begins_with_any s.fixed name || has_name s.texts name) (and_parts (has_name s.sources name) (not (has_name s.texts name)) e).0
