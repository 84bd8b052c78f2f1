-- One reference `$(..)`, whose parts hold no references.
use Rattle.std.proofs.Common.{◌≡◌, ℕ, suc, ◌≤◌, Bool, true, false, not, ◌&&◌, ◌||◌, cond, eqb, List, [], ◌∷◌, ◌++◌, length, drop, None, Some, Result, Ok, Err, refl, sym, ap, subst, ◌∙◌, inl, inr, arith, append_assoc}
use Rattle.std.proofs.Math.Seq.{take-append_seam}
use Rattle.std.proofs.lemmas.Bool.{cases_Bool, false≢true, eqb-true, and_parts, not-true}
use Rattle.std.specs.List.{list_all, list_any}
use Rattle.std.specs.Option.{option_map}
use Rattle.mk_lemmas.proofs.Bools.{eqb-sym}
use Rattle.mk_macros.proofs.Outside.{passes}
use Rattle.mk_lines.specs.Bytes.{is_byte}
use Rattle.mk_lines.specs.References.{next_place, first_from, first_outside}
use Rattle.mk_macros.specs.declared.fault.MacroFault.{MacroFault}
use Rattle.mk_macros.specs.declared.fault.MacroFault.TheVariants.{BadMacroName}
use Rattle.mk_macros.specs.declared.locals.Part.TheVariants.{Whole}
use Rattle.mk_macros.specs.Names.{is_name_byte, is_macro_name}
use Rattle.mk_macros.specs.Forms.{Form, Reference, IsPlain, ReferenceParts, is_internal, closed_at, dollar_form, split_at_colon, parts_round, parse_reference, forms}
use Rattle.mk_macros.specs.Locals.{internal_of}
use Rattle.mk_macros.specs.Table.{Macro, macro_named}
use Rattle.mk_macros.specs.Substitution.{substituted}
use Rattle.mk_macros.specs.Expansion.{Expanded, Scope, ExpandedSubstitution, expand_substitution, apply_substitution, given, in_order, reference, value_of, macro_value, expanded}
use Rattle.mk_macros.specs.Appending.{below}
use Rattle.mk_macros.specs.Laws.{round, is_inert}
use Rattle.mk_macros.specs.Steps.{◌>>=◌}
use Rattle.mk_macros.proofs.FormLists.{forms_dollar}
use Rattle.mk_macros.proofs.InOrder.{follow, in_order_cons, in_order_nil, follow_ok, expanded_is}
use Rattle.mk_macros.proofs.Splits.{ok_same, step_of, follow_of}
use Rattle.mk_macros.proofs.Plain.{plain_stays}

-- no wanted byte, and no `$`
abbrev pub IsClean : (ℕ → Bool) → List ℕ → Type 0
IsClean wanted [] = Unit {0}
IsClean wanted (b ∷ text) = (wanted b ≡ false) × (eqb b 36 ≡ false) × IsClean wanted text

clean_append : (wanted : ℕ → Bool) (xs ys : List ℕ) → IsClean wanted xs → IsClean wanted ys → IsClean wanted (xs ++ ys)
clean_append wanted [] ys h k = k
clean_append wanted (b ∷ xs) ys h k = (h.0, h.1, clean_append wanted xs ys h.2 k)

clean_all : (p wanted : ℕ → Bool) → ((b : ℕ) → p b ≡ true → wanted b ≡ false) → ((b : ℕ) → p b ≡ true → eqb b 36 ≡ false) → (xs : List ℕ) → list_all p xs ≡ true → IsClean wanted xs
clean_all p wanted f g [] h = tt
clean_all p wanted f g (b ∷ xs) h =
    let s = and_parts (p b) (list_all p xs) h in
    (f b s.0, g b s.0, clean_all p wanted f g xs s.1)

clean_plain : (wanted : ℕ → Bool) (xs : List ℕ) → IsClean wanted xs → IsPlain xs
clean_plain wanted [] h = refl
clean_plain wanted (b ∷ xs) h = ap (λ (c : Bool). c || list_any (is_byte 36) xs) h.1 ∙ clean_plain wanted xs h.2

found_now : (wanted : ℕ → Bool) (b : ℕ) (text : List ℕ) → wanted b ≡ true → first_outside wanted (b ∷ text) ≡ Some 0
unfolding first_from
found_now wanted b text e = ap (λ (c : Bool). cond c (Some 0) (option_map suc (first_from wanted (next_place (record { ends = []; dollar = false }) b) text))) e

nothing_left : (wanted : ℕ → Bool) → first_outside wanted [] ≡ None
unfolding first_from
nothing_left wanted = refl

-- behind clean bytes
clean_found : (wanted : ℕ → Bool) (xs text : List ℕ) (w : ℕ) → IsClean wanted xs → wanted w ≡ true → first_outside wanted (xs ++ w ∷ text) ≡ Some (length xs)
clean_found wanted [] text w h e = found_now wanted w text e
clean_found wanted (b ∷ xs) text w h e = passes wanted b (xs ++ w ∷ text) h.0 h.1 ∙ ap (option_map suc) (clean_found wanted xs text w h.2 e)

clean_none : (wanted : ℕ → Bool) (xs : List ℕ) → IsClean wanted xs → first_outside wanted xs ≡ None
clean_none wanted [] h = nothing_left wanted
clean_none wanted (b ∷ xs) h = passes wanted b xs h.0 h.1 ∙ ap (option_map suc) (clean_none wanted xs h.2)

behind_seam : (xs text : List ℕ) (w : ℕ) → drop (suc (length xs)) (xs ++ w ∷ text) ≡ text
behind_seam [] text w = refl
behind_seam (b ∷ xs) text w = behind_seam xs text w

-- the form of a reference
round_form : (inside : List ℕ) → IsClean (is_byte 41) inside → dollar_form (40 ∷ inside ++ 41 ∷ []) ≡ (Reference inside, [])
round_form inside h =
    ap (closed_at (inside ++ 41 ∷ [])) (clean_found (is_byte 41) inside [] 41 h refl)
    ∙ (ap (λ t. (Reference t, drop (suc (length inside)) (inside ++ 41 ∷ []))) (take-append_seam inside (41 ∷ []))
    ∙ ap (λ t. (Reference inside, t)) (behind_seam inside [] 41))

round_order : (levels : ℕ) (scope : Scope) (inside : List ℕ) → IsClean (is_byte 41) inside
    → expanded levels scope [] 0 (round inside) ≡ in_order (given scope (below levels scope) []) (record { text = []; references = 0; varying = false }) (Reference inside ∷ forms [])
round_order levels scope inside h =
    expanded_is levels scope [] 0 (round inside)
    ∙ ap (in_order (given scope (below levels scope) []) (record { text = []; references = 0; varying = false })) (forms_dollar (40 ∷ inside ++ 41 ∷ []) ∙ ap (λ (f : Form × List ℕ). f.0 ∷ forms f.1) (round_form inside h))

-- what one reference gives
pub round_gives : (levels : ℕ) (scope : Scope) (inside : List ℕ) (after : Expanded) → IsClean (is_byte 41) inside → length after.text ≤ 1048576
    → (parse_reference inside >>= reference scope (below levels scope) [] 0) ≡ Ok after → expanded levels scope [] 0 (round inside) ≡ Ok after
round_gives levels scope inside after h le e =
    round_order levels scope inside h
    ∙ (in_order_cons (given scope (below levels scope) []) (record { text = []; references = 0; varying = false }) (Reference inside) (forms [])
    ∙ (ap (follow (given scope (below levels scope) []) (record { text = []; references = 0; varying = false }) (forms [])) e
    ∙ (follow_ok (given scope (below levels scope) []) (record { text = []; references = 0; varying = false }) after (forms []) (omega arith)
    ∙ in_order_nil (given scope (below levels scope) []) after)))

-- and the other way round
pub round_given : (levels : ℕ) (scope : Scope) (inside : List ℕ) (found : Expanded) → IsClean (is_byte 41) inside
    → expanded levels scope [] 0 (round inside) ≡ Ok found → (parse_reference inside >>= reference scope (below levels scope) [] 0) ≡ Ok found
round_given levels scope inside found h e =
    let a = follow_of (given scope (below levels scope) []) (record { text = []; references = 0; varying = false }) found (Reference inside) (forms []) (sym (round_order levels scope inside h) ∙ e) in
    let s : a.0 ≡ found = ok_same (sym (in_order_nil (given scope (below levels scope) []) a.0) ∙ a.3) in
    a.1 ∙ ap (λ (v : Expanded). Ok v) s

-- bytes of names
other_byte : (k : ℕ) → is_name_byte k ≡ false → (b : ℕ) → is_name_byte b ≡ true → eqb b k ≡ false
other_byte k n b h =
    elim (cases_Bool (eqb b k)) [
      | inl t ↦ absurd (false≢true (sym n ∙ subst (λ x. is_name_byte x ≡ true) (eqb-true b k t) h))
      | inr f ↦ f
    ]

other_turned : (k : ℕ) → is_name_byte k ≡ false → (b : ℕ) → is_name_byte b ≡ true → eqb k b ≡ false
other_turned k n b h =
    elim (cases_Bool (eqb k b)) [
      | inl t ↦ absurd (false≢true (sym n ∙ subst (λ x. is_name_byte x ≡ true) (sym (eqb-true k b t)) h))
      | inr f ↦ f
    ]

not_internal : (b : ℕ) → is_name_byte b ≡ true → is_internal b ≡ false
not_internal b h = rw (other_turned 64 refl b h, other_turned 42 refl b h, other_turned 60 refl b h, other_turned 94 refl b h, other_turned 43 refl b h, other_turned 63 refl b h, other_turned 37 refl b h) refl

name_bytes : (name : List ℕ) → is_macro_name name ≡ true → list_all is_name_byte name ≡ true
name_bytes name h = (and_parts (not (eqb (length name) 0)) (list_all is_name_byte name) h).1

not_of_internal : (name : List ℕ) → is_macro_name name ≡ true → internal_of name ≡ None
not_of_internal [] h = refl
not_of_internal (b ∷ []) h =
    let s = and_parts (is_name_byte b) true (name_bytes (b ∷ []) h) in
    ap (λ (c : Bool). cond c (Some (b, Whole)) None) (not_internal b s.0)
not_of_internal (b ∷ c ∷ []) h =
    let s = and_parts (is_name_byte b) (list_all is_name_byte (c ∷ [])) (name_bytes (b ∷ c ∷ []) h) in
    rw (not_internal b s.0) refl
not_of_internal (b ∷ c ∷ d ∷ name) h = refl

clean_name : (k : ℕ) → is_name_byte k ≡ false → (name : List ℕ) → is_macro_name name ≡ true → IsClean (is_byte k) name
clean_name k n name h = clean_all is_name_byte (is_byte k) (other_byte k n) (other_byte 36 refl) name (name_bytes name h)

plain_name : (name : List ℕ) → is_macro_name name ≡ true → IsPlain name
plain_name name h = clean_plain (is_byte 36) name (clean_name 36 refl name h)

module _ (levels : ℕ) (scope : Scope) where
  -- `$(N)` is the value of N
  named_value : (name : List ℕ) → is_macro_name name ≡ true → length name ≤ 1048576
      → (parse_reference name >>= reference scope (expanded levels scope) [] 0) ≡ (value_of scope (expanded levels scope) [] 0 name (internal_of name) >>= (λ value. Ok value))
  unfolding parse_reference reference
  named_value name n le =
      ap (λ o. split_at_colon name o >>= reference scope (expanded levels scope) [] 0) (clean_none (is_byte 58) name (clean_name 58 refl name n))
      ∙ ap (λ (r : Result Expanded MacroFault). r >>= (λ found. value_of scope (expanded levels scope) [] found.references found.text (internal_of found.text)
      >>= (λ value. Ok (record { text = value.text; references = value.references; varying = found.varying || (false || value.varying) })))) (plain_stays levels scope [] 0 name (plain_name name n) le)

  -- the value of an immediate macro
  immediate_value : (name : List ℕ) (macro : Macro) → is_macro_name name ≡ true → macro_named scope.table name ≡ Some macro → macro.immediate ≡ true
      → value_of scope (expanded levels scope) [] 0 name (internal_of name) ≡ Ok (record { text = macro.text; references = 1; varying = false })
  immediate_value name macro n e i =
      ap (value_of scope (expanded levels scope) [] 0 name) (not_of_internal name n)
      ∙ (ap (λ (c : Bool). cond (not c) (Err BadMacroName) (macro_value (expanded levels scope) [] 1 name (macro_named scope.table name))) n
      ∙ (ap (macro_value (expanded levels scope) [] 1 name) e
      ∙ ap (λ (c : Bool). cond c (Ok (record { text = macro.text; references = 1; varying = false })) (expanded levels scope (name ∷ []) 1 macro.text)) i))

  pub immediate_stays : (name : List ℕ) (macro : Macro) → is_macro_name name ≡ true → macro_named scope.table name ≡ Some macro → macro.immediate ≡ true → length name ≤ 1048576 → length macro.text ≤ 1048576
      → expanded (suc levels) scope [] 0 (round name) ≡ Ok (record { text = macro.text; references = 1; varying = false })
  immediate_stays name macro n e i le low =
      round_gives (suc levels) scope name (record { text = macro.text; references = 1; varying = false }) (clean_name 41 refl name n) low
      (named_value name n le ∙ ap (λ (r : Result Expanded MacroFault). r >>= (λ value. Ok value)) (immediate_value name macro n e i))

turned : (k b : ℕ) → not (eqb k b) ≡ true → eqb b k ≡ false
turned k b e = eqb-sym b k ∙ not-true (eqb k b) e

inert_36 : (b : ℕ) → is_inert b ≡ true → eqb b 36 ≡ false
inert_36 b h = turned 36 b (and_parts (not (eqb 36 b)) (not (eqb 41 b) && (not (eqb 58 b) && (not (eqb 61 b) && true))) h).0

inert_41 : (b : ℕ) → is_inert b ≡ true → eqb b 41 ≡ false
inert_41 b h = turned 41 b (and_parts (not (eqb 41 b)) (not (eqb 58 b) && (not (eqb 61 b) && true)) (and_parts (not (eqb 36 b)) (not (eqb 41 b) && (not (eqb 58 b) && (not (eqb 61 b) && true))) h).1).0

inert_61 : (b : ℕ) → is_inert b ≡ true → eqb b 61 ≡ false
inert_61 b h =
    let s = and_parts (not (eqb 36 b)) (not (eqb 41 b) && (not (eqb 58 b) && (not (eqb 61 b) && true))) h in
    let t = and_parts (not (eqb 41 b)) (not (eqb 58 b) && (not (eqb 61 b) && true)) s.1 in
    let u = and_parts (not (eqb 58 b)) (not (eqb 61 b) && true) t.1 in
    turned 61 b (and_parts (not (eqb 61 b)) true u.1).0

clean_inert : (k : ℕ) → ((b : ℕ) → is_inert b ≡ true → eqb b k ≡ false) → (text : List ℕ) → list_all is_inert text ≡ true → IsClean (is_byte k) text
clean_inert k f text h = clean_all is_inert (is_byte k) f inert_36 text h

plain_inert : (text : List ℕ) → list_all is_inert text ≡ true → IsPlain text
plain_inert text h = clean_plain (is_byte 41) text (clean_inert 41 inert_41 text h)

abbrev found_parts : List ℕ → List ℕ → List ℕ → Result ReferenceParts MacroFault
found_parts name old new = Ok (record { name = name; ends = Some (old, new) })

abbrev ends_made : Expanded → Expanded → ExpandedSubstitution
ends_made one two = record { texts = Some (one.text, two.text); references = two.references; varying = one.varying || two.varying }

abbrev given_made : Expanded → ExpandedSubstitution → Expanded → Expanded
given_made name ends value = record { text = apply_substitution ends.texts value.text; references = value.references; varying = name.varying || (ends.varying || value.varying) }

abbrev alone : List ℕ → Expanded
alone text = record { text = text; references = 0; varying = false }

abbrev replaced_in : List ℕ → List ℕ → Expanded → Expanded
replaced_in old new value = record value { text = substituted old new value.text }

-- what stands inside such a reference
abbrev inside_of : List ℕ → List ℕ → List ℕ → List ℕ
inside_of name old new = name ++ (58 ∷ (old ++ (61 ∷ new)))

inside_parts : (name old new : List ℕ) → is_macro_name name ≡ true → list_all is_inert old ≡ true → parse_reference (inside_of name old new) ≡ Ok (record { name = name; ends = Some (old, new) })
unfolding parse_reference
inside_parts name old new n o =
    ap (split_at_colon (inside_of name old new)) (clean_found (is_byte 58) name (old ++ 61 ∷ new) 58 (clean_name 58 refl name n) refl)
    ∙ (ap (λ t. parts_round t (drop (suc (length name)) (inside_of name old new)) (first_outside (is_byte 61) (drop (suc (length name)) (inside_of name old new)))) (take-append_seam name (58 ∷ old ++ 61 ∷ new))
    ∙ (ap (λ t. parts_round name t (first_outside (is_byte 61) t)) (behind_seam name (old ++ 61 ∷ new) 58)
    ∙ (ap (parts_round name (old ++ 61 ∷ new)) (clean_found (is_byte 61) old new 61 (clean_inert 61 inert_61 old o) refl)
    ∙ (ap (λ (t : List ℕ). found_parts name t (drop (suc (length old)) (old ++ 61 ∷ new))) (take-append_seam old (61 ∷ new))
    ∙ ap (λ (t : List ℕ). found_parts name old t) (behind_seam old new 61)))))

module _ (levels : ℕ) (scope : Scope) where
  pub replaced_value : (name old new : List ℕ) (value : Expanded) → is_macro_name name ≡ true → list_all is_inert old ≡ true → list_all is_inert new ≡ true
      → length name ≤ 1048576 → length old ≤ 1048576 → length new ≤ 1048576
      → value_of scope (expanded levels scope) [] 0 name (internal_of name) ≡ Ok value
      → reference scope (expanded levels scope) [] 0 (record { name = name; ends = Some (old, new) }) ≡ Ok (record value { text = substituted old new value.text })
  unfolding reference
  replaced_value name old new value n o w ln lo lw e =
      ap (λ (r : Result Expanded MacroFault). r >>= (λ found. expand_substitution (expanded levels scope) [] found.references (Some (old, new)) >>= (λ ends. value_of scope (expanded levels scope) [] ends.references found.text (internal_of found.text)
      >>= (λ value. Ok (given_made found ends value))))) (plain_stays levels scope [] 0 name (plain_name name n) ln)
      ∙ (ap (λ (r : Result Expanded MacroFault). (r >>= (λ one. expanded levels scope [] one.references new >>= (λ two. Ok (ends_made one two))))
      >>= (λ ends. value_of scope (expanded levels scope) [] ends.references name (internal_of name) >>= (λ value. Ok (given_made (alone name) ends value)))) (plain_stays levels scope [] 0 old (plain_inert old o) lo)
      ∙ (ap (λ (r : Result Expanded MacroFault). (r >>= (λ two. Ok (ends_made (alone old) two)))
      >>= (λ ends. value_of scope (expanded levels scope) [] ends.references name (internal_of name) >>= (λ value. Ok (given_made (alone name) ends value)))) (plain_stays levels scope [] 0 new (plain_inert new w) lw)
      ∙ ap (λ (r : Result Expanded MacroFault). r >>= (λ value. Ok (replaced_in old new value))) e))

  pub replaced_round : (name old new : List ℕ) (value : Expanded) → is_macro_name name ≡ true → list_all is_inert old ≡ true → list_all is_inert new ≡ true
      → length name ≤ 1048576 → length old ≤ 1048576 → length new ≤ 1048576
      → expanded (suc levels) scope [] 0 (round name) ≡ Ok value → length (substituted old new value.text) ≤ 1048576
      → expanded (suc levels) scope [] 0 (round (name ++ 58 ∷ old ++ 61 ∷ new)) ≡ Ok (record value { text = substituted old new value.text })
  replaced_round name old new value n o w ln lo lw e low =
      let found = round_given (suc levels) scope name value (clean_name 41 refl name n) e in
      let b = step_of (value_of scope (expanded levels scope) [] 0 name (internal_of name)) (λ value. Ok value) value (sym (named_value levels scope name n ln) ∙ found) in
      let is : value_of scope (expanded levels scope) [] 0 name (internal_of name) ≡ Ok value = b.1 ∙ b.2 in
      let clean : IsClean (is_byte 41) (inside_of name old new) = clean_append (is_byte 41) name (58 ∷ (old ++ (61 ∷ new))) (clean_name 41 refl name n)
      (refl, refl, clean_append (is_byte 41) old (61 ∷ new) (clean_inert 41 inert_41 old o) (refl, refl, clean_inert 41 inert_41 new w)) in
      ap (λ t. expanded (suc levels) scope [] 0 (round t)) (append_assoc name (58 ∷ old) (61 ∷ new))
      ∙ round_gives (suc levels) scope (inside_of name old new) (replaced_in old new value) clean low
      (ap (λ (r : Result ReferenceParts MacroFault). r >>= reference scope (expanded levels scope) [] 0) (inside_parts name old new n o) ∙ replaced_value name old new value n o w ln lo lw is)
