-- Texts without `$`, in which all stands outside references.
use Rattle.std.proofs.Common.{◌≡◌, ℕ, zero, suc, ◌<◌, Bool, true, false, ◌||◌, eqb, List, [], ◌∷◌, length, get_or, Option, None, Some, refl, sym, ap, ◌∙◌, arith, zero-le}
use Rattle.std.specs.List.{list_any}
use Rattle.std.specs.Option.{option_map}
use Rattle.std.proofs.lemmas.Bool.{false_from_ne_true}
use Rattle.mk_lemmas.proofs.Bools.{eqb-sym, or-false_left, or-false_right}
use Rattle.bstr.specs.Bytes.{is_in}
use Rattle.bstr.specs.Find.{IsFirstByte}
use Rattle.mk_lines.specs.Bytes.{is_byte}
use Rattle.mk_lines.specs.References.{ReferenceState, next_place, first_from, first_outside, is_one_of}
use Rattle.mk_lines.proofs.Found.{found_first, passes_first, found_nil, found_same}

abbrev outside : ReferenceState
outside = record { ends = []; dollar = false }

stays_outside : (b : ℕ) → eqb b 36 ≡ false → next_place outside b ≡ outside
stays_outside b e = rw e refl

-- the search goes on outside
passes : (wanted : ℕ → Bool) (b : ℕ) (text : List ℕ) → eqb b 36 ≡ false → wanted b ≡ false → first_from wanted outside (b ∷ text) ≡ option_map suc (first_from wanted outside text)
passes wanted b text e w = passes_first wanted outside b text w ∙ ap (λ place. option_map suc (first_from wanted place text)) (stays_outside b e)

-- no byte is wanted
none_wanted : (wanted : ℕ → Bool) (text : List ℕ) → list_any (is_byte 36) text ≡ false → ((k : ℕ) → k < length text → wanted (get_or text k 0) ≡ false) → first_from wanted outside text ≡ None
none_wanted wanted [] d h = found_nil wanted outside
none_wanted wanted (b ∷ text) d h =
    passes wanted b text (or-false_left (eqb b 36) (list_any (is_byte 36) text) d) (h 0 (omega arith))
    ∙ ap (option_map suc) (none_wanted wanted text (or-false_right (eqb b 36) (list_any (is_byte 36) text) d) (λ k lt. h (suc k) (omega arith)))

-- the first one that is wanted
first_wanted : (wanted : ℕ → Bool) (text : List ℕ) (i : ℕ) → list_any (is_byte 36) text ≡ false → i < length text → ((k : ℕ) → k < i → wanted (get_or text k 0) ≡ false) → wanted (get_or text i 0) ≡ true → first_from wanted outside text ≡ Some i
first_wanted wanted [] i d lt h e = absurd (omega arith)
first_wanted wanted (b ∷ text) zero d lt h e = found_first wanted outside b text e
first_wanted wanted (b ∷ text) (suc i) d lt h e =
    passes wanted b text (or-false_left (eqb b 36) (list_any (is_byte 36) text) d) (h 0 (omega arith))
    ∙ ap (option_map suc) (first_wanted wanted text i (or-false_right (eqb b 36) (list_any (is_byte 36) text) d) (omega arith) (λ k lt. h (suc k) (omega arith)) e)

-- a search that knows no references finds the same
found_plainly : (wanted : ℕ → Bool) (text : List ℕ) (o : Option ℕ) → list_any (is_byte 36) text ≡ false → IsFirstByte wanted text o → o ≡ first_outside wanted text
found_plainly wanted text None d h = sym (none_wanted wanted text d (λ k lt. false_from_ne_true _ (h k zero-le lt)))
found_plainly wanted text (Some i) d h = sym (first_wanted wanted text i d (omega (arith, h.0.high)) (λ k lt. false_from_ne_true _ (h.0.before k zero-le lt)) h.1)

same_set : (bytes : List ℕ) (b : ℕ) → is_in bytes b ≡ is_one_of bytes b
unfolding is_in
same_set [] b = refl
same_set (other ∷ bytes) b = ap (λ t. t || is_in bytes b) (eqb-sym b other) ∙ ap (λ t. eqb other b || t) (same_set bytes b)

pub found_without_references : (bytes text : List ℕ) (o : Option ℕ) → list_any (is_byte 36) text ≡ false → IsFirstByte (is_in bytes) text o → o ≡ first_outside (is_one_of bytes) text
found_without_references bytes text o d h =
    found_plainly (is_in bytes) text o d h ∙ found_same (is_in bytes) (is_one_of bytes) (same_set bytes) outside text
