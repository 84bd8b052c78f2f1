-- Where the search outside references finds its byte, step by step.
use Rattle.std.proofs.Common.{◌≡◌, ℕ, suc, ◌+◌, ◌<◌, ◌≤◌, Bool, true, false, ◌&&◌, cond, eqb, List, [], ◌∷◌, length, get_or, drop, Option, None, Some, refl, ap, ◌∙◌, arith}
use Rattle.std.specs.Option.{option_map}
use Rattle.std.proofs.Math.Seq.{drop-cons}
use Rattle.std.proofs.lemmas.List.{drop_all}
use Rattle.mk_lines.specs.References.{ReferenceState, next_place, first_from}

-- a position counted from n bytes further on
abbrev pub moved : ℕ → Option ℕ → Option ℕ
moved n o = option_map (λ k. n + k) o

pub moved_zero : (o : Option ℕ) → moved 0 o ≡ o
moved_zero None = refl
moved_zero (Some k) = ap (λ (n : ℕ). Some n) (omega arith)

pub moved_suc : (n : ℕ) (o : Option ℕ) → moved n (option_map suc o) ≡ moved (n + 1) o
moved_suc n None = refl
moved_suc n (Some k) = ap (λ (n : ℕ). Some n) (omega arith)

-- the search finds the first byte of what is left
pub found_first : (wanted : ℕ → Bool) (place : ReferenceState) (b : ℕ) (text : List ℕ) → ((eqb (length place.ends) 0) && wanted b) ≡ true → first_from wanted place (b ∷ text) ≡ Some 0
unfolding first_from
found_first wanted place b text e = rw e refl

pub found_here : (wanted : ℕ → Bool) (place : ReferenceState) (text : List ℕ) (at : ℕ) → at < length text → ((eqb (length place.ends) 0) && wanted (get_or text at 0)) ≡ true → moved at (first_from wanted place (drop at text)) ≡ Some at
found_here wanted place text at lt e =
    ap (λ rest. moved at (first_from wanted place rest)) (drop-cons text at 0 lt) ∙ (ap (moved at) (found_first wanted place (get_or text at 0) (drop (suc at) text) e) ∙ ap (λ (n : ℕ). Some n) (omega arith))

-- it skips the first byte of the rest
pub passes_first : (wanted : ℕ → Bool) (place : ReferenceState) (b : ℕ) (text : List ℕ) → ((eqb (length place.ends) 0) && wanted b) ≡ false → first_from wanted place (b ∷ text) ≡ option_map suc (first_from wanted (next_place place b) text)
unfolding first_from
passes_first wanted place b text e = rw e refl

pub found_more : (wanted : ℕ → Bool) (place : ReferenceState) (text : List ℕ) (at : ℕ) → at < length text
    → ((eqb (length place.ends) 0) && wanted (get_or text at 0)) ≡ false
    → moved at (first_from wanted place (drop at text)) ≡ moved (at + 1)
    (first_from wanted (next_place place (get_or text at 0)) (drop (at + 1) text))
found_more wanted place text at lt e =
    ap (λ rest. moved at (first_from wanted place rest)) (drop-cons text at 0 lt)
    ∙ (ap (moved at) (passes_first wanted place (get_or text at 0) (drop (suc at) text) e)
    ∙ (moved_suc at (first_from wanted (next_place place (get_or text at 0)) (drop (suc at) text))
    ∙ ap (λ n. moved (at + 1) (first_from wanted (next_place place (get_or text at 0)) (drop n text)))
    (let e : suc at ≡ at + 1 = omega arith in e)))

-- the end of the text
pub found_nil : (wanted : ℕ → Bool) (place : ReferenceState) → first_from wanted place [] ≡ None
unfolding first_from
found_nil wanted place = refl

pub found_end : (wanted : ℕ → Bool) (place : ReferenceState) (text : List ℕ) (at : ℕ) → length text ≤ at → moved at (first_from wanted place (drop at text)) ≡ None
found_end wanted place text at le = ap (λ rest. moved at (first_from wanted place rest)) (drop_all at text le) ∙ ap (moved at) (found_nil wanted place)

-- equal tests find the same
pub found_same : (p q : ℕ → Bool) → ((b : ℕ) → p b ≡ q b) → (place : ReferenceState) (text : List ℕ) → first_from p place text ≡ first_from q place text
unfolding first_from
found_same p q h place [] = refl
found_same p q h place (b ∷ text) =
    ap (λ t. cond (eqb (length place.ends) 0 && t) (Some 0) (option_map suc (first_from p (next_place place b) text))) (h b)
    ∙ ap (λ o. cond (eqb (length place.ends) 0 && q b) (Some 0) (option_map suc o)) (found_same p q h (next_place place b) text)
