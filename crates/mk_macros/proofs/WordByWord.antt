-- Words of a value, replaced one after the other.
use Rattle.std.proofs.Common.{◌≡◌, ℕ, ◌+◌, ◌<◌, ◌≤◌, Bool, true, false, not, ◌&&◌, cond, List, [], ◌∷◌, ◌++◌, map, length, take, drop, refl, sym, ap, ◌∙◌, subst, arith, append_assoc, append-nil, length-append}
use Rattle.std.specs.Prelude.{filter}
use Rattle.std.specs.List.{slice_split, join_with_byte, position_or_len}
use Rattle.std.proofs.lemmas.List.Elements.{filter-append, All-from_get_or}
use Rattle.std.proofs.lemmas.List.Splits.{slice_split_none, slice_split_first}
use Rattle.std.proofs.lemmas.List.Sums.{fails_before_first}
use Rattle.mk_lines.specs.Bytes.{is_blank}
use Rattle.mk_lines.specs.Words.{is_word, words}
use Rattle.mk_macros.specs.Substitution.{part_text, replaced, substituted}

-- a text without a blank
pub words_alone : (text : List ℕ) (at : ℕ) → at ≡ position_or_len is_blank text → at ≡ length text → words text ≡ filter is_word (text ∷ [])
words_alone text at e all =
    ap (filter is_word) (slice_split_none is_blank text (All-from_get_or (λ b. is_blank b ≡ false) text 0 (λ k lt. fails_before_first is_blank text k 0 (omega (arith, e, all)))))

-- a text with one
pub words_cut : (text : List ℕ) (at : ℕ) → at ≡ position_or_len is_blank text → at < length text → words text ≡ filter is_word (take at text ∷ []) ++ words (drop (at + 1) text)
words_cut text at e lt =
    let low : position_or_len is_blank text < length text = subst (λ n. n < length text) e lt in
    let n = position_or_len is_blank text in
    ap (filter is_word) (slice_split_first is_blank text 0 low)
    ∙ (filter-append is_word (take n text ∷ []) (slice_split is_blank (drop (n + 1) text))
    ∙ ap (λ k. filter is_word (take k text ∷ []) ++ words (drop (k + 1) text)) (sym e))

-- words that are left, after a space where there were others
abbrev pub later : Bool → List (List ℕ) → List ℕ
later true vs = join_with_byte 32 vs
later false [] = []
later false (v ∷ vs) = 32 ∷ join_with_byte 32 (v ∷ vs)

later_none : (first : Bool) → later first [] ≡ []
later_none true = refl
later_none false = refl

later_word : (first : Bool) (w : List ℕ) (vs : List (List ℕ)) → later first (w ∷ vs) ≡ cond first w (32 ∷ w) ++ later false vs
later_word true w [] = sym (append-nil w)
later_word true w (v ∷ vs) = refl
later_word false w [] = ap (λ t. 32 ∷ t) (sym (append-nil w))
later_word false w (v ∷ vs) = refl

part_more : (f : List ℕ → List ℕ) (is first : Bool) (part : List ℕ) (ws : List (List ℕ)) (into all : List ℕ) → all ≡ into ++ later first (map f (cond is (part ∷ []) [] ++ ws))
    → all ≡ (into ++ cond is (cond first (f part) (32 ∷ f part)) []) ++ later (first && not is) (map f ws)
part_more f true true part ws into all e = e ∙ (ap (λ t. into ++ t) (later_word true (f part) (map f ws)) ∙ sym (append_assoc into (f part) (later false (map f ws))))
part_more f true false part ws into all e = e ∙ (ap (λ t. into ++ t) (later_word false (f part) (map f ws)) ∙ sym (append_assoc into (32 ∷ f part) (later false (map f ws))))
part_more f false true part ws into all e = e ∙ ap (λ t. t ++ later true (map f ws)) (sym (append-nil into))
part_more f false false part ws into all e = e ∙ ap (λ t. t ++ later false (map f ws)) (sym (append-nil into))

-- all is what was appended, and what the rest gives behind it
abbrev pub Goes : (List ℕ → List ℕ) → (all into : List ℕ) → Bool → (rest : List (List ℕ)) → Type 0
Goes f all into first rest = all ≡ into ++ later first (map f rest)

-- a part more
pub goes_on : (f : List ℕ → List ℕ) (all into new : List ℕ) (first none : Bool) (part rest : List ℕ) (ws : List (List ℕ)) → Goes f all into first (words rest) → words rest ≡ filter is_word (part ∷ []) ++ ws
    → none ≡ (first && not (is_word part)) → new ≡ into ++ part_text first f part → Goes f all new none ws
goes_on f all into new first none part rest ws whole cut still grown =
    part_more f (is_word part) first part ws into all (whole ∙ ap (λ vs. into ++ later first (map f vs)) cut)
    ∙ (ap (λ t. t ++ later (first && not (is_word part)) (map f ws)) (sym grown) ∙ ap (λ b. new ++ later b (map f ws)) (sym still))

-- at the end
pub gone : (f : List ℕ → List ℕ) (all into : List ℕ) (first : Bool) → Goes f all into first [] → all ≡ into
gone f all into first whole = whole ∙ (ap (λ t. into ++ t) (later_none first) ∙ append-nil into)

-- before it no more was appended than all
pub not_longer : (f : List ℕ → List ℕ) (all into : List ℕ) (first : Bool) (ws : List (List ℕ)) → Goes f all into first ws → length into ≤ length all
not_longer f all into first ws whole =
    let sizes = ap length whole ∙ length-append into (later first (map f ws)) in
    omega arith

-- what is made of all words
pub made_of : (old old_cut new new_cut value : List ℕ) → old_cut ≡ old → new_cut ≡ new → join_with_byte 32 (map (replaced old_cut new_cut) (words value)) ≡ substituted old new value
unfolding substituted
made_of old old_cut new new_cut value e f = ap (λ (o : List ℕ). join_with_byte 32 (map (replaced o new_cut) (words value))) e ∙ ap (λ (n : List ℕ). join_with_byte 32 (map (replaced old n) (words value))) f
