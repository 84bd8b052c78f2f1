-- Words, in their order.
use Rattle.std.proofs.Common.{◌≡◌, ℕ, suc, ◌+◌, ◌-◌, ◌≤◌, Bool, true, false, not, cond, eqb, ltb, List, [], ◌∷◌, ◌++◌, length, take, drop, map, filter, refl, sym, ap, ◌∙◌, arith, append_assoc, append-nil}
use Rattle.std.specs.List.{slice_split, onto_first}
use Rattle.std.proofs.lemmas.Bool.{lt-ltb, le-ltb, ltb-true, ne_eqb}
use Rattle.std.proofs.lemmas.List.{drop_at, take_all, take-append-le, length-append}
use Rattle.mk_lines.specs.declared.spans.Span.{Span}
use Rattle.mk_lines.specs.Bytes.{is_blank}
use Rattle.mk_lines.specs.Words.{is_word, has_bytes, spans_from, word_spans, bytes_at}
use Rattle.mk_lines.specs.Laws.{AreOrderedSpans, WordsComeInOrder}

-- spans in order after a position are in order after an earlier one
rise_before : (early late : ℕ) (spans : List Span) → early ≤ late → AreOrderedSpans late spans → AreOrderedSpans early spans
unfolding AreOrderedSpans
rise_before early late [] le h = tt
rise_before early late (span ∷ spans) le h = (omega (arith, h.0), h.1, h.2)

rise_case : (t : Bool) (at n : ℕ) (rest : List Span) → ltb at (at + n) ≡ t → AreOrderedSpans (suc (at + n)) rest → AreOrderedSpans at (cond t (record { start = at; end = at + n } ∷ rest) rest)
unfolding AreOrderedSpans
rise_case true at n rest e h = (omega arith, ltb-true at (at + n) e, h)
rise_case false at n rest e h = rise_before at (suc (at + n)) rest (omega arith) h

rise_from : (at : ℕ) (parts : List (List ℕ)) → AreOrderedSpans at (filter has_bytes (spans_from at parts))
unfolding AreOrderedSpans spans_from
rise_from at [] = tt
rise_from at (part ∷ parts) = rise_case (ltb at (at + length part)) at (length part) (filter has_bytes (spans_from (suc (at + length part)) parts)) refl (rise_from (suc (at + length part)) parts)

-- a text cut into parts, one byte between each two
abbrev Cut : List ℕ → List (List ℕ) → Type 0
Cut text [] = ⊥
Cut text (part ∷ []) = text ≡ part
Cut text (part ∷ next ∷ parts) = (b : ℕ) × (after : List ℕ) × (text ≡ part ++ b ∷ after) × Cut after (next ∷ parts)

cut_onto : (x : ℕ) (text : List ℕ) (parts : List (List ℕ)) → Cut text parts → Cut (x ∷ text) (onto_first x parts)
cut_onto x text [] h = absurd h
cut_onto x text (part ∷ []) h = ap (λ xs. x ∷ xs) h
cut_onto x text (part ∷ next ∷ parts) h = (h.0, h.1, ap (λ xs. x ∷ xs) h.2, h.3)

cut_new : (x : ℕ) (text : List ℕ) (parts : List (List ℕ)) → Cut text parts → Cut (x ∷ text) ([] ∷ parts)
cut_new x text [] h = absurd h
cut_new x text (part ∷ parts) h = (x, text, refl, h)

cut_case : (t : Bool) (x : ℕ) (text : List ℕ) (parts : List (List ℕ)) → Cut text parts → Cut (x ∷ text) (cond t ([] ∷ parts) (onto_first x parts))
cut_case true x text parts h = cut_new x text parts h
cut_case false x text parts h = cut_onto x text parts h

cut_split : (p : ℕ → Bool) (text : List ℕ) → Cut text (slice_split p text)
cut_split p [] = refl
cut_split p (x ∷ text) = cut_case (p x) x text (slice_split p text) (cut_split p text)

-- a span has bytes where its part is a word
same_test : (at : ℕ) (part : List ℕ) → ltb at (at + length part) ≡ not (eqb (length part) 0)
same_test at [] = le-ltb at (at + 0) (omega arith)
same_test at (b ∷ part) = lt-ltb at (at + length (b ∷ part)) (omega arith) ∙ sym (ap not (ne_eqb (length (b ∷ part)) 0 (λ e. absurd (omega arith))))

-- the bytes of a part's span
bytes_of : (front part rest : List ℕ) → take (length front + length part - length front) (drop (length front) (front ++ (part ++ rest))) ≡ part
bytes_of front part rest =
    ap (take (length front + length part - length front)) (drop_at front (part ++ rest) (length front) refl)
    ∙ (ap (λ n. take n (part ++ rest)) (let e : length front + length part - length front ≡ length part = omega arith in e)
    ∙ (take-append-le (length part) part rest (omega arith) ∙ take_all (length part) part (omega arith)))

words_case : (t : Bool) (text part : List ℕ) (span : Span) (spans : List Span) (parts : List (List ℕ)) → bytes_at text span ≡ part → map (bytes_at text) spans ≡ parts → map (bytes_at text) (cond t (span ∷ spans) spans) ≡ cond t (part ∷ parts) parts
words_case true text part span spans parts e h = ap (λ x. x ∷ map (bytes_at text) spans) e ∙ ap (λ xs. part ∷ xs) h
words_case false text part span spans parts e h = h

bytes_here : (text front part rest : List ℕ) (at : ℕ) → text ≡ front ++ (part ++ rest) → at ≡ length front → take (at + length part - at) (drop at text) ≡ part
bytes_here text front part rest at e q =
    ap (λ x. take (at + length part - at) (drop at x)) e ∙ (ap (λ n. take (n + length part - n) (drop n (front ++ (part ++ rest)))) q ∙ bytes_of front part rest)

spans_are_words : (text front rest : List ℕ) (at : ℕ) (parts : List (List ℕ)) → text ≡ front ++ rest → at ≡ length front → Cut rest parts → map (bytes_at text) (filter has_bytes (spans_from at parts)) ≡ filter is_word parts
unfolding spans_from
spans_are_words text front rest at [] e q h = absurd h
spans_are_words text front rest at (part ∷ []) e q h =
    words_case (ltb at (at + length part)) text part (record { start = at; end = at + length part }) [] [] (bytes_here text front part [] at (e ∙ ap (λ x. front ++ x) (h ∙ sym (append-nil part))) q) refl
    ∙ ap (λ t. cond t (part ∷ []) []) (same_test at part)
spans_are_words text front rest at (part ∷ next ∷ parts) e q h =
    let whole : text ≡ front ++ (part ++ h.0 ∷ h.1) = e ∙ ap (λ x. front ++ x) h.2 in
    let behind : text ≡ (front ++ (part ++ h.0 ∷ [])) ++ h.1 = whole ∙ sym (append_assoc front (part ++ h.0 ∷ []) h.1 ∙ ap (λ x. front ++ x) (append_assoc part (h.0 ∷ []) h.1)) in
    let size : suc (at + length part) ≡ length (front ++ (part ++ h.0 ∷ [])) = omega (arith, length-append front (part ++ h.0 ∷ []), length-append part (h.0 ∷ []), q) in
    words_case (ltb at (at + length part)) text part (record { start = at; end = at + length part }) (filter has_bytes (spans_from (suc (at + length part)) (next ∷ parts))) (filter is_word (next ∷ parts)) (bytes_here text front part (h.0 ∷ h.1) at whole q)
    (spans_are_words text (front ++ (part ++ h.0 ∷ [])) h.1 (suc (at + length part)) (next ∷ parts) behind size h.3)
    ∙ ap (λ t. cond t (part ∷ filter is_word (next ∷ parts)) (filter is_word (next ∷ parts))) (same_test at part)

pub words_come_in_order : WordsComeInOrder
unfolding word_spans
words_come_in_order text = (rise_from 0 (slice_split is_blank text), spans_are_words text [] text 0 (slice_split is_blank text) refl refl (cut_split is_blank text))
