-- Words are the maximal parts without blanks.
use Rattle.std.proofs.Common.{◌≡◌, ℕ, zero, suc, ◌+◌, ◌-◌, ◌<◌, ◌≤◌, Bool, true, false, ◌||◌, cond, ltb, List, [], ◌∷◌, length, get_or, take, drop, filter, ◌⊎◌, inl, inr, refl, sym, ap, ◌∙◌, subst, arith}
use Rattle.std.specs.List.{slice_split, onto_first, list_any, Contains}
use Rattle.std.proofs.lemmas.Bool.{ltb-true, ltb-false, lt-ltb}
use Rattle.std.proofs.lemmas.List.{get_or-take, get_or-drop, length-take, length-drop}
use Rattle.mk_lemmas.proofs.Bools.{or-false_left, or-false_right}
use Rattle.mk_lines.proofs.WordSpans.{span_at}
use Rattle.mk_lines.specs.declared.spans.Span.{Span}
use Rattle.mk_lines.specs.Bytes.{is_blank}
use Rattle.mk_lines.specs.Words.{has_bytes, spans_from, word_spans, IsWordAt}
use Rattle.mk_lines.specs.Laws.{WordsAreLongestParts}

clash : (b : Bool) → b ≡ true → b ≡ false → ⊥
clash b t f = cc

le_case : (t : Bool) (m n : ℕ) → ltb n m ≡ t → (n < m → ⊥) → m ≤ n
le_case true m n e h = absurd (h (ltb-true n m e))
le_case false m n e h = ltb-false n m e

le_from : (m n : ℕ) → (n < m → ⊥) → m ≤ n
le_from m n h = le_case (ltb n m) m n refl h

-- no blank from one index up to another
abbrev Clean : List ℕ → ℕ → ℕ → Type 0
Clean text low high = (j : ℕ) → low ≤ j → j < high → is_blank (get_or text j 0) ≡ false

none_at : (p : ℕ → Bool) (xs : List ℕ) (k : ℕ) → list_any p xs ≡ false → k < length xs → p (get_or xs k 0) ≡ false
none_at p [] k e lt = absurd (omega arith)
none_at p (x ∷ xs) zero e lt = or-false_left (p x) (list_any p xs) e
none_at p (x ∷ xs) (suc k) e lt = none_at p xs k (or-false_right (p x) (list_any p xs) e) (omega arith)

none_from : (p : ℕ → Bool) (xs : List ℕ) → ((k : ℕ) → k < length xs → p (get_or xs k 0) ≡ false) → list_any p xs ≡ false
none_from p [] h = refl
none_from p (x ∷ xs) h = ap (λ b. b || list_any p xs) (h 0 (omega arith)) ∙ none_from p xs (λ k lt. h (suc k) (omega arith))

byte_of : (text : List ℕ) (low n k : ℕ) → k < n → get_or (take n (drop low text)) k 0 ≡ get_or text (low + k) 0
byte_of text low n k lt = get_or-take n (drop low text) k 0 lt ∙ get_or-drop low text k 0

bytes_clean : (text : List ℕ) (low high : ℕ) → high ≤ length text → list_any is_blank (take (high - low) (drop low text)) ≡ false → Clean text low high
bytes_clean text low high le e = λ j a b.
    let k : ℕ = j - low in
    let lt : j - low < high - low = omega arith in
    let size : j - low < length (take (high - low) (drop low text)) = omega (arith, length-take (high - low) (drop low text), length-drop low text) in
    let same : low + (j - low) ≡ j = omega arith in
    sym (ap is_blank (byte_of text low (high - low) (j - low) lt ∙ ap (λ n. get_or text n 0) same)) ∙ none_at is_blank (take (high - low) (drop low text)) (j - low) e size

clean_bytes : (text : List ℕ) (low high : ℕ) → Clean text low high → list_any is_blank (take (high - low) (drop low text)) ≡ false
clean_bytes text low high h = none_from is_blank (take (high - low) (drop low text)) (λ k lt.
    let below : k < high - low = omega (arith, length-take (high - low) (drop low text)) in
    ap is_blank (byte_of text low (high - low) k below) ∙ h (low + k) (omega arith) (omega arith))

-- parts of a text from an index on, one blank between each two
abbrev Cuts : List ℕ → ℕ → List (List ℕ) → Type 0
Cuts text at [] = ⊥
Cuts text at (part ∷ []) = (at + length part ≡ length text) × Clean text at (at + length part)
Cuts text at (part ∷ next ∷ parts) = (at + length part < length text) × Clean text at (at + length part) × (is_blank (get_or text (at + length part) 0) ≡ true) × Cuts text (suc (at + length part)) (next ∷ parts)

clean_more : (x : ℕ) (text : List ℕ) (low high : ℕ) → Clean text low high → Clean (x ∷ text) (suc low) (suc high)
clean_more x text low high h zero a b = absurd (omega arith)
clean_more x text low high h (suc j) a b = h j (omega arith) (omega arith)

clean_at : (text : List ℕ) (low n m : ℕ) → n ≡ m → Clean text low n → Clean text low m
clean_at text low n m e h j a b = h j a (omega arith)

blank_at : (text : List ℕ) (n m : ℕ) → n ≡ m → is_blank (get_or text n 0) ≡ true → is_blank (get_or text m 0) ≡ true
blank_at text n m e h = ap (λ k. is_blank (get_or text k 0)) (sym e) ∙ h

cuts_at : (text : List ℕ) (n m : ℕ) (parts : List (List ℕ)) → n ≡ m → Cuts text n parts → Cuts text m parts
cuts_at text n m parts e h = subst (λ k. Cuts text k parts) e h

cuts_more : (x : ℕ) (text : List ℕ) (at : ℕ) (parts : List (List ℕ)) → Cuts text at parts → Cuts (x ∷ text) (suc at) parts
cuts_more x text at [] h = absurd h
cuts_more x text at (part ∷ []) h =
    let e : suc (at + length part) ≡ suc at + length part = omega arith in
    (omega (arith, h.0), clean_at (x ∷ text) (suc at) (suc (at + length part)) (suc at + length part) e (clean_more x text at (at + length part) h.1))
cuts_more x text at (part ∷ next ∷ parts) h =
    let e : suc (at + length part) ≡ suc at + length part = omega arith in (
      omega (arith, h.0),
      clean_at (x ∷ text) (suc at) (suc (at + length part)) (suc at + length part) e
          (clean_more x text at (at + length part) h.1),
      blank_at (x ∷ text) (suc (at + length part))
          (suc at + length part) e h.2,
      cuts_at (x ∷ text) (suc (suc (at + length part)))
          (suc (suc at + length part)) (next ∷ parts) (ap suc e)
          (cuts_more x text (suc (at + length part)) (next ∷ parts) h.3),
    )

cuts_new : (x : ℕ) (text : List ℕ) (parts : List (List ℕ)) → is_blank x ≡ true → Cuts text 0 parts → Cuts (x ∷ text) 0 ([] ∷ parts)
cuts_new x text [] e h = absurd h
cuts_new x text (part ∷ parts) e h = (omega arith, λ j a b. absurd (omega arith), e, cuts_more x text 0 (part ∷ parts) h)

clean_onto : (x : ℕ) (text : List ℕ) (n m : ℕ) → is_blank x ≡ false → suc n ≡ m → Clean text 0 n → Clean (x ∷ text) 0 m
clean_onto x text n m e q h zero a b = e
clean_onto x text n m e q h (suc j) a b = h j (omega arith) (omega arith)

cuts_onto : (x : ℕ) (text : List ℕ) (parts : List (List ℕ)) → is_blank x ≡ false → Cuts text 0 parts → Cuts (x ∷ text) 0 (onto_first x parts)
cuts_onto x text [] e h = absurd h
cuts_onto x text (part ∷ []) e h =
    let q : suc (0 + length part) ≡ 0 + length (x ∷ part) = omega arith in
    (omega (arith, h.0), clean_onto x text (0 + length part) (0 + length (x ∷ part)) e q h.1)
cuts_onto x text (part ∷ next ∷ parts) e h =
    let q : suc (0 + length part) ≡ 0 + length (x ∷ part) = omega arith in (
      omega (arith, h.0),
      clean_onto x text (0 + length part) (0 + length (x ∷ part)) e q h.1,
      blank_at
          (x ∷ text) (suc (0 + length part)) (0 + length (x ∷ part)) q h.2,
      cuts_at (x ∷ text)
          (suc (suc (0 + length part))) (suc (0 + length (x ∷ part))) (next ∷ parts) (ap suc q)
          (cuts_more x text (suc (0 + length part)) (next ∷ parts) h.3),
    )

cuts_case : (t : Bool) (x : ℕ) (text : List ℕ) (parts : List (List ℕ)) → is_blank x ≡ t → Cuts text 0 parts → Cuts (x ∷ text) 0 (cond t ([] ∷ parts) (onto_first x parts))
cuts_case true x text parts e h = cuts_new x text parts e h
cuts_case false x text parts e h = cuts_onto x text parts e h

cuts_split : (text : List ℕ) → Cuts text 0 (slice_split is_blank text)
cuts_split [] = (refl, λ j a b. absurd (omega arith))
cuts_split (x ∷ text) = cuts_case (is_blank x) x text (slice_split is_blank text) refl (cuts_split text)

-- a span among others
abbrev In : Span → List Span → Type 0
In span [] = ⊥
In span (other ∷ spans) = (other ≡ span) ⊎ In span spans

in_at : (spans : List Span) (span : Span) (k : ℕ) → k < length spans → get_or spans k span ≡ span → In span spans
in_at [] span k lt e = absurd (omega arith)
in_at (other ∷ spans) span zero lt e = inl e
in_at (other ∷ spans) span (suc k) lt e = inr (in_at spans span k (omega arith) e)

contains_more : (spans : List Span) (other span : Span) → Contains spans span → Contains (other ∷ spans) span
contains_more spans other span h = (suc h.0, omega (arith, h.1), h.2)

contains_in : (spans : List Span) (span : Span) → In span spans → Contains spans span
contains_in [] span h = absurd h
contains_in (other ∷ spans) span (inl e) = (0, omega arith, e)
contains_in (other ∷ spans) span (inr h) = contains_more spans other span (contains_in spans span h)

abbrev Edge : List ℕ → ℕ → Type 0
Edge text at = (at ≡ 0) ⊎ (is_blank (get_or text (at - 1) 0) ≡ true)

abbrev End : List ℕ → ℕ → Type 0
End text at = (at ≡ length text) ⊎ (is_blank (get_or text at 0) ≡ true)

next_edge : (text : List ℕ) (n : ℕ) → is_blank (get_or text n 0) ≡ true → Edge text (suc n)
next_edge text n h = inr (blank_at text n (suc n - 1) (omega arith) h)

word_here : (text part : List ℕ) (at : ℕ) → has_bytes (span_at at part) ≡ true → at + length part ≤ length text → Clean text at (at + length part) → Edge text at → End text (at + length part) → IsWordAt text (span_at at part)
word_here text part at t le clean edge end = record {
  not_empty = ltb-true at (at + length part) t;
  within = le;
  no_blank = clean_bytes text at (at + length part) clean;
  begins = edge;
  ends = end;
}

sound_case : (t : Bool) (text : List ℕ) (s span : Span) (spans : List Span) → (t ≡ true → IsWordAt text s) → (In span spans → IsWordAt text span) → In span (cond t (s ∷ spans) spans) → IsWordAt text span
sound_case true text s span spans w f (inl e) = subst (λ (x : Span). IsWordAt text x) e (w refl)
sound_case true text s span spans w f (inr h) = f h
sound_case false text s span spans w f h = f h

sound : (parts : List (List ℕ)) (text : List ℕ) (at : ℕ) (span : Span) → Cuts text at parts → Edge text at → In span (filter has_bytes (spans_from at parts)) → IsWordAt text span
unfolding spans_from
sound [] text at span c edge h = absurd c
sound (part ∷ []) text at span c edge h =
    sound_case (has_bytes (span_at at part)) text (span_at at part) span [] (λ t. word_here text part at t (omega (arith, c.0)) c.1 edge (inl c.0)) (λ n. absurd n) h
sound (part ∷ next ∷ parts) text at span c edge h =
    sound_case (has_bytes (span_at at part)) text (span_at at part) span
    (filter has_bytes (spans_from (suc (at + length part)) (next ∷ parts)))
    (λ t. word_here text part at t (omega (arith, c.0)) c.1 edge (inr c.2))
    (sound (next ∷ parts) text (suc (at + length part)) span c.3 (next_edge text (at + length part) c.2))
    h

-- a word that begins in a part is that part
not_at_end : (text : List ℕ) (n : ℕ) (span : Span) → IsWordAt text span → End text n → span.start ≡ n → ⊥
not_at_end text n span w (inl e) q = absurd (omega (arith, w.not_empty, w.within))
not_at_end text n span w (inr b) q = clash (is_blank (get_or text n 0)) b (bytes_clean text span.start span.end w.within w.no_blank n (omega arith) (omega (arith, w.not_empty)))

not_past_end : (text : List ℕ) (n : ℕ) (span : Span) → IsWordAt text span → End text n → span.start ≤ n → n < span.end → ⊥
not_past_end text n span w (inl e) le lt = absurd (omega (arith, w.within))
not_past_end text n span w (inr b) le lt = clash (is_blank (get_or text n 0)) b (bytes_clean text span.start span.end w.within w.no_blank n le lt)

not_behind : (text : List ℕ) (low high : ℕ) (span : Span) → Clean text low high → Edge text span.start → span.start ≤ high → low < span.start → ⊥
not_behind text low high span clean (inl e) le lt = absurd (omega arith)
not_behind text low high span clean (inr b) le lt = clash (is_blank (get_or text (span.start - 1) 0)) b (clean (span.start - 1) (omega arith) (omega arith))

not_before : (text : List ℕ) (low high : ℕ) (span : Span) → Clean text low high → high ≤ length text → End text span.end → low ≤ span.end → span.end < high → ⊥
not_before text low high span clean le (inl e) a b = absurd (omega arith)
not_before text low high span clean le (inr c) a b = clash (is_blank (get_or text span.end 0)) c (clean span.end a b)

meets : (text part : List ℕ) (at : ℕ) (span : Span) → at + length part ≤ length text → Clean text at (at + length part) → End text (at + length part) → IsWordAt text span → at ≤ span.start → span.start ≤ at + length part → (span_at at part ≡ span) × (has_bytes (span_at at part) ≡ true)
meets text part at span le clean end w low high =
    let ne : span.start ≡ at + length part → ⊥ = not_at_end text (at + length part) span w end in
    let starts : span.start ≤ at = le_from span.start at (not_behind text at (at + length part) span clean w.begins high) in
    let some : at < at + length part = omega (arith, ne) in
    let short : span.end ≤ at + length part = le_from span.end (at + length part) (not_past_end text (at + length part) span w end high) in
    let long : at + length part ≤ span.end = le_from (at + length part) span.end (not_before text at (at + length part) span clean le w.ends (omega (arith, w.not_empty))) in
    let s : at ≡ span.start = omega arith in
    let e : at + length part ≡ span.end = omega arith in
    (ap (λ n. let x : Span = record { start = n; end = at + length part } in x) s ∙ ap (λ n. let x : Span = record { start = span.start; end = n } in x) e, lt-ltb at (at + length part) some)

in_here : (t : Bool) (s span : Span) (spans : List Span) → s ≡ span → t ≡ true → In span (cond t (s ∷ spans) spans)
in_here true s span spans e t = inl e
in_here false s span spans e t = absurd cc

in_later : (t : Bool) (s span : Span) (spans : List Span) → In span spans → In span (cond t (s ∷ spans) spans)
in_later true s span spans h = inr h
in_later false s span spans h = h

complete_case : (t : Bool) (text part : List ℕ) (at : ℕ) (span : Span) (spans : List Span)
    → ltb (at + length part) span.start ≡ t → at + length part ≤ length text
    → Clean text at (at + length part) → End text (at + length part) → IsWordAt text span → at ≤ span.start
    → (at + length part < span.start → In span spans) → In span
    (cond (has_bytes (span_at at part)) (span_at at part ∷ spans) spans)
complete_case true text part at span spans e le clean end w low f = in_later (has_bytes (span_at at part)) (span_at at part) span spans (f (ltb-true (at + length part) span.start e))
complete_case false text part at span spans e le clean end w low f =
    let m = meets text part at span le clean end w low (ltb-false (at + length part) span.start e) in
    in_here (has_bytes (span_at at part)) (span_at at part) span spans m.0 m.1

complete : (parts : List (List ℕ)) (text : List ℕ) (at : ℕ) (span : Span) → Cuts text at parts → IsWordAt text span → at ≤ span.start → In span (filter has_bytes (spans_from at parts))
unfolding spans_from
complete [] text at span c w low = absurd c
complete (part ∷ []) text at span c w low =
    complete_case (ltb (at + length part) span.start) text part at span [] refl (omega (arith, c.0)) c.1 (inl c.0) w low (λ lt. absurd (omega (arith, c.0, w.not_empty, w.within)))
complete (part ∷ next ∷ parts) text at span c w low =
    complete_case (ltb (at + length part) span.start) text part at span (filter has_bytes (spans_from (suc (at + length part)) (next ∷ parts))) refl (omega (arith, c.0)) c.1 (inr c.2) w low (λ lt. complete (next ∷ parts) text (suc (at + length part)) span c.3 w (omega arith))

pub words_are_longest_parts : WordsAreLongestParts
unfolding word_spans
words_are_longest_parts text span = (
  λ h. sound (slice_split is_blank text) text 0 span (cuts_split text) (inl refl) (in_at (word_spans text) span h.0 h.1 h.2),
  λ w. contains_in (word_spans text) span (complete (slice_split is_blank text) text 0 span (cuts_split text) w (omega arith)),
)
