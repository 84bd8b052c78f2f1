-- The words of a text: its maximal parts without blanks.
use Rattle.std.specs.Prelude.{◌≡◌, ◌⊎◌, ◌<◌, ◌≤◌, ℕ, ◌+◌, ◌-◌, suc, ◌==◌, Bool, true, false, not, nat_lt, List, [], ◌∷◌, length, filter, take, drop, slice_index}
use Rattle.std.specs.List.{slice_split, list_any}
use Rattle.mk_lines.specs.Bytes.{is_blank}
use Rattle.mk_lines.specs.declared.spans.Span.{Span}

-- The part isn't empty.
abbrev pub is_word : List ℕ → Bool
is_word part = not (length part == 0)

-- The words of a text, in order.
abbrev pub words : List ℕ → List (List ℕ)
words text = filter is_word (slice_split is_blank text)

-- The spans of parts that stand in a row, the first at index `at`, with one byte between each two.
unfoldable pub spans_from : ℕ → List (List ℕ) → List Span
spans_from at [] = []
spans_from at (part ∷ parts) =
    record { start = at; end = at + length part } ∷ spans_from (suc (at + length part)) parts

-- The span isn't empty.
abbrev pub has_bytes : Span → Bool
has_bytes span = nat_lt span.start span.end

-- The spans of the words of a text.
unfoldable pub word_spans : List ℕ → List Span
word_spans text = filter has_bytes (spans_from 0 (slice_split is_blank text))

-- The bytes of a span.
abbrev pub bytes_at : List ℕ → Span → List ℕ
bytes_at text span = take (span.end - span.start) (drop span.start text)

-- The span is a maximal part without blanks: it isn't empty, has no blank, and each side of it is a
-- blank or an end of the text.
pub record IsWordAt (text : List ℕ) (span : Span) : Type 0 where
  pub not_empty : span.start < span.end
  pub within : span.end ≤ length text
  pub no_blank : list_any is_blank (bytes_at text span) ≡ false
  pub begins : (span.start ≡ 0) ⊎ (is_blank (slice_index text (span.start - 1)) ≡ true)
  pub ends : (span.end ≡ length text) ⊎ (is_blank (slice_index text span.end) ≡ true)
