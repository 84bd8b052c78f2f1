-- Laws of lines, references, words and comments.
use Rattle.std.specs.Prelude.{◌≡◌, ◌<◌, ◌≤◌, ◌↔◌, ℕ, suc, ◌+◌, Bool, true, false, List, [], ◌∷◌, ◌++◌, length, map, Some}
use Rattle.std.specs.List.{slice_split, list_any, enumerate_from, Contains}
use Rattle.mk_lines.specs.Bytes.{is_byte, is_blank_alone}
use Rattle.mk_lines.specs.References.{first_outside, FirstOutside, pairs_with_dollar}
use Rattle.mk_lines.specs.Lines.{Line, lines_of, escapes}
use Rattle.mk_lines.specs.Words.{words, word_spans, bytes_at, IsWordAt}
use Rattle.mk_lines.specs.Comments.{uncomment}
use Rattle.mk_lines.specs.declared.spans.Span.{Span}

-- A piece with its number, as a plain line.
abbrev pub plain : ℕ × List ℕ → Line
plain (number, piece) = record { first = number; command = false; text = piece }

-- In a text without backslashes, tabs and blank pieces, the logical lines are the pieces between
-- newlines, numbered from 1.
abbrev pub PlainTextsAreTheirPieces : Type 0
PlainTextsAreTheirPieces =
    (text : List ℕ) → list_any (is_byte 92) text ≡ false → list_any (is_byte 9) text ≡ false
    → list_any is_blank_alone (slice_split (is_byte 10) text) ≡ false
    → lines_of text ≡ map plain (enumerate_from 1 (slice_split (is_byte 10) text))

-- The numbers are strictly ascending, and all above `before`.
unfoldable pub AreAscendingFrom : ℕ → List ℕ → Type 0
AreAscendingFrom before [] = Unit {0}
AreAscendingFrom before (n ∷ ns) = (before < n) × AreAscendingFrom n ns

-- The first physical lines of a text's logical lines are strictly ascending, from 1 on.
abbrev pub FirstLinesAscend : Type 0
FirstLinesAscend = (text : List ℕ) → AreAscendingFrom 0 (map (λ line. line.first) (lines_of text))

-- The line with its number increased.
abbrev pub renumbered : ℕ → Line → Line
renumbered by line = record line { first = by + line.first }

-- Where a text ends with a newline that isn't escaped, the lines of it followed by another text are
-- its own lines, then the other's lines, their numbers increased by the number of its physical
-- lines.
abbrev pub LinesOfTwoTexts : Type 0
LinesOfTwoTexts = (front other : List ℕ) → escapes front ≡ false
    → lines_of ((front ++ 10 ∷ []) ++ other)
    ≡ lines_of (front ++ 10 ∷ []) ++
    map (renumbered (length (slice_split (is_byte 10) front))) (lines_of other)

-- Where none of the bytes `$`, `(`, `{` is wanted, `first_outside` finds k exactly where
-- `FirstOutside` holds of k.
abbrev pub SearchFindsFirstOutside : Type 0
SearchFindsFirstOutside =
    (wanted : ℕ → Bool) → ((b : ℕ) → pairs_with_dollar b ≡ true → wanted b ≡ false) →
    (text : List ℕ) →
    (k : ℕ)
    → (first_outside wanted text ≡ Some k) ↔ FirstOutside wanted text k

-- A span is among the words exactly where it is a maximal part without blanks.
abbrev pub WordsAreLongestParts : Type 0
WordsAreLongestParts =
    (text : List ℕ) → (span : Span) → Contains (word_spans text) span ↔ IsWordAt text span

-- No span is empty, and they come from left to right with at least one byte between each two, the
-- first at `before` or later.
unfoldable pub AreOrderedSpans : ℕ → List Span → Type 0
AreOrderedSpans before [] = Unit {0}
AreOrderedSpans before (span ∷ spans) =
    (before ≤ span.start) × (span.start < span.end) × AreOrderedSpans (suc span.end) spans

-- The words come from left to right and don't overlap, and the bytes of their spans are the words.
abbrev pub WordsComeInOrder : Type 0
WordsComeInOrder =
    (text : List ℕ) → AreOrderedSpans 0 (word_spans text) ×
    (map (bytes_at text) (word_spans text) ≡ words text)

-- A plain line without `#` is unchanged by `uncomment`.
abbrev pub NothingToUncomment : Type 0
NothingToUncomment = (text : List ℕ) → list_any (is_byte 35) text ≡ false → uncomment text ≡ text
