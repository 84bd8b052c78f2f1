-- Bytes outside references.
--
-- A reference is `$(` up to the first `)` outside an inner reference, or `${` up to the first `}`
-- outside one. A reference that isn't closed goes to the end of the text. `$$` is two bytes outside
-- references, and any other `$` is one byte.
use Rattle.std.specs.Prelude.{◌≡◌, ℕ, suc, ◌==◌, Bool, true, false, ◌&&◌, ◌||◌, List, [], ◌∷◌, ◌++◌, length, drop, Option, None, Some, if◌then◌else◌}
use Rattle.std.specs.List.{list_any}
use Rattle.std.specs.Option.{option_map}
use Rattle.mk_lines.specs.Bytes.{is_byte}

-- The state of the search between two bytes of a text: the closing bytes of the open references,
-- innermost first, and whether a `$` directly precedes that isn't the second of a `$$`.
pub record ReferenceState : Type 0 where
  pub ends : List ℕ
  pub dollar : Bool

-- The byte closes the innermost open reference.
abbrev pub closes : List ℕ → ℕ → Bool
closes [] b = false
closes (close ∷ ends) b = b == close

-- The open references after a byte: without the innermost one, if the byte closes it.
abbrev pub closed : List ℕ → ℕ → List ℕ
closed ends b = if closes ends b then drop 1 ends else ends

-- The state after a byte that no `$` directly precedes.
abbrev pub behind : List ℕ → ℕ → ReferenceState
behind ends b =
    if b == 36 then record { ends = ends; dollar = true }
    else (if closes ends b then record { ends = drop 1 ends; dollar = false }
    else record { ends = ends; dollar = false })

-- The state after a byte that a `$` directly precedes.
abbrev pub behind_dollar : List ℕ → ℕ → ReferenceState
behind_dollar ends b =
    if b == 36 then record { ends = ends; dollar = false }
    else (if b == 40 then record { ends = 41 ∷ ends; dollar = false }
    else (if b == 123 then record { ends = 125 ∷ ends; dollar = false }
    else behind ends b))

-- The state after a byte.
abbrev pub next_place : ReferenceState → ℕ → ReferenceState
next_place place b = if place.dollar then behind_dollar place.ends b else behind place.ends b

-- The position of the first wanted byte outside references, in a text at whose start the search has
-- this state.
unfoldable pub first_from : (ℕ → Bool) → ReferenceState → List ℕ → Option ℕ
first_from wanted place [] = None
first_from wanted place (b ∷ text) =
    if (length place.ends == 0) && wanted b then Some 0
    else option_map suc (first_from wanted (next_place place b) text)

-- The position of the first wanted byte outside references.
abbrev pub first_outside : (ℕ → Bool) → List ℕ → Option ℕ
first_outside wanted text = first_from wanted (record { ends = []; dollar = false }) text

-- The byte is one of these.
abbrev pub is_one_of : List ℕ → ℕ → Bool
is_one_of bytes b = list_any (λ other. other == b) bytes

-- A `$` before this byte is no single dollar: the byte is `$`, `(` or `{`.
abbrev pub pairs_with_dollar : ℕ → Bool
pairs_with_dollar b = b == 36 || (b == 40 || b == 123)

-- A `$` before this text is a single dollar.
abbrev pub DollarIsSingle : List ℕ → Type 0
DollarIsSingle [] = Unit {0}
DollarIsSingle (b ∷ text) = pairs_with_dollar b ≡ false

-- A text without a wanted byte outside references, in which each reference is closed: it consists
-- of bytes that are neither wanted nor `$`, of `$$`, of single dollars and of whole references.
pub data HasNoneOutside : (ℕ → Bool) → List ℕ → Type 0 where
  Nothing : (wanted : ℕ → Bool) → HasNoneOutside wanted []
  Byte : (wanted : ℕ → Bool) → (b : ℕ) → (text : List ℕ) → wanted b ≡ false → (b == 36) ≡ false →
      HasNoneOutside wanted text → HasNoneOutside wanted (b ∷ text)
  Dollars : (wanted : ℕ → Bool) → (text : List ℕ) → HasNoneOutside wanted text →
      HasNoneOutside wanted (36 ∷ 36 ∷ text)
  Dollar : (wanted : ℕ → Bool) → (text : List ℕ) → DollarIsSingle text →
      HasNoneOutside wanted text →
      HasNoneOutside wanted (36 ∷ text)
  Round : (wanted : ℕ → Bool) → (inside text : List ℕ) → HasNoneOutside (is_byte 41) inside →
      HasNoneOutside wanted text → HasNoneOutside wanted (36 ∷ 40 ∷ inside ++ 41 ∷ text)
  Curly : (wanted : ℕ → Bool) → (inside text : List ℕ) → HasNoneOutside (is_byte 125) inside →
      HasNoneOutside wanted text → HasNoneOutside wanted (36 ∷ 123 ∷ inside ++ 125 ∷ text)

-- The first wanted byte outside references is at index k: a wanted byte is there, and the text
-- before it has none outside references.
pub record FirstOutside (wanted : ℕ → Bool) (text : List ℕ) (k : ℕ) : Type 0 where
  pub before : List ℕ
  pub byte : ℕ
  pub after : List ℕ
  pub whole : text ≡ before ++ byte ∷ after
  pub stands : length before ≡ k
  pub is_wanted : wanted byte ≡ true
  pub none_before : HasNoneOutside wanted before
