-- The indexes of a makefile.
use Rattle.std.specs.Prelude.{◌≡◌, ◌⊎◌, ℕ, ◌+◌, ◌<◌, ◌==◌, Bool, true, false, ◌&&◌, ◌||◌, not, List, [], ◌∷◌, ◌++◌, Vec, filter, find, length, map, take, drop, is_some, slice_get, if◌then◌else◌}
use Rattle.std.specs.Option.{option_map_or}
use Rattle.std.specs.Borrow.{Bor}
use Rattle.std.specs.List.{filter_map, flat_map, list_all, position_or_len}
use Rattle.std.specs.Str.{bytes_eq}
use Rattle.std.specs.declared.alloc.Global.{Global}
use Rattle.indexmap.specs.IndexMap.{IndexMap, get_by}
use Rattle.mk_lines.specs.Bytes.{is_byte}
use Rattle.mk_lines.specs.Names.{HoldsNames}
use Rattle.mk_read.specs.Names.{has_name}
use Rattle.mk_read.specs.Needs.{is_wait}
use Rattle.mk_read.specs.Reading.{Makefile}
use Rattle.mk_read.specs.Special.{is_suffix}
use Rattle.mk_read.specs.Rules.{has_some}
use Rattle.mk_read.specs.State.{RuleRead}
use Rattle.mk_infer.specs.Inference.{commands_from, ending}
use Rattle.mk_infer.specs.There.{Exists}

-- the places of rule lines that the table has for a name
abbrev pub places_at : {S : Type 0} → IndexMap (Bor (List ℕ)) (Vec ℕ Global) S → List ℕ → List ℕ
places_at table name =
    option_map_or (λ places. places.items) (get_by (λ k. bytes_eq name k.now) table) []

-- the rule lines at these places
abbrev pub lines_at : List RuleRead → List ℕ → List RuleRead
lines_at rules places = filter_map (λ place. slice_get rules place) places

-- the rule lines that have the name as a target
abbrev pub lines_of : List RuleRead → List ℕ → List RuleRead
lines_of rules name = filter (λ (rule : RuleRead). has_name rule.targets name) rules

-- the table has, for each name, the places of exactly its rule lines
abbrev pub HasLines : {S : Type 0} → List RuleRead → IndexMap (Bor (List ℕ)) (Vec ℕ Global) S →
    Type 0
HasLines rules table = (name : List ℕ) → lines_at rules (places_at table name) ≡ lines_of rules name

-- the table has an entry for the name
abbrev pub has_target : {S : Type 0} → IndexMap (Bor (List ℕ)) (Vec ℕ Global) S → List ℕ → Bool
has_target table name = is_some (get_by (λ k. bytes_eq name k.now) table)

-- the table has entries for exactly these names
abbrev pub HoldsTargets : {S : Type 0} → List (List ℕ) →
    IndexMap (Bor (List ℕ)) (Vec ℕ Global) S → Type 0
HoldsTargets names table = (name : List ℕ) → has_target table name ≡ has_name names name

-- the words of these rule lines
abbrev pub words_in : List RuleRead → List (List ℕ)
words_in lines = flat_map (λ (rule : RuleRead). rule.words) lines

-- the prerequisites in these rule lines: their words without `.WAIT`
abbrev pub prerequisites_in : List RuleRead → List (List ℕ)
prerequisites_in lines = filter (λ word. not (is_wait word)) (words_in lines)

-- the rule line has commands and, if only the makefile's own lines count, isn't of the default text
abbrev pub counts_for : Bool → RuleRead → Bool
counts_for own rule = not (own && rule.default) && has_some rule.commands

-- the place of the first dot after the first byte of a name, or its length if there is none
abbrev pub second_dot : List ℕ → ℕ
second_dot name = position_or_len (is_byte 46) (drop 1 name) + 1

-- the name is in the set, or is two names of the set in a row, cut at its second dot
abbrev pub is_joined : List (List ℕ) → List ℕ → Bool
is_joined set name =
    has_name set name ||
    (has_name set (take (second_dot name) name) && has_name set (drop (second_dot name) name))

-- the targets of rule lines
abbrev pub targets_in : List RuleRead → List (List ℕ)
targets_in rules = flat_map (λ (rule : RuleRead). rule.targets) rules

-- the targets of the rule lines that have commands
abbrev pub commanded_in : List RuleRead → List (List ℕ)
commanded_in rules = targets_in (filter (λ (rule : RuleRead). has_some rule.commands) rules)

-- the name begins with a dot, as each inference name does
abbrev pub is_dotted : List ℕ → Bool
is_dotted [] = false
is_dotted (b ∷ rest) = b == 46

-- the new set has, of the names that begin with a dot, exactly those of the old set and of the list
abbrev pub HoldsDotted : List (List ℕ) → List (List ℕ) → List (List ℕ) → Type 0
HoldsDotted old names new = (rest : List ℕ)
    → has_name new (46 ∷ rest) ≡ (has_name old (46 ∷ rest) || has_name names (46 ∷ rest))

-- an ending of a name is a suffix, or empty
abbrev pub IsEnding : List ℕ → Type 0
IsEnding end = (end ≡ []) ⊎ (is_suffix end ≡ true)

-- the front is a suffix and the back is empty, or the front isn't empty and the back is a suffix
abbrev pub AreParts : (front back : List ℕ) → Type 0
AreParts front back =
    ((is_suffix front ≡ true) × (back ≡ [])) ⊎ ((0 < length front) × (is_suffix back ≡ true))

-- if the name consists of such a front and back, they are the given ones
abbrev pub IsCut : (name front back : List ℕ) → Type 0
IsCut name front back =
    (one other : List ℕ) → AreParts one other → name ≡ one ++ other →
    (front ≡ one) × (back ≡ other)

-- the texts that the table has for a key
abbrev pub texts_at : {S : Type 0} → IndexMap (Bor (List ℕ)) (Vec (Bor (List ℕ)) Global) S →
    List ℕ → List (List ℕ)
texts_at table key =
    map (λ text. text.now)
    (option_map_or (λ texts. texts.items) (get_by (λ k. bytes_eq key k.now) table) [])

-- for each front the table has exactly the backs with which it forms one of the names
abbrev pub HasBacks : {S : Type 0} → List (List ℕ) →
    IndexMap (Bor (List ℕ)) (Vec (Bor (List ℕ)) Global) S → Type 0
HasBacks names table = (front back : List ℕ) → AreParts front back
    → has_name (texts_at table front) back ≡ has_name names (front ++ back)

-- For each front the new table has the suffixes that the old one had, and those with which the
-- front forms one of the names.
abbrev pub AddsBacks : {S T : Type 0} → IndexMap (Bor (List ℕ)) (Vec (Bor (List ℕ)) Global) S →
    List (List ℕ) → IndexMap (Bor (List ℕ)) (Vec (Bor (List ℕ)) Global) T → Type 0
AddsBacks old names new = (front back : List ℕ) → 0 < length front → is_suffix back ≡ true
    → has_name (texts_at new front) back ≡
    (has_name (texts_at old front) back || has_name names (front ++ back))

-- the suffix, once for each of the backs that equals the ending
abbrev pub given : List ℕ → List ℕ → List (List ℕ) → List (List ℕ)
given suffix ending backs =
    flat_map (λ back. if bytes_eq ending back then suffix ∷ [] else []) backs

-- the suffixes that have the ending among their backs
abbrev pub sources_by : (List ℕ → List (List ℕ)) → List ℕ → List (List ℕ) → List (List ℕ)
sources_by backs ending suffixes = flat_map (λ suffix. given suffix ending (backs suffix)) suffixes

-- For each test, the first of these source suffixes that passes it is the first of all suffixes
-- that passes it and has a rule with commands for the name.
abbrev pub AreSources : Makefile → List ℕ → List (List ℕ) → Type 0
AreSources m name sources = (p : List ℕ → Bool)
    → find p sources ≡
    find (λ suffix. has_some (commands_from m name suffix) && p suffix) m.suffixes

-- the table has, for each ending, the source suffixes of the names with this ending
abbrev pub HasSources : {S : Type 0} → Makefile →
    IndexMap (Bor (List ℕ)) (Vec (Bor (List ℕ)) Global) S → Type 0
HasSources m table = (name : List ℕ) → AreSources m name (texts_at table (ending m name))

-- all indexes are those of the makefile
pub record IsTableOf {S T : Type 0} (m : Makefile) (suffixes order phony : List (List ℕ))
    (table : IndexMap (Bor (List ℕ)) (Vec ℕ Global) S)
    (sources : IndexMap (Bor (List ℕ)) (Vec (Bor (List ℕ)) Global) T) : Type 0 where
  pub are_suffixes : list_all is_suffix m.suffixes ≡ true
  pub suffixes_held : HoldsNames suffixes m.suffixes
  pub order_held : order ≡ m.suffixes
  pub phony_held : HoldsNames phony m.phony
  pub targets_held : HoldsTargets (targets_in m.rules) table
  pub lines_held : HasLines m.rules table
  pub sources_held : HasSources m sources

-- a source, a makefile text, or an extra name that counts as present
abbrev pub is_listed : Exists → List ℕ → Bool
is_listed e name = has_name e.sources name || (has_name e.texts name || has_name e.more name)
