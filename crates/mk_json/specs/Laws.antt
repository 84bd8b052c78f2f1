-- Laws of JSON values by their tokens, and of objects.
use Rattle.std.specs.Prelude.{◌≡◌, ◌++◌, ◌<◌, ◌&&◌, ℕ, List, [], ◌∷◌, length, None, Some, if◌then◌else◌}
use Rattle.std.specs.Str.{bytes_eq}
use Rattle.mk_lines.specs.Names.{has_name}
use Rattle.json.specs.Token.{Token}
use Rattle.json.specs.Json.{after_end_array, read_key}
use Rattle.json.specs.Lex.{tokens}
use Rattle.serde_json.specs.Data.{Data, object, Members, no_members, put}
use Rattle.serde_json.specs.Find.{get}
use Rattle.serde_json.specs.Read.{max_depth, read}
use Rattle.serde_json.specs.View.{items_of}
use Rattle.mk_json.specs.Kinds.{has_only}
use Rattle.mk_json.specs.Tokens.{next_value, next_items, next_members, ItemsRead, MembersRead}

-- Each value takes at least one token.
abbrev pub ValuesTakeTokens : Type 0
ValuesTakeTokens =
    (depth : ℕ) (now rest : List Token) (value : Data) → next_value depth now ≡ Some (value, rest) →
    length rest < length now

-- The values of an array are read one after another, up to its closing bracket.
pub record ItemsAreReadInOrder : Type 0 where
  pub begins : (depth : ℕ) (all : List Token) → ItemsRead depth all [] all
  pub goes_on :
      (depth : ℕ) (all : List Token) (values : List Data) (now rest : List Token) (value : Data) →
      ItemsRead depth all values now → after_end_array now ≡ None →
      next_value depth now ≡ Some (value, rest) → ItemsRead depth all (values ++ value ∷ []) rest
  pub fails :
      (depth : ℕ) (all : List Token) (values : List Data) (now : List Token) →
      ItemsRead depth all values now → after_end_array now ≡ None →
      next_value depth now ≡ None → next_items depth all ≡ None
  pub ends :
      (depth : ℕ) (all : List Token) (values : List Data) (now rest : List Token) →
      ItemsRead depth all values now → after_end_array now ≡ Some rest →
      next_items depth all ≡ Some (items_of values, rest)

-- The members of an object are read one after another, up to its closing brace.
pub record MembersAreReadInOrder : Type 0 where
  pub begins : (depth : ℕ) (all : List Token) → MembersRead depth all no_members all
  pub goes_on :
      (depth : ℕ) (all : List Token) (members : Members) (key : List ℕ) (value : Data)
      (now named rest : List Token) →
      MembersRead depth all members now → read_key now ≡ Some (Some key, named) →
      next_value depth named ≡ Some (value, rest) →
      MembersRead depth all (put key value members) rest
  pub has_no_key :
      (depth : ℕ) (all : List Token) (members : Members) (now : List Token) →
      MembersRead depth all members now → read_key now ≡ None → next_members depth all ≡ None
  pub fails :
      (depth : ℕ) (all : List Token) (members : Members) (key : List ℕ) (now named : List Token) →
      MembersRead depth all members now → read_key now ≡ Some (Some key, named) →
      next_value depth named ≡ None → next_members depth all ≡ None
  pub ends :
      (depth : ℕ) (all : List Token) (members : Members) (now rest : List Token) →
      MembersRead depth all members now → read_key now ≡ Some (None, rest) →
      next_members depth all ≡ Some (members, rest)

-- If a key occurs several times, its last value counts; an object has only known keys if each put
-- key is known.
pub record LastValueCounts : Type 0 where
  pub value :
      (key other : List ℕ) (value : Data) (members : Members) →
      get key (object (put other value members)) ≡
      (if bytes_eq key other then Some value else get key (object members))
  pub keys :
      (known : List (List ℕ)) (key : List ℕ) (value : Data) (members : Members) →
      has_only known (object (put key value members)) ≡
      (has_name known key && has_only known (object members))

-- A text has a JSON value exactly if its tokens are that value and nothing more.
pub record WholeText : Type 0 where
  pub whole :
      (text : List ℕ) (value : Data) → next_value max_depth (tokens text) ≡ Some (value, []) →
      read text ≡ Some value
  pub more :
      (text : List ℕ) (value : Data) (token : Token) (rest : List Token) →
      next_value max_depth (tokens text) ≡ Some (value, token ∷ rest) → read text ≡ None
  pub none : (text : List ℕ) → next_value max_depth (tokens text) ≡ None → read text ≡ None
