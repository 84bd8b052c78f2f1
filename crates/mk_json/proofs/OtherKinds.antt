-- Values by the tokens of the code, where one kind is looked for.
use Rattle.std.proofs.Common.{◌≡◌, ℕ, List, Bor, None, refl}
use Rattle.std.specs.Prelude.{option_and_then}
use Rattle.json.specs.Reads.{token_of}
use Rattle.json.specs.declared.token.Token.{Token}
use Rattle.json.specs.declared.token.Token.TheVariants.{BeginObject, EndObject, BeginArray, EndArray, Key, String, Number, Bool, Null, Bad}
use Rattle.serde_json.specs.Data.{Data}
use Rattle.serde_json.specs.Find.{as_str, as_number, as_integer, as_array, as_object}
use Rattle.mk_json.proofs.Turns.{IsBegunBy}

-- a value whose first token is no text is none
pub no_text : (token : Token) (d : Data) → IsBegunBy (token_of token) d → ((s : Bor (List ℕ)) → token ≡ String s → ⊥) → None ≡ as_str d
no_text BeginObject d is other = rw is.1
no_text EndObject d is other = absurd is
no_text BeginArray d is other = rw is.1
no_text EndArray d is other = absurd is
no_text (Key s) d is other = absurd is
no_text (String s) d is other = absurd (other s refl)
no_text (Number s) d is other = rw is.1
no_text (Bool b) d is other = rw is
no_text Null d is other = rw is
no_text Bad d is other = absurd is

-- the same of numbers
pub no_integer : (token : Token) (d : Data) → IsBegunBy (token_of token) d → ((s : Bor (List ℕ)) → token ≡ Number s → ⊥) → None ≡ option_and_then as_integer (as_number d)
no_integer BeginObject d is other = rw is.1
no_integer EndObject d is other = absurd is
no_integer BeginArray d is other = rw is.1
no_integer EndArray d is other = absurd is
no_integer (Key s) d is other = absurd is
no_integer (String s) d is other = rw is
no_integer (Number s) d is other = absurd (other s refl)
no_integer (Bool b) d is other = rw is
no_integer Null d is other = rw is
no_integer Bad d is other = absurd is

-- the same of arrays
pub no_array : (token : Token) (d : Data) → IsBegunBy (token_of token) d → (token ≡ BeginArray → ⊥) → as_array d ≡ None
no_array BeginObject d is other = rw is.1
no_array EndObject d is other = absurd is
no_array BeginArray d is other = absurd (other refl)
no_array EndArray d is other = absurd is
no_array (Key s) d is other = absurd is
no_array (String s) d is other = rw is
no_array (Number s) d is other = rw is.1
no_array (Bool b) d is other = rw is
no_array Null d is other = rw is
no_array Bad d is other = absurd is

-- the same of objects
pub no_object : (token : Token) (d : Data) → IsBegunBy (token_of token) d → (token ≡ BeginObject → ⊥) → as_object d ≡ None
no_object BeginObject d is other = absurd (other refl)
no_object EndObject d is other = absurd is
no_object BeginArray d is other = rw is.1
no_object EndArray d is other = absurd is
no_object (Key s) d is other = absurd is
no_object (String s) d is other = rw is
no_object (Number s) d is other = rw is.1
no_object (Bool b) d is other = rw is
no_object Null d is other = rw is
no_object Bad d is other = absurd is
