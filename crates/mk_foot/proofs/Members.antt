-- Shared lists beside the members of the object that they stand in.
use Rattle.std.proofs.Common.{ℕ, List, [], ◌∷◌, Result, String, Vec, Global, Ordering, Less, Equal, Greater, string_bytes, string_cmp, refl, subst}
use Rattle.std.specs.BTreeMap.{insert_entry}
use Rattle.std.specs.Ordering.{match_ordering}
use Rattle.serde_json.specs.Data.{Data, Members, no_members, member, put}
use Rattle.mk_foot.specs.declared.fault.FootFault.{FootFault}
use Rattle.mk_foot.specs.declared.key.Key.TheVariants as keys
use Rattle.mk_foot.specs.Fields.{texts_of}
use Rattle.mk_foot.specs.ReaderParts.{GivesTexts, AreLists}

-- a name, and what was read of its list
abbrev pub Found : Type 0
Found = String Global × Result (Vec (String Global) Global) FootFault

put_at : (o : Ordering) (name : String Global) (names : Result (Vec (String Global) Global) FootFault) (value : Data) (e : Found) (es : List Found) (d : Data) (ms : Members)
    → GivesTexts names (texts_of keys.Lists value) → AreLists (e ∷ es) (member (string_bytes e.0) d ms) → AreLists (insert_entry string_cmp es name names) (put (string_bytes name) value ms)
    → AreLists (match_ordering o ((name, names) ∷ e ∷ es) ((e.0, names) ∷ es) (e ∷ insert_entry string_cmp es name names))
    (match_ordering o (member (string_bytes name) value (member (string_bytes e.0) d ms)) (member (string_bytes e.0) value ms) (member (string_bytes e.0) d (put (string_bytes name) value ms)))
put_at Less name names value e es d ms given was later = (refl, given, was)
put_at Equal name names value e es d ms given was later = (refl, given, was.2)
put_at Greater name names value e es d ms given was later = (refl, was.1, later)

-- the lists, with the list of a name
pub put_lists : (name : String Global) (names : Result (Vec (String Global) Global) FootFault) (value : Data) (es : List Found) (ms : Members) → GivesTexts names (texts_of keys.Lists value) → AreLists es ms
    → AreLists (insert_entry string_cmp es name names) (put (string_bytes name) value ms)
put_lists name names value [] no_members given was = (refl, given, tt)
put_lists name names value [] (member l d ms) given was = absurd was
put_lists name names value (e ∷ es) no_members given was = absurd was
put_lists name names value (e ∷ es) (member l d ms) given was =
    subst (λ (k : List ℕ). AreLists (insert_entry string_cmp (e ∷ es) name names) (put (string_bytes name) value (member k d ms))) was.0
    (put_at (string_cmp name e.0) name names value e es d ms given (refl, was.1, was.2) (put_lists name names value es ms given was.2))
