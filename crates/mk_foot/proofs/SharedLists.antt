-- Shared lists, from the members of an object.
use Rattle.std.proofs.Common.{◌≡◌, ℕ, List, [], ◌∷◌, ◌++◌, map, Result, Ok, Err, String, Vec, Global, string_bytes, inl, inr, refl}
use Rattle.serde_json.specs.Data.{Data, Members, no_members, member}
use Rattle.mk_json.specs.Kinds.{pairs}
use Rattle.mk_foot.specs.declared.fault.FootFault.{FootFault}
use Rattle.mk_foot.specs.declared.key.Key.TheVariants as keys
use Rattle.mk_foot.specs.Fields.{texts_of}
use Rattle.mk_foot.specs.FootprintFile.{list_in}
use Rattle.mk_foot.specs.Parts.{SharedList}
use Rattle.mk_foot.specs.ReaderParts.{AreLists}
use Rattle.mk_foot.specs.Steps.{each}
use Rattle.mk_foot.proofs.Members.{Found}
use Rattle.mk_foot.proofs.Steps.{Fails, with_front, each_first, first_fails, each_none}

pub list_found : (name spelled : List ℕ) (value : Data) (names : List (List ℕ)) → spelled ≡ name → texts_of keys.Lists value ≡ Ok names → list_in (name, value) ≡ Ok (record { name = spelled; names = names })
unfolding list_in
list_found name spelled value names same e = rw (same, e) refl

pub list_fails : (name : List ℕ) (value : Data) (fault : FootFault) → Fails fault (texts_of keys.Lists value) → Fails fault (list_in (name, value))
unfolding list_in
list_fails name value fault (inl memory) = inl memory
list_fails name value fault (inr e) = inr (rw e refl)

-- what is left of the lists, of which the first was found, or failed, or of which there is none
pub list_next : (front : List SharedList) (name : String Global) (names : Vec (String Global) Global) (more : List Found) (rest : Members) (whole : Result (List SharedList) FootFault) → AreLists ((name, Ok names) ∷ more) rest
    → with_front front (each list_in (pairs rest)) ≡ whole
    → (left : Members) × AreLists more left × (with_front (front ++ record { name = string_bytes name; names = map string_bytes names.items } ∷ []) (each list_in (pairs left)) ≡ whole)
list_next front name names more no_members whole are so_far = absurd are
list_next front name names more (member l d rest) whole are so_far =
    (rest, are.2, each_first list_in front (l, d) (pairs rest) _ whole (list_found l (string_bytes name) d (map string_bytes names.items) are.0 are.1) so_far)

pub list_stops : (front : List SharedList) (name : String Global) (fault : FootFault) (more : List Found) (rest : Members) (whole : Result (List SharedList) FootFault) → AreLists ((name, Err fault) ∷ more) rest
    → with_front front (each list_in (pairs rest)) ≡ whole → Fails fault whole
list_stops front name fault more no_members whole are so_far = absurd are
list_stops front name fault more (member l d rest) whole are so_far = first_fails list_in front (l, d) (pairs rest) fault whole (list_fails l d fault are.1) so_far

pub lists_end : (front : List SharedList) (rest : Members) (whole : Result (List SharedList) FootFault) → AreLists [] rest → with_front front (each list_in (pairs rest)) ≡ whole → whole ≡ Ok front
lists_end front no_members whole are so_far = each_none list_in front whole so_far
lists_end front (member l d rest) whole are so_far = absurd are
