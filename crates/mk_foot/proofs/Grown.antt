-- Lists that grow at their end, up to the first fault.
use Rattle.std.proofs.Common.{◌≡◌, ℕ, List, [], ◌∷◌, ◌++◌, map, Option, Some, None, Result, Ok, Err, String, Global, string_bytes, option_map, inl, inr, refl, sym, ap, ◌∙◌}
use Rattle.std.specs.Prelude.{option_and_then, ok_or}
use Rattle.std.proofs.lemmas.List.{map_push}
use Rattle.serde_json.specs.Data.{Data}
use Rattle.serde_json.specs.Find.{as_str}
use Rattle.mk_json.proofs.Arrays.{elements-items_of}
use Rattle.mk_json.specs.Kinds as json
use Rattle.mk_json.specs.Kinds.{array_of}
use Rattle.mk_foot.specs.declared.fault.FootFault.{FootFault}
use Rattle.mk_foot.specs.declared.fault.FootFault.TheVariants.{Shape}
use Rattle.mk_foot.specs.declared.key.Key.{Key}
use Rattle.mk_foot.specs.Fields.{texts_of}
use Rattle.mk_foot.specs.ReaderParts.{text_of}
use Rattle.mk_foot.specs.Steps.{◌>>=◌, each}
use Rattle.mk_foot.proofs.Steps.{Fails}

first_of_all : {B : Type 0} (r : Result B FootFault) → (r >>= λ y. Ok [] >>= λ ys. Ok (y ∷ ys)) ≡ (Ok [] >>= λ (ys : List B). r >>= λ y. Ok (ys ++ y ∷ []))
first_of_all (Ok y) = refl
first_of_all (Err fault) = refl

behind_first : {B : Type 0} (r : Result B FootFault) (rs : Result (List B) FootFault) (q : Result B FootFault)
    → (r >>= λ y. (rs >>= λ ys. q >>= λ z. Ok (ys ++ z ∷ [])) >>= λ ys. Ok (y ∷ ys)) ≡ ((r >>= λ y. rs >>= λ ys. Ok (y ∷ ys)) >>= λ ys. q >>= λ z. Ok (ys ++ z ∷ []))
behind_first (Ok y) (Ok ys) (Ok z) = refl
behind_first (Ok y) (Ok ys) (Err fault) = refl
behind_first (Ok y) (Err fault) q = refl
behind_first (Err fault) rs q = refl

-- what each gives, with one more at the end
each_grown : {A B : Type 0} (f : A → Result B FootFault) (xs : List A) (x : A) → each f (xs ++ x ∷ []) ≡ (each f xs >>= λ ys. f x >>= λ y. Ok (ys ++ y ∷ []))
unfolding each
each_grown f [] x = first_of_all (f x)
each_grown {B = B} f (z ∷ xs) x = ap (λ (r : Result (List B) FootFault). f z >>= λ y. r >>= λ ys. Ok (y ∷ ys)) (each_grown f xs x) ∙ behind_first (f z) (each f xs) (f x)

-- a fault before, a fault of the last, or none
pub fails_before : {A B : Type 0} (f : A → Result B FootFault) (xs : List A) (x : A) (fault : FootFault) → Fails fault (each f xs) → Fails fault (each f (xs ++ x ∷ []))
fails_before f xs x fault (inl memory) = inl memory
fails_before f xs x fault (inr e) = inr (each_grown f xs x ∙ rw e refl)

pub fails_last : {A B : Type 0} (f : A → Result B FootFault) (xs : List A) (x : A) (ys : List B) (fault : FootFault) → each f xs ≡ Ok ys → Fails fault (f x) → Fails fault (each f (xs ++ x ∷ []))
fails_last f xs x ys fault e (inl memory) = inl memory
fails_last f xs x ys fault e (inr h) = inr (each_grown f xs x ∙ rw (e, h) refl)

pub has_more : {A B : Type 0} (f : A → Result B FootFault) (xs : List A) (x : A) (ys : List B) (y : B) → each f xs ≡ Ok ys → f x ≡ Ok y → each f (xs ++ x ∷ []) ≡ Ok (ys ++ y ∷ [])
has_more f xs x ys y e h = each_grown f xs x ∙ rw (e, h) refl

pub has_text : (key : Key) (front : List Data) (value : Data) (texts : List (String Global)) (text : String Global) → each (text_of key) front ≡ Ok (map string_bytes texts) → text_of key value ≡ Ok (string_bytes text)
    → each (text_of key) (front ++ value ∷ []) ≡ Ok (map string_bytes (texts ++ text ∷ []))
has_text key front value texts text e h = has_more (text_of key) front value (map string_bytes texts) (string_bytes text) e h ∙ ap (λ (all : List (List ℕ)). Ok all) (sym (map_push string_bytes texts text))

-- texts one by one, and all of them
one_text : {A : Type 0} (fault : FootFault) (o : Option A) (more : Option (List A))
    → ok_or (option_and_then (λ y. option_map (λ ys. y ∷ ys) more) o) fault ≡ (ok_or o fault >>= λ y. ok_or more fault >>= λ ys. Ok (y ∷ ys))
one_text fault None more = refl
one_text fault (Some y) None = refl
one_text fault (Some y) (Some ys) = refl

texts_each : (key : Key) (ds : List Data) → ok_or (json.each_some as_str ds) (Shape key) ≡ each (text_of key) ds
unfolding each json.each_some
texts_each key [] = refl
texts_each key (d ∷ ds) = one_text (Shape key) (as_str d) (json.each_some as_str ds) ∙ ap (λ (r : Result (List (List ℕ)) FootFault). text_of key d >>= λ y. r >>= λ ys. Ok (y ∷ ys)) (texts_each key ds)

pub texts_listed : (key : Key) (ds : List Data) → texts_of key (array_of ds) ≡ each (text_of key) ds
unfolding json.texts_of
texts_listed key ds = ap (λ (es : List Data). ok_or (json.each_some as_str es) (Shape key)) (elements-items_of ds) ∙ texts_each key ds
