-- Sets of names.
use Rattle.std.proofs.Common.{◌≡◌, ℕ, Bool, true, false, cond, ◌||◌, List, [], ◌∷◌, ◌++◌, map, String, refl, ap, ◌∙◌}
use Rattle.std.specs.Str.{bytes_eq}
use Rattle.std.specs.declared.alloc.Global.{Global}
use Rattle.std.specs.String.{string_bytes}
use Rattle.std.specs.List.{list_any}
use Rattle.std.proofs.lemmas.List.{map_push}
use Rattle.mk_read.specs.Names.{has_name, with_name}

both_ways : (b : Bool) → b ≡ false → ¬ (b ≡ true)
both_ways b f t = absurd cc

-- the names of strings
abbrev pub names_of : List (String Global) → List (List ℕ)
names_of keys = map string_bytes keys

pub among : (keys : List (String Global)) (name : List ℕ) → list_any (λ other. bytes_eq name (string_bytes other)) keys ≡ has_name (names_of keys) name
among [] name = refl
among (key ∷ keys) name = ap (λ b. bytes_eq name (string_bytes key) || b) (among keys name)

-- the names after an insertion
pub inserted : (keys : List (String Global)) (name : String Global) (old : List (List ℕ)) (new : List (String Global)) → new ≡ cond (list_any (λ other. bytes_eq (string_bytes name) (string_bytes other)) keys) keys (keys ++ name ∷ []) → names_of keys ≡ old
    → names_of new ≡ with_name old (string_bytes name)
inserted keys name old new e v =
    let test : list_any (λ other. bytes_eq (string_bytes name) (string_bytes other)) keys ≡ has_name old (string_bytes name) = among keys (string_bytes name) ∙ ap (λ names. has_name names (string_bytes name)) v in
    ap names_of e ∙ (both (list_any (λ other. bytes_eq (string_bytes name) (string_bytes other)) keys) ∙ (ap (λ b. cond b (names_of keys) (names_of keys ++ string_bytes name ∷ [])) test ∙ ap (λ names. cond (has_name old (string_bytes name)) names (names ++ string_bytes name ∷ [])) v))
  where
    both : (b : Bool) → names_of (cond b keys (keys ++ name ∷ [])) ≡ cond b (names_of keys) (names_of keys ++ string_bytes name ∷ [])
    both true = refl
    both false = map_push string_bytes keys name
