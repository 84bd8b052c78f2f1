-- Sets whose keys are seen by a view.
use Rattle.std.proofs.Common.{◌≡◌, Bool, true, false, cond, ◌||◌, List, [], ◌∷◌, ◌++◌, map, refl, ap, ◌∙◌}
use Rattle.std.specs.List.{list_any}
use Rattle.std.proofs.lemmas.List.{map_push}

-- whether a key is there
pub any_seen : {A B : Type 0} (see : A → B) (same : A → A → Bool) (same' : B → B → Bool) → ((x y : A) → same x y ≡ same' (see x) (see y)) → (key : A) (keys : List A) → list_any (same key) keys ≡ list_any (same' (see key)) (map see keys)
any_seen see same same' agrees key [] = refl
any_seen see same same' agrees key (other ∷ keys) = ap (λ b. b || list_any (same key) keys) (agrees key other) ∙ ap (λ b. same' (see key) (see other) || b) (any_seen see same same' agrees key keys)

-- the keys after an insertion
pub key_seen : {A B : Type 0} (see : A → B) (test test' : Bool) (key : A) (keys : List A) → test ≡ test' → map see (cond test keys (keys ++ key ∷ [])) ≡ cond test' (map see keys) (map see keys ++ see key ∷ [])
key_seen see true true key keys e = refl
key_seen see true false key keys e = absurd cc
key_seen see false true key keys e = absurd cc
key_seen see false false key keys e = map_push see keys key
