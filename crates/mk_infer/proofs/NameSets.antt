-- Sets of names that are parts of a text.
use Rattle.std.proofs.Common.{◌≡◌, ℕ, Bool, true, false, cond, List, [], ◌∷◌, ◌++◌, refl, sym, ap, ◌∙◌}
use Rattle.std.specs.Borrow.{Bor}
use Rattle.std.specs.Str.{bytes_eq}
use Rattle.std.specs.List.{list_any}
use Rattle.std.proofs.lemmas.List.{map_push}
use Rattle.mk_lemmas.proofs.Texts.{texts}
use Rattle.mk_lemmas.proofs.Lists.{list_any-map}
use Rattle.mk_read.specs.Names.{has_name}

-- the names after an insertion
pub inserted : (keys : List (Bor (List ℕ))) (name : Bor (List ℕ)) (old : List (List ℕ)) (new : List (Bor (List ℕ))) → new ≡ cond (list_any (λ other. bytes_eq name.now other.now) keys) keys (keys ++ name ∷ []) → texts keys ≡ old
    → texts new ≡ cond (has_name old name.now) old (old ++ name.now ∷ [])
inserted keys name old new e v =
    let test : list_any (λ other. bytes_eq name.now other.now) keys ≡ has_name old name.now = sym (list_any-map (λ (other : List ℕ). bytes_eq name.now other) (λ (n : Bor (List ℕ)). n.now) keys) ∙ ap (λ names. has_name names name.now) v in
    ap texts e ∙ (both (list_any (λ other. bytes_eq name.now other.now) keys) ∙ (ap (λ b. cond b (texts keys) (texts keys ++ name.now ∷ [])) test ∙ ap (λ names. cond (has_name old name.now) names (names ++ name.now ∷ [])) v))
  where
    both : (b : Bool) → texts (cond b keys (keys ++ name ∷ [])) ≡ cond b (texts keys) (texts keys ++ name.now ∷ [])
    both true = refl
    both false = map_push (λ (n : Bor (List ℕ)). n.now) keys name
