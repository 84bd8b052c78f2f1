-- Sets of borrowed names.
use Rattle.std.proofs.Common.{◌≡◌, ℕ, Bool, true, false, not, ◌||◌, ◌+◌, length, cond, List, [], ◌∷◌, ◌++◌, refl, sym, ap, ◌∙◌, arith}
use Rattle.std.specs.Borrow.{Bor}
use Rattle.std.specs.Str.{bytes_eq}
use Rattle.std.specs.Prelude.{position, fold, Some, None}
use Rattle.std.specs.List.{list_any, position_or_len}
use Rattle.std.proofs.lemmas.List.{map_push}
use mathlib.Core.Bool.{or-false, or_assoc}
use Rattle.mk_lemmas.proofs.Texts.{texts}
use Rattle.mk_lemmas.proofs.Lists.{list_any-map, position-none, position-some, position_or_len-within}
use Rattle.mk_lines.proofs.NameTests.{has_name-insert}
use Rattle.mk_lines.specs.Names.{HoldsNames, has_name, number_of, with_name}

-- whether a name is among them
pub among : (keys : List (Bor (List ℕ))) (name : List ℕ) (old : List (List ℕ)) → texts keys ≡ old → list_any (λ other. bytes_eq name other.now) keys ≡ has_name old name
among keys name old v = sym (list_any-map (λ (other : List ℕ). bytes_eq name other) (λ (n : Bor (List ℕ)). n.now) keys) ∙ ap (λ names. has_name names name) v

-- the names after an insertion
pub inserted : (keys : List (Bor (List ℕ))) (name : Bor (List ℕ)) (old : List (List ℕ)) (new : List (Bor (List ℕ))) → new ≡ cond (list_any (λ other. bytes_eq name.now other.now) keys) keys (keys ++ name ∷ []) → texts keys ≡ old
    → texts new ≡ with_name old name.now
inserted keys name old new e v =
    ap texts e ∙ (both (list_any (λ other. bytes_eq name.now other.now) keys) ∙ (ap (λ b. cond b (texts keys) (texts keys ++ name.now ∷ [])) (among keys name.now old v) ∙ ap (λ names. cond (has_name old name.now) names (names ++ name.now ∷ [])) v))
  where
    both : (b : Bool) → texts (cond b keys (keys ++ name ∷ [])) ≡ cond b (texts keys) (texts keys ++ name.now ∷ [])
    both true = refl
    both false = map_push (λ (n : Bor (List ℕ)). n.now) keys name

-- a place over what names spell
pub place_map : (p : List ℕ → Bool) (keys : List (Bor (List ℕ))) → position_or_len p (texts keys) ≡ position_or_len (λ key. p key.now) keys
place_map p [] = refl
place_map p (key ∷ keys) = ap (λ n. cond (not (p key.now)) (1 + n) 0) (place_map p keys)

-- where a name is found
pub number_found : (keys : List (Bor (List ℕ))) (name : List ℕ) (i : ℕ) → position (λ key. bytes_eq name key.now) keys ≡ Some i → i ≡ number_of (texts keys) name
number_found keys name i e = sym (place_map (λ other. bytes_eq name other) keys ∙ position-some (λ (key : Bor (List ℕ)). bytes_eq name key.now) keys i e)

-- where it isn't
pub number_missing : (keys : List (Bor (List ℕ))) (name : List ℕ) → position (λ key. bytes_eq name key.now) keys ≡ None → length keys ≡ number_of (texts keys) name
number_missing keys name e =
    let past = position-none (λ (key : Bor (List ℕ)). bytes_eq name key.now) keys e in
    let within = position_or_len-within (λ (key : Bor (List ℕ)). bytes_eq name key.now) keys in
    let same = place_map (λ other. bytes_eq name other) keys in
    omega arith

-- which are there after all were added
after_all : (set names : List (List ℕ)) (other : List ℕ) → has_name (fold with_name set names) other ≡ (has_name set other || has_name names other)
after_all set [] other = sym (or-false (has_name set other))
after_all set (name ∷ names) other =
    after_all (with_name set name) names other
    ∙ (ap (λ b. b || has_name names other) (has_name-insert set name other (has_name set name) refl) ∙ or_assoc (has_name set other) (bytes_eq other name) (has_name names other))

-- a set that was empty
pub all_held : (names : List (List ℕ)) → HoldsNames (fold with_name [] names) names
all_held names = λ other. after_all [] names other
