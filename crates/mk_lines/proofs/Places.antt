-- Places of names.
use Rattle.std.proofs.Common.{◌-◌, ◌≡◌, ℕ, suc, ◌+◌, ◌<◌, ◌≤◌, Bool, true, false, ◌||◌, cond, List, [], ◌∷◌, ◌++◌, length, Option, Some, None, refl, sym, ap, ◌∙◌, arith, true≢false, map, get_or, take, String, Global, string_bytes, length-take-le}
use Rattle.std.proofs.lemmas.Slice.Eq.{bytes_eq-Decides}
use Rattle.std.proofs.lemmas.List.{take_more, map_push, length-map}
use Rattle.std.specs.Prelude.{is_some, IfSome}
use Rattle.std.specs.Str.{bytes_eq}
use Rattle.std.specs.HashMap.{HashMap, get_by_text}
use Rattle.std.specs.Map.{lookup}
use Rattle.mk_lemmas.proofs.Texts.{bytes_eq-sym}
use Rattle.mk_lines.specs.Names.{has_name, place_from, else_last}
use Rattle.mk_lines.specs.Places.{place_in}

placed_or : (b : Bool) (n : ℕ) (o : Option ℕ) (there : Bool) → is_some o ≡ there → is_some (cond b (Some n) o) ≡ (b || there)
placed_or true n o there e = refl
placed_or false n o there e = e

-- a name has a place where it is there
pub is_placed : (n : ℕ) (names : List (List ℕ)) (name : List ℕ) → is_some (place_from n names name) ≡ has_name names name
unfolding place_from
is_placed n [] name = refl
is_placed n (other ∷ names) name = placed_or (bytes_eq name other) n _ _ (is_placed (n + 1) names name)

below_or : (b : Bool) (n m : ℕ) (o : Option ℕ) → n < m → IfSome o (λ p. p < m) → IfSome (cond b (Some n) o) (λ p. p < m)
below_or true n m o lt h = lt
below_or false n m o lt h = h

widened : (o : Option ℕ) (m k : ℕ) → m ≤ k → IfSome o (λ p. p < m) → IfSome o (λ p. p < k)
widened None m k le h = tt
widened (Some p) m k le h = omega arith

-- within the list
pub place_within : (n : ℕ) (names : List (List ℕ)) (name : List ℕ) → IfSome (place_from n names name) (λ p. p < n + length names)
unfolding place_from
place_within n [] name = tt
place_within n (other ∷ names) name = below_or (bytes_eq name other) n _ _ (omega arith) (widened (place_from (n + 1) names name) (n + 1 + length names) (n + suc (length names)) (omega arith) (place_within (n + 1) names name))

-- one more at the end has a place there, unless it had one before
pub else_or : (b : Bool) (n m : ℕ) (o new : Option ℕ) (last : Bool) → new ≡ else_last o last m → cond b (Some n) new ≡ else_last (cond b (Some n) o) last m
else_or true n m o new last e = refl
else_or false n m o new last e = e

pub place_push : (n : ℕ) (names : List (List ℕ)) (more name : List ℕ) → place_from n (names ++ more ∷ []) name ≡ else_last (place_from n names name) (bytes_eq name more) (n + length names)
unfolding place_from
place_push n [] more name = ap (λ m. cond (bytes_eq name more) (Some m) None) (omega arith)
place_push n (other ∷ names) more name =
    let at : n + 1 + length names ≡ n + suc (length names) = omega arith in
    else_or (bytes_eq name other) n _ _ _ _ (place_push (n + 1) names more name ∙ ap (else_last (place_from (n + 1) names name) (bytes_eq name more)) at)

-- a name that has a place keeps it
kept : (o : Option ℕ) (b : Bool) (n : ℕ) → (b ≡ true → is_some o ≡ true) → o ≡ else_last o b n
kept (Some p) b n h = refl
kept None true n h = absurd (true≢false (sym (h refl)))
kept None false n h = refl

-- one without gets this one
placed : (o : Option ℕ) (b : Bool) (n : ℕ) → (b ≡ true → is_some o ≡ false) → cond b (Some n) o ≡ else_last o b n
placed (Some p) true n h = absurd (true≢false (h refl))
placed (Some p) false n h = refl
placed None true n h = refl
placed None false n h = refl

-- the same of all names, where it is known of one
pub keeps_place : (place : List ℕ → Option ℕ) (name q : List ℕ) (n : ℕ) → is_some (place name) ≡ true → place q ≡ else_last (place q) (bytes_eq q name) n
keeps_place place name q n h = kept (place q) (bytes_eq q name) n (λ t. ap (λ x. is_some (place x)) ((bytes_eq-Decides q name).0 t) ∙ h)

pub gets_place : (place : List ℕ → Option ℕ) (name q : List ℕ) (n : ℕ) → is_some (place name) ≡ false → cond (bytes_eq name q) (Some n) (place q) ≡ else_last (place q) (bytes_eq q name) n
gets_place place name q n h = ap (λ b. cond b (Some n) (place q)) (bytes_eq-sym name q) ∙ placed (place q) (bytes_eq q name) n (λ t. ap (λ x. is_some (place x)) ((bytes_eq-Decides q name).0 t) ∙ h)

-- one more of the names is noted
pub next_place : (before after : Option ℕ) (names : List (String Global)) (i : ℕ) (d : String Global) (name q : List ℕ) → name ≡ string_bytes (get_or names i d) → after ≡ else_last before (bytes_eq q name) i
    → before ≡ place_from 0 (map string_bytes (take i names)) q → i < length names → after ≡ place_from 0 (map string_bytes (take (i + 1) names)) q
next_place before after names i d name q is noted so_far lt =
    let more : map string_bytes (take (i + 1) names) ≡ map string_bytes (take i names) ++ string_bytes (get_or names i d) ∷ [] = ap (map string_bytes) (take_more names i d lt) ∙ map_push string_bytes (take i names) (get_or names i d) in
    let count : 0 + length (map string_bytes (take i names)) ≡ i = omega (arith, length-map (take i names) string_bytes, length-take-le i names) in
    noted ∙ (ap (λ o. else_last o (bytes_eq q name) i) so_far ∙ (ap (λ n. else_last (place_from 0 (map string_bytes (take i names)) q) (bytes_eq q n) i) is
    ∙ sym (ap (λ ns. place_from 0 ns q) more ∙ (place_push 0 (map string_bytes (take i names)) (string_bytes (get_or names i d)) q ∙ ap (else_last (place_from 0 (map string_bytes (take i names)) q) (bytes_eq q (string_bytes (get_or names i d)))) count))))

-- no name has a place among none
pub none_in : (name : List ℕ) → place_in [] name ≡ place_from 0 [] name
unfolding place_from place_in
none_in name = refl

-- the name stands at its place
named_from : (n : ℕ) (names : List (List ℕ)) (name : List ℕ) (place : ℕ) (d : List ℕ) → place_from n names name ≡ Some place → (n ≤ place) × (get_or names (place - n) d ≡ name)
unfolding place_from
named_from n [] name place d h = absurd cc
named_from n (other ∷ names) name place d h = at (bytes_eq name other) refl h (named_from (n + 1) names name place d)
  where
    at : (b : Bool) → bytes_eq name other ≡ b → cond b (Some n) (place_from (n + 1) names name) ≡ Some place → (place_from (n + 1) names name ≡ Some place → (n + 1 ≤ place) × (get_or names (place - (n + 1)) d ≡ name)) → (n ≤ place) × (get_or (other ∷ names) (place - n) d ≡ name)
    at true e k ih =
        let here : n ≡ place = cc in
        let none : place - n ≡ 0 = omega arith in
        (omega arith, ap (λ i. get_or (other ∷ names) i d) none ∙ sym ((bytes_eq-Decides name other).0 e))
    at false e k ih =
        let deeper = ih k in
        let le = deeper.0 in
        let more : place - n ≡ suc (place - (n + 1)) = omega arith in
        (omega arith, ap (λ i. get_or (other ∷ names) i d) more ∙ deeper.1)

pub named_at : (names : List (List ℕ)) (name : List ℕ) (place : ℕ) (d : List ℕ) → place_from 0 names name ≡ Some place → get_or names place d ≡ name
named_at names name place d h =
    let same : place - 0 ≡ place = omega arith in
    ap (λ i. get_or names i d) (sym same) ∙ (named_from 0 names name place d h).1

-- what a map keeps is what is seen of it
pub seen_in : {S : Type 0} (m : HashMap (String Global) ℕ S) (name : List ℕ) → place_in (map (λ entry. (string_bytes entry.0, entry.1)) m.entries) name ≡ get_by_text m name
unfolding place_in
seen_in m name = all_seen m.entries
  where
    all_seen : (entries : List (String Global × ℕ)) → place_in (map (λ entry. (string_bytes entry.0, entry.1)) entries) name ≡ lookup (λ key. bytes_eq name (string_bytes key)) entries
    all_seen [] = refl
    all_seen (entry ∷ entries) = ap (λ o. cond (bytes_eq name (string_bytes entry.0)) (Some entry.1) o) (all_seen entries)

-- the same after a name was noted
pub noted_in : {S : Type 0} (before after : HashMap (String Global) ℕ S) (seen : List (List ℕ × ℕ)) (name other : List ℕ) (place : ℕ) → map (λ entry. (string_bytes entry.0, entry.1)) before.entries ≡ seen
    → get_by_text after other ≡ else_last (get_by_text before other) (bytes_eq other name) place → place_in (map (λ entry. (string_bytes entry.0, entry.1)) after.entries) other ≡ else_last (place_in seen other) (bytes_eq other name) place
noted_in before after seen name other place is noted =
    seen_in after other ∙ (noted ∙ ap (λ o. else_last o (bytes_eq other name) place) (sym (seen_in before other) ∙ ap (λ v. place_in v other) is))
