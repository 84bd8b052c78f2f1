-- Words joined by one space.
use Rattle.std.proofs.Common.{◌≡◌, ℕ, zero, suc, ◌+◌, ◌<◌, ◌≤◌, Bool, true, false, not, eqb, cond, List, [], ◌∷◌, ◌++◌, map, length, get_or, take, drop, refl, sym, ap, ◌∙◌, arith, append_assoc, length-append, append-nil}
use Rattle.std.specs.Prelude.{filter}
use Rattle.std.specs.Borrow.{Bor}
use Rattle.std.specs.List.{join_with_byte}
use Rattle.std.proofs.lemmas.List.{map-append, map_push, take_more, take_all, take-append-drop}
use Rattle.std.proofs.lemmas.List.Elements.{filter-append}
use Rattle.std.proofs.Math.Dec.{eqb-suc-zero}
use Rattle.mk_lines.specs.Words.{is_word}

-- the list has nothing
abbrev pub is_nil : {A : Type 0} → List A → Bool
is_nil [] = true
is_nil (x ∷ xs) = false

-- one word more
pub joined_push : (ws : List (List ℕ)) (w : List ℕ) → join_with_byte 32 (ws ++ w ∷ []) ≡ join_with_byte 32 ws ++ cond (is_nil ws) w (32 ∷ w)
joined_push [] w = refl
joined_push (x ∷ []) w = refl
joined_push (x ∷ y ∷ ws) w = ap (λ (t : List ℕ). x ++ 32 ∷ t) (joined_push (y ∷ ws) w) ∙ sym (append_assoc x (32 ∷ join_with_byte 32 (y ∷ ws)) (32 ∷ w))

-- more words aren't shorter
joined_longer : (ws vs : List (List ℕ)) → length (join_with_byte 32 ws) ≤ length (join_with_byte 32 (ws ++ vs))
joined_longer [] vs = omega arith
joined_longer (x ∷ []) [] = omega arith
joined_longer (x ∷ []) (v ∷ vs) = omega (arith, length-append x (32 ∷ join_with_byte 32 (v ∷ vs)))
joined_longer (x ∷ y ∷ ws) vs =
    let deeper : length (join_with_byte 32 (y ∷ ws)) ≤ length (join_with_byte 32 (y ∷ (ws ++ vs))) = joined_longer (y ∷ ws) vs in
    omega (arith, length-append x (32 ∷ join_with_byte 32 (y ∷ ws)), length-append x (32 ∷ join_with_byte 32 (y ∷ (ws ++ vs))))

-- nothing before the first, and something before each later one
pub is_nil_take : {A : Type 0} (xs : List A) (i : ℕ) → i ≤ length xs → is_nil (take i xs) ≡ eqb i 0
is_nil_take [] zero h = refl
is_nil_take [] (suc i) h = absurd (omega arith)
is_nil_take (x ∷ xs) zero h = refl
is_nil_take (x ∷ xs) (suc i) h = sym (eqb-suc-zero i)

-- the words of the first parts, as f makes them
abbrev pub so_far : (List ℕ → List ℕ) → List (List ℕ) → ℕ → List ℕ
so_far f parts n = join_with_byte 32 (map f (filter is_word (take n parts)))

-- whether there are none
abbrev pub none_so_far : List (List ℕ) → ℕ → Bool
none_so_far parts n = is_nil (filter is_word (take n parts))

is_nil_map : (f : List ℕ → List ℕ) (ws : List (List ℕ)) → is_nil (map f ws) ≡ is_nil ws
is_nil_map f [] = refl
is_nil_map f (w ∷ ws) = refl

is_nil_push : (ws : List (List ℕ)) (w : List ℕ) → is_nil (ws ++ w ∷ []) ≡ false
is_nil_push [] w = refl
is_nil_push (x ∷ ws) w = refl

-- the words with one part more
words_more : (parts : List (List ℕ)) (n : ℕ) (d : List ℕ) → n < length parts → filter is_word (take (n + 1) parts) ≡ filter is_word (take n parts) ++ filter is_word (get_or parts n d ∷ [])
words_more parts n d lt = ap (filter is_word) (take_more parts n d lt) ∙ filter-append is_word (take n parts) (get_or parts n d ∷ [])

-- a part that is no word
pub words_skip : (parts : List (List ℕ)) (n : ℕ) (d part : List ℕ) → n < length parts → part ≡ get_or parts n d → eqb (length part) 0 ≡ true → filter is_word (take (n + 1) parts) ≡ filter is_word (take n parts)
words_skip parts n d part lt e none =
    let skipped : is_word (get_or parts n d) ≡ false = ap is_word (sym e) ∙ ap not none in
    words_more parts n d lt ∙ (ap (λ b. filter is_word (take n parts) ++ cond b (get_or parts n d ∷ []) []) skipped ∙ append-nil (filter is_word (take n parts)))

-- a word more
pub words_next : (parts : List (List ℕ)) (n : ℕ) (d part : List ℕ) → n < length parts → part ≡ get_or parts n d → eqb (length part) 0 ≡ false → filter is_word (take (n + 1) parts) ≡ filter is_word (take n parts) ++ part ∷ []
words_next parts n d part lt e some =
    let kept : is_word (get_or parts n d) ≡ true = ap is_word (sym e) ∙ ap not some in
    words_more parts n d lt ∙ (ap (λ b. filter is_word (take n parts) ++ cond b (get_or parts n d ∷ []) []) kept ∙ ap (λ (w : List ℕ). filter is_word (take n parts) ++ w ∷ []) (sym e))

-- what is made of a word more
pub so_far_next : (f : List ℕ → List ℕ) (parts : List (List ℕ)) (n : ℕ) (d part : List ℕ) (first : Bool) (front before after : List ℕ) → n < length parts → part ≡ get_or parts n d → eqb (length part) 0 ≡ false → first ≡ none_so_far parts n
    → before ≡ front ++ so_far f parts n → after ≡ before ++ cond first (f part) (32 ∷ f part) → after ≡ front ++ so_far f parts (n + 1)
so_far_next f parts n d part first front before after lt e some one made grown =
    let ws = filter is_word (take n parts) in
    let next : so_far f parts (n + 1) ≡ so_far f parts n ++ cond first (f part) (32 ∷ f part) =
    ap (λ (vs : List (List ℕ)). join_with_byte 32 (map f vs)) (words_next parts n d part lt e some) ∙ (ap (join_with_byte 32) (map_push f ws part) ∙ (joined_push (map f ws) (f part) ∙ ap (λ b. join_with_byte 32 (map f ws) ++ cond b (f part) (32 ∷ f part)) (is_nil_map f ws ∙ sym one))) in
    grown ∙ (ap (λ (t : List ℕ). t ++ cond first (f part) (32 ∷ f part)) made ∙ (append_assoc front (so_far f parts n) (cond first (f part) (32 ∷ f part)) ∙ ap (λ (t : List ℕ). front ++ t) (sym next)))

-- then there is one
pub some_next : (parts : List (List ℕ)) (n : ℕ) (d part : List ℕ) → n < length parts → part ≡ get_or parts n d → eqb (length part) 0 ≡ false → false ≡ none_so_far parts (n + 1)
some_next parts n d part lt e some = sym (ap is_nil (words_next parts n d part lt e some) ∙ is_nil_push (filter is_word (take n parts)) part)

-- what is made of the first parts is no longer than what is made of all
pub so_far_shorter : (f : List ℕ → List ℕ) (parts : List (List ℕ)) (n : ℕ) → length (so_far f parts n) ≤ length (join_with_byte 32 (map f (filter is_word parts)))
so_far_shorter f parts n =
    let whole : map f (filter is_word parts) ≡ map f (filter is_word (take n parts)) ++ map f (filter is_word (drop n parts)) =
    ap (λ (ps : List (List ℕ)). map f (filter is_word ps)) (sym (take-append-drop n parts)) ∙ (ap (map f) (filter-append is_word (take n parts) (drop n parts)) ∙ map-append f (filter is_word (take n parts)) (filter is_word (drop n parts))) in
    let longer = joined_longer (map f (filter is_word (take n parts))) (map f (filter is_word (drop n parts))) in
    let same = ap (λ (ws : List (List ℕ)). length (join_with_byte 32 ws)) whole in
    omega arith

-- at the end
pub so_far_all : (f : List ℕ → List ℕ) (parts : List (List ℕ)) (n : ℕ) → length parts ≤ n → so_far f parts n ≡ join_with_byte 32 (map f (filter is_word parts))
so_far_all f parts n le = ap (λ (ps : List (List ℕ)). join_with_byte 32 (map f (filter is_word ps))) (take_all n parts le)

-- what is made of one name more
pub names_more : (f : List ℕ → List ℕ) (names : List (Bor (List ℕ))) (i : ℕ) (d : Bor (List ℕ)) (word before after : List ℕ) → after ≡ before ++ cond (eqb i 0) word (32 ∷ word) → word ≡ f (get_or names i d).now
    → before ≡ join_with_byte 32 (map f (map (λ (name : Bor (List ℕ)). name.now) (take i names))) → i < length names → after ≡ join_with_byte 32 (map f (map (λ (name : Bor (List ℕ)). name.now) (take (i + 1) names)))
names_more f names i d word before after grown is made lt =
    let texts : List (Bor (List ℕ)) → List (List ℕ) = map (λ (name : Bor (List ℕ)). name.now) in
    let ws = map f (texts (take i names)) in
    let first : is_nil ws ≡ eqb i 0 = is_nil_map f (texts (take i names)) ∙ (is_nil_texts (take i names) ∙ is_nil_take names i (omega arith)) in
    let more : map f (texts (take (i + 1) names)) ≡ ws ++ word ∷ [] =
    ap (λ (ns : List (Bor (List ℕ))). map f (texts ns)) (take_more names i d lt) ∙ (ap (map f) (map_push (λ (name : Bor (List ℕ)). name.now) (take i names) (get_or names i d)) ∙ (map_push f (texts (take i names)) (get_or names i d).now ∙ ap (λ (w : List ℕ). ws ++ w ∷ []) (sym is))) in
    grown ∙ (ap (λ (t : List ℕ). t ++ cond (eqb i 0) word (32 ∷ word)) made ∙ (ap (λ b. join_with_byte 32 ws ++ cond b word (32 ∷ word)) (sym first) ∙ (sym (joined_push ws word) ∙ ap (join_with_byte 32) (sym more))))
  where
    is_nil_texts : (ns : List (Bor (List ℕ))) → is_nil (map (λ (name : Bor (List ℕ)). name.now) ns) ≡ is_nil ns
    is_nil_texts [] = refl
    is_nil_texts (n ∷ ns) = refl
