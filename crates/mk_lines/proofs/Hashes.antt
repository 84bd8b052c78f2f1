-- Comments and escaped hashes, step by step.
use Rattle.std.proofs.Common.{◌≡◌, ℕ, suc, ◌+◌, ◌-◌, ◌<◌, ◌≤◌, Bool, true, false, not, ◌&&◌, ◌||◌, cond, eqb, List, [], ◌∷◌, ◌++◌, length, get_or, take, drop, None, Some, refl, sym, ap, ◌∙◌, arith, append_assoc}
use Rattle.std.specs.Option.{option_map}
use Rattle.std.proofs.lemmas.List.{drop_all, at_drop_more, take_rest}
use Rattle.mk_lines.specs.Comments.{comment_from, begins_with_hash, unescaped, has_escaped_hash}
use Rattle.mk_lines.proofs.Found.{moved, moved_suc}

-- the comment begins with the first byte of what is left
comment_first : (behind : Bool) (b : ℕ) (text : List ℕ) → (eqb b 35 && not behind) ≡ true → comment_from behind (b ∷ text) ≡ Some 0
unfolding comment_from
comment_first behind b text e = rw e refl

pub comment_here : (behind : Bool) (text : List ℕ) (at : ℕ) → at < length text → (eqb (get_or text at 0) 35 && not behind) ≡ true → moved at (comment_from behind (drop at text)) ≡ Some at
comment_here behind text at lt e =
    at_drop_more (λ rest. moved at (comment_from behind rest)) text at 0 lt ∙ (ap (moved at) (comment_first behind (get_or text at 0) (drop (at + 1) text) e) ∙ ap (λ (n : ℕ). Some n) (omega arith))

-- it begins behind the first byte of what is left
comment_later : (behind : Bool) (b : ℕ) (text : List ℕ) → (eqb b 35 && not behind) ≡ false → comment_from behind (b ∷ text) ≡ option_map suc (comment_from (eqb b 92) text)
unfolding comment_from
comment_later behind b text e = rw e refl

pub comment_more : (behind : Bool) (text : List ℕ) (at : ℕ) → at < length text → (eqb (get_or text at 0) 35 && not behind) ≡ false → moved at (comment_from behind (drop at text)) ≡ moved (at + 1) (comment_from (eqb (get_or text at 0) 92) (drop (at + 1) text))
comment_more behind text at lt e =
    at_drop_more (λ rest. moved at (comment_from behind rest)) text at 0 lt ∙ (ap (moved at) (comment_later behind (get_or text at 0) (drop (at + 1) text) e) ∙ moved_suc at (comment_from (eqb (get_or text at 0) 92) (drop (at + 1) text)))

-- the end of the text
comment_nil : (behind : Bool) → comment_from behind [] ≡ None
unfolding comment_from
comment_nil behind = refl

pub comment_end : (behind : Bool) (text : List ℕ) (at : ℕ) → length text ≤ at → moved at (comment_from behind (drop at text)) ≡ None
comment_end behind text at le = ap (λ rest. moved at (comment_from behind rest)) (drop_all at text le) ∙ ap (moved at) (comment_nil behind)

-- what is left behind the first byte, as a pattern gives it
abbrev pub behind_first : List ℕ → List ℕ
behind_first text = take (length text - 1) (drop 1 text)

abbrev at_escape : List ℕ → List ℕ → Bool
at_escape text rest = eqb (get_or text 0 0) 92 && begins_with_hash rest

-- an escaped hash at the front, or behind the first byte
escaped_hash_step : (text : List ℕ) → 0 < length text → has_escaped_hash text ≡ (at_escape text (drop 1 text) || has_escaped_hash (drop 1 text))
unfolding has_escaped_hash
escaped_hash_step [] lt = absurd (omega arith)
escaped_hash_step (b ∷ text) lt = refl

escaped_hash_at : (text : List ℕ) → 0 < length text → has_escaped_hash text ≡ (at_escape text (behind_first text) || has_escaped_hash (behind_first text))
escaped_hash_at text lt = escaped_hash_step text lt ∙ ap (λ rest. at_escape text rest || has_escaped_hash rest) (sym (take_rest text 1))

pub escaped_hash_here : (text : List ℕ) → 0 < length text → (eqb (get_or text 0 0) 92 && begins_with_hash (behind_first text)) ≡ true → has_escaped_hash text ≡ true
escaped_hash_here text lt e = escaped_hash_at text lt ∙ ap (λ b. b || has_escaped_hash (behind_first text)) e

pub escaped_hash_more : (text : List ℕ) → 0 < length text → (eqb (get_or text 0 0) 92 && begins_with_hash (behind_first text)) ≡ false → has_escaped_hash text ≡ has_escaped_hash (behind_first text)
escaped_hash_more text lt e = escaped_hash_at text lt ∙ ap (λ b. b || has_escaped_hash (behind_first text)) e

pub escaped_hash_nil : (text : List ℕ) → length text < 1 → has_escaped_hash text ≡ false
unfolding has_escaped_hash
escaped_hash_nil [] le = refl
escaped_hash_nil (b ∷ text) le = absurd (omega arith)

-- the first byte is dropped or kept
unescaped_step : (text : List ℕ) → 0 < length text → unescaped text ≡ cond (at_escape text (drop 1 text)) (unescaped (drop 1 text)) (get_or text 0 0 ∷ unescaped (drop 1 text))
unfolding unescaped
unescaped_step [] lt = absurd (omega arith)
unescaped_step (b ∷ text) lt = refl

unescaped_at : (text : List ℕ) → 0 < length text → unescaped text ≡ cond (at_escape text (behind_first text)) (unescaped (behind_first text)) (get_or text 0 0 ∷ unescaped (behind_first text))
unescaped_at text lt = unescaped_step text lt ∙ ap (λ rest. cond (at_escape text rest) (unescaped rest) (get_or text 0 0 ∷ unescaped rest)) (sym (take_rest text 1))

pub unescaped_drops : (text : List ℕ) → 0 < length text → (eqb (get_or text 0 0) 92 && begins_with_hash (behind_first text)) ≡ true → unescaped text ≡ unescaped (behind_first text)
unescaped_drops text lt e = unescaped_at text lt ∙ ap (λ b. cond b (unescaped (behind_first text)) (get_or text 0 0 ∷ unescaped (behind_first text))) e

unescaped_keeps : (text : List ℕ) → 0 < length text → (eqb (get_or text 0 0) 92 && begins_with_hash (behind_first text)) ≡ false → unescaped text ≡ get_or text 0 0 ∷ unescaped (behind_first text)
unescaped_keeps text lt e = unescaped_at text lt ∙ ap (λ b. cond b (unescaped (behind_first text)) (get_or text 0 0 ∷ unescaped (behind_first text))) e

pub unescaped_nil : (text : List ℕ) → length text < 1 → unescaped text ≡ []
unfolding unescaped
unescaped_nil [] le = refl
unescaped_nil (b ∷ text) le = absurd (omega arith)

-- one more byte was added
pub unescaped_more : (into text : List ℕ) → 0 < length text → (eqb (get_or text 0 0) 92 && begins_with_hash (behind_first text)) ≡ false → (into ++ get_or text 0 0 ∷ []) ++ unescaped (behind_first text) ≡ into ++ unescaped text
unescaped_more into text lt e = append_assoc into (get_or text 0 0 ∷ []) (unescaped (behind_first text)) ∙ ap (λ rest. into ++ rest) (sym (unescaped_keeps text lt e))
