-- Lines without `#`.
use Rattle.std.proofs.Common.{◌≡◌, ℕ, suc, Bool, true, false, not, ◌&&◌, ◌||◌, cond, eqb, List, [], ◌∷◌, length, take, drop, None, Some, refl, sym, ap, ◌∙◌}
use Rattle.std.specs.Option.{option_map}
use Rattle.std.specs.List.{list_any}
use Rattle.std.proofs.lemmas.List.{take-append-drop}
use Rattle.std.proofs.lemmas.List.Folds.{list_any-append}
use Rattle.mk_lemmas.proofs.Bools.{or-false_left, or-false_right}
use Rattle.mk_lines.specs.Bytes.{is_byte}
use Rattle.mk_lines.specs.Comments.{unchanged_from, searched_part, comment_from, begins_with_hash, has_escaped_hash}
use Rattle.mk_lines.specs.Laws.{NothingToUncomment}
use Rattle.mk_lines.proofs.Uncommenting.{nothing_changes}

-- a part of a text has no byte that the text doesn't have
pub none_in_front : (p : ℕ → Bool) (n : ℕ) (xs : List ℕ) → list_any p xs ≡ false → list_any p (take n xs) ≡ false
none_in_front p n xs e = or-false_left (list_any p (take n xs)) (list_any p (drop n xs)) (sym (list_any-append p (take n xs) (drop n xs)) ∙ (ap (list_any p) (take-append-drop n xs) ∙ e))

no_comment_in : (behind : Bool) (xs : List ℕ) → list_any (is_byte 35) xs ≡ false → comment_from behind xs ≡ None
unfolding comment_from
no_comment_in behind [] e = refl
no_comment_in behind (b ∷ xs) e =
    ap (λ t. cond (t && not behind) (Some 0) (option_map suc (comment_from (eqb b 92) xs))) (or-false_left (eqb b 35) (list_any (is_byte 35) xs) e)
    ∙ ap (option_map suc) (no_comment_in (eqb b 92) xs (or-false_right (eqb b 35) (list_any (is_byte 35) xs) e))

no_hash_first : (xs : List ℕ) → list_any (is_byte 35) xs ≡ false → begins_with_hash xs ≡ false
no_hash_first [] e = refl
no_hash_first (b ∷ xs) e = or-false_left (eqb b 35) (list_any (is_byte 35) xs) e

nothing_escaped : (a h : Bool) → h ≡ false → ((a && false) || h) ≡ false
nothing_escaped true h e = e
nothing_escaped false h e = e

no_escape_in : (xs : List ℕ) → list_any (is_byte 35) xs ≡ false → has_escaped_hash xs ≡ false
unfolding has_escaped_hash
no_escape_in [] e = refl
no_escape_in (b ∷ xs) e =
    let rest = or-false_right (eqb b 35) (list_any (is_byte 35) xs) e in
    ap (λ t. (eqb b 92 && t) || has_escaped_hash xs) (no_hash_first xs rest) ∙ nothing_escaped (eqb b 92) (has_escaped_hash xs) (no_escape_in xs rest)

pub nothing_to_uncomment : NothingToUncomment
nothing_to_uncomment text e =
    let read : list_any (is_byte 35) (searched_part text) ≡ false = none_in_front (is_byte 35) (unchanged_from text) text e in
    let kept : list_any (is_byte 35) (take (length (searched_part text)) (searched_part text)) ≡ false = none_in_front (is_byte 35) (length (searched_part text)) (searched_part text) read in
    sym (nothing_changes text (searched_part text) None refl (sym (no_comment_in false (searched_part text) read)) refl (no_escape_in (take (length (searched_part text)) (searched_part text)) kept))
