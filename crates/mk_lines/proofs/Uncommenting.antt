-- What is left of a line without its comment.
use Rattle.std.proofs.Common.{◌≡◌, ℕ, ◌<◌, ◌≤◌, Bool, true, false, ◌&&◌, ◌||◌, cond, eqb, List, [], ◌∷◌, ◌++◌, length, take, Option, None, Some, refl, sym, ap, ◌∙◌, arith, unwrap_or, subst}
use Rattle.std.specs.Prelude.{is_some, IfSome}
use Rattle.std.proofs.lemmas.List.{take_all, take-append-drop}
use Rattle.mk_lines.specs.Comments.{or_length, unchanged_from, searched_part, without_comment, unchanged_part, comment_at, begins_with_hash, unescaped, has_escaped_hash, uncomment}

pub or_length_is : (text : List ℕ) (o : Option ℕ) → unwrap_or o (length text) ≡ or_length text o
or_length_is text None = refl
or_length_is text (Some at) = refl

pub unwrapped_within : (n : ℕ) (o : Option ℕ) → IfSome o (λ at. at < n) → unwrap_or o n ≤ n
unwrapped_within n None h = omega arith
unwrapped_within n (Some at) h = omega arith

-- without an escaped hash nothing changes
unescaped_keeps_all : (escape : Bool) (b : ℕ) (text : List ℕ) → (escape || has_escaped_hash text) ≡ false → (has_escaped_hash text ≡ false → unescaped text ≡ text) → cond escape (unescaped text) (b ∷ unescaped text) ≡ b ∷ text
unescaped_keeps_all true b text e h = absurd cc
unescaped_keeps_all false b text e h = ap (λ rest. b ∷ rest) (h e)

pub unescaped_same : (text : List ℕ) → has_escaped_hash text ≡ false → unescaped text ≡ text
unfolding unescaped has_escaped_hash
unescaped_same [] e = refl
unescaped_same (b ∷ text) e = unescaped_keeps_all (eqb b 92 && begins_with_hash text) b text e (λ h. unescaped_same text h)

-- what is left, by where the comment begins
abbrev parted : List ℕ → Option ℕ → List ℕ
parted text None = unescaped (take (length (searched_part text)) (searched_part text)) ++ unchanged_part text
parted text (Some at) = unescaped (take at (searched_part text))

parted_is : (text : List ℕ) (o : Option ℕ) → comment_at (searched_part text) ≡ o → uncomment text ≡ parted text o
unfolding uncomment
parted_is text None e = ap (λ o. without_comment text o) e ∙ ap (λ o. unescaped (take (or_length (searched_part text) o) (searched_part text)) ++ unchanged_part text) e
parted_is text (Some at) e = ap (λ o. without_comment text o) e ∙ ap (λ o. unescaped (take (or_length (searched_part text) o) (searched_part text))) e

-- the part that is kept of what is read
abbrev kept_of : List ℕ → Option ℕ → List ℕ
kept_of read o = take (unwrap_or o (length read)) read

-- with a comment
some_comment : (text : List ℕ) (o : Option ℕ) → o ≡ comment_at (searched_part text) → is_some o ≡ true → unescaped (kept_of (searched_part text) o) ≡ uncomment text
some_comment text None e t = absurd cc
some_comment text (Some at) e t = sym (parted_is text (Some at) (sym e))

pub with_comment : (text read : List ℕ) (o : Option ℕ) → read ≡ searched_part text → o ≡ comment_at read → is_some o ≡ true → unescaped (take (unwrap_or o (length read)) read) ≡ uncomment text
with_comment text read o r e t = subst (λ x. unescaped (kept_of x o) ≡ uncomment text) (sym r) (some_comment text o (e ∙ ap comment_at r) t)

-- without one
no_comment : (text : List ℕ) (o : Option ℕ) → o ≡ comment_at (searched_part text) → is_some o ≡ false → unescaped (kept_of (searched_part text) o) ++ unchanged_part text ≡ uncomment text
no_comment text None e t = sym (parted_is text None (sym e))
no_comment text (Some at) e t = absurd cc

pub with_no_comment : (text read : List ℕ) (o : Option ℕ) → read ≡ searched_part text → o ≡ comment_at read → is_some o ≡ false → unescaped (take (unwrap_or o (length read)) read) ++ unchanged_part text ≡ uncomment text
with_no_comment text read o r e t = subst (λ x. unescaped (kept_of x o) ++ unchanged_part text ≡ uncomment text) (sym r) (no_comment text o (e ∙ ap comment_at r) t)

-- the whole text, where there is neither
nothing_cut : (read : List ℕ) (o : Option ℕ) → is_some o ≡ false → kept_of read o ≡ read
nothing_cut read None t = take_all (length read) read (omega arith)
nothing_cut read (Some at) t = absurd cc

pub nothing_changes : (text read : List ℕ) (o : Option ℕ) → read ≡ searched_part text → o ≡ comment_at read → is_some o ≡ false → has_escaped_hash (take (unwrap_or o (length read)) read) ≡ false → text ≡ uncomment text
nothing_changes text read o r e t h =
    let whole : unescaped (kept_of read o) ≡ searched_part text = unescaped_same (kept_of read o) h ∙ (nothing_cut read o t ∙ r) in
    sym (take-append-drop (unchanged_from text) text) ∙ (ap (λ part. part ++ unchanged_part text) (sym whole) ∙ with_no_comment text read o r e t)
