-- Names without repetition.
use Rattle.std.proofs.Common.{◌≡◌, ℕ, Bool, true, false, cond, ◌+◌, ◌<◌, length, get_or, drop, map, String, string_bytes, List, [], ◌∷◌, ◌++◌, refl, sym, ap, ◌∙◌}
use Rattle.std.specs.Prelude.{fold, ◌==◌}
use Rattle.std.specs.declared.alloc.Global.{Global}
use Rattle.std.proofs.lemmas.List.{drop_more}
use Rattle.mk_lines.proofs.Once.{once-fold, once-fold_append, once-push}
use Rattle.mk_read.specs.Names.{has_name, with_name, once}
use Rattle.mk_read.specs.Special.{listed}

-- a set of names stays one
pub stays_once : (old : List (List ℕ)) (name : List ℕ) → once old ≡ old → once (with_name old name) ≡ with_name old name
stays_once old name h = at (has_name old name) refl
  where
    at : (b : Bool) → has_name old name ≡ b → once (cond b old (old ++ name ∷ [])) ≡ cond b old (old ++ name ∷ [])
    at true e = h
    at false e = once-push old name ∙ (ap (λ set. with_name set name) h ∙ ap (λ b. cond b old (old ++ name ∷ [])) e)

-- one of the names that are left goes in
pub one_in : (old new : List (List ℕ)) (names : List (String Global)) (i : ℕ) (d : String Global) (added : List ℕ) (whole : List (List ℕ)) → added ≡ string_bytes (get_or names i d) → new ≡ with_name old added
    → fold with_name old (map string_bytes (drop i names)) ≡ whole → i < length names → fold with_name new (map string_bytes (drop (i + 1) names)) ≡ whole
one_in old new names i d added whole same e so_far lt =
    ap (λ set. fold with_name set (map string_bytes (drop (i + 1) names))) (e ∙ ap (with_name old) same) ∙ (sym (ap (λ ns. fold with_name old (map string_bytes ns)) (drop_more names i d lt)) ∙ so_far)

-- names that all went into a set
pub all_in : (set names : List (List ℕ)) → once set ≡ set → fold with_name set names ≡ once (set ++ names)
all_in set names h = ap (λ s. fold with_name s names) (sym h ∙ sym (once-fold set)) ∙ once-fold_append set names

-- the suffixes with words behind them
pub listed_all : (all suffixes words : List (List ℕ)) → once suffixes ≡ suffixes → (length words == 0) ≡ false → all ≡ fold with_name suffixes words → all ≡ listed suffixes words
listed_all all suffixes words h some e = e ∙ (all_in suffixes words h ∙ ap (λ b. cond b [] (once (suffixes ++ words))) (sym some))
