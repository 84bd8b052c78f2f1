-- Lists of suffixes.
use Rattle.std.proofs.Common.{◌≡◌, ℕ, Bool, true, false, not, cond, List, [], ◌∷◌, ◌++◌, refl, ◌∙◌}
use Rattle.std.specs.Prelude.{filter}
use Rattle.std.specs.List.{list_all}
use Rattle.std.specs.Str.{bytes_eq}
use Rattle.std.proofs.lemmas.Bool.{and_from, and_parts}
use Rattle.std.proofs.lemmas.List.Folds.{list_all-append}
use Rattle.mk_read.specs.Names.{once}
use Rattle.mk_read.specs.Special.{is_suffix}

-- all words are suffixes
abbrev pub AllSuffixes : List (List ℕ) → Type 0
AllSuffixes words = list_all is_suffix words ≡ true

pub all_filter : (test : List ℕ → Bool) (xs : List (List ℕ)) → AllSuffixes xs → AllSuffixes (filter test xs)
all_filter test [] h = refl
all_filter test (x ∷ xs) h = at (test x) (all_filter test xs (and_parts (is_suffix x) (list_all is_suffix xs) h).1)
  where
    at : (b : Bool) → AllSuffixes (filter test xs) → AllSuffixes (cond b (x ∷ filter test xs) (filter test xs))
    at true k = and_from (is_suffix x) (list_all is_suffix (filter test xs)) (and_parts (is_suffix x) (list_all is_suffix xs) h).0 k
    at false k = k

pub all_once : (xs : List (List ℕ)) → AllSuffixes xs → AllSuffixes (once xs)
all_once [] h = refl
all_once (x ∷ xs) h =
    let p = and_parts (is_suffix x) (list_all is_suffix xs) h in
    and_from (is_suffix x) (list_all is_suffix (filter (λ other. not (bytes_eq x other)) (once xs))) p.0 (all_filter (λ other. not (bytes_eq x other)) (once xs) (all_once xs p.1))

-- suffixes with more behind them, each once
pub all_in_both : (suffixes words : List (List ℕ)) → AllSuffixes suffixes → AllSuffixes words → AllSuffixes (once (suffixes ++ words))
all_in_both suffixes words h k = all_once (suffixes ++ words) (list_all-append is_suffix suffixes words ∙ and_from (list_all is_suffix suffixes) (list_all is_suffix words) h k)
