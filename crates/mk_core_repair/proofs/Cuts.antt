-- Maps that have just the files with given names.
use Rattle.std.proofs.Common.{◌≡◌, ℕ, true, cond, List, ◌∷◌, Some, None, ap, ◌∙◌}
use Rattle.std.proofs.lemmas.Bool.{cond-true}
use Rattle.mk_lines.specs.Names.{has_name}
use Rattle.mk_read.specs.Files.{Told, text_at}
use Rattle.std.specs.Str.{bytes_eq}
use Rattle.mk_core_repair.specs.Amending.{IsCutTo}

-- a known file has its text
pub cut_at : (names : List (List ℕ)) (files cut : Told) (name : List ℕ) → IsCutTo names files cut → has_name names name ≡ true → text_at cut name ≡ text_at files name
cut_at names files cut name is known = is name ∙ cond-true (has_name names name) (text_at files name) None known

-- so it has where the same file stands before both maps
pub behind_same : (own : List ℕ × List ℕ) (one other : Told) (name : List ℕ) → text_at one name ≡ text_at other name → text_at (own ∷ one) name ≡ text_at (own ∷ other) name
behind_same own one other name e = ap (λ o. cond (bytes_eq own.0 name) (Some own.1) o) e
