-- Names that a lookup scans.
use Rattle.std.proofs.Common.{◌≡◌, ℕ, ◌+◌, List, [], ◌∷◌, Some, None, true, false, ap, ◌∙◌}
use Rattle.std.proofs.lemmas.Bool.{cond-true, cond-false}
use Rattle.std.specs.Str.{bytes_eq}
use Rattle.mk_lines.specs.Names.{place_from}
use Rattle.mk_build.specs.Setting.{FileName}

-- a name that is the next one stands there,
pub place_here : (i : ℕ) (names rest : List FileName) (h f : FileName) → names ≡ h ∷ rest → bytes_eq f h ≡ true → place_from i names f ≡ Some i
unfolding place_from
place_here i names rest h f is same = ap (λ (l : List FileName). place_from i l f) is ∙ cond-true (bytes_eq f h) (Some i) (place_from (i + 1) rest f) same

-- another stands behind it,
pub place_later : (i : ℕ) (names rest : List FileName) (h f : FileName) → names ≡ h ∷ rest → bytes_eq f h ≡ false → place_from i names f ≡ place_from (i + 1) rest f
unfolding place_from
place_later i names rest h f is other = ap (λ (l : List FileName). place_from i l f) is ∙ cond-false (bytes_eq f h) (Some i) (place_from (i + 1) rest f) other

-- and none is left at the end
pub place_nowhere : (i : ℕ) (names : List FileName) (f : FileName) → names ≡ [] → place_from i names f ≡ None
unfolding place_from
place_nowhere i names f is = ap (λ (l : List FileName). place_from i l f) is
