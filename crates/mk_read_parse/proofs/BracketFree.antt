-- Names in a makefile hold no brackets.
use Rattle.std.proofs.Common.{◌≡◌, ℕ, Bool, true, false, not, ◌&&◌, ◌||◌, List, [], ◌∷◌, refl, ap, ◌∙◌}
use Rattle.std.specs.List.{list_any}
use Rattle.std.proofs.lemmas.Bool.{not-true}
use Rattle.mk_lemmas.proofs.Bools.{or-false_left, or-false_right}
use Rattle.mk_read.proofs.RuleBytes.{is_bracket-not_reserved}
use Rattle.mk_lines.specs.Paths.{is_plain_path}
use Rattle.mk_read.specs.Names.{is_reserved, is_bracket, is_make_name}

right_holds : (a b : Bool) → (a && b) ≡ true → b ≡ true
right_holds true b e = e
right_holds false b e = absurd cc

no_brackets : (word : List ℕ) → list_any is_reserved word ≡ false → list_any is_bracket word ≡ false
no_brackets [] e = refl
no_brackets (b ∷ word) e =
    ap (λ t. t || list_any is_bracket word) (is_bracket-not_reserved b (or-false_left (is_reserved b) (list_any is_reserved word) e))
    ∙ no_brackets word (or-false_right (is_reserved b) (list_any is_reserved word) e)

pub name_without_brackets : (word : List ℕ) → is_make_name word ≡ true → list_any is_bracket word ≡ false
unfolding is_make_name
name_without_brackets word e =
    no_brackets word (not-true (list_any is_reserved word) (right_holds (is_plain_path word) (not (list_any is_reserved word)) e))
