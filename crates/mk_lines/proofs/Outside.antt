-- The search outside references, without the search's state.
use Rattle.std.proofs.Common.{◌≡◌, ℕ, zero, suc, ◌+◌, ◌<◌, Bool, true, false, ◌&&◌, ◌||◌, cond, eqb, List, [], ◌∷◌, ◌++◌, length, drop, Option, None, Some, refl, sym, ap, ◌∙◌, subst, arith, append_assoc}
use Rattle.std.specs.Option.{option_map}
use Rattle.std.proofs.lemmas.Bool.{eqb-true, ne_eqb, or_from}
use Rattle.std.proofs.lemmas.List.{length-append}
use Rattle.mk_lemmas.proofs.Bools.{or-false_left, or-false_right}
use Rattle.mk_lines.specs.Bytes.{is_byte}
use Rattle.mk_lines.specs.References.{ReferenceState, closes, behind, behind_dollar, next_place, first_from, first_outside, pairs_with_dollar, DollarIsSingle, HasNoneOutside, Nothing, Byte, Dollars, Dollar, Round, Curly, FirstOutside}
use Rattle.mk_lines.specs.Laws.{SearchFindsFirstOutside}
use Rattle.mk_lines.proofs.Found.{moved, moved_zero, found_first, passes_first, found_nil}

abbrev place : List ℕ → Bool → ReferenceState
place ends dollar = record { ends = ends; dollar = dollar }

-- With these references open, bytes that w doesn't want are skipped.
record Fit (w wanted : ℕ → Bool) (ends : List ℕ) : Type 0 where
  stays : (b : ℕ) → w b ≡ false → closes ends b ≡ false
  passes : (b : ℕ) → w b ≡ false → (eqb (length ends) 0 && wanted b) ≡ false
  drawn : (b : ℕ) → pairs_with_dollar b ≡ true → w b ≡ false

fit_outside : (wanted : ℕ → Bool) → ((b : ℕ) → pairs_with_dollar b ≡ true → wanted b ≡ false) → Fit wanted wanted []
fit_outside wanted d = record { stays = λ b h. refl; passes = λ b h. h; drawn = d }

nested : (wanted : ℕ → Bool) (c : ℕ) (ends : List ℕ) (b : ℕ) → (eqb (length (c ∷ ends)) 0 && wanted b) ≡ false
nested wanted c ends b = ap (λ t. t && wanted b) (ne_eqb (length (c ∷ ends)) 0 (λ e. absurd (omega arith)))

undrawn : (c : ℕ) → pairs_with_dollar c ≡ false → (b : ℕ) → pairs_with_dollar b ≡ true → is_byte c b ≡ false
undrawn c d b e = ne_eqb b c (λ q. absurd (let f : pairs_with_dollar c ≡ true = subst (λ x. pairs_with_dollar x ≡ true) q e in cc))

fit_inside : (wanted : ℕ → Bool) (c : ℕ) (ends : List ℕ) → pairs_with_dollar c ≡ false → Fit (is_byte c) wanted (c ∷ ends)
fit_inside wanted c ends d = record { stays = λ b h. h; passes = λ b h. nested wanted c ends b; drawn = undrawn c d }

-- a byte that is neither a dollar nor an end
same_place : (ends : List ℕ) (b : ℕ) → eqb b 36 ≡ false → closes ends b ≡ false → behind ends b ≡ place ends false
same_place ends b n c = ap (λ t. cond t (place ends true) (cond (closes ends b) (place (drop 1 ends) false) (place ends false))) n ∙ ap (λ t. cond t (place (drop 1 ends) false) (place ends false)) c

-- a dollar before a byte that doesn't pair with it is a single dollar
drawn_dollar : (b : ℕ) → pairs_with_dollar b ≡ false → eqb b 36 ≡ false
drawn_dollar b d = or_first (eqb b 36) (eqb b 40 || eqb b 123) d
  where
    or_first : (x y : Bool) → (x || y) ≡ false → x ≡ false
    or_first true y e = absurd cc
    or_first false y e = refl

behind_alone : (ends : List ℕ) (b : ℕ) → pairs_with_dollar b ≡ false → behind_dollar ends b ≡ behind ends b
behind_alone ends b d =
    let rest = or-false_right (eqb b 36) (eqb b 40 || eqb b 123) d in
    ap (λ t. cond t (place ends false) (cond (eqb b 40) (place (41 ∷ ends) false) (cond (eqb b 123) (place (125 ∷ ends) false) (behind ends b)))) (drawn_dollar b d)
    ∙ (ap (λ t. cond t (place (41 ∷ ends) false) (cond (eqb b 123) (place (125 ∷ ends) false) (behind ends b))) (or-false_left (eqb b 40) (eqb b 123) rest)
    ∙ ap (λ t. cond t (place (125 ∷ ends) false) (behind ends b)) (or-false_right (eqb b 40) (eqb b 123) rest))

dollar_alone : (wanted : ℕ → Bool) (ends text : List ℕ) → DollarIsSingle text → first_from wanted (place ends true) text ≡ first_from wanted (place ends false) text
unfolding first_from
dollar_alone wanted ends [] s = refl
dollar_alone wanted ends (b ∷ text) s =
    ap (λ (p : ReferenceState). cond (eqb (length ends) 0 && wanted b) (Some 0) (option_map suc (first_from wanted p text))) (behind_alone ends b s)

alone_append : (text tail : List ℕ) → DollarIsSingle text → DollarIsSingle tail → DollarIsSingle (text ++ tail)
alone_append [] tail s t = t
alone_append (b ∷ text) tail s t = s

suc_moved : (n : ℕ) (o : Option ℕ) → option_map suc (moved n o) ≡ moved (suc n) o
suc_moved n None = refl
suc_moved n (Some k) = ap (λ (x : ℕ). Some x) (omega arith)

round_moved : (i t n : ℕ) (o : Option ℕ) → n ≡ suc (suc (i + suc t)) → option_map suc (option_map suc (moved i (option_map suc (moved t o)))) ≡ moved n o
round_moved i t n None e = refl
round_moved i t n (Some k) e = ap (λ (x : ℕ). Some x) (omega arith)

-- a text without a wanted byte outside references is skipped
skip : {w : ℕ → Bool} {text : List ℕ} → HasNoneOutside w text → (wanted : ℕ → Bool) (ends : List ℕ) → Fit w wanted ends → (tail : List ℕ) → DollarIsSingle tail → first_from wanted (place ends false) (text ++ tail) ≡ moved (length text) (first_from wanted (place ends false) tail)
skip (Nothing w) wanted ends fit tail s = sym (moved_zero (first_from wanted (place ends false) tail))
skip (Byte w b text e n h) wanted ends fit tail s =
    passes_first wanted (place ends false) b (text ++ tail) (fit.passes b e)
    ∙ (ap (λ (p : ReferenceState). option_map suc (first_from wanted p (text ++ tail))) (same_place ends b n (fit.stays b e))
    ∙ (ap (option_map suc) (skip h wanted ends fit tail s) ∙ suc_moved (length text) (first_from wanted (place ends false) tail)))
skip (Dollars w text h) wanted ends fit tail s =
    let pass : (eqb (length ends) 0 && wanted 36) ≡ false = fit.passes 36 (fit.drawn 36 refl) in
    passes_first wanted (place ends false) 36 (36 ∷ (text ++ tail)) pass
    ∙ (ap (option_map suc) (passes_first wanted (place ends true) 36 (text ++ tail) pass ∙ (ap (option_map suc) (skip h wanted ends fit tail s) ∙ suc_moved (length text) (first_from wanted (place ends false) tail)))
    ∙ suc_moved (suc (length text)) (first_from wanted (place ends false) tail))
skip (Dollar w text a h) wanted ends fit tail s =
    let pass : (eqb (length ends) 0 && wanted 36) ≡ false = fit.passes 36 (fit.drawn 36 refl) in
    passes_first wanted (place ends false) 36 (text ++ tail) pass
    ∙ (ap (option_map suc) (dollar_alone wanted ends (text ++ tail) (alone_append text tail a s) ∙ skip h wanted ends fit tail s)
    ∙ suc_moved (length text) (first_from wanted (place ends false) tail))
skip (Round w inside text h g) wanted ends fit tail s =
    passes_first wanted (place ends false) 36 (40 ∷ ((inside ++ 41 ∷ text) ++ tail)) (fit.passes 36 (fit.drawn 36 refl))
    ∙ (ap (option_map suc) (passes_first wanted (place ends true) 40 ((inside ++ 41 ∷ text) ++ tail) (fit.passes 40 (fit.drawn 40 refl)))
    ∙ (ap (λ x. option_map suc (option_map suc (first_from wanted (place (41 ∷ ends) false) x))) (append_assoc inside (41 ∷ text) tail)
    ∙ (ap (λ o. option_map suc (option_map suc o)) (skip h wanted (41 ∷ ends) (fit_inside wanted 41 ends refl) (41 ∷ (text ++ tail)) refl)
    ∙ (ap (λ o. option_map suc (option_map suc (moved (length inside) o))) (passes_first wanted (place (41 ∷ ends) false) 41 (text ++ tail) (nested wanted 41 ends 41))
    ∙ (ap (λ o. option_map suc (option_map suc (moved (length inside) (option_map suc o)))) (skip g wanted ends fit tail s)
    ∙ round_moved (length inside) (length text) (length (36 ∷ 40 ∷ inside ++ 41 ∷ text)) (first_from wanted (place ends false) tail) (omega (arith, length-append inside (41 ∷ text))))))))
skip (Curly w inside text h g) wanted ends fit tail s =
    passes_first wanted (place ends false) 36 (123 ∷ ((inside ++ 125 ∷ text) ++ tail)) (fit.passes 36 (fit.drawn 36 refl))
    ∙ (ap (option_map suc) (passes_first wanted (place ends true) 123 ((inside ++ 125 ∷ text) ++ tail) (fit.passes 123 (fit.drawn 123 refl)))
    ∙ (ap (λ x. option_map suc (option_map suc (first_from wanted (place (125 ∷ ends) false) x))) (append_assoc inside (125 ∷ text) tail)
    ∙ (ap (λ o. option_map suc (option_map suc o)) (skip h wanted (125 ∷ ends) (fit_inside wanted 125 ends refl) (125 ∷ (text ++ tail)) refl)
    ∙ (ap (λ o. option_map suc (option_map suc (moved (length inside) o))) (passes_first wanted (place (125 ∷ ends) false) 125 (text ++ tail) (nested wanted 125 ends 125))
    ∙ (ap (λ o. option_map suc (option_map suc (moved (length inside) (option_map suc o)))) (skip g wanted ends fit tail s)
    ∙ round_moved (length inside) (length text) (length (36 ∷ 123 ∷ inside ++ 125 ∷ text)) (first_from wanted (place ends false) tail) (omega (arith, length-append inside (125 ∷ text))))))))

-- a wanted byte doesn't pair with a dollar
wanted_alone : (t : Bool) (wanted : ℕ → Bool) (b : ℕ) → ((b : ℕ) → pairs_with_dollar b ≡ true → wanted b ≡ false) → wanted b ≡ true → pairs_with_dollar b ≡ t → pairs_with_dollar b ≡ false
wanted_alone true wanted b d e q = let f = d b q in absurd cc
wanted_alone false wanted b d e q = q

here_first : (wanted : ℕ → Bool) (b : ℕ) → wanted b ≡ true → (eqb (length (place [] false).ends) 0 && wanted b) ≡ true
here_first wanted b e = e

found_there : (wanted : ℕ → Bool) → ((b : ℕ) → pairs_with_dollar b ≡ true → wanted b ≡ false) → (text : List ℕ) (k : ℕ) → FirstOutside wanted text k → first_outside wanted text ≡ Some k
found_there wanted d text k f =
    ap (first_outside wanted) f.whole
    ∙ (skip f.none_before wanted [] (fit_outside wanted d) (f.byte ∷ f.after) (wanted_alone (pairs_with_dollar f.byte) wanted f.byte d f.is_wanted refl)
    ∙ (ap (moved (length f.before)) (found_first wanted (place [] false) f.byte f.after (here_first wanted f.byte f.is_wanted))
    ∙ ap (λ (n : ℕ). Some n) (let e : length f.before + 0 ≡ k = omega (arith, f.stands) in e)))

-- What precedes the first byte that w wants, in the text that is searched from here.
record Parsed (w wanted : ℕ → Bool) (ends text : List ℕ) (m : ℕ) : Type 0 where
  inside : List ℕ
  byte : ℕ
  rest : List ℕ
  left : ℕ
  whole : text ≡ inside ++ byte ∷ rest
  hit : w byte ≡ true
  none : HasNoneOutside w inside
  found : first_from wanted (place ends false) (byte ∷ rest) ≡ Some left
  sum : m ≡ length inside + left

-- texts shorter than n are parsed
abbrev Parses : ℕ → Type 0
Parses n = (w wanted : ℕ → Bool) (ends : List ℕ) → Fit w wanted ends → (text : List ℕ) (m : ℕ) → length text < n → first_from wanted (place ends false) text ≡ Some m → Parsed w wanted ends text m

unsuc : (o : Option ℕ) (m : ℕ) → option_map suc o ≡ Some m → (k : ℕ) × (o ≡ Some k) × (m ≡ suc k)
unsuc None m e = absurd cc
unsuc (Some k) m e = (k, refl, (let q : m ≡ suc k = cc in q))

parsed_byte : (w wanted : ℕ → Bool) (ends text : List ℕ) (b m k : ℕ) → w b ≡ false → eqb b 36 ≡ false → m ≡ suc k → Parsed w wanted ends text k → Parsed w wanted ends (b ∷ text) m
parsed_byte w wanted ends text b m k e n q p = record {
  inside = b ∷ p.inside;
  byte = p.byte;
  rest = p.rest;
  left = p.left;
  whole = ap (λ x. b ∷ x) p.whole;
  hit = p.hit;
  none = Byte w b p.inside e n p.none;
  found = p.found;
  sum = omega (arith, q, p.sum);
}

parsed_dollars : (w wanted : ℕ → Bool) (ends text : List ℕ) (m k : ℕ) → m ≡ suc (suc k) → Parsed w wanted ends text k → Parsed w wanted ends (36 ∷ 36 ∷ text) m
parsed_dollars w wanted ends text m k q p = record {
  inside = 36 ∷ 36 ∷ p.inside;
  byte = p.byte;
  rest = p.rest;
  left = p.left;
  whole = ap (λ x. 36 ∷ 36 ∷ x) p.whole;
  hit = p.hit;
  none = Dollars w p.inside p.none;
  found = p.found;
  sum = omega (arith, q, p.sum);
}

alone_inside : (d : ℕ) (text inside : List ℕ) (b : ℕ) (rest : List ℕ) → pairs_with_dollar d ≡ false → d ∷ text ≡ inside ++ b ∷ rest → DollarIsSingle inside
alone_inside d text [] b rest a e = tt
alone_inside d text (x ∷ inside) b rest a e = let same : d ≡ x = cc in subst (λ y. pairs_with_dollar y ≡ false) same a

parsed_dollar : (w wanted : ℕ → Bool) (ends text : List ℕ) (d m k : ℕ) → pairs_with_dollar d ≡ false → m ≡ suc k → Parsed w wanted ends (d ∷ text) k → Parsed w wanted ends (36 ∷ d ∷ text) m
parsed_dollar w wanted ends text d m k a q p = record {
  inside = 36 ∷ p.inside;
  byte = p.byte;
  rest = p.rest;
  left = p.left;
  whole = ap (λ x. 36 ∷ x) p.whole;
  hit = p.hit;
  none = Dollar w p.inside (alone_inside d text p.inside p.byte p.rest a p.whole) p.none;
  found = p.found;
  sum = omega (arith, q, p.sum);
}

-- a reference, whose end stands at the parse of what is inside
round_whole : (o c : ℕ) (text inside rest more : List ℕ) (b : ℕ) (last : List ℕ) → text ≡ inside ++ c ∷ rest → rest ≡ more ++ b ∷ last → 36 ∷ o ∷ text ≡ (36 ∷ o ∷ inside ++ c ∷ more) ++ b ∷ last
round_whole o c text inside rest more b last e f =
    ap (λ x. 36 ∷ o ∷ x) (e ∙ (ap (λ x. inside ++ c ∷ x) f ∙ sym (append_assoc inside (c ∷ more) (b ∷ last))))

-- the search behind the end of a reference
behind_end : (wanted : ℕ → Bool) (c : ℕ) (ends rest : List ℕ) (m : ℕ) → next_place (place (c ∷ ends) false) c ≡ place ends false → first_from wanted (place (c ∷ ends) false) (c ∷ rest) ≡ Some m → (k : ℕ) × (first_from wanted (place ends false) rest ≡ Some k) × (m ≡ suc k)
behind_end wanted c ends rest m n e =
    unsuc (first_from wanted (place ends false) rest) m (sym (passes_first wanted (place (c ∷ ends) false) c rest (nested wanted c ends c) ∙ ap (λ (p : ReferenceState). option_map suc (first_from wanted p rest)) n) ∙ e)

parsed_round : (n : ℕ) → Parses n → (w wanted : ℕ → Bool) (ends : List ℕ) → Fit w wanted ends → (text : List ℕ) (m k : ℕ) → length text < n → m ≡ suc (suc k) → Parsed (is_byte 41) wanted (41 ∷ ends) text k → Parsed w wanted ends (36 ∷ 40 ∷ text) m
parsed_round n go w wanted ends fit text m k lt q p =
    let closing : p.byte ≡ 41 = eqb-true p.byte 41 p.hit in
    let whole : text ≡ p.inside ++ 41 ∷ p.rest = p.whole ∙ ap (λ b. p.inside ++ b ∷ p.rest) closing in
    let u = behind_end wanted 41 ends p.rest p.left refl (sym (ap (λ b. first_from wanted (place (41 ∷ ends) false) (b ∷ p.rest)) closing) ∙ p.found) in
    let short : length p.rest < n = omega (arith, ap length whole, length-append p.inside (41 ∷ p.rest)) in
    let r = go w wanted ends fit p.rest u.0 short u.1 in
    record {
      inside = 36 ∷ 40 ∷ p.inside ++ 41 ∷ r.inside;
      byte = r.byte;
      rest = r.rest;
      left = r.left;
      whole = round_whole 40 41 text p.inside p.rest r.inside r.byte r.rest whole r.whole;
      hit = r.hit;
      none = Round w p.inside r.inside p.none r.none;
      found = r.found;
      sum = omega (arith, q, p.sum, u.2, r.sum, length-append p.inside (41 ∷ r.inside));
    }

parsed_curly : (n : ℕ) → Parses n → (w wanted : ℕ → Bool) (ends : List ℕ) → Fit w wanted ends → (text : List ℕ) (m k : ℕ) → length text < n → m ≡ suc (suc k) → Parsed (is_byte 125) wanted (125 ∷ ends) text k → Parsed w wanted ends (36 ∷ 123 ∷ text) m
parsed_curly n go w wanted ends fit text m k lt q p =
    let closing : p.byte ≡ 125 = eqb-true p.byte 125 p.hit in
    let whole : text ≡ p.inside ++ 125 ∷ p.rest = p.whole ∙ ap (λ b. p.inside ++ b ∷ p.rest) closing in
    let u = behind_end wanted 125 ends p.rest p.left refl (sym (ap (λ b. first_from wanted (place (125 ∷ ends) false) (b ∷ p.rest)) closing) ∙ p.found) in
    let short : length p.rest < n = omega (arith, ap length whole, length-append p.inside (125 ∷ p.rest)) in
    let r = go w wanted ends fit p.rest u.0 short u.1 in
    record {
      inside = 36 ∷ 123 ∷ p.inside ++ 125 ∷ r.inside;
      byte = r.byte;
      rest = r.rest;
      left = r.left;
      whole = round_whole 123 125 text p.inside p.rest r.inside r.byte r.rest whole r.whole;
      hit = r.hit;
      none = Curly w p.inside r.inside p.none r.none;
      found = r.found;
      sum = omega (arith, q, p.sum, u.2, r.sum, length-append p.inside (125 ∷ r.inside));
    }

-- behind a dollar
after_two : (n : ℕ) → Parses n → (w wanted : ℕ → Bool) (ends : List ℕ) → Fit w wanted ends → (text : List ℕ) (m : ℕ) → length text < n → first_from wanted (place ends true) (36 ∷ text) ≡ Some m → Parsed w wanted ends (36 ∷ 36 ∷ text) (suc m)
after_two n go w wanted ends fit text m lt e =
    let u = unsuc (first_from wanted (place ends false) text) m (sym (passes_first wanted (place ends true) 36 text (fit.passes 36 (fit.drawn 36 refl))) ∙ e) in
    parsed_dollars w wanted ends text (suc m) u.0 (ap suc u.2) (go w wanted ends fit text u.0 lt u.1)

after_round : (n : ℕ) → Parses n → (w wanted : ℕ → Bool) (ends : List ℕ) → Fit w wanted ends → (text : List ℕ) (m : ℕ) → length text < n → first_from wanted (place ends true) (40 ∷ text) ≡ Some m → Parsed w wanted ends (36 ∷ 40 ∷ text) (suc m)
after_round n go w wanted ends fit text m lt e =
    let u = unsuc (first_from wanted (place (41 ∷ ends) false) text) m (sym (passes_first wanted (place ends true) 40 text (fit.passes 40 (fit.drawn 40 refl))) ∙ e) in
    parsed_round n go w wanted ends fit text (suc m) u.0 lt (ap suc u.2) (go (is_byte 41) wanted (41 ∷ ends) (fit_inside wanted 41 ends refl) text u.0 lt u.1)

after_curly : (n : ℕ) → Parses n → (w wanted : ℕ → Bool) (ends : List ℕ) → Fit w wanted ends → (text : List ℕ) (m : ℕ) → length text < n → first_from wanted (place ends true) (123 ∷ text) ≡ Some m → Parsed w wanted ends (36 ∷ 123 ∷ text) (suc m)
after_curly n go w wanted ends fit text m lt e =
    let u = unsuc (first_from wanted (place (125 ∷ ends) false) text) m (sym (passes_first wanted (place ends true) 123 text (fit.passes 123 (fit.drawn 123 refl))) ∙ e) in
    parsed_curly n go w wanted ends fit text (suc m) u.0 lt (ap suc u.2) (go (is_byte 125) wanted (125 ∷ ends) (fit_inside wanted 125 ends refl) text u.0 lt u.1)

after_other : (n : ℕ) → Parses n → (w wanted : ℕ → Bool) (ends : List ℕ) → Fit w wanted ends → (d : ℕ) (text : List ℕ) (m : ℕ) → pairs_with_dollar d ≡ false → length (d ∷ text) < n → first_from wanted (place ends true) (d ∷ text) ≡ Some m → Parsed w wanted ends (36 ∷ d ∷ text) (suc m)
after_other n go w wanted ends fit d text m a lt e =
    parsed_dollar w wanted ends text d (suc m) m a refl (go w wanted ends fit (d ∷ text) m lt (sym (dollar_alone wanted ends (d ∷ text) a) ∙ e))

after_dollar : (two round curly : Bool) (n : ℕ) → Parses n → (w wanted : ℕ → Bool) (ends : List ℕ)
    → Fit w wanted ends → (d : ℕ) (text : List ℕ) (m : ℕ) → eqb d 36 ≡ two → eqb d 40 ≡ round → eqb d 123
    ≡ curly → length (d ∷ text) < n → first_from wanted (place ends true) (d ∷ text) ≡ Some m
    → Parsed w wanted ends (36 ∷ d ∷ text) (suc m)
after_dollar true round curly n go w wanted ends fit d text m a b c lt =
    subst (λ x. first_from wanted (place ends true) (x ∷ text) ≡ Some m → Parsed w wanted ends (36 ∷ x ∷ text) (suc m)) (sym (eqb-true d 36 a)) (after_two n go w wanted ends fit text m (omega arith))
after_dollar false true curly n go w wanted ends fit d text m a b c lt =
    subst (λ x. first_from wanted (place ends true) (x ∷ text) ≡ Some m → Parsed w wanted ends (36 ∷ x ∷ text) (suc m)) (sym (eqb-true d 40 b)) (after_round n go w wanted ends fit text m (omega arith))
after_dollar false false true n go w wanted ends fit d text m a b c lt =
    subst (λ x. first_from wanted (place ends true) (x ∷ text) ≡ Some m → Parsed w wanted ends (36 ∷ x ∷ text) (suc m)) (sym (eqb-true d 123 c)) (after_curly n go w wanted ends fit text m (omega arith))
after_dollar false false false n go w wanted ends fit d text m a b c lt =
    after_other n go w wanted ends fit d text m (or_from (eqb d 36) (eqb d 40 || eqb d 123) a (or_from (eqb d 40) (eqb d 123) b c)) lt

dollar_on : (n : ℕ) → Parses n → (w wanted : ℕ → Bool) (ends : List ℕ) → Fit w wanted ends → (text : List ℕ) (m : ℕ) → length text < n → first_from wanted (place ends true) text ≡ Some m → Parsed w wanted ends (36 ∷ text) (suc m)
dollar_on n go w wanted ends fit [] m lt e = absurd (let f : None ≡ Some m = sym (found_nil wanted (place ends true)) ∙ e in cc)
dollar_on n go w wanted ends fit (d ∷ text) m lt e = after_dollar (eqb d 36) (eqb d 40) (eqb d 123) n go w wanted ends fit d text m refl refl refl lt e

parse_dollar : (n : ℕ) → Parses n → (w wanted : ℕ → Bool) (ends : List ℕ) → Fit w wanted ends → (text : List ℕ) (m : ℕ) → length text < n → first_from wanted (place ends false) (36 ∷ text) ≡ Some m → Parsed w wanted ends (36 ∷ text) m
parse_dollar n go w wanted ends fit text m lt e =
    let u = unsuc (first_from wanted (place ends true) text) m (sym (passes_first wanted (place ends false) 36 text (fit.passes 36 (fit.drawn 36 refl))) ∙ e) in
    subst (λ k. Parsed w wanted ends (36 ∷ text) k) (sym u.2) (dollar_on n go w wanted ends fit text u.0 lt u.1)

parse_byte : (hit dollar : Bool) (n : ℕ) → Parses n → (w wanted : ℕ → Bool) (ends : List ℕ) → Fit w wanted ends → (b : ℕ) (text : List ℕ) (m : ℕ) → w b ≡ hit → eqb b 36 ≡ dollar → length text < n → first_from wanted (place ends false) (b ∷ text) ≡ Some m → Parsed w wanted ends (b ∷ text) m
parse_byte true dollar n go w wanted ends fit b text m h d lt e = record { inside = []; byte = b; rest = text; left = m; whole = refl; hit = h; none = Nothing w; found = e; sum = omega arith }
parse_byte false true n go w wanted ends fit b text m h d lt e =
    subst (λ x. first_from wanted (place ends false) (x ∷ text) ≡ Some m → Parsed w wanted ends (x ∷ text) m) (sym (eqb-true b 36 d)) (parse_dollar n go w wanted ends fit text m lt) e
parse_byte false false n go w wanted ends fit b text m h d lt e =
    let u = unsuc (first_from wanted (place ends false) text) m (sym (passes_first wanted (place ends false) b text (fit.passes b h) ∙ ap (λ (p : ReferenceState). option_map suc (first_from wanted p text)) (same_place ends b d (fit.stays b h))) ∙ e) in
    parsed_byte w wanted ends text b m u.0 h d u.2 (go w wanted ends fit text u.0 lt u.1)

parse_any : (n : ℕ) → Parses n → (w wanted : ℕ → Bool) (ends : List ℕ) → Fit w wanted ends → (text : List ℕ) (m : ℕ) → length text < suc n → first_from wanted (place ends false) text ≡ Some m → Parsed w wanted ends text m
parse_any n go w wanted ends fit [] m lt e = absurd (let f : None ≡ Some m = sym (found_nil wanted (place ends false)) ∙ e in cc)
parse_any n go w wanted ends fit (b ∷ text) m lt e = parse_byte (w b) (eqb b 36) n go w wanted ends fit b text m refl refl (omega arith) e

parse : (n : ℕ) → Parses n
parse zero = λ w wanted ends fit text m lt e. absurd (omega arith)
parse (suc n) = parse_any n (parse n)

found_parsed : (wanted : ℕ → Bool) (text : List ℕ) (k : ℕ) → Parsed wanted wanted [] text k → FirstOutside wanted text k
found_parsed wanted text k p =
    let here : first_from wanted (place [] false) (p.byte ∷ p.rest) ≡ Some 0 = found_first wanted (place [] false) p.byte p.rest (here_first wanted p.byte p.hit) in
    let none : p.left ≡ 0 = let f : Some p.left ≡ Some 0 = sym p.found ∙ here in cc in
    record { before = p.inside; byte = p.byte; after = p.rest; whole = p.whole; stands = omega (arith, none, p.sum); is_wanted = p.hit; none_before = p.none }

pub search_finds_first_outside : SearchFindsFirstOutside
search_finds_first_outside wanted d text k =
    (λ e. found_parsed wanted text k (parse (length text + 1) wanted wanted [] (fit_outside wanted d) text k (omega arith) e), found_there wanted d text k)
