-- A text cut at its first `$`, and the parts of a reference.
use Rattle.std.proofs.Common.{◌≡◌, ℕ, suc, ◌+◌, ◌<◌, Bool, true, false, not, cond, List, [], ◌∷◌, ◌++◌, length, get_or, take, drop, Option, None, Some, Ok, Err, refl, sym, ap, subst, ◌∙◌, inl, inr, arith, length-take, get_or-take}
use Rattle.std.proofs.Math.Seq.{drop-cons}
use Rattle.std.proofs.lemmas.Bool.{cases_Bool, eqb-true}
use Rattle.std.proofs.lemmas.List.{take-append-drop}
use Rattle.std.proofs.lemmas.List.Sums.{fails_before_first}
use Rattle.std.proofs.lemmas.List.Folds.{list_any_none}
use Rattle.std.proofs.lemmas.List.Elements.{All-from_get_or}
use Rattle.std.specs.Prelude.{unwrap_or}
use Rattle.std.specs.List.{list_any, position_or_len}
use Rattle.mk_lines.specs.Bytes.{is_byte}
use Rattle.mk_lines.specs.References.{first_outside}
use Rattle.mk_macros.specs.declared.fault.MacroFault.TheVariants.{BadMacroName}
use Rattle.mk_macros.specs.Forms.{IsCut, split_at_colon, parts_round, round}

-- no byte before the first that passes does
none_before : (p : ℕ → Bool) (xs : List ℕ) → list_any p (take (position_or_len p xs) xs) ≡ false
none_before p xs =
    let n = position_or_len p xs in
    list_any_none p (take n xs) (All-from_get_or (λ x. p x ≡ false) (take n xs) 0 (λ k lt.
    let low : k < n = omega (arith, length-take n xs) in
    rw get_or-take (fails_before_first p xs k 0 low)))

-- the first that passes does
first_passes : (p : ℕ → Bool) (xs : List ℕ) → position_or_len p xs < length xs → p (get_or xs (position_or_len p xs) 0) ≡ true
first_passes p [] lt = absurd (omega arith)
first_passes p (x ∷ xs) lt =
    elim (cases_Bool (p x)) [
      | inl e ↦
          let n : position_or_len p (x ∷ xs) ≡ 0 = ap (λ b. cond (not b) (1 + position_or_len p xs) 0) e in
          subst (λ m. p (get_or (x ∷ xs) m 0) ≡ true) (sym n) e
      | inr e ↦
          let n : position_or_len p (x ∷ xs) ≡ 1 + position_or_len p xs = ap (λ b. cond (not b) (1 + position_or_len p xs) 0) e in
          let m : 1 + position_or_len p xs ≡ suc (position_or_len p xs) = omega arith in
          subst (λ m. p (get_or (x ∷ xs) m 0) ≡ true) (sym (n ∙ m)) (first_passes p xs (omega arith))
    ]

-- without a `$`
pub cut_nowhere : (text : List ℕ) (at : ℕ) → at ≡ position_or_len (is_byte 36) text → at ≡ length text → IsCut text text None
cut_nowhere text at e all =
    let whole : take (position_or_len (is_byte 36) text) text ≡ text = subst (λ n. take n text ≡ text) (sym all ∙ e) (take_whole text) in
    (refl, subst (λ t. list_any (is_byte 36) t ≡ false) whole (none_before (is_byte 36) text))
  where
    take_whole : (xs : List ℕ) → take (length xs) xs ≡ xs
    take_whole [] = refl
    take_whole (x ∷ xs) = ap (λ t. x ∷ t) (take_whole xs)

-- at the first `$`
pub cut_found : (text run behind : List ℕ) (at : ℕ) → at ≡ position_or_len (is_byte 36) text → at < length text → run ≡ take at text → behind ≡ drop (suc at) text → IsCut text run (Some behind)
cut_found text run behind at e lt before after =
    let low : position_or_len (is_byte 36) text < length text = subst (λ n. n < length text) e lt in
    let dollar : get_or text at 0 ≡ 36 = subst (λ n. get_or text n 0 ≡ 36) (sym e) (eqb-true _ 36 (first_passes (is_byte 36) text low)) in
    let rest : drop at text ≡ 36 ∷ behind = drop-cons text at 0 lt ∙ (ap (λ b. b ∷ drop (suc at) text) dollar ∙ ap (λ t. 36 ∷ t) (sym after)) in
    let whole : text ≡ run ++ 36 ∷ behind = sym (take-append-drop at text) ∙ (ap (λ t. t ++ drop at text) (sym before) ∙ ap (λ t. run ++ t) rest) in
    (whole, subst (λ t. list_any (is_byte 36) t ≡ false) (ap (λ n. take n text) (sym e) ∙ sym before) (none_before (is_byte 36) text))

-- nothing wanted stands outside
pub no_colon : (inside : List ℕ) (o : Option ℕ) → None ≡ round inside o → split_at_colon inside o ≡ Ok (record { name = inside; ends = None })
no_colon inside None e = refl
no_colon inside (Some at) e = cc

lone : (name rest : List ℕ) (o : Option ℕ) → None ≡ round rest o → parts_round name rest o ≡ Err BadMacroName
lone name rest None e = refl
lone name rest (Some at) e = cc

pub no_equals : (inside : List ℕ) (o : Option ℕ) (name rest : List ℕ) → Some (name, rest) ≡ round inside o → None ≡ round rest (first_outside (is_byte 61) rest) → split_at_colon inside o ≡ Err BadMacroName
no_equals inside None name rest e f = cc
no_equals inside (Some at) name rest e f =
    let r : rest ≡ drop (suc at) inside = ap (λ (o : Option (List ℕ × List ℕ)). (unwrap_or o (name, rest)).1) e in
    subst (λ t. parts_round (take at inside) t (first_outside (is_byte 61) t) ≡ Err BadMacroName) r (lone (take at inside) rest (first_outside (is_byte 61) rest) f)

parted : (name rest old new : List ℕ) (o : Option ℕ) → Some (old, new) ≡ round rest o → parts_round name rest o ≡ Ok (record { name = name; ends = Some (old, new) })
parted name rest old new None e = cc
parted name rest old new (Some at) e = ap (λ (ends : Option (List ℕ × List ℕ)). Ok (record { name = name; ends = ends })) (sym e)

pub with_both : (inside : List ℕ) (o : Option ℕ) (name rest old new : List ℕ) → Some (name, rest) ≡ round inside o → Some (old, new) ≡ round rest (first_outside (is_byte 61) rest)
    → split_at_colon inside o ≡ Ok (record { name = name; ends = Some (old, new) })
with_both inside None name rest old new e f = cc
with_both inside (Some at) name rest old new e f =
    let r : rest ≡ drop (suc at) inside = ap (λ (o : Option (List ℕ × List ℕ)). (unwrap_or o (name, rest)).1) e in
    let n : name ≡ take at inside = ap (λ (o : Option (List ℕ × List ℕ)). (unwrap_or o (name, rest)).0) e in
    subst (λ t. parts_round (take at inside) t (first_outside (is_byte 61) t) ≡ Ok (record { name = name; ends = Some (old, new) })) r
    (subst (λ m. parts_round m rest (first_outside (is_byte 61) rest) ≡ Ok (record { name = name; ends = Some (old, new) })) n (parted name rest old new (first_outside (is_byte 61) rest) f))
