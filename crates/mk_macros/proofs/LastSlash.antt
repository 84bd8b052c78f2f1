-- What stands before and behind the last slash of a name.
use Rattle.std.proofs.Common.{◌≡◌, ℕ, suc, ◌+◌, ◌-◌, ◌<◌, ◌≤◌, Bool, true, false, not, eqb, cond, List, [], ◌∷◌, ◌++◌, length, get_or, take, drop, refl, sym, ap, ◌∙◌, arith, append_assoc, length-append, subst}
use Rattle.std.specs.List.{slice_split, onto_first, position_or_len, before_first, after_first, join_with_byte}
use Rattle.std.specs.Str.{bytes_eq}
use Rattle.std.proofs.lemmas.List.Splits.{slice_split_first, join_with_byte-slice_split}
use Rattle.std.proofs.lemmas.List.{take-append-le, take_all}
use Rattle.std.proofs.lemmas.Bool.{ne_eqb}
use Rattle.mk_lines.specs.Bytes.{is_byte}
use Rattle.mk_macros.specs.Locals.{last_of, but_last, directory_of, directory, file}

-- a text cut at a byte has a first part
record FirstPart (parts : List (List ℕ)) : Type 0 where
  pub first : List ℕ
  pub others : List (List ℕ)
  pub is : parts ≡ first ∷ others

first_part : (p : ℕ → Bool) (text : List ℕ) → FirstPart (slice_split p text)
first_part p [] = record { first = []; others = []; is = refl }
first_part p (b ∷ text) = at (p b) (slice_split p text)
  where
    at : (c : Bool) (parts : List (List ℕ)) → FirstPart (cond c ([] ∷ parts) (onto_first b parts))
    at true parts = record { first = []; others = parts; is = refl }
    at false [] = record { first = b ∷ []; others = []; is = refl }
    at false (part ∷ parts) = record { first = b ∷ part; others = parts; is = refl }

-- the last of several parts is the last of those behind the first
last_later : (x y : List ℕ) (ys : List (List ℕ)) → last_of (x ∷ y ∷ ys) ≡ last_of (y ∷ ys)
last_later x y ys =
    let long : length (x ∷ y ∷ ys) - 1 ≡ suc (length ys) = omega arith in
    let short : length (y ∷ ys) - 1 ≡ length ys = omega arith in
    ap (λ n. get_or (x ∷ y ∷ ys) n []) long ∙ ap (λ n. get_or (y ∷ ys) n []) (sym short)

-- and all but the last are the first, and all but the last of those
but_last_later : (x y : List ℕ) (ys : List (List ℕ)) → but_last (x ∷ y ∷ ys) ≡ x ∷ but_last (y ∷ ys)
but_last_later x y ys =
    let long : length (x ∷ y ∷ ys) - 1 ≡ suc (length ys) = omega arith in
    let short : length (y ∷ ys) - 1 ≡ length ys = omega arith in
    ap (λ n. take n (x ∷ y ∷ ys)) long ∙ ap (λ n. x ∷ take n (y ∷ ys)) (sym short)

-- no slash: one part
one_part : (p : ℕ → Bool) (text : List ℕ) → position_or_len p text ≡ length text → slice_split p text ≡ text ∷ []
one_part p [] h = refl
one_part p (b ∷ text) h = at (p b) h (one_part p text)
  where
    at : (c : Bool) → cond (not c) (1 + position_or_len p text) 0 ≡ suc (length text) → (position_or_len p text ≡ length text → slice_split p text ≡ text ∷ []) → cond c ([] ∷ slice_split p text) (onto_first b (slice_split p text)) ≡ (b ∷ text) ∷ []
    at true k ih = absurd (omega arith)
    at false k ih = let e : position_or_len p text ≡ length text = omega arith in ap (onto_first b) (ih e)

-- behind a slash the last part is the same
pub file_step : (name rest : List ℕ) (at : ℕ) → at ≡ position_or_len (is_byte 47) rest → at < length rest → file rest ≡ file name → file (drop (at + 1) rest) ≡ file name
file_step name rest at e lt so_far =
    let cut = slice_split_first (is_byte 47) rest 0 (subst (λ n. n < length rest) e lt) in
    let next = first_part (is_byte 47) (after_first (is_byte 47) rest) in
    let later : last_of (before_first (is_byte 47) rest ∷ slice_split (is_byte 47) (after_first (is_byte 47) rest)) ≡ last_of (slice_split (is_byte 47) (after_first (is_byte 47) rest)) =
    ap (λ (ps : List (List ℕ)). last_of (before_first (is_byte 47) rest ∷ ps)) next.is ∙ (last_later (before_first (is_byte 47) rest) next.first next.others ∙ ap last_of (sym next.is)) in
    ap (λ n. file (drop (n + 1) rest)) e ∙ (sym later ∙ (ap last_of (sym cut) ∙ so_far))

-- without one it is what is left
pub file_end : (name rest : List ℕ) → length rest ≡ position_or_len (is_byte 47) rest → file rest ≡ file name → rest ≡ file name
file_end name rest e so_far = sym (ap last_of (one_part (is_byte 47) rest (sym e))) ∙ so_far

-- several parts joined are all but the last, joined, a slash and the last
round_last : (x y : List ℕ) (ys : List (List ℕ)) → join_with_byte 47 (x ∷ y ∷ ys) ≡ join_with_byte 47 (but_last (x ∷ y ∷ ys)) ++ 47 ∷ last_of (x ∷ y ∷ ys)
round_last x y [] = refl
round_last x y (z ∷ zs) =
    let ih : join_with_byte 47 (y ∷ z ∷ zs) ≡ join_with_byte 47 (but_last (y ∷ z ∷ zs)) ++ 47 ∷ last_of (y ∷ z ∷ zs) = round_last y z zs in
    let fronts : join_with_byte 47 (but_last (x ∷ y ∷ z ∷ zs)) ≡ x ++ 47 ∷ join_with_byte 47 (but_last (y ∷ z ∷ zs)) =
    ap (join_with_byte 47) (but_last_later x y (z ∷ zs)) ∙ (ap (λ (ps : List (List ℕ)). join_with_byte 47 (x ∷ ps)) (but_last_later y z zs) ∙ ap (λ (ps : List (List ℕ)). x ++ 47 ∷ join_with_byte 47 ps) (sym (but_last_later y z zs))) in
    ap (λ (t : List ℕ). x ++ 47 ∷ t) ih
    ∙ (sym (append_assoc x (47 ∷ join_with_byte 47 (but_last (y ∷ z ∷ zs))) (47 ∷ last_of (y ∷ z ∷ zs))) ∙ (ap (λ (t : List ℕ). t ++ 47 ∷ last_of (y ∷ z ∷ zs)) (sym fronts) ∙ ap (λ (t : List ℕ). join_with_byte 47 (but_last (x ∷ y ∷ z ∷ zs)) ++ 47 ∷ t) (sym (last_later x y (z ∷ zs)))))

-- the directory, by how much of the name stands before its last part
pub record Standing (name : List ℕ) (parts : List (List ℕ)) : Type 0 where
  pub none : length name - length (last_of parts) ≡ 0 → 46 ∷ [] ≡ directory_of parts
  pub root : length name - length (last_of parts) ≡ 1 → 47 ∷ [] ≡ directory_of parts
  pub some : (start : ℕ) → start ≡ length name - length (last_of parts) → 1 < start → take (start - 1) name ≡ directory_of parts
  pub shorter : length (last_of parts) ≤ length name

standing : (name : List ℕ) (parts : List (List ℕ)) → FirstPart parts → join_with_byte 47 parts ≡ name → Standing name parts
standing name parts f e = subst (λ (ps : List (List ℕ)). Standing name ps) (sym f.is) (at f.first f.others (ap (join_with_byte 47) (sym f.is) ∙ e))
  where
    at : (x : List ℕ) (xs : List (List ℕ)) → join_with_byte 47 (x ∷ xs) ≡ name → Standing name (x ∷ xs)
    at x [] k =
        let same : length x ≡ length name = ap length k in
        record {
          none = λ h. refl;
          root = λ h. absurd (omega arith);
          some = λ start is above. absurd (omega arith);
          shorter = omega arith;
        }
    at x (y ∷ ys) k =
        let before = join_with_byte 47 (but_last (x ∷ y ∷ ys)) in
        let last = last_of (x ∷ y ∷ ys) in
        let whole : name ≡ before ++ 47 ∷ last = sym k ∙ round_last x y ys in
        let sizes : length name ≡ length before + suc (length last) = ap length whole ∙ length-append before (47 ∷ last) in
        let many : eqb (length (x ∷ y ∷ ys)) 1 ≡ false = ne_eqb (length (x ∷ y ∷ ys)) 1 (λ k. absurd (omega arith)) in
        let made : cond (bytes_eq before []) (47 ∷ []) before ≡ directory_of (x ∷ y ∷ ys) = ap (λ b. cond b (46 ∷ []) (cond (bytes_eq before []) (47 ∷ []) before)) (sym many) in
        record {
          none = λ h. absurd (omega arith);
          root = λ h. let empty : length before ≡ 0 = omega arith in at_root before empty ∙ made;
          some = λ start is above. let more : start - 1 ≡ length before = omega arith in let filled : 0 < length before = omega arith in
              ap (λ n. take n name) more ∙ (ap (take (length before)) whole ∙ (take-append-le (length before) before (47 ∷ last) (omega arith) ∙ (take_all (length before) before (omega arith) ∙ (at_some before filled ∙ made))));
          shorter = omega arith;
        }
      where
        at_root : (t : List ℕ) → length t ≡ 0 → 47 ∷ [] ≡ cond (bytes_eq t []) (47 ∷ []) t
        at_root [] h = refl
        at_root (b ∷ t) h = absurd (omega arith)

        at_some : (t : List ℕ) → 0 < length t → t ≡ cond (bytes_eq t []) (47 ∷ []) t
        at_some [] h = absurd (omega arith)
        at_some (b ∷ t) h = refl

pub stands : (name : List ℕ) → Standing name (slice_split (is_byte 47) name)
stands name = standing name (slice_split (is_byte 47) name) (first_part (is_byte 47) name) (join_with_byte-slice_split 47 name)

pub no_directory : (name : List ℕ) → length name - length (file name) ≡ 0 → 46 ∷ [] ≡ directory name
no_directory name h = (stands name).none h

pub root_directory : (name : List ℕ) → length name - length (file name) ≡ 1 → 47 ∷ [] ≡ directory name
root_directory name h = (stands name).root h

pub some_directory : (name : List ℕ) (start : ℕ) → start ≡ length name - length (file name) → 1 < start → take (start - 1) name ≡ directory name
some_directory name start e h = (stands name).some start e h

pub file_shorter : (name : List ℕ) → length (file name) ≤ length name
file_shorter name = (stands name).shorter
