-- Inference names: a name is cut where its second dot stands.
use Rattle.std.proofs.Common.{◌≡◌, ℕ, suc, ◌+◌, Bool, true, false, not, ◌==◌, ◌&&◌, ◌||◌, cond, List, [], ◌∷◌, ◌++◌, length, take, drop, inl, inr, ◌⊎◌, refl, sym, ap, ◌∙◌, append-nil, arith}
use Rattle.std.specs.List.{list_all, list_any, position_or_len}
use Rattle.std.specs.Str.{bytes_eq}
use Rattle.std.proofs.lemmas.Bool.{both_ways, eqb-true, false_from_ne_true, and_parts, or_cases}
use Rattle.std.proofs.lemmas.List.{take-append-drop}
use Rattle.std.proofs.lemmas.Slice.Eq.{bytes_eq-Decides}
use Rattle.std.proofs.Math.Seq.{take-append_seam, drop-append_seam}
use mathlib.Core.Bool.{or-true}
use Rattle.mk_lemmas.proofs.Members.{list_all-Has}
use Rattle.mk_lines.proofs.NameTests.{Has-from_has_name, has_name-from_Has}
use Rattle.mk_graph.specs.Membership.{Has}
use Rattle.mk_lines.specs.Bytes.{is_byte}
use Rattle.mk_lines.specs.Names.{HoldsNames}
use Rattle.mk_read.specs.Names.{has_name, is_empty}
use Rattle.mk_read.specs.Special.{is_inference_name, is_suffix, is_suffix_byte}
use Rattle.mk_infer.specs.Table.{is_dotted, second_dot, is_joined}

-- ---- tests over lists

-- one that passes is found
record Passing {A : Type 0} (p : A → Bool) (xs : List A) : Type 0 where
  pub one : A
  pub there : Has xs one
  pub passes : p one ≡ true

passing : {A : Type 0} (p : A → Bool) (xs : List A) → list_any p xs ≡ true → Passing p xs
passing p [] h = absurd cc
passing p (x ∷ xs) h = at (p x) refl h (passing p xs)
  where
    at : (b : Bool) → p x ≡ b → (b || list_any p xs) ≡ true → (list_any p xs ≡ true → Passing p xs) → Passing p (x ∷ xs)
    at true e k ih = record { one = x; there = inl refl; passes = e }
    at false e k ih = let r = ih k in record { one = r.one; there = inr r.there; passes = r.passes }

pub found : {A : Type 0} (p : A → Bool) (xs : List A) (x : A) → Has xs x → p x ≡ true → list_any p xs ≡ true
found p [] x h e = absurd h
found p (y ∷ xs) x (inl same) e = ap (λ b. b || list_any p xs) (ap p same ∙ e)
found p (y ∷ xs) x (inr h) e = ap (λ b. p y || b) (found p xs x h e) ∙ or-true (p y)

pub same_tests : (a b : Bool) → (a ≡ true → b ≡ true) → (b ≡ true → a ≡ true) → a ≡ b
same_tests true b f g = sym (f refl)
same_tests false true f g = g refl
same_tests false false f g = refl

-- ---- suffixes

-- a suffix is a dot and bytes that are none
pub record Dotted (suffix : List ℕ) : Type 0 where
  pub rest : List ℕ
  pub is : suffix ≡ 46 ∷ rest
  pub free : list_all is_suffix_byte rest ≡ true

is_dot : (b : ℕ) (rest : List ℕ) (c : Bool) → (b == 46) ≡ c → (c && (not (is_empty rest) && list_all is_suffix_byte rest)) ≡ true → Dotted (b ∷ rest)
is_dot b rest true e h = record { rest = rest; is = ap (λ (x : ℕ). x ∷ rest) (eqb-true b 46 e); free = (and_parts (not (is_empty rest)) (list_all is_suffix_byte rest) h).1 }
is_dot b rest false e h = absurd cc

pub dotted : (suffix : List ℕ) → is_suffix suffix ≡ true → Dotted suffix
dotted [] h = absurd cc
dotted (b ∷ rest) h = is_dot b rest (b == 46) refl h

-- the first dot behind such bytes
dot_behind : (rest more : List ℕ) → list_all is_suffix_byte rest ≡ true → position_or_len (is_byte 46) (rest ++ 46 ∷ more) ≡ length rest
dot_behind [] more h = refl
dot_behind (b ∷ rest) more h = at (b == 46) refl h (dot_behind rest more)
  where
    at : (c : Bool) → (b == 46) ≡ c → ((not c && not (b == 47)) && list_all is_suffix_byte rest) ≡ true → (list_all is_suffix_byte rest ≡ true → position_or_len (is_byte 46) (rest ++ 46 ∷ more) ≡ length rest)
        → cond (not (b == 46)) (1 + position_or_len (is_byte 46) (rest ++ 46 ∷ more)) 0 ≡ suc (length rest)
    at true e k ih = absurd cc
    at false e k ih =
        let others = (and_parts (not (b == 47)) (list_all is_suffix_byte rest) k).1 in
        let place = ih others in
        rw e (omega arith)

-- two suffixes in a row are cut where the second begins
record Cut (s t : List ℕ) : Type 0 where
  pub front : take (second_dot (s ++ t)) (s ++ t) ≡ s
  pub back : drop (second_dot (s ++ t)) (s ++ t) ≡ t

cut_there : (s t : List ℕ) → is_suffix s ≡ true → is_suffix t ≡ true → Cut s t
cut_there s t h k =
    let p = dotted s h in
    let q = dotted t k in
    let place : second_dot (s ++ t) ≡ length s =
    ap (λ (x : List ℕ). second_dot (x ++ t)) p.is ∙ (ap (λ (x : List ℕ). second_dot ((46 ∷ p.rest) ++ x)) q.is
    ∙ (let at = dot_behind p.rest q.rest p.free in let long : length s ≡ suc (length p.rest) = ap length p.is in omega arith)) in
    record {
      front = ap (λ n. take n (s ++ t)) place ∙ take-append_seam s t;
      back = ap (λ n. drop n (s ++ t)) place ∙ drop-append_seam s t;
    }

-- ---- names

bytes_same : (name : List ℕ) → bytes_eq name name ≡ true
bytes_same name = (bytes_eq-Decides name name).1 refl

module _ (suffixes : List (List ℕ)) where
  joined_is : (name : List ℕ) → is_joined suffixes name ≡ true → is_inference_name suffixes name ≡ true
  joined_is name h = by (or_cases (has_name suffixes name) _ h)
    where
      by : (has_name suffixes name ≡ true) ⊎ ((has_name suffixes (take (second_dot name) name) && has_name suffixes (drop (second_dot name) name)) ≡ true) → is_inference_name suffixes name ≡ true
      by (inl there) = found _ suffixes name (Has-from_has_name suffixes name there) (ap (λ b. b || list_any (λ t. bytes_eq name (name ++ t)) suffixes) (bytes_same name))
      by (inr both) =
          let parts = and_parts (has_name suffixes (take (second_dot name) name)) (has_name suffixes (drop (second_dot name) name)) both in
          let s = take (second_dot name) name in
          let t = drop (second_dot name) name in
          let whole : bytes_eq name (s ++ t) ≡ true = (bytes_eq-Decides name (s ++ t)).1 (sym (take-append-drop (second_dot name) name)) in
          let second : list_any (λ u. bytes_eq name (s ++ u)) suffixes ≡ true = found _ suffixes t (Has-from_has_name suffixes t parts.1) whole in
          found _ suffixes s (Has-from_has_name suffixes s parts.0) (ap (λ b. bytes_eq name s || b) second ∙ or-true (bytes_eq name s))

  is_joined_from : list_all is_suffix suffixes ≡ true → (name : List ℕ) → is_inference_name suffixes name ≡ true → is_joined suffixes name ≡ true
  is_joined_from all name h =
      let first = passing _ suffixes h in
      by first.one first.there (or_cases (bytes_eq name first.one) _ first.passes)
    where
      by : (s : List ℕ) → Has suffixes s → (bytes_eq name s ≡ true) ⊎ (list_any (λ t. bytes_eq name (s ++ t)) suffixes ≡ true) → is_joined suffixes name ≡ true
      by s there (inl e) =
          let same : has_name suffixes name ≡ true = ap (has_name suffixes) ((bytes_eq-Decides name s).0 e) ∙ has_name-from_Has suffixes s there in
          ap (λ b. b || (has_name suffixes (take (second_dot name) name) && has_name suffixes (drop (second_dot name) name))) same
      by s there (inr k) =
          let second = passing _ suffixes k in
          let t = second.one in
          let whole : name ≡ s ++ t = (bytes_eq-Decides name (s ++ t)).0 second.passes in
          let parts = cut_there s t (list_all-Has is_suffix suffixes s all there) (list_all-Has is_suffix suffixes t all second.there) in
          let front : has_name suffixes (take (second_dot (s ++ t)) (s ++ t)) ≡ true = ap (has_name suffixes) parts.front ∙ has_name-from_Has suffixes s there in
          let back : has_name suffixes (drop (second_dot (s ++ t)) (s ++ t)) ≡ true = ap (has_name suffixes) parts.back ∙ has_name-from_Has suffixes t second.there in
          ap (is_joined suffixes) whole ∙ (ap (λ b. has_name suffixes (s ++ t) || (b && has_name suffixes (drop (second_dot (s ++ t)) (s ++ t)))) front
          ∙ (ap (λ b. has_name suffixes (s ++ t) || b) back ∙ or-true (has_name suffixes (s ++ t))))

  joined_same : list_all is_suffix suffixes ≡ true → (name : List ℕ) → is_joined suffixes name ≡ is_inference_name suffixes name
  joined_same all name = same_tests _ _ (joined_is name) (is_joined_from all name)

-- a set of suffixes makes the inference names
pub joined_by : (set suffixes : List (List ℕ)) → list_all is_suffix suffixes ≡ true → HoldsNames set suffixes → (name : List ℕ) → is_joined set name ≡ is_inference_name suffixes name
joined_by set suffixes all holds name =
    ap (λ b. b || (has_name set (take (second_dot name) name) && has_name set (drop (second_dot name) name))) (holds name)
    ∙ (ap (λ b. has_name suffixes name || (b && has_name set (drop (second_dot name) name))) (holds (take (second_dot name) name))
    ∙ (ap (λ b. has_name suffixes name || (has_name suffixes (take (second_dot name) name) && b)) (holds (drop (second_dot name) name))
    ∙ joined_same suffixes all name))

-- ---- names that don't begin with a dot

begins_dotted : (s rest name : List ℕ) → is_suffix s ≡ true → name ≡ s ++ rest → is_dotted name ≡ true
begins_dotted s rest name h e = ap is_dotted (e ∙ ap (λ (x : List ℕ). x ++ rest) (dotted s h).is)

-- an inference name begins with one
inference_dotted : (suffixes : List (List ℕ)) → list_all is_suffix suffixes ≡ true → (name : List ℕ) → is_inference_name suffixes name ≡ true → is_dotted name ≡ true
inference_dotted suffixes all name h =
    let first = passing _ suffixes h in
    by first.one (list_all-Has is_suffix suffixes first.one all first.there) (or_cases (bytes_eq name first.one) _ first.passes)
  where
    by : (s : List ℕ) → is_suffix s ≡ true → (bytes_eq name s ≡ true) ⊎ (list_any (λ t. bytes_eq name (s ++ t)) suffixes ≡ true) → is_dotted name ≡ true
    by s k (inl e) = begins_dotted s [] name k ((bytes_eq-Decides name s).0 e ∙ sym (append-nil s))
    by s k (inr more) =
        let second = passing _ suffixes more in
        begins_dotted s second.one name k ((bytes_eq-Decides name (s ++ second.one)).0 second.passes)

-- another name is none
pub not_inferring : (suffixes : List (List ℕ)) → list_all is_suffix suffixes ≡ true → (name : List ℕ) → is_dotted name ≡ false → is_inference_name suffixes name ≡ false
not_inferring suffixes all name f = false_from_ne_true _ (λ t. both_ways (is_dotted name) f (inference_dotted suffixes all name t))
