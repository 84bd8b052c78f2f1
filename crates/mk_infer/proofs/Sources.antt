-- The suffixes from which inference rules make a name.
use Rattle.std.proofs.Common.{◌≡◌, ℕ, zero, ◌+◌, ◌-◌, ◌<◌, suc, Bool, true, false, not, ◌&&◌, ◌||◌, cond, List, [], ◌∷◌, ◌++◌, Option, Some, None, map, length, get_or, take, drop, inl, inr, refl, sym, ap, subst, ◌∙◌, append_assoc, append-nil, arith}
use Rattle.std.specs.Prelude.{filter, find}
use Rattle.std.specs.Borrow.{Bor}
use Rattle.std.specs.Option.{option_map_or}
use Rattle.std.specs.List.{flat_map, list_all, list_any}
use Rattle.std.specs.Str.{bytes_eq}
use Rattle.std.proofs.lemmas.List.{length-append, map_push, take_more}
use Rattle.std.proofs.lemmas.List.Folds.{list_any-append}
use Rattle.std.proofs.lemmas.Slice.Eq.{bytes_eq-Decides}
use Rattle.std.proofs.Math.Seq.{take-append_seam, drop-append_seam}
use Rattle.mk_graph.specs.Membership.{Has}
use Rattle.mk_read.specs.Names.{has_name}
use Rattle.mk_read.specs.Needs.{commands_in, commands_of, has_commands}
use Rattle.mk_read.specs.Reading.{Makefile}
use Rattle.mk_read.specs.Rules.{gives_commands, has_some}
use Rattle.mk_read.specs.Special.{is_suffix}
use Rattle.mk_read.specs.State.{RuleRead}
use Rattle.mk_infer.specs.Inference.{commands_from, ending, ends_in}
use Rattle.mk_infer.specs.Table.{AreParts, AreSources, HoldsDotted, IsCut, IsEnding, commanded_in, given, is_dotted, sources_by, targets_in}
use Rattle.std.proofs.lemmas.Bool.{both_ways, false_from_ne_true, and_parts}
use mathlib.Core.Bool.{or-false, or_assoc}
use Rattle.mk_lemmas.proofs.Texts.{texts}
use Rattle.mk_lemmas.proofs.Members.{find-Has, list_all-Has}
use Rattle.mk_lines.proofs.NameTests.{has_name-push}
use Rattle.mk_infer.proofs.Members.{find_same}
use Rattle.mk_infer.proofs.InferenceNames.{Dotted, dotted, found as found_any, same_tests}
use Rattle.mk_infer.proofs.LastDots.{IsLastDot, begins, no_dots, one_last}

abbrev Name : Type 0
Name = List ℕ

-- ---- the first of given suffixes

module _ (p : Name → Bool) where
  find_append : (xs ys : List Name) → find p (xs ++ ys) ≡ cond (list_any p xs) (find p xs) (find p ys)
  find_append [] ys = refl
  find_append (x ∷ xs) ys = at (p x) (find_append xs ys)
    where
      at : (b : Bool) → find p (xs ++ ys) ≡ cond (list_any p xs) (find p xs) (find p ys) → cond b (Some x) (find p (xs ++ ys)) ≡ cond (b || list_any p xs) (cond b (Some x) (find p xs)) (find p ys)
      at true e = refl
      at false e = e

  -- a suffix is given where the ending is among its backs
  given_first : (suffix name : Name) (backs rest : List Name) → find p (given suffix name backs ++ rest) ≡ cond (has_name backs name && p suffix) (Some suffix) (find p rest)
  given_first suffix name [] rest = refl
  given_first suffix name (back ∷ backs) rest = at (bytes_eq name back) (given_first suffix name backs rest)
    where
      at : (b : Bool) → find p (given suffix name backs ++ rest) ≡ cond (has_name backs name && p suffix) (Some suffix) (find p rest)
          → find p ((cond b (suffix ∷ []) [] ++ given suffix name backs) ++ rest) ≡ cond ((b || has_name backs name) && p suffix) (Some suffix) (find p rest)
      at false e = e
      at true e = by (p suffix) (has_name backs name) e
        where
          by : (c d : Bool) → find p (given suffix name backs ++ rest) ≡ cond (d && c) (Some suffix) (find p rest) → cond c (Some suffix) (find p (given suffix name backs ++ rest)) ≡ cond c (Some suffix) (find p rest)
          by true d k = refl
          by false true k = k
          by false false k = k

  pub first_source : (backs : Name → List Name) (name : Name) (suffixes : List Name) → find p (sources_by backs name suffixes) ≡ find (λ suffix. has_name (backs suffix) name && p suffix) suffixes
  first_source backs name [] = refl
  first_source backs name (suffix ∷ suffixes) =
      given_first suffix name (backs suffix) (sources_by backs name suffixes)
      ∙ ap (cond (has_name (backs suffix) name && p suffix) (Some suffix)) (first_source backs name suffixes)

-- ---- the table of sources

-- one more text at a key
pub text_more : (old new : List (Bor Name)) (text : Bor Name) (b : Bool) → new ≡ cond b (old ++ text ∷ []) old → texts new ≡ texts old ++ cond b (text.now ∷ []) []
text_more old new text true e = ap texts e ∙ map_push (λ (t : Bor Name). t.now) old text
text_more old new text false e = ap texts e ∙ sym (append-nil (texts old))

flat_push : (f : Name → List Name) (xs : List Name) (x : Name) → flat_map f (xs ++ x ∷ []) ≡ flat_map f xs ++ f x
flat_push f [] x = append-nil (f x)
flat_push f (y ∷ xs) x = ap (λ (zs : List Name). f y ++ zs) (flat_push f xs x) ∙ sym (append_assoc (f y) (flat_map f xs) (f x))

-- one more suffix
pub sources_more : {A : Type 0} (view : A → Name) (backs : Name → List Name) (name : Name) (suffixes : List A) (i : ℕ) (d : A) (before after : List Name) → after ≡ before ++ given (view (get_or suffixes i d)) name (backs (view (get_or suffixes i d)))
    → before ≡ sources_by backs name (map view (take i suffixes)) → i < length suffixes → after ≡ sources_by backs name (map view (take (i + 1) suffixes))
sources_more view backs name suffixes i d before after e h lt =
    let one : Name → List Name = λ suffix. given suffix name (backs suffix) in
    let more : map view (take (i + 1) suffixes) ≡ map view (take i suffixes) ++ view (get_or suffixes i d) ∷ [] = ap (map view) (take_more suffixes i d lt) ∙ map_push view (take i suffixes) (get_or suffixes i d) in
    e ∙ (ap (λ (xs : List Name). xs ++ one (view (get_or suffixes i d))) h ∙ sym (ap (flat_map one) more ∙ flat_push one (map view (take i suffixes)) (view (get_or suffixes i d))))

-- ---- names that begin with a dot

-- a name that doesn't begin with one is none of them
not_dotted : (rest name : Name) → is_dotted name ≡ false → bytes_eq (46 ∷ rest) name ≡ false
not_dotted rest name h = false_from_ne_true _ (λ t. both_ways (is_dotted name) h (ap is_dotted (sym ((bytes_eq-Decides (46 ∷ rest) name).0 t))))

pub skipped_more : {A : Type 0} (view : A → Name) (old new : List Name) (names : List A) (i : ℕ) (d : A) (name : Name) → name ≡ view (get_or names i d) → is_dotted name ≡ false
    → HoldsDotted old (map view (take i names)) new → i < length names → HoldsDotted old (map view (take (i + 1) names)) new
skipped_more view old new names i d name is f h lt rest =
    let more : map view (take (i + 1) names) ≡ map view (take i names) ++ name ∷ [] =
    ap (map view) (take_more names i d lt) ∙ (map_push view (take i names) (get_or names i d) ∙ ap (λ (n : Name). map view (take i names) ++ n ∷ []) (sym is)) in
    let none : has_name (map view (take (i + 1) names)) (46 ∷ rest) ≡ has_name (map view (take i names)) (46 ∷ rest) =
    ap (λ (ns : List Name). has_name ns (46 ∷ rest)) more ∙ (has_name-push (map view (take i names)) name (46 ∷ rest) ∙ (ap (λ b. has_name (map view (take i names)) (46 ∷ rest) || b) (not_dotted rest name f) ∙ or-false _)) in
    h rest ∙ ap (λ b. has_name old (46 ∷ rest) || b) (sym none)

-- ---- names that are cut

-- a suffix has its dot at the front
front_dot : (suffix : Name) → is_suffix suffix ≡ true → IsLastDot suffix 0
front_dot suffix h =
    let d = dotted suffix h in
    let long : length suffix ≡ suc (length d.rest) = ap length d.is in
    record {
      within = omega arith;
      dot = ap (λ (xs : Name). get_or xs 0 0) d.is;
      after = λ i a l e. no_dots d.rest d.free (i - 1) (omega arith) (bytes d.rest i a ∙ (ap (λ (xs : Name). get_or xs i 0) (sym d.is) ∙ e));
    }
  where
    bytes : (rest : Name) (i : ℕ) → 0 < i → get_or rest (i - 1) 0 ≡ get_or (46 ∷ rest) i 0
    bytes rest zero a = absurd (omega arith)
    bytes rest (suc i) a = let same : suc i - 1 ≡ i = omega arith in ap (λ n. get_or rest n 0) same

-- a name with a suffix behind some bytes has its last dot where that begins
suffix_begins : (front back : Name) → 0 < length front → is_suffix back ≡ true → IsLastDot (front ++ back) (length front)
suffix_begins front back some k =
    let whole : length (front ++ back) ≡ length front + length back = length-append front back in
    let before : length (front ++ back) - length back ≡ length front = omega arith in
    let same : drop (length (front ++ back) - length back) (front ++ back) ≡ back = ap (λ n. drop n (front ++ back)) before ∙ drop-append_seam front back in
    subst (IsLastDot (front ++ back)) before (begins (front ++ back) back k (omega arith) same)

-- a name with a last dot behind its front
pub cut_there_is : (name : Name) (place : ℕ) → IsLastDot name place → 0 < place → IsCut name (take place name) (drop place name)
cut_there_is name place last some = λ one other parts e. elim parts [
  | inl p ↦
      let alone : name ≡ one = e ∙ (ap (λ (xs : Name). one ++ xs) p.1 ∙ append-nil one) in
      absurd (let here : place ≡ 0 = one_last one place 0 (subst (λ (n : Name). IsLastDot n place) alone last) (front_dot one p.0) in omega arith)
  | inr p ↦
      let at : place ≡ length one = one_last (one ++ other) place (length one) (subst (λ (n : Name). IsLastDot n place) e last) (suffix_begins one other p.0 p.1) in
      (ap (λ n. take n name) at ∙ (ap (take (length one)) e ∙ take-append_seam one other), ap (λ n. drop n name) at ∙ (ap (drop (length one)) e ∙ drop-append_seam one other))
]

-- a name without one
pub cut_nowhere : (name : Name) → ((place : ℕ) → IsLastDot name place → 0 < place → ⊥) → IsCut name name []
cut_nowhere name none = λ one other parts e. elim parts [
  | inl p ↦ (e ∙ (ap (λ (xs : Name). one ++ xs) p.1 ∙ append-nil one), sym p.1)
  | inr p ↦ absurd (none (length one) (subst (λ (n : Name). IsLastDot n (length one)) (sym e) (suffix_begins one other p.0 p.1)) p.0)
]

-- one more text behind a front
pub one_back : (name : Name) (front back : Bor Name) (suffix end : Name) (old new : List (Bor Name)) → front.now ++ back.now ≡ name → IsCut name front.now back.now → AreParts suffix end
    → new ≡ cond (bytes_eq suffix front.now) (old ++ back ∷ []) old → has_name (texts new) end ≡ (has_name (texts old) end || bytes_eq (suffix ++ end) name)
one_back name front back suffix end old new whole cut h e =
    ap (λ ns. has_name ns end) (text_more old new back (bytes_eq suffix front.now) e)
    ∙ (list_any-append (bytes_eq end) (texts old) (cond (bytes_eq suffix front.now) (back.now ∷ []) []) ∙ ap (λ b. has_name (texts old) end || b) (one (bytes_eq suffix front.now) ∙ same_tests _ _ there here))
  where
    one : (b : Bool) → has_name (cond b (back.now ∷ []) []) end ≡ (b && bytes_eq end back.now)
    one true = or-false (bytes_eq end back.now)
    one false = refl

    there : (bytes_eq suffix front.now && bytes_eq end back.now) ≡ true → bytes_eq (suffix ++ end) name ≡ true
    there t =
        let parts = and_parts (bytes_eq suffix front.now) (bytes_eq end back.now) t in
        (bytes_eq-Decides (suffix ++ end) name).1 (ap (λ (xs : Name). xs ++ end) ((bytes_eq-Decides suffix front.now).0 parts.0) ∙ (ap (λ (xs : Name). front.now ++ xs) ((bytes_eq-Decides end back.now).0 parts.1) ∙ whole))

    here : bytes_eq (suffix ++ end) name ≡ true → (bytes_eq suffix front.now && bytes_eq end back.now) ≡ true
    here t =
        let parts = cut suffix end h (sym ((bytes_eq-Decides (suffix ++ end) name).0 t)) in
        ap (λ b. b && bytes_eq end back.now) ((bytes_eq-Decides suffix front.now).1 (sym parts.0)) ∙ (bytes_eq-Decides end back.now).1 (sym parts.1)

-- one more name, cut in two
pub back_more : (names : List (Bor Name)) (i : ℕ) (d front back : Bor Name) (suffix end : Name) (old new : List (Bor Name)) → front.now ++ back.now ≡ (get_or names i d).now → IsCut (get_or names i d).now front.now back.now → AreParts suffix end
    → new ≡ cond (bytes_eq suffix front.now) (old ++ back ∷ []) old → has_name (texts old) end ≡ has_name (texts (take i names)) (suffix ++ end) → i < length names → has_name (texts new) end ≡ has_name (texts (take (i + 1) names)) (suffix ++ end)
back_more names i d front back suffix end old new whole cut h e so_far lt =
    let name = (get_or names i d).now in
    let more : texts (take (i + 1) names) ≡ texts (take i names) ++ name ∷ [] =
    ap texts (take_more names i d lt) ∙ map_push (λ (t : Bor Name). t.now) (take i names) (get_or names i d) in
    one_back name front back suffix end old new whole cut h e
    ∙ (ap (λ b. b || bytes_eq (suffix ++ end) name) so_far ∙ sym (ap (λ ns. has_name ns (suffix ++ end)) more ∙ has_name-push (texts (take i names)) name (suffix ++ end)))

-- one more name among those behind whose fronts something stands
pub back_added : {A : Type 0} (view : A → Name) (names : List A) (i : ℕ) (d : A) (name whole : Name) (had before after : Bool) → name ≡ view (get_or names i d) → after ≡ (before || bytes_eq whole name)
    → before ≡ (had || has_name (map view (take i names)) whole) → i < length names → after ≡ (had || has_name (map view (take (i + 1) names)) whole)
back_added view names i d name whole had before after is e so_far lt =
    let more : map view (take (i + 1) names) ≡ map view (take i names) ++ name ∷ [] =
    ap (map view) (take_more names i d lt) ∙ (map_push view (take i names) (get_or names i d) ∙ ap (λ (n : Name). map view (take i names) ++ n ∷ []) (sym is)) in
    e ∙ (ap (λ b. b || bytes_eq whole name) so_far ∙ (or_assoc had (has_name (map view (take i names)) whole) (bytes_eq whole name)
    ∙ ap (λ b. had || b) (sym (ap (λ ns. has_name ns whole) more ∙ has_name-push (map view (take i names)) name whole))))

-- a name that isn't cut has no suffix behind some bytes
pub not_behind : (name front back suffix end : Name) → IsCut name front back → back ≡ [] → 0 < length suffix → is_suffix end ≡ true → bytes_eq (suffix ++ end) name ≡ false
not_behind name front back suffix end cut none some is = false_from_ne_true _ (λ t.
    let parts = cut suffix end (inr (some, is)) (sym ((bytes_eq-Decides (suffix ++ end) name).0 t)) in
    both_ways (is_suffix end) (ap is_suffix (sym parts.1 ∙ none)) is)

-- ---- what the table says

-- a name has commands where it is the target of a rule line that has any
commanded_named : (rules : List RuleRead) (name : Name) → list_any (has_commands name) rules ≡ has_name (commanded_in rules) name
commanded_named [] name = refl
commanded_named (rule ∷ rules) name = at (has_some rule.commands) (commanded_named rules name)
  where
    at : (b : Bool) → list_any (has_commands name) rules ≡ has_name (commanded_in rules) name
        → ((b && has_name rule.targets name) || list_any (has_commands name) rules) ≡ has_name (targets_in (cond b (rule ∷ filter (λ (r : RuleRead). has_some r.commands) rules) (filter (λ (r : RuleRead). has_some r.commands) rules))) name
    at true e = ap (λ b. has_name rule.targets name || b) e ∙ sym (list_any-append (bytes_eq name) rule.targets (commanded_in rules))
    at false e = e

module _ (name : Name) where
  some_found : (rules : List RuleRead) → has_some (find (has_commands name) rules) ≡ list_any (has_commands name) rules
  some_found [] = refl
  some_found (rule ∷ rules) = at (has_commands name rule) (some_found rules)
    where
      at : (b : Bool) → has_some (find (has_commands name) rules) ≡ list_any (has_commands name) rules → has_some (cond b (Some rule) (find (has_commands name) rules)) ≡ (b || list_any (has_commands name) rules)
      at true e = refl
      at false e = e

  -- what gives commands has some
  gives_has : (rule : RuleRead) → gives_commands name rule ≡ true → has_commands name rule ≡ true
  gives_has rule t = (and_parts (not rule.default) (has_some rule.commands && has_name rule.targets name) t).1

  commands_some : (rules : List RuleRead) → has_some (commands_of rules name) ≡ list_any (has_commands name) rules
  commands_some rules = by (find (gives_commands name) rules) (find (has_commands name) rules) refl refl
    where
      listed : (rule : RuleRead) → Has rules rule → has_commands name rule ≡ true → list_any (has_commands name) rules ≡ true
      listed rule there t = found_any (has_commands name) rules rule there t

      by : (own any : Option RuleRead) → find (gives_commands name) rules ≡ own → find (has_commands name) rules ≡ any → has_some (commands_in own any) ≡ list_any (has_commands name) rules
      by (Some rule) any is its =
          let r = find-Has (gives_commands name) rules rule is in
          let t = gives_has rule r.1 in
          (and_parts (has_some rule.commands) (has_name rule.targets name) t).0 ∙ sym (listed rule r.0 t)
      by None (Some rule) is its =
          let r = find-Has (has_commands name) rules rule its in
          (and_parts (has_some rule.commands) (has_name rule.targets name) r.1).0 ∙ sym (listed rule r.0 r.1)
      by None None is its = sym (sym (some_found rules) ∙ ap has_some its)

-- what a name ends in is a suffix, or nothing
ends_well : (m : Makefile) → list_all is_suffix m.suffixes ≡ true → (name : Name) → IsEnding (ending m name)
ends_well m all name = by (find (ends_in name) m.suffixes) refl
  where
    by : (known : Option Name) → find (ends_in name) m.suffixes ≡ known → IsEnding (option_map_or (λ suffix. suffix) known [])
    by None is = inl refl
    by (Some suffix) is = inr (list_all-Has is_suffix m.suffixes suffix all (find-Has (ends_in name) m.suffixes suffix is).0)

module _ (m : Makefile) (all : list_all is_suffix m.suffixes ≡ true) (commanded : List Name) (held : HoldsDotted [] (commanded_in m.rules) commanded)
    (backs : Name → List Name) (cut : (suffix end : Name) → AreParts suffix end → has_name (backs suffix) end ≡ has_name commanded (suffix ++ end)) where
  has_rule : (name suffix : Name) → Has m.suffixes suffix → has_name (backs suffix) (ending m name) ≡ has_some (commands_from m name suffix)
  has_rule name suffix there =
      let is = list_all-Has is_suffix m.suffixes suffix all there in
      let d = dotted suffix is in
      let end = ending m name in
      let known : has_name commanded (suffix ++ end) ≡ has_name (commanded_in m.rules) (suffix ++ end) =
      ap (λ (s : Name). has_name commanded (s ++ end)) d.is ∙ (held (d.rest ++ end) ∙ sym (ap (λ (s : Name). has_name (commanded_in m.rules) (s ++ end)) d.is)) in
      cut suffix end (parts suffix end is d (ends_well m all name)) ∙ (known ∙ sym (commands_some (suffix ++ end) m.rules ∙ commanded_named m.rules (suffix ++ end)))
    where
      parts : (suffix end : Name) → is_suffix suffix ≡ true → (d : Dotted suffix) → IsEnding end → AreParts suffix end
      parts suffix end is d (inl none) = inl (is, none)
      parts suffix end is d (inr k) = let long : length suffix ≡ suc (length d.rest) = ap length d.is in inr (omega arith, k)

  pub are_sources : (sources : Name → List Name) → ((name : Name) → sources name ≡ sources_by backs name m.suffixes) → (name : Name) → AreSources m name (sources (ending m name))
  are_sources sources are name p =
      ap (find p) (are (ending m name)) ∙ (first_source p backs (ending m name) m.suffixes
      ∙ find_same (λ suffix. has_name (backs suffix) (ending m name) && p suffix) (λ suffix. has_some (commands_from m name suffix) && p suffix) m.suffixes (λ suffix there. ap (λ b. b && p suffix) (has_rule name suffix there)))
