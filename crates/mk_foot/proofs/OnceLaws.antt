-- Names that are kept once are the same names, each once.
use Rattle.std.proofs.Common.{◌≡◌, ℕ, Bool, true, false, not, ◌||◌, ◌&&◌, cond, List, [], ◌∷◌, ◌++◌, refl, sym, ap, ◌∙◌}
use Rattle.std.specs.Prelude.{filter}
use Rattle.std.specs.Str.{bytes_eq}
use Rattle.std.proofs.lemmas.Bool.{false≢true}
use Rattle.std.proofs.lemmas.Slice.Eq.{bytes_eq-Decides}
use Rattle.mk_lemmas.proofs.Texts.{bytes_eq-sym}
use Rattle.mk_lines.proofs.Once.{once-push}
use Rattle.mk_foot.specs.Names.{has_name, once}
use Rattle.mk_foot.specs.Laws.{EachOnce, OnceKeepsFirst}

-- the others of a list
abbrev others : List ℕ → List (List ℕ) → List (List ℕ)
others name names = filter (λ other. not (bytes_eq name other)) names

-- whether a name is among the others
among_step : (q x : List ℕ) (name : List ℕ) (same : Bool) → bytes_eq name x ≡ same → (later whole : Bool) → later ≡ (not (bytes_eq name q) && whole) → (drops : List (List ℕ)) → has_name drops q ≡ later
    → has_name (cond (not same) (x ∷ drops) drops) q ≡ (not (bytes_eq name q) && (bytes_eq q x || whole))
among_step q x name true e later whole h drops d =
    let is : bytes_eq q x ≡ bytes_eq name q = ap (bytes_eq q) (sym ((bytes_eq-Decides name x).0 e)) ∙ bytes_eq-sym q name in
    d ∙ (h ∙ (split (bytes_eq name q) whole ∙ ap (λ b. not (bytes_eq name q) && (b || whole)) (sym is)))
  where
    split : (a w : Bool) → (not a && w) ≡ (not a && (a || w))
    split true w = refl
    split false w = refl
among_step q x name false e later whole h drops d = ap (λ b. bytes_eq q x || b) (d ∙ h) ∙ tied (bytes_eq q x) refl
  where
    tied : (b : Bool) → bytes_eq q x ≡ b → (b || (not (bytes_eq name q) && whole)) ≡ (not (bytes_eq name q) && (b || whole))
    tied true t =
        let apart : bytes_eq name q ≡ false = ap (bytes_eq name) ((bytes_eq-Decides q x).0 t) ∙ e in
        sym (rw apart refl)
    tied false t = refl

has_others : (name q : List ℕ) (names : List (List ℕ)) → has_name (others name names) q ≡ (not (bytes_eq name q) && has_name names q)
has_others name q [] = sym (and_false (not (bytes_eq name q)))
  where
    and_false : (b : Bool) → (b && false) ≡ false
    and_false true = refl
    and_false false = refl
has_others name q (x ∷ names) = among_step q x name (bytes_eq name x) refl (has_name (others name names) q) (has_name names q) (has_others name q names) (others name names) refl

pub has_once : (names : List (List ℕ)) (q : List ℕ) → has_name (once names) q ≡ has_name names q
has_once [] q = refl
has_once (name ∷ names) q =
    ap (λ b. bytes_eq q name || b) (has_others name q (once names) ∙ ap (λ b. not (bytes_eq name q) && b) (has_once names q))
    ∙ (ap (λ b. bytes_eq q name || (not b && has_name names q)) (bytes_eq-sym name q) ∙ absorbed (bytes_eq q name) (has_name names q))
  where
    absorbed : (a b : Bool) → (a || (not a && b)) ≡ (a || b)
    absorbed true b = refl
    absorbed false b = refl

-- what is dropped leaves each of the others once
once_of_others : (name : List ℕ) (names : List (List ℕ)) → EachOnce names → EachOnce (others name names)
once_of_others name [] h = tt
once_of_others name (x ∷ names) h = at (bytes_eq name x) (once_of_others name names h.1)
  where
    kept : has_name (others name names) x ≡ false
    kept = has_others name x names ∙ (ap (λ b. not (bytes_eq name x) && b) h.0 ∙ and_false (not (bytes_eq name x)))
      where
        and_false : (b : Bool) → (b && false) ≡ false
        and_false true = refl
        and_false false = refl

    at : (b : Bool) → EachOnce (others name names) → EachOnce (cond (not b) (x ∷ others name names) (others name names))
    at true rest = rest
    at false rest = (kept, rest)

each_once : (names : List (List ℕ)) → EachOnce (once names)
each_once [] = tt
each_once (name ∷ names) = (apart (bytes_eq name name) ((bytes_eq-Decides name name).1 refl), once_of_others name (once names) (each_once names))
  where
    apart : (b : Bool) → b ≡ true → has_name (others name (once names)) name ≡ false
    apart b t = has_others name name (once names) ∙ ap (λ c. not c && has_name (once names) name) ((bytes_eq-Decides name name).1 refl)

pub once_keeps_first : OnceKeepsFirst
once_keeps_first names = record {
  same = has_once names;
  apart = each_once names;
  order = λ name. once-push names name ∙ ap (λ b. cond b (once names) (once names ++ name ∷ [])) (has_once names name);
}

-- names that differ from the first are all kept
none_dropped : (name : List ℕ) (names : List (List ℕ)) → has_name names name ≡ false → others name names ≡ names
none_dropped name [] h = refl
none_dropped name (x ∷ names) h = by (bytes_eq name x) h (none_dropped name names)
  where
    by : (b : Bool) → (b || has_name names name) ≡ false → (has_name names name ≡ false → others name names ≡ names) → cond (not b) (x ∷ others name names) (others name names) ≡ x ∷ names
    by true e rest = absurd (false≢true (sym e))
    by false e rest = ap (λ ns. x ∷ ns) (rest e)

-- names without repeats stay as they are
once_same : (names : List (List ℕ)) → EachOnce names → once names ≡ names
once_same [] h = refl
once_same (name ∷ names) h =
    ap (λ ns. name ∷ others name ns) (once_same names h.1) ∙ ap (λ ns. name ∷ ns) (none_dropped name names h.0)

-- so dropping repeats twice is dropping them once
pub once_again : (names : List (List ℕ)) → once (once names) ≡ once names
once_again names = once_same (once names) (each_once names)
