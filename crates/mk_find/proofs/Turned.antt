-- Paths from their start on, and ways, which have the last step first.
use Rattle.std.proofs.Common.{◌≡◌, ℕ, List, [], ◌∷◌, ◌++◌, length, reverse, refl, sym, ◌∙◌, ap, subst, arith}
use Rattle.std.proofs.lemmas.List.{length-append}
use mathlib.Core.List.{reverse-cons}
use Rattle.mk_graph.specs.Graph.{Graph}
use Rattle.mk_graph.specs.Membership.{Has}
use Rattle.mk_build.specs.Setting.{Setting}
use Rattle.mk_build.specs.Ways.{Carries}
use Rattle.mk_graph_search.specs.Ways.{end, IsWay}
use Rattle.mk_subject.specs.Paths.{AreCarried, last_of}

-- a list with one more behind it isn't empty
pub some_behind : (xs : List ℕ) (n : ℕ) → ¬ (xs ++ n ∷ [] ≡ [])
some_behind [] n e = absurd (cc)
some_behind (x ∷ xs) n e = absurd (cc)

-- what is empty turned round is empty
pub none_turned : (way : List ℕ) → reverse way ≡ [] → way ≡ []
none_turned [] e = refl
none_turned (n ∷ way) e = absurd (some_behind (reverse way) n (sym (reverse-cons n way) ∙ e))

-- turned round twice
pub turned_twice : (way : List ℕ) → reverse (reverse way) ≡ way
turned_twice way = reverse_reverse way
  where
    onto : (xs : List ℕ) (n : ℕ) → reverse (xs ++ n ∷ []) ≡ n ∷ reverse xs
    onto [] n = refl
    onto (x ∷ xs) n = reverse-cons x (xs ++ n ∷ []) ∙ (ap (λ (l : List ℕ). l ++ x ∷ []) (onto xs n) ∙ ap (λ (l : List ℕ). n ∷ l) (sym (reverse-cons x xs)))

    reverse_reverse : (xs : List ℕ) → reverse (reverse xs) ≡ xs
    reverse_reverse [] = refl
    reverse_reverse (x ∷ xs) = ap reverse (reverse-cons x xs) ∙ (onto (reverse xs) x ∙ ap (λ (l : List ℕ). x ∷ l) (reverse_reverse xs))

-- it is as long
pub length_turned : (way : List ℕ) → length (reverse way) ≡ length way
length_turned [] = refl
length_turned (n ∷ way) =
    let rest = length_turned way in
    let long : length (reverse (n ∷ way)) ≡ length (reverse way ++ n ∷ []) = ap length (reverse-cons n way) in
    let more = length-append (reverse way) (n ∷ []) in
    omega arith

module _ (g : Graph) (s : Setting) where
  -- the last of more
  last_more : (t : ℕ) (others : List ℕ) (n : ℕ) → last_of t (others ++ n ∷ []) ≡ n
  last_more t [] n = refl
  last_more t (o ∷ others) n = last_more o others n

  -- one more is carried
  carried_more : (t : ℕ) (others : List ℕ) (n : ℕ) → AreCarried g s t others → Carries g s (last_of t others) n → AreCarried g s t (others ++ n ∷ [])
  carried_more t [] n are here = (here, tt)
  carried_more t (o ∷ others) n are here = (are.0, carried_more o others n are.1 here)

  -- one less
  carried_less : (t : ℕ) (others : List ℕ) (n : ℕ) → AreCarried g s t (others ++ n ∷ []) → AreCarried g s t others × Carries g s (last_of t others) n
  carried_less t [] n are = (tt, are.0)
  carried_less t (o ∷ others) n are = let less = carried_less o others n are.1 in ((are.0, less.0), less.1)

  -- the end of a way is the last of the path
  pub last_is_end : (t : ℕ) (way : List ℕ) → last_of t (reverse way) ≡ end t way
  last_is_end t [] = refl
  last_is_end t (n ∷ way) = ap (λ (l : List ℕ). last_of t l) (reverse-cons n way) ∙ last_more t (reverse way) n

  module _ (succ : ℕ → List ℕ) where
    -- a way is carried
    pub way_is_carried : ((t o : ℕ) → Has (succ t) o → Carries g s t o) → (t : ℕ) (way : List ℕ) → IsWay succ t way → AreCarried g s t (reverse way)
    way_is_carried carries t [] is = tt
    way_is_carried carries t (n ∷ way) is =
        subst (λ (l : List ℕ). AreCarried g s t l) (sym (reverse-cons n way)) (carried_more t (reverse way) n (way_is_carried carries t way is.1) (subst (λ (o : ℕ). Carries g s o n) (sym (last_is_end t way)) (carries (end t way) n is.0)))

    -- and the other way round
    pub carried_is_way : ((t o : ℕ) → Carries g s t o → Has (succ t) o) → (t : ℕ) (way : List ℕ) → AreCarried g s t (reverse way) → IsWay succ t way
    carried_is_way carries t [] are = tt
    carried_is_way carries t (n ∷ way) are =
        let less = carried_less t (reverse way) n (subst (λ (l : List ℕ). AreCarried g s t l) (reverse-cons n way) are) in
        (carries (end t way) n (subst (λ (o : ℕ). Carries g s o n) (last_is_end t way) less.1), carried_is_way carries t way less.0)
