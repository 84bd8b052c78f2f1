-- Pieces of names: each name is in one, and each fits.
use Rattle.std.proofs.Common.{◌≡◌, ◌≤◌, ℕ, Bool, true, false, cond, nat_le, ◌⊎◌, inl, inr, List, [], ◌∷◌, ◌++◌, length, refl, sym, subst, rules, tests}
use Rattle.mk_lemmas.proofs.Members.{Has-cases, Has-left, Has-right}
use Rattle.mk_graph.specs.Membership.{Has}
use Rattle.mk_repair.specs.Lines.{spaced, pieces, pieces_from}
use Rattle.mk_repair.specs.Laws.{Fit}

-- one of the pieces has the name
abbrev IsCut : List (List (List ℕ)) → List ℕ → Type 0
IsCut parts name = (piece : List (List ℕ)) × Has parts piece × Has piece name

cut_from : (piece names : List (List ℕ)) (n : List ℕ) → Has piece n ⊎ Has names n → IsCut (pieces_from piece names) n
cut_from piece [] n (inl h) = (piece, inl refl, h)
cut_from piece [] n (inr h) = absurd h
cut_from piece (name ∷ names) n h =
    at (nat_le (length (spaced (piece ++ name ∷ []))) 2000) h (λ k. cut_from (piece ++ name ∷ []) names n k) (λ k. cut_from (name ∷ []) names n k)
  where
    at : (b : Bool) → Has piece n ⊎ ((name ≡ n) ⊎ Has names n) → (Has (piece ++ name ∷ []) n ⊎ Has names n → IsCut (pieces_from (piece ++ name ∷ []) names) n) → (Has (name ∷ []) n ⊎ Has names n → IsCut (pieces_from (name ∷ []) names) n)
        → IsCut (cond b (pieces_from (piece ++ name ∷ []) names) (piece ∷ pieces_from (name ∷ []) names)) n
    at true (inl k) more new = more (inl (Has-left piece (name ∷ []) n k))
    at true (inr (inl e)) more new = more (inl (Has-right piece (name ∷ []) n (inl e)))
    at true (inr (inr there)) more new = more (inr there)
    at false (inl k) more new = (piece, inl refl, k)
    at false (inr (inl e)) more new = let f = new (inl (inl e)) in (f.0, inr f.1, f.2)
    at false (inr (inr there)) more new = let f = new (inr there) in (f.0, inr f.1, f.2)

-- each name is in a piece
pub each_cut : (names : List (List ℕ)) (n : List ℕ) → Has names n → (piece : List (List ℕ)) × Has (pieces names) piece × Has piece n
each_cut [] n h = absurd h
each_cut (name ∷ names) n (inl e) = cut_from (name ∷ []) names n (inl (inl e))
each_cut (name ∷ names) n (inr there) = cut_from (name ∷ []) names n (inr there)

fit_from : (piece names : List (List ℕ)) → Fit piece → (found : List (List ℕ)) → Has (pieces_from piece names) found → Fit found
fit_from piece [] fit found (inl e) = subst Fit e fit
fit_from piece [] fit found (inr h) = absurd h
fit_from piece (name ∷ names) fit found h =
    at (nat_le (length (spaced (piece ++ name ∷ []))) 2000) refl h (λ f k. fit_from (piece ++ name ∷ []) names f found k) (λ k. fit_from (name ∷ []) names (inr refl) found k)
  where
    at : (b : Bool) → nat_le (length (spaced (piece ++ name ∷ []))) 2000 ≡ b → Has (cond b (pieces_from (piece ++ name ∷ []) names) (piece ∷ pieces_from (name ∷ []) names)) found
        → (Fit (piece ++ name ∷ []) → Has (pieces_from (piece ++ name ∷ []) names) found → Fit found) → (Has (pieces_from (name ∷ []) names) found → Fit found) → Fit found
    at true e k more new = let le : length (spaced (piece ++ name ∷ [])) ≤ 2000 = search (rules, tests) in more (inl le) k
    at false e (inl k) more new = subst Fit k fit
    at false e (inr k) more new = new k

-- each piece fits
pub each_fits : (names piece : List (List ℕ)) → Has (pieces names) piece → Fit piece
each_fits [] piece h = absurd h
each_fits (name ∷ names) piece h = fit_from (name ∷ []) names (inr refl) piece h

from_cut : (piece names found : List (List ℕ)) (n : List ℕ) → Has (pieces_from piece names) found → Has found n → Has piece n ⊎ Has names n
from_cut piece [] found n (inl e) h = inl (subst (λ (names : List (List ℕ)). Has names n) (sym e) h)
from_cut piece [] found n (inr none) h = absurd none
from_cut piece (name ∷ names) found n there h =
    at (nat_le (length (spaced (piece ++ name ∷ []))) 2000) there (λ k. from_cut (piece ++ name ∷ []) names found n k h) (λ k. from_cut (name ∷ []) names found n k h)
  where
    longer : Has piece n ⊎ Has (name ∷ []) n → Has piece n ⊎ ((name ≡ n) ⊎ Has names n)
    longer (inl old) = inl old
    longer (inr (inl e)) = inr (inl e)
    longer (inr (inr none)) = absurd none

    joined : Has (piece ++ name ∷ []) n ⊎ Has names n → Has piece n ⊎ ((name ≡ n) ⊎ Has names n)
    joined (inl here) = longer (Has-cases piece (name ∷ []) n here)
    joined (inr later) = inr (inr later)

    apart : Has (name ∷ []) n ⊎ Has names n → Has piece n ⊎ ((name ≡ n) ⊎ Has names n)
    apart (inl (inl e)) = inr (inl e)
    apart (inl (inr none)) = absurd none
    apart (inr later) = inr (inr later)

    at : (b : Bool) → Has (cond b (pieces_from (piece ++ name ∷ []) names) (piece ∷ pieces_from (name ∷ []) names)) found → (Has (pieces_from (piece ++ name ∷ []) names) found → Has (piece ++ name ∷ []) n ⊎ Has names n)
        → (Has (pieces_from (name ∷ []) names) found → Has (name ∷ []) n ⊎ Has names n) → Has piece n ⊎ ((name ≡ n) ⊎ Has names n)
    at true k more new = joined (more k)
    at false (inl e) more new = inl (subst (λ (names : List (List ℕ)). Has names n) (sym e) h)
    at false (inr k) more new = apart (new k)

-- a piece has only the names
pub only_cut : (names piece : List (List ℕ)) (n : List ℕ) → Has (pieces names) piece → Has piece n → Has names n
only_cut [] piece n there h = absurd there
only_cut (name ∷ names) piece n there h = at (from_cut (name ∷ []) names piece n there h)
  where
    at : Has (name ∷ []) n ⊎ Has names n → Has (name ∷ names) n
    at (inl (inl e)) = inl e
    at (inl (inr none)) = absurd none
    at (inr later) = inr later
