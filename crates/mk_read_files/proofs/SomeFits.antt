-- Answers, none of them in two ways, have a map that fits them.
use Rattle.std.proofs.Common.{◌≡◌, ℕ, Bool, true, false, cond, List, [], ◌∷◌, Option, None, Some, inl, inr, refl, sym, ◌∙◌}
use Rattle.std.specs.Str.{bytes_eq}
use Rattle.std.proofs.lemmas.Bool.{cond-true}
use Rattle.std.proofs.lemmas.Slice.Eq.{bytes_eq-Decides}
use Rattle.mk_read.specs.Files.{Told, text_at}
use Rattle.mk_read_files.specs.Answers.{Fits, IsSteady, SomeMapFits, WasAnswered}

abbrev Given : Type 0
Given = List (List ℕ × Option (List ℕ))

-- the texts that were answered
abbrev texts : Given → Told
texts [] = []
texts ((name, None) ∷ given) = texts given
texts ((name, Some text) ∷ given) = (name, text) ∷ texts given

-- a text of theirs was answered
said : (given : Given) (name text : List ℕ) → text_at (texts given) name ≡ Some text → WasAnswered given name (Some text)
said [] name text h = absurd cc
said ((n, None) ∷ given) name text h = inr (said given name text h)
said ((n, Some t) ∷ given) name text h = by (bytes_eq n name) refl h (said given name text)
  where
    by : (b : Bool) → bytes_eq n name ≡ b → cond b (Some t) (text_at (texts given) name) ≡ Some text → (text_at (texts given) name ≡ Some text → WasAnswered given name (Some text))
        → WasAnswered ((n, Some t) ∷ given) name (Some text)
    by true e k deeper = inl ((bytes_eq-Decides n name).0 e, k)
    by false e k deeper = inr (deeper k)

-- and a name that was answered by a text has one among them
some_text : (given : Given) (name text : List ℕ) → WasAnswered given name (Some text) → text_at (texts given) name ≡ None → ⊥
some_text [] name text h e = h
some_text ((n, None) ∷ given) name text (inl h) e = let k : None ≡ Some text = h.1 in absurd cc
some_text ((n, None) ∷ given) name text (inr h) e = some_text given name text h e
some_text ((n, Some t) ∷ given) name text (inl h) e =
    let k : Some t ≡ None = sym (cond-true (bytes_eq n name) (Some t) (text_at (texts given) name) ((bytes_eq-Decides n name).1 h.0)) ∙ e in absurd cc
some_text ((n, Some t) ∷ given) name text (inr h) e = by (bytes_eq n name) e (some_text given name text h)
  where
    by : (b : Bool) → cond b (Some t) (text_at (texts given) name) ≡ None → (text_at (texts given) name ≡ None → ⊥) → ⊥
    by true k deeper = absurd cc
    by false k deeper = deeper k

-- each answer is theirs
is_said : (given : Given) → IsSteady given → (name : List ℕ) (found : Option (List ℕ)) → WasAnswered given name found → found ≡ text_at (texts given) name
is_said given steady name found h = by found h (text_at (texts given) name) refl
  where
    by : (f : Option (List ℕ)) → WasAnswered given name f → (r : Option (List ℕ)) → text_at (texts given) name ≡ r → f ≡ r
    by None k None e = refl
    by None k (Some t) e = steady name None (Some t) k (said given name t e)
    by (Some t) k None e = absurd (some_text given name t k e)
    by (Some t) k (Some u) e = steady name (Some t) (Some u) k (said given name u e)

fits_each : (told : Told) (given : Given) → ((name : List ℕ) (found : Option (List ℕ)) → WasAnswered given name found → found ≡ text_at told name) → Fits given told
fits_each told [] each = tt
fits_each told ((name, found) ∷ given) each = (each name found (inl (refl, refl)), fits_each told given (λ n f h. each n f (inr h)))

pub some_map_fits : SomeMapFits
some_map_fits given steady = (texts given, fits_each (texts given) given (is_said given steady))
