-- A file that an include line names.
use Rattle.std.proofs.Common.{◌≡◌, ℕ, ◌<◌, suc, ◌+◌, Bool, true, false, List, [], ◌∷◌, ◌++◌, length, length-append, Option, None, Some, Result, Ok, Err, inl, inr, refl, sym, ap, ◌∙◌, arith}
use Rattle.std.specs.Prelude.{nat_le, ◌==◌, IfErr}
use Rattle.std.proofs.lemmas.Bool.{ne_eqb}
use Rattle.std.proofs.lemmas.Bool.Decides.{Decides-eqb}
use Rattle.mk_read.specs.declared.fault.Place.{Place}
use Rattle.mk_read.specs.declared.fault.ReadFault.{ReadFault}
use Rattle.mk_read.specs.declared.fault.ReadFault.TheVariants.{ReadFailed, TooManyFiles}
use Rattle.mk_read.specs.Files.{Told, text_at}
use Rattle.mk_read.specs.Following.{reader_of, Later, Follows, IsOfText}
use Rattle.mk_read.specs.Steps.{Gives}
use Rattle.mk_read_parse.proofs.SameReads.{reads_or}
use Rattle.mk_read.specs.Reading.{Reader, reads, is_number, fails, found, one_file}
use Rattle.mk_read.specs.State.{State}
use Rattle.mk_read_parse.specs.Views.{found_after, not_found, text_more}

abbrev Read : Type 0
Read = List ℕ → List ℕ → State → Result State ReadFault

reads_more : (xs ys : List (List ℕ)) (name : List ℕ) → length (xs ++ name ∷ []) + length ys ≡ suc (length xs + length ys)
reads_more xs ys name = omega (arith, length-append xs (name ∷ []))

reads_missing : (xs ys : List (List ℕ)) (name : List ℕ) → length xs + length (ys ++ name ∷ []) ≡ suc (length xs + length ys)
reads_missing xs ys name = omega (arith, length-append ys (name ∷ []))

pub eq_self : (n : ℕ) → (n == n) ≡ true
eq_self n = (Decides-eqb n n).1 refl

eq_not : (k n : ℕ) → n < k → (k == n) ≡ false
eq_not k n lt = ne_eqb k n (λ e. omega (arith, e, lt))

-- a read that doesn't fail
pub sound : (failing : Option ℕ) (n m : ℕ) → m ≡ suc n → Later m failing → is_number failing (suc n) ≡ false
sound None n m e later = refl
sound (Some k) n m e later = eq_not k (suc n) (omega (arith, e, later))

module _ (told : Told) (read : Reader → Read) (place : Place) (optional : Bool) (state : State) (name : List ℕ) where
  whole : Reader → Result State ReadFault
  whole reader = one_file reader (read reader) place optional state name

  not_full : (reader : Reader) → nat_le 1024 (length state.texts) ≡ false → fails reader state ≡ false → one_file reader (read reader) place optional state name ≡ found (read reader) place optional state name (reader.text name)
  unfolding one_file
  not_full reader room sound = rw (room, sound) refl

  pub too_many : (reader : Reader) → nat_le 1024 (length state.texts) ≡ true → one_file reader (read reader) place optional state name ≡ Err (TooManyFiles place)
  unfolding one_file
  too_many reader full = rw full refl

  pub read_fails : nat_le 1024 (length state.texts) ≡ false → one_file (reader_of told (Some (suc (reads state)))) (read (reader_of told (Some (suc (reads state))))) place optional state name ≡ Err (ReadFailed (Some place) name)
  unfolding one_file
  read_fails room = rw (room, eq_self (suc (reads state))) refl

  at_none : nat_le 1024 (length state.texts) ≡ false → (answer : Option (List ℕ)) → text_at told name ≡ answer → one_file (reader_of told None) (read (reader_of told None)) place optional state name ≡ found (read (reader_of told None)) place optional state name answer
  at_none room answer e = not_full (reader_of told None) room refl ∙ ap (found (read (reader_of told None)) place optional state name) e

  at_later : nat_le 1024 (length state.texts) ≡ false → (answer : Option (List ℕ)) → text_at told name ≡ answer → (failing : Option ℕ) (m : ℕ) → m ≡ suc (reads state) → Later m failing
      → one_file (reader_of told failing) (read (reader_of told failing)) place optional state name ≡ found (read (reader_of told failing)) place optional state name answer
  at_later room answer e failing m more later = not_full (reader_of told failing) room (sound failing (reads state) m more later) ∙ ap (found (read (reader_of told failing)) place optional state name) e

  pub is_missing : nat_le 1024 (length state.texts) ≡ false → text_at told name ≡ None → (r : Result State ReadFault) → Gives (λ (s : State). s) r (not_found place optional state name) → IfErr r IsOfText
      → Follows told (λ reader. one_file reader (read reader) place optional state name) state r
  is_missing room e (Ok new) gives own =
      let more : reads new ≡ suc (reads state) = counted optional gives in
      (omega (arith, more), λ failing later. at_later room None e failing (reads new) more later ∙ gives)
    where
      counted : (b : Bool) → not_found place b state name ≡ Ok new → reads new ≡ suc (reads state)
      counted true h = ap (reads_or 0) (sym h) ∙ reads_missing state.texts state.missing name
      counted false h = absurd cc
  is_missing room e (Err (ReadFailed location file)) gives own = absurd own
  is_missing room e (Err fault) (inl memory) own = inl memory
  is_missing room e (Err fault) (inr h) own = inr (at_none room None e ∙ h)

  pub is_found : nat_le 1024 (length state.texts) ≡ false → (text : List ℕ) → text_at told name ≡ Some text → (r : Result State ReadFault) → Follows told (λ reader. found_after (read reader) name text (text_more state name)) (text_more state name) r
      → Follows told (λ reader. one_file reader (read reader) place optional state name) state r
  is_found room text e (Ok new) went =
      let more : reads (text_more state name) ≡ suc (reads state) = reads_more state.texts state.missing name in
      (omega (arith, more, went.0), λ failing later. at_later room (Some text) e failing (reads (text_more state name)) more (from_later failing later) ∙ went.1 failing later)
    where
      from_later : (failing : Option ℕ) → Later (reads new) failing → Later (reads (text_more state name)) failing
      from_later None later = tt
      from_later (Some k) later = omega (arith, went.0, later)
  is_found room text e (Err (ReadFailed location file)) went =
      let more : reads (text_more state name) ≡ suc (reads state) = reads_more state.texts state.missing name in
      (went.0, omega (arith, more, went.1), at_later room (Some text) e (Some went.0) (reads (text_more state name)) more went.1 ∙ went.2)
  is_found room text e (Err fault) (inl memory) = inl memory
  is_found room text e (Err fault) (inr h) = inr (at_none room (Some text) e ∙ h)
