-- Readings of files, step by step.
use Rattle.std.proofs.Common.{◌≡◌, ℕ, ◌<◌, ◌≤◌, Option, None, Some, Result, Ok, Err, inl, inr, ◌+◌, List, [], ◌∷◌, map, drop, length, get_or, refl, ap, ◌∙◌, arith}
use Rattle.mk_read.specs.declared.fault.ReadFault.{ReadFault}
use Rattle.mk_read.specs.declared.fault.ReadFault.TheVariants.{ReadFailed}
use Rattle.mk_read.specs.Files.{Told}
use Rattle.mk_read.specs.Following.{reader_of, Later, Follows, NotesFailure, NotesFault, IsOfText}
use Rattle.mk_read.specs.Reading.{Reader, reads}
use Rattle.mk_read.specs.State.{State}
use Rattle.mk_read.specs.Steps.{◌>>=◌, Gives, Fails}
use Rattle.std.specs.Prelude.{IfErr}
use Rattle.std.proofs.lemmas.List.{drop_more, drop_all}

-- A whole reading from a state is the rest of it from another state, where no read failed before.
abbrev pub SoFar : Told → (whole rest : Reader → Result State ReadFault) → (old now : State) → Type 0
SoFar told whole rest old now = (reads old ≤ reads now) × ((failing : Option ℕ) → Later (reads now) failing → whole (reader_of told failing) ≡ rest (reader_of told failing))

earlier : (failing : Option ℕ) (m n : ℕ) → m ≤ n → Later n failing → Later m failing
earlier None m n le later = tt
earlier (Some k) m n le later = omega (arith, le, later)

pub begins : (told : Told) (whole : Reader → Result State ReadFault) (old : State) → SoFar told whole whole old old
begins told whole old = (omega arith, λ failing later. refl)

-- a step that went well
pub steps : (told : Told) (whole step : Reader → Result State ReadFault) (f : Reader → State → Result State ReadFault) (old now next : State) → SoFar told whole (λ reader. step reader >>= f reader) old now → Follows told step now (Ok next)
    → SoFar told whole (λ reader. f reader next) old next
steps told whole step f old now next so_far went =
    (omega (arith, so_far.0, went.0), λ failing later. so_far.1 failing (earlier failing (reads now) (reads next) went.0 later) ∙ ap (λ r. r >>= f (reader_of told failing)) (went.1 failing later))

-- the rest, from where it begins
pub ends : (told : Told) (whole rest : Reader → Result State ReadFault) (old now : State) (r : Result State ReadFault) → SoFar told whole rest old now → Follows told rest now r → Follows told whole old r
ends told whole rest old now (Ok new) so_far went = (omega (arith, so_far.0, went.0), λ failing later. so_far.1 failing (earlier failing (reads now) (reads new) went.0 later) ∙ went.1 failing later)
ends told whole rest old now (Err (ReadFailed place name)) so_far went = (went.0, omega (arith, so_far.0, went.1), so_far.1 (Some went.0) went.1 ∙ went.2)
ends told whole rest old now (Err fault) so_far (inl memory) = inl memory
ends told whole rest old now (Err fault) so_far (inr e) = inr (so_far.1 None tt ∙ e)

-- the fault of a first step
first_fails : (told : Told) (step : Reader → Result State ReadFault) (f : Reader → State → Result State ReadFault) (now : State) (fault : ReadFault) → Follows told step now (Err fault) → Follows told (λ reader. step reader >>= f reader) now (Err fault)
first_fails told step f now (ReadFailed place name) went = (went.0, went.1, ap (λ r. r >>= f (reader_of told (Some went.0))) went.2)
first_fails told step f now fault (inl memory) = inl memory
first_fails told step f now fault (inr e) = inr (ap (λ r. r >>= f (reader_of told None)) e)

-- a step that failed
pub stops : (told : Told) (whole step : Reader → Result State ReadFault) (f : Reader → State → Result State ReadFault) (old now : State) (fault : ReadFault) → SoFar told whole (λ reader. step reader >>= f reader) old now → Follows told step now (Err fault)
    → Follows told whole old (Err fault)
stops told whole step f old now fault so_far went = ends told whole (λ reader. step reader >>= f reader) old now (Err fault) so_far (first_fails told step f now fault went)

-- a fault of a text
pub text_fault : (told : Told) (whole : Reader → Result State ReadFault) (old : State) (fault : ReadFault) → Fails fault (whole (reader_of told None)) → IsOfText fault → Follows told whole old (Err fault)
text_fault told whole old (ReadFailed place name) fails own = absurd own
text_fault told whole old fault fails own = fails

-- an answer of a step that reads no file
pub no_reads : (told : Told) (step : Result State ReadFault) (old : State) (r : Result State ReadFault) → Gives (λ (state : State). state) r step → IfErr r IsOfText → ((new : State) → step ≡ Ok new → reads new ≡ reads old) → Follows told (λ reader. step) old r
no_reads told step old (Ok new) gives own same = (omega (arith, same new gives), λ failing later. gives)
no_reads told step old (Err fault) gives own same = text_fault told (λ reader. step) old fault gives own

-- a fault of a text notes no failed read
pub notes_none : (old new : List (List ℕ)) (fault : ReadFault) → new ≡ old → IsOfText fault → NotesFault old new fault
notes_none old new (ReadFailed place name) same own = absurd own
notes_none old new fault same own = same

-- a result that notes no name is no failed read
pub notes_no_name : {A : Type 0} (r : Result A ReadFault) → NotesFailure [] [] r → IfErr r IsOfText
notes_no_name (Ok x) h = tt
notes_no_name (Err (ReadFailed place name)) h = let e : [] ≡ name ∷ [] = h in absurd cc
notes_no_name (Err fault) h = tt

-- what follows over a map gives what is defined where no read fails
pub follows_gives : (told : Told) (step : Reader → Result State ReadFault) (old : State) (r : Result State ReadFault) → Follows told step old r → IfErr r IsOfText → Gives (λ (state : State). state) r (step (reader_of told None))
follows_gives told step old (Ok new) went own = went.1 None tt
follows_gives told step old (Err (ReadFailed place name)) went own = absurd own
follows_gives told step old (Err fault) fails own = fails

-- A reading of a list, item by item: what an item does, and then the rest.
module _ {A C : Type 0} (view : C → A) (run : Reader → List A → State → Result State ReadFault) (step : Reader → A → State → Result State ReadFault)
    (none : (reader : Reader) (state : State) → run reader [] state ≡ Ok state)
    (more : (reader : Reader) (x : A) (xs : List A) (state : State) → run reader (x ∷ xs) state ≡ (step reader x state >>= run reader xs)) where
  -- what is left of the items, from the state so far
  abbrev pub Left : Told → List C → ℕ → (old now : State) → Type 0
  Left told items i old now = SoFar told (λ reader. run reader (map view items) old) (λ reader. run reader (map view (drop i items)) now) old now

  next_item : (told : Told) (items : List C) (i : ℕ) (d : C) (old now : State) → Left told items i old now → i < length items
      → SoFar told (λ reader. run reader (map view items) old) (λ reader. step reader (view (get_or items i d)) now >>= run reader (map view (drop (i + 1) items))) old now
  next_item told items i d old now so_far lt = (so_far.0, λ failing later. so_far.1 failing later ∙ (ap (λ xs. run (reader_of told failing) (map view xs) now) (drop_more items i d lt) ∙ more (reader_of told failing) (view (get_or items i d)) (map view (drop (i + 1) items)) now))

  pub item_done : (told : Told) (items : List C) (i : ℕ) (d : C) (old now next : State) → Left told items i old now → i < length items → Follows told (λ reader. step reader (view (get_or items i d)) now) now (Ok next) → Left told items (i + 1) old next
  item_done told items i d old now next so_far lt went =
      steps told (λ reader. run reader (map view items) old) (λ reader. step reader (view (get_or items i d)) now) (λ reader. run reader (map view (drop (i + 1) items))) old now next (next_item told items i d old now so_far lt) went

  pub item_failed : (told : Told) (items : List C) (i : ℕ) (d : C) (old now : State) (fault : ReadFault) → Left told items i old now → i < length items → Follows told (λ reader. step reader (view (get_or items i d)) now) now (Err fault)
      → Follows told (λ reader. run reader (map view items) old) old (Err fault)
  item_failed told items i d old now fault so_far lt went =
      stops told (λ reader. run reader (map view items) old) (λ reader. step reader (view (get_or items i d)) now) (λ reader. run reader (map view (drop (i + 1) items))) old now fault (next_item told items i d old now so_far lt) went

  pub items_done : (told : Told) (items : List C) (i : ℕ) (old now : State) → Left told items i old now → length items ≤ i → Follows told (λ reader. run reader (map view items) old) old (Ok now)
  items_done told items i old now so_far le =
      ends told (λ reader. run reader (map view items) old) (λ reader. run reader (map view (drop i items)) now) old now (Ok now) so_far
      (omega arith, λ failing later. ap (λ xs. run (reader_of told failing) (map view xs) now) (drop_all i items le) ∙ none (reader_of told failing) now)
