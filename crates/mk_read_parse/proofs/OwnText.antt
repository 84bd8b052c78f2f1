-- The makefile's own text, and a whole reading.
use Rattle.std.proofs.Common.{◌≡◌, ℕ, suc, Bool, true, false, List, [], codes, length, Option, None, Some, Result, Ok, Err, inl, inr, refl, sym, ap, subst, ◌∙◌, arith}
use Rattle.std.specs.Prelude.{◌⊎◌, IfErr, IsOk, OnErr, OnOk}
use Rattle.mk_macros.specs.Table.{Macro}
use Rattle.mk_read.specs.declared.fault.ReadFault.{ReadFault}
use Rattle.mk_read.specs.declared.fault.ReadFault.TheVariants.{Memory, NoMakefile, ReadFailed}
use Rattle.mk_read.specs.Files.{IfFits, Keeps, Told, text_at}
use Rattle.mk_read.specs.Following.{reader_of, Answers, Follows, IsOfText, below}
use Rattle.mk_read.specs.Reading.{Reader, Makefile, after_default, default_text, from_named, makefile, makefile_of, named, own_text, reads, reading, text_or, with_operands, with_text}
use Rattle.mk_read.specs.State.{State, nothing_read}
use Rattle.mk_read.specs.Steps.{◌>>=◌, Fails, Gives}
use Rattle.mk_read_parse.specs.Requests.{no_files, request_read}
use Rattle.mk_read_parse.specs.Views.{IsUnread, begun, second_text, state_read, without_makefile}
use Rattle.mk_read.specs.DefaultLaws.{DefaultTextSaysThis}
use Rattle.mk_read_parse.proofs.Histories.{SoFar, begins, ends, follows_gives, steps, stops, text_fault}
use Rattle.mk_read_parse.proofs.LineSteps.{memory_follows, reading_is}
use Rattle.mk_read_parse.proofs.OneFile.{eq_self, sound}

-- a step that reads no file and went well
pure_step : {A : Type 0} (told : Told) (whole : Reader → Result State ReadFault) (step : Result A ReadFault) (f : Reader → A → Result State ReadFault) (old now : State) (x : A) → SoFar told whole (λ reader. step >>= f reader) old now → step ≡ Ok x → SoFar told whole (λ reader. f reader x) old now
pure_step told whole step f old now x so_far is = (so_far.0, λ failing later. so_far.1 failing later ∙ ap (λ r. r >>= f (reader_of told failing)) is)

-- one that failed
pure_stop : {A : Type 0} (told : Told) (whole : Reader → Result State ReadFault) (step : Result A ReadFault)
    (f : Reader → A → Result State ReadFault) (old now : State) (fault : ReadFault)
    → SoFar told whole (λ reader. step >>= f reader) old now → Fails fault step → IsOfText fault
    → Follows told whole old (Err fault)
pure_stop told whole step f old now fault so_far fails own = text_fault told whole old fault (fault_of fails) own
  where
    fault_of : Fails fault step → Fails fault (whole (reader_of told None))
    fault_of (inl memory) = inl memory
    fault_of (inr e) = inr (so_far.1 None tt ∙ ap (λ r. r >>= f (reader_of told None)) e)

module _ (state : State) (name : List ℕ) (other : Reader → Result State ReadFault) where
  own_step : (told : Told) (answer : Option (List ℕ)) (next : State) → answer ≡ text_at told name → reads next ≡ suc (reads state) → SoFar told (λ reader. own_text reader state name (other reader)) (λ reader. text_or reader state name (other reader) answer) state next
  unfolding own_text
  own_step told answer next is more = (omega (arith, more), λ failing later. rw (sound failing (reads state) (reads next) more later, is) refl)

  pub own_found : (o o' : Told → Type 0) (bytes : List ℕ) (r : Result State ReadFault) → state.texts ≡ [] → Keeps o o' → IfFits o (λ told. Some bytes ≡ text_at told name)
      → IfFits o' (λ told. Follows told (λ reader. reading 16 reader name bytes (begun state name)) (begun state name) r) → IfFits o' (λ told. Follows told (λ reader. own_text reader state name (other reader)) state r)
  own_found o o' bytes r bare keeps is went =
      let none : length state.texts ≡ 0 = ap (λ (texts : List (List ℕ)). length texts) bare in
      let more : reads (begun state name) ≡ suc (reads state) = omega (arith, none) in
      λ told e. ends told (λ reader. own_text reader state name (other reader)) (λ reader. reading 16 reader name bytes (begun state name)) state (begun state name) r
      (own_step told (Some bytes) (begun state name) (is told (keeps told e)) more)
      (went told e)

  pub own_absent : (o o' : Told → Type 0) (next : State) (r : Result State ReadFault) → reads next ≡ suc (reads state) → Keeps o o' → IfFits o (λ told. None ≡ text_at told name)
      → IfFits o' (λ told. Follows told other next r) → IfFits o' (λ told. Follows told (λ reader. own_text reader state name (other reader)) state r)
  own_absent o o' next r more keeps is went = λ told e. ends told (λ reader. own_text reader state name (other reader)) other state next r
      (own_step told None next (is told (keeps told e)) more) (went told e)

  own_fails : (told : Told) → own_text (reader_of told (Some (suc (reads state)))) state name (other (reader_of told (Some (suc (reads state))))) ≡ Err (ReadFailed None name)
  unfolding own_text
  own_fails told = rw (eq_self (suc (reads state))) refl

  pub own_unread : (o : Told → Type 0) (fault : ReadFault) → (fault ≡ Memory) ⊎ (fault ≡ ReadFailed None name) → IfFits o (λ told. Follows told (λ reader. own_text reader state name (other reader)) state (Err fault))
  own_unread o fault (inl is) = λ told e. subst (λ (f : ReadFault). Follows told (λ reader. own_text reader state name (other reader)) state (Err f)) (sym is) (memory_follows told (λ reader. own_text reader state name (other reader)) state)
  own_unread o fault (inr is) = λ told e. subst (λ (f : ReadFault). Follows told (λ reader. own_text reader state name (other reader)) state (Err f)) (sym is) (suc (reads state), omega arith, own_fails told)

-- no makefile
pub none_there : (o : Told → Type 0) (file : Option (List ℕ)) (now : State) → IfFits o (λ told. Follows told (λ reader. Err (NoMakefile file)) now (Err (NoMakefile file)))
none_there o file now = λ told e. inr refl

-- the text as that of a file with this many levels below it
pub as_reading : (o : Told → Type 0) (n : ℕ) (name text : List ℕ) (old : State) (r : Result State ReadFault) → IfFits o (λ told. Follows told (λ reader. with_text reader (below n reader) (record { file = name; default = false }) text old) old r)
    → IfFits o (λ told. Follows told (λ reader. reading n reader name text old) old r)
as_reading o n name text old r went = λ told e. ends told (λ reader. reading n reader name text old) (λ reader. with_text reader (below n reader) (record { file = name; default = false }) text old) old old r
    (omega arith, λ failing later. reading_is n name text old n (reader_of told failing)) (went told e)

-- a state that is answered is of no file
abbrev OfOk : Result State ReadFault → Type 0
OfOk (Ok state) = IsUnread state
OfOk (Err fault) = Unit {0}

-- no file was read so far
unread : DefaultTextSaysThis → (reader : Reader) (defaults : Bool) (start : State) → after_default reader defaults ≡ Ok start → IsUnread start
unfolding after_default
unread says reader false start e = subst OfOk e (refl, refl)
unread says reader true start e = subst OfOk (sym (says reader) ∙ e) (refl, refl)

-- what the default text gives to a reader without files, it gives to each
default_same : DefaultTextSaysThis → (reader : Reader) (defaults : Bool) → after_default reader defaults ≡ after_default no_files defaults
unfolding after_default
default_same says reader false = refl
default_same says reader true = says reader ∙ sym (says no_files)

default_follows : DefaultTextSaysThis → (told : Told) (defaults : Bool) (r : Result State ReadFault) → Gives (λ (state : State). state) r (after_default no_files defaults) → IfErr r IsOfText → Follows told (λ reader. after_default reader defaults) nothing_read r
default_follows says told defaults (Ok new) gives own = (omega arith, λ failing later. default_same says (reader_of told failing) defaults ∙ gives)
default_follows says told defaults (Err (ReadFailed place name)) gives own = absurd own
default_follows says told defaults (Err fault) (inl memory) own = inl memory
default_follows says told defaults (Err fault) (inr e) own = inr (default_same says (reader_of told None) defaults ∙ e)

-- a whole reading
module _ (name : Option (List ℕ)) (defaults : Bool) (operands : List (List ℕ)) where
  abbrev whole : Reader → Result State ReadFault
  whole reader = state_read reader name defaults operands

  after_name : (told : Told) → named name ≡ Ok name → SoFar told whole (λ reader. after_default reader defaults >>= λ start. with_operands 1 operands start.table >>= λ table. from_named reader (record start { table = table }) name) nothing_read nothing_read
  after_name told is = pure_step told whole (named name) (λ reader file. after_default reader defaults >>= λ start. with_operands 1 operands start.table >>= λ table. from_named reader (record start { table = table }) file) nothing_read nothing_read name (begins told whole nothing_read) is

  pub default_fails : DefaultTextSaysThis → (o : Told → Type 0) (old : State) (fault : ReadFault) → named name ≡ Ok name → (old ≡ nothing_read → Fails fault (after_default no_files defaults)) → IsOfText fault
      → IfFits o (λ told. old ≡ nothing_read → Follows told (λ reader. state_read reader name defaults operands) nothing_read (Err fault))
  default_fails says o old fault is fails own = λ told e none. stops told whole (λ reader. after_default reader defaults) (λ reader state. with_operands 1 operands state.table >>= λ table. from_named reader (record state { table = table }) name) nothing_read nothing_read fault (after_name told is)
      (default_follows says told defaults (Err fault) (fails none) own)

  module _ (start : State) where
    after_start : DefaultTextSaysThis → (told : Told) → named name ≡ Ok name → after_default no_files defaults ≡ Ok start → SoFar told whole (λ reader. with_operands 1 operands start.table >>= λ table. from_named reader (record start { table = table }) name) nothing_read start
    after_start says told is begun_at = steps told whole (λ reader. after_default reader defaults) (λ reader state. with_operands 1 operands state.table >>= λ table. from_named reader (record state { table = table }) name) nothing_read nothing_read start (after_name told is)
        (default_follows says told defaults (Ok start) begun_at tt)

    pub operands_fail : DefaultTextSaysThis → (o : Told → Type 0) (old : State) (fault : ReadFault) → named name ≡ Ok name → (old ≡ nothing_read → after_default no_files defaults ≡ Ok start) → Fails fault (with_operands 1 operands start.table) → IsOfText fault
        → IfFits o (λ told. old ≡ nothing_read → Follows told (λ reader. state_read reader name defaults operands) nothing_read (Err fault))
    operands_fail says o old fault is begun_at fails own = λ told e none. pure_stop told whole (with_operands 1 operands start.table) (λ reader table. from_named reader (record start { table = table }) name) nothing_read start fault
        (after_start says told is (begun_at none)) fails own

    pub state_reads : DefaultTextSaysThis → (o : Told → Type 0) (old : State) (table : List Macro)
        (r : Result State ReadFault) → named name ≡ Ok name
        → (old ≡ nothing_read → after_default no_files defaults ≡ Ok start)
        → with_operands 1 operands start.table ≡ Ok table
        → IfFits o (λ told. IsUnread (record start { table = table })
        → Follows told (λ reader. from_named reader (record start { table = table }) name)
        (record start { table = table }) r) → IfFits o (λ told. old ≡ nothing_read
        → Follows told (λ reader. state_read reader name defaults operands) nothing_read r)
    state_reads says o old table r is begun_at fixed rest = λ told e none.
        let so_far = pure_step told whole (with_operands 1 operands start.table) (λ reader table. from_named reader (record start { table = table }) name) nothing_read start table (after_start says told is (begun_at none)) fixed in
        ends told whole (λ reader. from_named reader (record start { table = table }) name) nothing_read (record start { table = table }) r so_far
        (rest told e (unread says no_files defaults start (begun_at none)))

    -- what is read before any file went well
    pub not_refused : (P : Type 0) (old : State) (table : List Macro) → named name ≡ Ok name
        → (old ≡ nothing_read → after_default no_files defaults ≡ Ok start)
        → with_operands 1 operands start.table ≡ Ok table
        → old ≡ nothing_read → OnErr (request_read name defaults operands) P
    not_refused P old table is begun_at fixed none = subst (λ (r : Result (List Macro) ReadFault). OnErr r P) (sym went) tt
      where
        went : request_read name defaults operands ≡ Ok table
        went = ap (λ (r : Result (Option (List ℕ)) ReadFault). r >>= λ file. after_default no_files defaults >>= λ start. with_operands 1 operands start.table) is
            ∙ (ap (λ (r : Result State ReadFault). r >>= λ start. with_operands 1 operands start.table) (begun_at none) ∙ fixed)

    -- so it was accepted, whatever comes then
    pub accepted : {A : Type 0} (then : Result A ReadFault) (old : State) (table : List Macro) → named name ≡ Ok name
        → (old ≡ nothing_read → after_default no_files defaults ≡ Ok start)
        → with_operands 1 operands start.table ≡ Ok table
        → OnOk then (old ≡ nothing_read → IsOk (request_read name defaults operands))
    accepted (Ok x) old table is begun_at fixed = λ none. at (request_read name defaults operands) (not_refused ⊥ old table is begun_at fixed none)
      where
        at : (r : Result (List Macro) ReadFault) → OnErr r ⊥ → IsOk r
        at (Ok macros) h = refl
        at (Err fault) h = absurd h
    accepted (Err fault) old table is begun_at fixed = tt

  makefile_is : (reader : Reader) → makefile reader name defaults operands ≡ (state_read reader name defaults operands >>= λ state. Ok (makefile_of state))
  unfolding makefile
  makefile_is reader = by_name (named name)
    where
      by_table : (start : State) (file : Option (List ℕ)) (r : Result (List Macro) ReadFault)
          → (r >>= λ table. from_named reader (record start { table = table }) file >>= λ state. Ok
          (makefile_of state)) ≡ ((r >>= λ table. from_named reader (record start { table = table }) file) >>=
          λ state. Ok (makefile_of state))
      by_table start file (Ok table) = refl
      by_table start file (Err fault) = refl

      by_start : (file : Option (List ℕ)) (r : Result State ReadFault) → (r >>= λ start. with_operands 1 operands start.table >>= λ table. from_named reader (record start { table = table }) file >>= λ state. Ok (makefile_of state))
          ≡ ((r >>= λ start. with_operands 1 operands start.table >>= λ table. from_named reader (record start { table = table }) file) >>= λ state. Ok (makefile_of state))
      by_start file (Ok start) = by_table start file (with_operands 1 operands start.table)
      by_start file (Err fault) = refl

      by_name : (r : Result (Option (List ℕ)) ReadFault) → (r >>= λ file. after_default reader defaults >>= λ start. with_operands 1 operands start.table >>= λ table. from_named reader (record start { table = table }) file >>= λ state. Ok (makefile_of state))
          ≡ ((r >>= λ file. after_default reader defaults >>= λ start. with_operands 1 operands start.table >>= λ table. from_named reader (record start { table = table }) file) >>= λ state. Ok (makefile_of state))
      by_name (Ok file) = by_start file (after_default reader defaults)
      by_name (Err fault) = refl

  pub answers_with : (o : Told → Type 0) (old state : State) → old ≡ nothing_read
      → IfFits o (λ told. old ≡ nothing_read → Follows told
      (λ reader. state_read reader name defaults operands) nothing_read (Ok state))
      → IfFits o (λ told. Answers told (λ reader. makefile reader name defaults operands)
      (Ok (makefile_of state)))
  answers_with o old state none went = λ told e. makefile_is (reader_of told None) ∙ ap (λ (r : Result State ReadFault). r >>= λ s. Ok (makefile_of s)) ((went told e none).1 None tt)

  pub answers_not : (o : Told → Type 0) (old : State) (fault : ReadFault) → old ≡ nothing_read
      → IfFits o (λ told. old ≡ nothing_read → Follows told
      (λ reader. state_read reader name defaults operands) nothing_read (Err fault))
      → IfFits o (λ told. Answers told (λ reader. makefile reader name defaults operands) (Err fault))
  answers_not o old fault none went = λ told e. at told fault (went told e none)
    where
      at : (told : Told) (f : ReadFault) → Follows told whole nothing_read (Err f) → Answers {A = Makefile} told (λ reader. makefile reader name defaults operands) (Err f)
      at told (ReadFailed place file) h = (h.0, makefile_is (reader_of told (Some h.0)) ∙ ap (λ (r : Result State ReadFault). r >>= λ s. Ok (makefile_of s)) h.2)
      at told f (inl memory) = inl memory
      at told f (inr e) = inr (makefile_is (reader_of told None) ∙ ap (λ (r : Result State ReadFault). r >>= λ s. Ok (makefile_of s)) e)

-- the makefile of a name
module _ (state : State) (name : List ℕ) where
  abbrev not_there : Reader → Result State ReadFault
  not_there reader = Err (NoMakefile (Some name))

  pub named_unread : (o : Told → Type 0) (fault : ReadFault) → (fault ≡ Memory) ⊎ (fault ≡ ReadFailed None name) → IfFits o (λ told. IsUnread state → Follows told (λ reader. from_named reader state (Some name)) state (Err fault))
  unfolding from_named
  named_unread o fault h = λ told e q. own_unread state name not_there o fault h told e

  pub named_found : (o o' : Told → Type 0) (bytes : List ℕ) (r : Result State ReadFault) → Keeps o o' → IfFits o (λ told. Some bytes ≡ text_at told name) → IfFits o' (λ told. Follows told (λ reader. reading 16 reader name bytes (begun state name)) (begun state name) r)
      → IfFits o' (λ told. IsUnread state → Follows told (λ reader. from_named reader state (Some name)) state r)
  unfolding from_named
  named_found o o' bytes r keeps is went = λ told e q. own_found state name not_there o o' bytes r q.0 keeps is went told e

  pub named_absent : (o : Told → Type 0) → IfFits o (λ told. None ≡ text_at told name) → IfFits o (λ told. IsUnread state → Follows told (λ reader. from_named reader state (Some name)) state (Err (NoMakefile (Some name))))
  unfolding from_named
  named_absent o is = λ told e q.
      let none : length state.texts ≡ 0 = ap (λ (texts : List (List ℕ)). length texts) q.0 in
      let more : reads (begun state name) ≡ suc (reads state) = omega (arith, none) in
      own_absent state name not_there o o (begun state name) (Err (NoMakefile (Some name))) more (λ t h. h) is (none_there o (Some name) (begun state name)) told e

-- the second usual makefile
module _ (state : State) where
  abbrev neither : Reader → Result State ReadFault
  neither reader = Err (NoMakefile None)

  pub second_unread : (o : Told → Type 0) (fault : ReadFault) → (fault ≡ Memory) ⊎ (fault ≡ ReadFailed None (codes "Makefile")) → IfFits o (λ told. state.texts ≡ [] → Follows told (λ reader. second_text reader state) (without_makefile state) (Err fault))
  second_unread o fault h = λ told e q. own_unread (without_makefile state) (codes "Makefile") neither o fault h told e

  pub second_found : (o o' : Told → Type 0) (bytes : List ℕ) (r : Result State ReadFault) → Keeps o o' → IfFits o (λ told. Some bytes ≡ text_at told (codes "Makefile"))
      → IfFits o' (λ told. Follows told (λ reader. reading 16 reader (codes "Makefile") bytes (begun (without_makefile state) (codes "Makefile"))) (begun (without_makefile state) (codes "Makefile")) r)
      → IfFits o' (λ told. state.texts ≡ [] → Follows told (λ reader. second_text reader state) (without_makefile state) r)
  second_found o o' bytes r keeps is went = λ told e q. own_found (without_makefile state) (codes "Makefile") neither o o' bytes r q keeps is went told e

  pub second_absent : (o : Told → Type 0) → IfFits o (λ told. None ≡ text_at told (codes "Makefile")) → IfFits o (λ told. state.texts ≡ [] → Follows told (λ reader. second_text reader state) (without_makefile state) (Err (NoMakefile None)))
  second_absent o is = λ told e q.
      let next = begun (without_makefile state) (codes "Makefile") in
      let none : length state.texts ≡ 0 = ap (λ (texts : List (List ℕ)). length texts) q in
      let more : reads next ≡ suc (reads (without_makefile state)) = omega (arith, none) in
      own_absent (without_makefile state) (codes "Makefile") neither o o next (Err (NoMakefile None)) more (λ t h. h) is (none_there o None next) told e

  -- the first usual one
  pub usual_unread : (o : Told → Type 0) (fault : ReadFault) → (fault ≡ Memory) ⊎ (fault ≡ ReadFailed None (codes "makefile")) → IfFits o (λ told. IsUnread state → Follows told (λ reader. from_named reader state None) state (Err fault))
  unfolding from_named
  usual_unread o fault h = λ told e q. own_unread state (codes "makefile") (λ reader. second_text reader state) o fault h told e

  pub usual_found : (o o' : Told → Type 0) (bytes : List ℕ) (r : Result State ReadFault) → Keeps o o' → IfFits o (λ told. Some bytes ≡ text_at told (codes "makefile"))
      → IfFits o' (λ told. Follows told (λ reader. reading 16 reader (codes "makefile") bytes (begun state (codes "makefile"))) (begun state (codes "makefile")) r) → IfFits o' (λ told. IsUnread state → Follows told (λ reader. from_named reader state None) state r)
  unfolding from_named
  usual_found o o' bytes r keeps is went = λ told e q. own_found state (codes "makefile") (λ reader. second_text reader state) o o' bytes r q.0 keeps is went told e

  pub usual_second : (o o' : Told → Type 0) (r : Result State ReadFault) → Keeps o o' → IfFits o (λ told. None ≡ text_at told (codes "makefile"))
      → IfFits o' (λ told. state.texts ≡ [] → Follows told (λ reader. second_text reader state) (without_makefile state) r) → IfFits o' (λ told. IsUnread state → Follows told (λ reader. from_named reader state None) state r)
  unfolding from_named
  usual_second o o' r keeps is went = λ told e q.
      let more : reads (without_makefile state) ≡ suc (reads state) = more_of q.1 in
      own_absent state (codes "makefile") (λ reader. second_text reader state) o o' (without_makefile state) r more keeps is
      (λ t f. went t f q.0) told e
    where
      more_of : state.missing ≡ [] → reads (without_makefile state) ≡ suc (reads state)
      more_of h = let none : length state.missing ≡ 0 = ap (λ (m : List (List ℕ)). length m) h in omega (arith, none)

-- the default text, where it is asked for
pub default_read : (defaults : Bool) (file : List ℕ) (old : State) (r : Result State ReadFault) → defaults ≡ true → file ≡ codes "(default)" → IfErr r IsOfText
    → Follows [] (λ reader. with_text reader (below 0 reader) (record { file = file; default = true }) default_text old) old r → old ≡ nothing_read → Gives (λ (state : State). state) r (after_default no_files defaults)
unfolding after_default
default_read defaults file old r asked name own went none =
    subst (λ (d : Bool). Gives (λ (state : State). state) r (after_default no_files d)) (sym asked)
    (subst (λ (s : State). Gives (λ (state : State). state) r (with_text no_files (below 0 no_files) (record { file = codes "(default)"; default = true }) default_text s)) none
    (subst (λ (n : List ℕ). Gives (λ (state : State). state) r (with_text no_files (below 0 no_files) (record { file = n; default = true }) default_text old)) name
    (follows_gives [] (λ reader. with_text reader (below 0 reader) (record { file = file; default = true }) default_text old) old r went own)))
