-- Over an empty makefile a request is refused only where it is refused before any file is read.
use Rattle.std.proofs.Common.{◌≡◌, ◌∙◌, ℕ, Bool, true, false, List, [], ◌∷◌, codes, Option, None, Some, Result, Ok, Err, refl, sym, ap, subst, inl, inr, if◌then◌else◌}
use Rattle.std.specs.Prelude.{IfErr, IfOk, is_ok, not, ◌||◌}
use Rattle.std.specs.Option.{unwrap_or}
use Rattle.std.proofs.lemmas.Slice.Eq.{bytes_eq-Decides}
use Rattle.std.specs.Str.{bytes_eq}
use Rattle.mk_lines.specs.Paths.{is_plain_path}
use Rattle.mk_lines.specs.Lines.{first_fault, logical_lines, number_runs, plain_text, runs, runs_of}
use Rattle.mk_read.specs.declared.fault.ReadFault.{ReadFault}
use Rattle.mk_read.specs.declared.fault.ReadFault.TheVariants.{BadMakefileName, ReadFailed}
use Rattle.mk_read.specs.Files.{Told}
use Rattle.mk_read.specs.Following.{Answers, NotesFailure, reader_of}
use Rattle.mk_read.specs.Reading.{Makefile, Reader, after_default, from_named, makefile, makefile_of, named, own_text, reading, text_or, with_lines, with_operands}
use Rattle.mk_read.specs.State.{State, parted}
use Rattle.mk_read.specs.Steps.{◌>>=◌, in_file, is_out_of_memory}
use Rattle.mk_read.proofs.DefaultText.{default_text_says_this}
use Rattle.mk_read_parse.specs.Requests.{no_files, request_read}

-- an empty text has no lines
no_lines : logical_lines [] ≡ Ok []
unfolding logical_lines runs_of number_runs runs plain_text first_fault
no_lines = refl

-- reading it changes nothing
empty_read : (reader : Reader) (file : List ℕ) (state : State) → reading 16 reader file [] state ≡ Ok state
unfolding reading with_lines
empty_read reader file state = ap (λ found. in_file file found >>= λ lines. with_lines reader (Some (reading 15 reader)) (record { file = file; default = false }) lines state) no_lines

-- the reader with one file, which is empty
abbrev one_empty : List ℕ → Reader
one_empty name = reader_of ((name, []) ∷ []) None

own_read : (name : List ℕ) (state : State) (other : Result State ReadFault) → own_text (one_empty name) state name other ≡ Ok (record (parted state) { texts = name ∷ [] })
unfolding own_text
own_read name state other =
    ap (λ found. text_or (one_empty name) state name other (if found then Some [] else None)) ((bytes_eq-Decides name name).1 refl)
    ∙ empty_read (one_empty name) name (record (parted state) { texts = name ∷ [] })

-- the makefile is read
makefile_found : (name : Option (List ℕ)) (state : State) → is_ok (from_named (one_empty (unwrap_or name (codes "makefile"))) state name) ≡ true
unfolding from_named
makefile_found None state = ap is_ok (own_read (codes "makefile") state _)
makefile_found (Some name) state = ap is_ok (own_read name state _)

-- a last step that never fails
then_ok : {A B : Type 0} (f : A → B) (r : Result A ReadFault) → is_ok (r >>= λ x. Ok (f x)) ≡ is_ok r
then_ok f (Ok x) = refl
then_ok f (Err fault) = refl

chosen : (x : Option (List ℕ)) (fault : ReadFault) (refused : Bool) → IfOk (if refused then Err fault else Ok x) (λ y. y ≡ x)
chosen x fault true = tt
chosen x fault false = refl

same_name : (name : Option (List ℕ)) → IfOk (named name) (λ file. file ≡ name)
same_name None = refl
same_name (Some name) = chosen (Some name) (BadMakefileName name) (not (is_plain_path name) || bytes_eq name (codes "-"))

module _ (name : Option (List ℕ)) (defaults : Bool) (operands : List (List ℕ)) where
  abbrev reader : Reader
  reader = one_empty (unwrap_or name (codes "makefile"))

  same_default : (flag : Bool) → after_default no_files flag ≡ after_default reader flag
  unfolding after_default
  same_default false = refl
  same_default true = default_text_says_this no_files ∙ sym (default_text_says_this reader)

  abbrev rest : State → Option (List ℕ) → Result Makefile ReadFault
  rest start file = with_operands 1 operands start.table >>= λ table. (from_named reader (record start { table = table }) file >>= λ state. Ok (makefile_of state))

  by_operands : (start : State) → is_ok (with_operands 1 operands start.table) ≡ is_ok (rest start name)
  by_operands start = at (with_operands 1 operands start.table)
    where
      at : (r : Result _ ReadFault) → is_ok r ≡ is_ok (r >>= λ table. (from_named reader (record start { table = table }) name >>= λ state. Ok (makefile_of state)))
      at (Ok table) = sym (then_ok makefile_of (from_named reader (record start { table = table }) name) ∙ makefile_found name (record start { table = table }))
      at (Err fault) = refl

  by_default : (r : Result State ReadFault) → is_ok (r >>= λ start. with_operands 1 operands start.table) ≡ is_ok (r >>= λ start. rest start name)
  by_default (Ok start) = by_operands start
  by_default (Err fault) = refl

  by_name : (r : Result (Option (List ℕ)) ReadFault) → IfOk r (λ file. file ≡ name)
      → is_ok (r >>= λ file. (after_default no_files defaults >>= λ start. with_operands 1 operands start.table)) ≡ is_ok (r >>= λ file. (after_default reader defaults >>= λ start. rest start file))
  by_name (Ok file) same =
      ap (λ d. is_ok (d >>= λ start. with_operands 1 operands start.table)) (same_default defaults)
      ∙ (by_default (after_default reader defaults)
      ∙ ap (λ f. is_ok (after_default reader defaults >>= λ start. rest start f)) (sym same))
  by_name (Err fault) same = refl

  reads_empty : is_ok (request_read name defaults operands) ≡ is_ok (makefile reader name defaults operands)
  unfolding makefile
  reads_empty = by_name (named name) (same_name name)

  -- the answer over it says whether a request is refused before any file is read
  tested : (result : Result Makefile ReadFault) → Answers ((unwrap_or name (codes "makefile"), []) ∷ []) (λ r. makefile r name defaults operands) result → NotesFailure [] [] result
      → IfErr result (λ fault. is_out_of_memory fault ≡ false) → is_ok result ≡ is_ok (request_read name defaults operands)
  tested (Ok m) answer noted known = sym (reads_empty ∙ ap is_ok answer)
  tested (Err (ReadFailed place file)) answer noted known = absurd cc
  tested (Err fault) (inl memory) noted known =
      let bad : true ≡ false = ap is_out_of_memory (sym memory) ∙ known in absurd cc
  tested (Err fault) (inr e) noted known = sym (reads_empty ∙ ap is_ok e)

  -- the same, where what is read is equal to these
  pub tested_over : (told : Told) (given : Option (List ℕ)) (words : List (List ℕ)) (result : Result Makefile ReadFault) → told ≡ (unwrap_or name (codes "makefile"), []) ∷ [] → given ≡ name → words ≡ operands
      → Answers told (λ r. makefile r given defaults words) result → NotesFailure [] [] result → IfErr result (λ fault. is_out_of_memory fault ≡ false) → is_ok result ≡ is_ok (request_read name defaults operands)
  tested_over told given words result of_told of_given of_words answer noted known =
      tested result
      (subst (λ (t : Told). Answers t (λ r. makefile r name defaults operands) result) of_told
      (subst (λ (w : List (List ℕ)). Answers told (λ r. makefile r name defaults w) result) of_words
      (subst (λ (g : Option (List ℕ)). Answers told (λ r. makefile r g defaults words) result) of_given answer))) noted known
