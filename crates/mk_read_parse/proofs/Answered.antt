-- Out of memory, returned as `Memory`.
use Rattle.std.proofs.Common.{◌≡◌, ℕ, Bool, true, false, cond, List, Result, Err, inl, refl}
use Rattle.mk_read.specs.declared.fault.ReadFault.{ReadFault}
use Rattle.mk_read.specs.declared.fault.ReadFault.TheVariants.{Memory, ReadFailed}
use Rattle.mk_read.specs.Files.{IfFits, Told}
use Rattle.mk_read.specs.Following.{Answers, NotesFault, answered}
use Rattle.mk_read.specs.Reading.{Reader, Makefile}
use Rattle.mk_read.specs.Steps.{is_out_of_memory}

module _ (fault : ReadFault) where
  -- it is returned as `Memory`
  pub in_one_way : is_out_of_memory (answered fault) ≡ true → answered fault ≡ Memory
  in_one_way = at (is_out_of_memory fault) refl
    where
      at : (b : Bool) → is_out_of_memory fault ≡ b → is_out_of_memory (cond b Memory fault) ≡ true → cond b Memory fault ≡ Memory
      at true is wants = refl
      at false is wants = absurd cc

  -- and is an answer where the fault is one
  pub answers_so : (o : Told → Type 0) (reads_as : Reader → Result Makefile ReadFault) → IfFits o (λ told. Answers told reads_as (Err fault)) → IfFits o (λ told. Answers told reads_as (Err (answered fault)))
  answers_so o reads_as h = λ told e. at told (is_out_of_memory fault) (h told e)
    where
      at : (told : Told) (b : Bool) → Answers told reads_as (Err fault) → Answers told reads_as (Err (cond b Memory fault))
      at told true k = inl refl
      at told false k = k

-- out of memory is no failed read
no_failure : (old new : List (List ℕ)) (fault : ReadFault) → is_out_of_memory fault ≡ true → NotesFault old new fault → new ≡ old
no_failure old new (ReadFailed place name) memory h = absurd cc
no_failure old new fault memory h = h

pub notes_so : (old new : List (List ℕ)) (fault : ReadFault) → NotesFault old new fault → NotesFault old new (answered fault)
notes_so old new fault h = at (is_out_of_memory fault) refl
  where
    at : (b : Bool) → is_out_of_memory fault ≡ b → NotesFault old new (cond b Memory fault)
    at true memory = no_failure old new fault memory h
    at false memory = h
