-- Faults of the lower crates as those of a request: which failed reads they note, and out of memory
-- among them.
use Rattle.std.proofs.Common.{◌≡◌, ℕ, Bool, List, true, false, cond, refl, sym, ap}
use Rattle.std.specs.Prelude.{not}
use Rattle.std.proofs.lemmas.Bool.{both_ways}
use Rattle.mk_infer.specs.declared.fault.InferFault.{InferFault}
use Rattle.mk_infer.specs.Steps as inferring
use Rattle.mk_read.specs.declared.fault.ReadFault.{ReadFault}
use Rattle.mk_read.specs.Steps as reading
use Rattle.mk_core_text.specs.declared.fault.Fault.{Fault}
use Rattle.mk_core_text.specs.declared.fault.Fault.TheVariants.{Read, Infer, Memory}
use Rattle.mk_core.specs.Answer.{NotesFault}
use Rattle.mk_core.specs.Steps.{is_out_of_memory, of_infer, of_read}

-- what holds of Memory and of another fault holds of either
either : (P : Fault → Type 0) (fault : Fault) (b : Bool) → (b ≡ true → P Memory) → (b ≡ false → P fault) → P (cond b Memory fault)
either P fault true m f = m refl
either P fault false m f = f refl

pub by_infer : (P : Fault → Type 0) (fault : InferFault) → P Memory → (inferring.is_out_of_memory fault ≡ false → P (Infer fault)) → P (of_infer fault)
by_infer P fault m f = either P (Infer fault) (inferring.is_out_of_memory fault) (λ _. m) f

pub by_read : (P : Fault → Type 0) (fault : ReadFault) → P Memory → (reading.is_out_of_memory fault ≡ false → P (Read fault)) → P (of_read fault)
by_read P fault m f = either P (Read fault) (reading.is_out_of_memory fault) (λ _. m) f

-- a test, from its opposite
pub turned : (b r : Bool) → b ≡ not r → r ≡ not b
turned b true e = sym (ap not e)
turned b false e = sym (ap not e)

-- ---- out of memory has one form

pub plain_infer : (fault : InferFault) → is_out_of_memory (of_infer fault) ≡ true → of_infer fault ≡ Memory
plain_infer fault = by_infer (λ f. is_out_of_memory f ≡ true → f ≡ Memory) fault (λ _. refl) (λ settled found. absurd (both_ways (inferring.is_out_of_memory fault) settled found))

pub plain_read : (fault : ReadFault) → is_out_of_memory (of_read fault) ≡ true → of_read fault ≡ Memory
plain_read fault = by_read (λ f. is_out_of_memory f ≡ true → f ≡ Memory) fault (λ _. refl) (λ settled found. absurd (both_ways (reading.is_out_of_memory fault) settled found))

-- ---- faults that read nothing

pub notes_infer : (old new : List (List ℕ)) (fault : InferFault) → new ≡ old → NotesFault old new (of_infer fault)
notes_infer old new fault e = by_infer (NotesFault old new) fault e (λ _. e)
