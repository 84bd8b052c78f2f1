-- What contracts see of the code's tables of files. The meaning of an answer doesn't depend on this
-- file.
use Rattle.std.specs.Prelude.{◌≡◌, ◌⊎◌, ℕ, Bool, List, ◌∷◌, map, Option, None, Some, if◌then◌else◌}
use Rattle.std.specs.String.{string_bytes}
use Rattle.mk_foot.specs.Names.{Has}
use Rattle.mk_read.specs.Files.{Told}
use Rattle.mk_core.specs.declared.request.Request.{Request}
use Rattle.mk_core_text.specs.declared.fault.Fault.{Fault}
use Rattle.mk_core_text.specs.declared.fault.Fault.TheVariants.{FileReadFailed, Memory}
use Rattle.mk_core_repair.specs.declared.known_files.KnownFiles.{KnownFiles}
use Rattle.mk_core_repair.specs.declared.round_files.RoundFiles.{RoundFiles}
use Rattle.mk_core_repair.specs.declared.own_makefile.OwnMakefile.{OwnMakefile}
use Rattle.mk_core_repair.specs.Amending.{IsCutTo, makefile_name, makefile_text}

-- The value of the option, or else this value where the test passes.
abbrev pub or_if : {A : Type 0} → Option A → Bool → A → Option A
or_if (Some x) passes y = Some x
or_if None passes y = if passes then Some y else None

-- The known files that exist, with their texts.
abbrev pub known_by : KnownFiles → Told
known_by k = map (λ entry. (string_bytes entry.0, entry.1.items)) k.files.entries

-- The files that a round sees: the amended makefile before the known files.
abbrev pub seen_by : RoundFiles → Told
seen_by r = (r.makefile.now, r.text.now) ∷ known_by r.known.now

-- The fault is out of memory, or the failed read of one of these files.
abbrev pub IsReadFault : List (List ℕ) → Fault → Type 0
IsReadFault names fault =
    (fault ≡ Memory) ⊎
    ((name : List ℕ) × Has names name × (fault ≡ FileReadFailed name))

-- The makefile and the known files are those of this map.
pub record IsBase (told : Told) (request : Request) (own : OwnMakefile) (known : KnownFiles) :
    Type 0 where
  pub is_name : own.name ≡ makefile_name told request
  pub is_text : own.text.items ≡ makefile_text told request
  pub is_cut : IsCutTo known.names told (known_by known)
