-- What the functions that expand append to their buffers.
use Rattle.std.specs.Prelude.{◌≡◌, ◌⊎◌, ◌≤◌, ◌<◌, ℕ, zero, suc, ◌||◌, List, [], ◌∷◌, ◌++◌, length, nat_lt, Option, Result, Ok, Err, if◌then◌else◌}
use Rattle.std.specs.Cow.{cow_slice_items}
use Rattle.mk_lines.specs.Results.{Fails}
use Rattle.mk_macros.specs.declared.fault.MacroFault.{MacroFault}
use Rattle.mk_macros.specs.declared.fault.MacroFault.TheVariants.{ValueTooLong, Memory}
use Rattle.mk_macros.specs.declared.appending.Used.{Used}
use Rattle.mk_macros.specs.declared.expanded_part.ExpandedPart.{ExpandedPart}
use Rattle.mk_macros.specs.declared.appending.Scope as code
use Rattle.mk_macros.specs.declared.going.Going as going
use Rattle.mk_macros.specs.Forms.{Form, Reference}
use Rattle.mk_macros.specs.Locals.{recipe_of, internal_of}
use Rattle.mk_macros.specs.Expansion.{Expanded, Scope, Deeper, expand_substitution, value_of, apply_substitution, given, refused, expanded}
use Rattle.mk_macros.specs.Steps.{◌>>=◌}

-- The scope that a `Scope` of the code stands for.
abbrev pub scope_view : code.Scope → Scope
scope_view scope = record { table = scope.table.now; recipe = recipe_of scope.locals.now }

-- The names of the macros whose values are being expanded, the innermost first.
abbrev pub names_in : going.Going → List (List ℕ)
names_in going.Nothing = []
names_in (going.Under' name p others) = name.now ∷ names_in others

-- The expansion that a `ExpandedPart` of the code stands for.
abbrev pub piece_view : ExpandedPart → Expanded
piece_view piece =
    record {
      text = cow_slice_items piece.text;
      references = piece.used.references;
      varying = piece.used.varying;
    }

-- How a text inside a reference is expanded, where the text that holds the reference has this many
-- levels below it.
abbrev pub below : ℕ → Scope → Deeper
below zero scope = refused
below (suc levels) scope = expanded levels scope

-- A value of at most `room` bytes, or `ValueTooLong`.
abbrev pub within : ℕ → Expanded → Result Expanded MacroFault
within room value = if nat_lt room (length value.text) then Err ValueTooLong else Ok value

-- The value of a form, of at most `room` bytes.
abbrev pub form_within : Scope → Deeper → List (List ℕ) → ℕ → ℕ → Form → Result Expanded MacroFault
form_within scope deeper going references room form =
    given scope deeper going references form >>= within room

-- The value of a reference, of at most `room` bytes.
abbrev pub reference_within : Scope → Deeper → List (List ℕ) → ℕ → ℕ → List ℕ →
    Result Expanded MacroFault
reference_within scope deeper going references room inside =
    form_within scope deeper going references room (Reference inside)

-- The value of a reference whose name has been expanded, of at most `room` bytes.
abbrev pub behind_name : Scope → Deeper → List (List ℕ) → ℕ → Expanded → Option (List ℕ × List ℕ) →
    Result Expanded MacroFault
behind_name scope deeper going room name texts = (do
  ends ← expand_substitution deeper going name.references texts
  value ← value_of scope deeper going ends.references name.text (internal_of name.text)
  Ok (record {
    text = apply_substitution ends.texts value.text;
    references = value.references;
    varying = name.varying || (ends.varying || value.varying);
  })) >>= within room

-- The run was appended to the buffer where it is at most `room` bytes long; else the fault is
-- `ValueTooLong`, or it is `Memory`.
abbrev pub AppendsRun : {U : Type 0} → ℕ → List ℕ → List ℕ → List ℕ → Result U MacroFault → Type 0
AppendsRun room run old new (Ok done) = (length run ≤ room) × (new ≡ old ++ run)
AppendsRun room run old new (Err fault) =
    (fault ≡ Memory) ⊎ ((fault ≡ ValueTooLong) × (room < length run))

-- What the function appended to the buffer and counted is what is defined, or it failed with the
-- defined fault or with `Memory`.
abbrev pub Appends : List ℕ → List ℕ → Result Used MacroFault → Result Expanded MacroFault → Type 0
Appends old new (Ok used) defined =
    (text : List ℕ) × (new ≡ old ++ text) ×
    (defined ≡ Ok (record { text = text; references = used.references; varying = used.varying }))
Appends old new (Err fault) defined = Fails Memory fault defined
