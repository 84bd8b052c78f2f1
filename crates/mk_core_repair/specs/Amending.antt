-- The files of a request after lines have been appended to its makefile.
use Rattle.std.specs.Prelude.{◌≡◌, ℕ, ◌-◌, ◌==◌, Bool, false, List, [], ◌∷◌, ◌++◌, codes, length, nat_lt, Option, None, Some, if◌then◌else◌}
use Rattle.std.specs.List.{slice_get}
use Rattle.std.specs.Option.{option_map_or, unwrap_or}
use Rattle.mk_lines.specs.Names.{has_name}
use Rattle.mk_read.specs.Files.{Told, text_at}
use Rattle.mk_core.specs.declared.request.Request.{Request}
use Rattle.mk_repair.specs.Lines.{lines_text}
use Rattle.mk_repair.specs.Word.{Word}

-- The usual name of a makefile, by the text of `makefile`, if that exists.
abbrev pub usual_name : Option (List ℕ) → List ℕ
usual_name (Some text) = codes "makefile"
usual_name None = codes "Makefile"

-- The name of the makefile that a request reads: the given one; else `makefile` where that exists,
-- or `Makefile`.
abbrev pub makefile_name : Told → Request → List ℕ
makefile_name files request =
    unwrap_or request.makefile (usual_name (text_at files (codes "makefile")))

-- The text of the makefile that a request reads.
abbrev pub makefile_text : Told → Request → List ℕ
makefile_text files request = unwrap_or (text_at files (makefile_name files request)) []

-- The makefile that the request reads, with this text appended, before these other files.
abbrev pub amended_among : Told → Told → Request → List ℕ → Told
amended_among others files request text =
    (makefile_name files request, makefile_text files request ++ text) ∷ others

-- The files after this text has been appended to the makefile that the request reads.
abbrev pub amended : Told → Request → List ℕ → Told
amended files request text = amended_among files files request text

-- Whether the text ends in a backslash.
abbrev pub ends_in_backslash : List ℕ → Bool
ends_in_backslash text =
    option_map_or (λ byte. byte == 92) (slice_get text (length text - 1)) false

-- What stands between a newline and the lines: another newline where the makefile ends in a
-- backslash, which makes the first newline part of its last line.
abbrev pub joint : List ℕ → List ℕ
joint text = if ends_in_backslash text then 10 ∷ [] else []

-- What is appended to a makefile with this text: a newline, since the makefile may end without one,
-- and then the lines.
abbrev pub added_lines : (makefile lines : List ℕ) → List ℕ
added_lines makefile lines = 10 ∷ (joint makefile ++ lines)

-- What is appended to a makefile with this text to say the words.
abbrev pub added_text : (makefile : List ℕ) → List Word → List ℕ
added_text makefile words = added_lines makefile (lines_text words)

-- The most bytes of an amended makefile.
abbrev pub max_makefile : ℕ
max_makefile = 16777216

-- Whether the makefile would be too long with this text appended.
abbrev pub is_too_long : Told → Request → List ℕ → Bool
is_too_long files request text =
    nat_lt max_makefile (length (makefile_text files request ++ text))

-- The text of the file with this name, if it is among these names and exists.
abbrev pub text_among : List (List ℕ) → Told → List ℕ → Option (List ℕ)
text_among names files name = if has_name names name then text_at files name else None

-- The second map has just the files of the first with these names.
abbrev pub IsCutTo : List (List ℕ) → Told → Told → Type 0
IsCutTo names files cut = (name : List ℕ) → text_at cut name ≡ text_among names files name

-- The name under which a makefile is looked for first where none is given.
abbrev pub looked_for : Option (List ℕ) → List (List ℕ)
looked_for None = codes "makefile" ∷ []
looked_for (Some name) = []

-- The footprint file, if there is one.
abbrev pub book_names : Option (List ℕ) → List (List ℕ)
book_names None = []
book_names (Some name) = name ∷ []

-- The files that the rounds know: the makefile that the request reads, or looks for; those that the
-- first judgement read or passed over; and the footprint file.
abbrev pub names_known : Told → Request → List (List ℕ) → List (List ℕ)
names_known files request names =
    makefile_name files request ∷
    (looked_for request.makefile ++ (names ++ book_names request.book))
