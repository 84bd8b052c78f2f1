-- The internal macros `$@ $* $< $^ $+`, with their directory and file parts.
use Rattle.std.specs.Prelude.{ℕ, ◌-◌, ◌==◌, not, List, [], ◌∷◌, length, map, filter, take, slice_index_or, option_to_list, Option, None, Some, if◌then◌else◌}
use Rattle.std.specs.Option.{option_map}
use Rattle.std.specs.List.{slice_split, join_with_byte}
use Rattle.std.specs.Str.{bytes_eq}
use Rattle.mk_lines.specs.Bytes.{is_byte}
-- Which part of a name a reference takes; the code declares it.
pub use Rattle.mk_macros.specs.declared.locals.Part.{Part}
use Rattle.mk_macros.specs.declared.locals.Part.TheVariants.{Whole, Directory, File}
use Rattle.mk_macros.specs.declared.locals.Locals as code
use Rattle.mk_macros.specs.declared.locals.Locals.TheVariants as variant
use Rattle.mk_macros.specs.Forms.{is_internal}

-- What the internal macros of a command stand for: its target, the target without its known suffix,
-- the inferred or first prerequisite, and all prerequisites.
pub record Recipe : Type 0 where
  pub target : List ℕ
  pub stem : List ℕ
  pub first : Option (List ℕ)
  pub all : List (List ℕ)

-- The names without repetition, each at its first place.
unfoldable pub distinct : List (List ℕ) → List (List ℕ)
distinct [] = []
distinct (name ∷ names) = name ∷ filter (λ other. not (bytes_eq other name)) (distinct names)

-- The names that an internal macro of a command stands for.
abbrev pub named_in : ℕ → Recipe → List (List ℕ)
named_in b recipe =
    if b == 64 then recipe.target ∷ []
    else (if b == 42 then recipe.stem ∷ []
    else (if b == 60 then option_to_list recipe.first
    else (if b == 94 then distinct recipe.all
    else (if b == 43 then recipe.all
    else []))))

-- The names that an internal macro stands for; outside commands there are none.
abbrev pub named : Option Recipe → ℕ → List (List ℕ)
named None b = []
named (Some recipe) b = named_in b recipe

-- The last component.
abbrev pub last_of : List (List ℕ) → List ℕ
last_of components = slice_index_or components (length components - 1) []

-- All components but the last.
abbrev pub but_last : List (List ℕ) → List (List ℕ)
but_last components = take (length components - 1) components

-- The directory of a name with these components: `.` where there is no slash, `/` where the only
-- slash is the first byte, else the text before the last slash.
abbrev pub directory_of : List (List ℕ) → List ℕ
directory_of components =
    if length components == 1 then 46 ∷ []
    else (if bytes_eq (join_with_byte 47 (but_last components)) [] then 47 ∷ []
    else join_with_byte 47 (but_last components))

-- The directory of a name: the text before its last slash, or `.`, or `/`.
abbrev pub directory : List ℕ → List ℕ
directory name = directory_of (slice_split (is_byte 47) name)

-- The file name: the text after the last slash.
abbrev pub file : List ℕ → List ℕ
file name = last_of (slice_split (is_byte 47) name)

-- The given part of a name.
abbrev pub part_of : Part → List ℕ → List ℕ
part_of Whole name = name
part_of Directory name = directory name
part_of File name = file name

-- The value of an internal macro: the given part of each name that it stands for, separated by one
-- space.
unfoldable pub internal_value : Option Recipe → ℕ → Part → List ℕ
internal_value recipe b part = join_with_byte 32 (map (part_of part) (named recipe b))

-- The part that a byte after the internal macro means: `D` the directory, `F` the file.
abbrev pub part_named : ℕ → Option Part
part_named b = if b == 68 then Some Directory else (if b == 70 then Some File else None)

-- The internal macro with a part, if there is one.
abbrev pub with_part : ℕ → Option Part → Option (ℕ × Part)
with_part b None = None
with_part b (Some part) = Some (b, part)

-- The internal macro and the part that a name in a reference means: the name of an internal macro,
-- alone or followed by `D` or `F`.
abbrev pub internal_of : List ℕ → Option (ℕ × Part)
internal_of [] = None
internal_of (b ∷ []) = if is_internal b then Some (b, Whole) else None
internal_of (b ∷ c ∷ []) = if is_internal b then with_part b (part_named c) else None
internal_of (b ∷ c ∷ d ∷ text) = None

-- What the `Locals` of the code stand for.
abbrev pub recipe_of : code.Locals → Option Recipe
recipe_of variant.Empty = None
recipe_of (variant.Recipe target stem first all) =
    Some (record {
      target = target.now;
      stem = stem.now;
      first = option_map (λ name. name.now) first;
      all = map (λ name. name.now) all.now;
    })
