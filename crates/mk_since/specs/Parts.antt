-- The contracts of the functions that compute parts of the answer. Its meaning doesn't depend on
-- this file.
use Rattle.std.specs.Prelude.{◌≡◌, Bool, true, false, not, ◌&&◌, ◌||◌, List, [], ◌∷◌, filter, find, fold, slice_index_or, Option, None, Some, if◌then◌else◌}
use Rattle.std.specs.List.{flat_map, list_all, list_any}
use Rattle.std.specs.Str.{bytes_eq}
use Rattle.mk_lines.specs.Names.{has_name, with_name}
use Rattle.mk_foot.specs.Setting.{is_given}
use Rattle.mk_graph.specs.Membership.{Has}
use Rattle.mk_build.specs.Setting.{FileName}
use Rattle.mk_subject.specs.NodeRow.{NodeRow, row_reads, row_writes, lines_eq}
use Rattle.mk_subject.specs.Subject.{Subject, all_writes}
use Rattle.mk_find.specs.declared.finding.Finding.{Finding}
use Rattle.mk_find.specs.declared.finding.Finding.TheVariants.{Race, Stale}
use Rattle.mk_since.specs.Past.{Past, PastRecipe}

-- What is kept of the recipe of a row.
abbrev pub recipe_in : NodeRow → PastRecipe
recipe_in e = record {
  target = e.node.name;
  commands = e.commands.lines;
  reads = row_reads e;
  writes = row_writes e;
}

-- Whether the build has the file: it is given, or a recipe writes it.
abbrev pub has_file : Subject → FileName → Bool
has_file y f = is_given y.setting f || has_name (all_writes y) f

-- Whether all of the names are among the others.
abbrev pub are_among : List FileName → List FileName → Bool
are_among names others = list_all (has_name others) names

-- Whether the lists have different files.
abbrev pub are_others : List FileName → List FileName → Bool
are_others names others = not (are_among names others && are_among others names)

-- Whether the old recipe read a makefile text of the new build y.
abbrev pub read_text : Subject → PastRecipe → Bool
read_text y r = list_any (has_name y.setting.texts) r.reads

-- Whether what the old recipe wrote can't stay for the recipe of the row e of the new build y.
abbrev pub is_other : Subject → PastRecipe → NodeRow → Bool
is_other y r e =
    not (lines_eq r.commands e.commands.lines) ||
    (are_others r.writes (row_writes e) ||
    (are_others r.reads (row_reads e) || read_text y r))

-- The old recipe with this target, if there is one.
abbrev pub recipe_for : Past → FileName → Option PastRecipe
recipe_for past target = find (λ (r : PastRecipe). bytes_eq target r.target) past.recipes

-- Whether what the recipe of the row e of the new build y wrote before can't stay, by the old recipe
-- with its target.
abbrev pub cant_stay_by : Option PastRecipe → Subject → NodeRow → Bool
cant_stay_by None y e = true
cant_stay_by (Some r) y e = is_other y r e

-- Whether what the recipe of the row e of the new build y wrote before can't stay: the old recipe
-- with its target is doubted or is another one, or there is none.
abbrev pub cant_stay : Past → Subject → NodeRow → Bool
cant_stay past y e =
    has_name past.doubted e.node.name || cant_stay_by (recipe_for past e.node.name) y e

-- Whether the row e of the new build y is made anew, by a table of the nodes that every make runs.
abbrev pub is_made_anew : Past → Subject → List Bool → NodeRow → Bool
is_made_anew past y always e =
    not (slice_index_or always e.number false) && cant_stay past y e

-- The names with those of the files added that pass.
abbrev pub with_those : (FileName → Bool) → List FileName → List FileName → List FileName
with_those passes names files = fold with_name names (filter passes files)

-- One of the list leads to the file.
abbrev pub Among : {A : Type 0} → (A → FileName → Type 0) → List A → FileName → Type 0
Among {A} P items f = (a : A) × Has items a × P a f

-- The recipe wrote the file, and the new build y doesn't have it.
abbrev pub Leaves : Subject → PastRecipe → FileName → Type 0
Leaves y r f = Has r.writes f × (not (has_file y f) ≡ true)

-- The row of the new build y is made anew and writes the file, which the old build has itself.
abbrev pub Renews : Past → Subject → List Bool → NodeRow → FileName → Type 0
Renews past y always e f =
    Has (row_writes e) f × (has_name past.own f ≡ true) × (is_made_anew past y always e ≡ true)

-- The recipe that a race or a stale read is about.
abbrev pub about : Finding → List FileName
about (Race recipe writer file) = recipe ∷ []
about (Stale recipe file) = recipe ∷ []
about other = []

-- The recipes that races and stale reads are about.
abbrev pub all_about : List Finding → List FileName
all_about found = fold with_name [] (flat_map about found)

-- Doubts so far: the targets of recipes, and the files that these write.
pub record Doubts : Type 0 where
  pub targets : List FileName
  pub files : List FileName

-- Whether the recipe of a row is doubted: one of the findings is about it, or it reads one of the
-- files.
abbrev pub is_doubted : List FileName → List FileName → NodeRow → Bool
is_doubted found files e =
    e.node.recipe && (has_name found e.node.name || list_any (has_name files) (row_reads e))

-- The doubts after a row.
abbrev pub with_row : List FileName → Doubts → NodeRow → Doubts
with_row found so_far e =
    if is_doubted found so_far.files e
    then record {
      targets = with_name so_far.targets e.node.name;
      files = fold with_name so_far.files (row_writes e);
    }
    else so_far

-- The doubts about the rows.
abbrev pub doubts_among : List FileName → List NodeRow → Doubts
doubts_among found entries = fold (with_row found) (record { targets = []; files = [] }) entries

-- The targets of recipes that are doubted among the rows.
abbrev pub doubted_among : List Finding → List NodeRow → List FileName
doubted_among found entries = (doubts_among (all_about found) entries).targets
