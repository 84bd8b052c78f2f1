-- The checks of a footprint file after its JSON shape.
use Rattle.std.specs.Prelude.{ℕ, ⊤, Bool, true, List, [], ◌∷◌, map, find, Option, None, Some, Result, Ok, Err, ok_or}
use Rattle.std.specs.List.{list_all}
use Rattle.mk_lines.specs.Paths.{is_plain_path}
use Rattle.mk_foot.specs.declared.fault.FootFault.{FootFault}
use Rattle.mk_foot.specs.declared.fault.FootFault.TheVariants.{BadName, TwoRecords, SourceIsFixed, NoGroup, NoList}
use Rattle.mk_foot.specs.declared.key.Key.{Key}
use Rattle.mk_foot.specs.declared.key.Key.TheVariants as keys
use Rattle.mk_foot.specs.Steps.{◌>>=◌, check_that, test_each}
use Rattle.mk_foot.specs.Names.{has_name, first_repeat, same_names, is_prefix, begins_with_any}
use Rattle.mk_foot.specs.Parts.{RawRecord, Group, SharedList, FootprintFile}

-- all names are plain paths, else `BadName` (55) with the key under which they stand
abbrev pub are_plain : Key → List (List ℕ) → Result ⊤ FootFault
are_plain key names = check_that (BadName key) (list_all is_plain_path names)

-- the names of a record are plain paths: its target, then its reads, then its writes
unfoldable pub entry_is_plain : RawRecord → Result ⊤ FootFault
entry_is_plain entry = do
  _ ← are_plain keys.Target (entry.target ∷ [])
  _ ← are_plain keys.Reads entry.reads
  are_plain keys.Writes entry.writes

-- the goals of a group, if it has some, are plain paths
abbrev pub goals_are_plain : Option (List (List ℕ)) → Result ⊤ FootFault
goals_are_plain None = Ok tt
goals_are_plain (Some goals) = are_plain keys.Goals goals

-- the names of a group are plain paths: its goals, then those of each record
unfoldable pub group_is_plain : Group → Result ⊤ FootFault
group_is_plain group = do
  _ ← goals_are_plain group.goals
  test_each entry_is_plain group.records

-- the names of a shared list are plain paths
abbrev pub list_is_plain : SharedList → Result ⊤ FootFault
list_is_plain list = are_plain keys.Lists list.names

-- all names and prefixes of a file are valid, checked in this order: the fixed prefixes, the
-- sources, the shared lists in the order of their names, then group by group
unfoldable pub names_are_plain : FootprintFile → Result ⊤ FootFault
names_are_plain file = do
  _ ← check_that (BadName keys.Fixed) (list_all is_prefix file.fixed)
  _ ← are_plain keys.Sources file.sources
  _ ← test_each list_is_plain file.lists
  test_each group_is_plain file.groups

-- success if no name was found, else the fault with the name
abbrev pub unless_found : (List ℕ → FootFault) → Option (List ℕ) → Result ⊤ FootFault
unless_found fault None = Ok tt
unless_found fault (Some name) = Err (fault name)

-- no target occurs twice in a group, else `TwoRecords` (54)
abbrev pub targets_differ : Group → Result ⊤ FootFault
targets_differ group =
    unless_found TwoRecords
    (first_repeat [] (map (λ (entry : RawRecord). entry.target) group.records))

-- no source is under a fixed prefix, else `SourceIsFixed` (56)
abbrev pub sources_are_not_fixed : FootprintFile → Result ⊤ FootFault
sources_are_not_fixed file =
    unless_found SourceIsFixed (find (begins_with_any file.fixed) file.sources)

-- the names of the shared lists
abbrev pub list_names : FootprintFile → List (List ℕ)
list_names file = map (λ (list : SharedList). list.name) file.lists

-- all shared lists that the records of a group name are among these, else `NoList` (58)
abbrev pub shared_lists_exist : List (List ℕ) → Group → Result ⊤ FootFault
shared_lists_exist names group =
    check_that NoList (list_all (λ (entry : RawRecord).
    list_all (has_name names) entry.shared) group.records)

-- the first fault of all checks in their order: names, targets, sources, shared lists
unfoldable pub check_all : FootprintFile → Result ⊤ FootFault
check_all file = do
  _ ← names_are_plain file
  _ ← test_each targets_differ file.groups
  _ ← sources_are_not_fixed file
  test_each (shared_lists_exist (list_names file)) file.groups

-- a group with goals serves just these goals, a group without goals serves any
abbrev pub serves : List (List ℕ) → Option (List (List ℕ)) → Bool
serves goals None = true
serves goals (Some own) = same_names goals own

-- the first group that serves the goals, else `NoGroup` (57)
abbrev pub group_for : List (List ℕ) → List Group → Result Group FootFault
group_for goals groups =
    ok_or (find (λ (group : Group). serves goals group.goals) groups) NoGroup
