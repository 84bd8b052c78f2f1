-- Worlds: what files contain and how old they are, the known outcomes of recipes, and the make in
-- progress.
use Rattle.std.specs.Prelude.{◌≡◌, ℕ, ◌+◌, ◌<◌, ◌≤◌, List, [], ◌∷◌, Bool, true, ◌&&◌, Option, Some, None, option_map, if◌then◌else◌, bytes_eq, nat_eq, length, ◌⊎◌, ◌↔◌}
use Rattle.std.specs.Option.{option_eq}
use Rattle.std.specs.declared.cmp.Ordering.TheVariants.{Less}
use Rattle.std.specs.Ordering.{nat_cmp}
use Rattle.std.specs.Cmp.Lexicographic.{slice_cmp}
use lib.Pointwise.{pointwise}
use Rattle.mk_lines.specs.Names.{place_from}
use Rattle.mk_graph.specs.Membership.{Has}
use Rattle.mk_graph.specs.Graph.{Graph}
use Rattle.mk_build.specs.Setting.{FileName, Setting, is_given, IsNumberOf, reads, writes}

-- The content of a file, as a number, and the stamp of its last write. A greater stamp is later.
pub record File : Type 0 where
  pub content : ℕ
  pub stamp : ℕ

-- A recipe that saw these contents or absences, in the order of its reads, wrote these contents, in
-- the order of its writes.
pub record Outcome : Type 0 where
  pub recipe : ℕ
  pub seen : List (Option ℕ)
  pub written : List ℕ

-- The files that exist, the last stamp that was given out, and the known outcomes.
pub record Disk : Type 0 where
  pub files : FileName → Option File
  pub clock : ℕ
  pub known : List Outcome

-- A make in progress: how many recipes may run at once, its goals, the nodes done (the last one
-- first), the running recipes, those that broke off, and what each running one has read and written
-- in this run (IEEE Std 1003.1-2024, XCU make, option `-j` for the jobs).
pub record Making : Type 0 where
  pub jobs : ℕ
  pub goals : List ℕ
  pub done : List ℕ
  pub running : List ℕ
  pub broken : List ℕ
  pub seen : ℕ → FileName → Option (Option ℕ)
  pub put : ℕ → FileName → Option ℕ

-- A disk, with or without a make in progress.
pub data World : Type 0 where
  Idle : (disk : Disk) → World
  Busy : (making : Making) (disk : Disk) → World

-- The disk of a world.
abbrev pub disk_of : World → Disk
disk_of (Idle d) = d
disk_of (Busy m d) = d

-- The content of the file, or nothing if the file is absent.
abbrev pub content : Disk → FileName → Option ℕ
content d f = option_map (λ file. file.content) (d.files f)

-- The files have exactly these contents.
abbrev pub HoldJust : Disk → (FileName → Option ℕ) → Type 0
HoldJust d at = (f : FileName) → content d f ≡ at f

-- The file exists and has this stamp.
abbrev pub HasStamp : Disk → FileName → ℕ → Type 0
HasStamp d f stamp = option_map (λ file. file.stamp) (d.files f) ≡ Some stamp

-- The file was last written after this clock.
abbrev pub WasWrittenAfter : Disk → FileName → ℕ → Type 0
WasWrittenAfter d f clock = (stamp : ℕ) × HasStamp d f stamp × (clock < stamp)

-- The function `at`, changed at one name.
abbrev pub changed : {A : Type 0} → (FileName → A) → FileName → A → FileName → A
changed at f new other = if bytes_eq f other then new else at other

-- The greatest stamp.
abbrev pub last_stamp : ℕ
last_stamp = 18446744073709551615

-- There are stamps for this many more writes.
abbrev pub HasStampsFor : Disk → ℕ → Type 0
HasStampsFor d many = d.clock + many ≤ last_stamp

-- The disk after a write, which takes the next stamp.
abbrev pub written : Disk → FileName → ℕ → Disk
written d f c =
    record d {
      files = changed d.files f (Some (record { content = c; stamp = d.clock + 1 }));
      clock = d.clock + 1;
    }

-- The disk without this file.
abbrev pub without : Disk → FileName → Disk
without d f = record d { files = changed d.files f None }

-- Whether both lists of seen contents are the same.
abbrev pub same_seen : List (Option ℕ) → List (Option ℕ) → Bool
same_seen = pointwise (option_eq nat_eq)

-- What the recipe is known to write when it has seen this, or nothing if that isn't known.
abbrev pub outcome : List Outcome → ℕ → List (Option ℕ) → Option (List ℕ)
outcome [] t seen = None
outcome (o ∷ known) t seen =
    if nat_eq o.recipe t && same_seen o.seen seen then Some o.written else outcome known t seen

-- A start disk: no outcome is known, each file on it is given, and no stamp is later than the
-- clock.
pub record IsStartDisk (s : Setting) (d : Disk) : Type 0 where
  pub nothing_known : d.known ≡ []
  pub given : (f : FileName) (file : File) → d.files f ≡ Some file → is_given s f ≡ true
  pub stamped : (f : FileName) (file : File) → d.files f ≡ Some file → file.stamp ≤ d.clock

-- The disk that has exactly these files, each with its position in the list, counted from 1, as
-- content and stamp.
abbrev pub numbered_disk : List FileName → Disk
numbered_disk names =
    record {
      files = λ f.
          option_map (λ place. record { content = place; stamp = place }) (place_from 1 names f);
      clock = length names;
      known = [];
    }

-- The names are in ascending order of their bytes, without repeats.
abbrev pub AreAscending : List FileName → Type 0
AreAscending [] = Unit {0}
AreAscending (f ∷ []) = Unit {0}
AreAscending (f ∷ h ∷ names) = (slice_cmp nat_cmp f h ≡ Less) × AreAscending (h ∷ names)

-- The file belongs to the world: it is a node or a source, or a recipe reads or writes it.
abbrev pub IsOfWorld : Graph → Setting → FileName → Type 0
IsOfWorld g s f =
    ((n : ℕ) × IsNumberOf g f n) ⊎
    Has s.sources f ⊎
    ((t : ℕ) × (Has (reads g s t) f ⊎ Has (writes g s t) f))

-- The first disk of a world: its given files, in the order of their bytes, have the contents and
-- stamps 1, 2, 3 and so on, and no other file exists.
pub record IsFirstDisk (g : Graph) (s : Setting) (d : Disk) : Type 0 where
  pub names : List FileName
  pub ascending : AreAscending names
  pub given : (f : FileName) → Has names f ↔ (IsOfWorld g s f × (is_given s f ≡ true))
  pub disk : d ≡ numbered_disk names
