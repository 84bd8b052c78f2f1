-- The choice of an inference rule.
use Rattle.std.specs.Prelude.{ℕ, ◌-◌, Bool, not, ◌&&◌, ◌||◌, List, [], ◌++◌, length, take, drop, nat_lt, find, Option, None, Some, if◌then◌else◌}
use Rattle.std.specs.Option.{option_map, option_map_or}
use Rattle.std.specs.Str.{bytes_eq}
use Rattle.mk_lines.specs.Names.{begins_with_any}
use Rattle.mk_read.specs.Names.{has_name}
use Rattle.mk_read.specs.Needs.{commands_of}
use Rattle.mk_read.specs.Reading.{Makefile}
use Rattle.mk_read.specs.Rules.{has_some}
use Rattle.mk_read.specs.State.{Command}
use Rattle.mk_infer.specs.Targets.{own_commands}
use Rattle.mk_infer.specs.There.{Exists, is_there}

-- the name without its last `count` bytes
abbrev pub but_last : ℕ → List ℕ → List ℕ
but_last count name = take (length name - count) name

-- the name ends in the suffix and is longer than it
abbrev pub ends_in : List ℕ → List ℕ → Bool
ends_in name suffix =
    nat_lt (length suffix) (length name) &&
    bytes_eq (drop (length name - length suffix) name) suffix

-- the known suffix of a name, which is empty if it has none
abbrev pub ending : Makefile → List ℕ → List ℕ
ending m name = option_map_or (λ suffix. suffix) (find (ends_in name) m.suffixes) []

-- the name without its known suffix
abbrev pub stem : Makefile → List ℕ → List ℕ
stem m name = but_last (length (ending m name)) name

-- the commands of the inference rule that makes the name from a name with this suffix in place of
-- its own
abbrev pub commands_from : Makefile → List ℕ → List ℕ → Option (List Command)
commands_from m name suffix = commands_of m.rules (suffix ++ ending m name)

-- the inference rule with this source suffix has commands, and its prerequisite is present
abbrev pub fits : Makefile → Exists → List ℕ → List ℕ → Bool
fits m e name suffix =
    has_some (commands_from m name suffix) && is_there m e (stem m name ++ suffix)

-- a name may get an inference rule if it has no commands, isn't phony and isn't under a fixed
-- prefix
abbrev pub may_infer : Makefile → Exists → List ℕ → Bool
may_infer m e name =
    not (has_some (own_commands m name) || (has_name m.phony name || begins_with_any e.fixed name))

-- the first suffix of the list whose inference rule fits the name
abbrev pub chosen_suffix : Makefile → Exists → List ℕ → Option (List ℕ)
chosen_suffix m e name = if may_infer m e name then find (fits m e name) m.suffixes else None

-- the inferred prerequisite of a name
unfoldable pub choice : Makefile → Exists → List ℕ → Option (List ℕ)
choice m e name = option_map (λ suffix. stem m name ++ suffix) (chosen_suffix m e name)

-- the commands of the inference rule with the chosen suffix, else those of the name's own rule line
abbrev pub commands_by : Makefile → List ℕ → Option (List ℕ) → Option (List Command)
commands_by m name None = own_commands m name
commands_by m name (Some suffix) = commands_from m name suffix

-- the commands that make the name: of its inference rule, else of its own rule line
unfoldable pub chosen_commands : Makefile → Exists → List ℕ → Option (List Command)
chosen_commands m e name = commands_by m name (chosen_suffix m e name)
