-- The command line as data.
use Rattle.std.specs.Prelude.{◌≡◌, ℕ, ◌==◌, Bool, true, false, List, [], ◌∷◌, Option, None, Some, codes, fold}
use Rattle.std.specs.List.{list_any}
use Rattle.std.specs.Option.{option_map_or}
use Rattle.clap.specs.declared.builder.action.ArgAction.TheVariants.{Count}
use Rattle.clap.specs.declared.builder.value_parser.ValueParser.TheVariants.{Unsigned}
use Rattle.clap.specs.Words.{App, Rule, new_app, new_rule, with_rule, with_subcommand}

-- `-f F`, at most once.
abbrev pub makefile_option : Rule
makefile_option = record (new_rule (codes "makefile")) { short = Some 102; value_names = 1 }

-- `-r`, any number of times.
abbrev pub no_defaults_option : Rule
no_defaults_option =
    record (new_rule (codes "no-defaults")) { short = Some 114; action = Some Count }

-- `-b BOOK`, at most once.
abbrev pub book_option : Rule
book_option = record (new_rule (codes "book")) { short = Some 98; value_names = 1 }

-- `-c` of `graph`, any number of times.
abbrev pub commands_option : Rule
commands_option = record (new_rule (codes "commands")) { short = Some 99; action = Some Count }

-- `-b BOOK`, exactly once.
abbrev pub needed_book_option : Rule
needed_book_option = record book_option { required = true }

-- `-c` of `check`, any number of times.
abbrev pub only_certificate_option : Rule
only_certificate_option =
    record (new_rule (codes "only-certificate")) { short = Some 99; action = Some Count }

-- `-w`, any number of times.
abbrev pub in_words_option : Rule
in_words_option =
    record (new_rule (codes "in-words")) { short = Some 119; action = Some Count }

-- `-e N`, at most once, with a whole number from 1 on, below 2 to the 64th.
abbrev pub evidence_option : Rule
evidence_option =
    record (new_rule (codes "evidence")) {
      short = Some 101;
      value_names = 1;
      parser = Some (Unsigned 1 18446744073709551615);
    }

-- `--json`, any number of times.
abbrev pub in_json_option : Rule
in_json_option =
    record (new_rule (codes "json")) { long = Some (codes "json"); action = Some Count }

-- `--part` of `repair`, any number of times.
abbrev pub part_option : Rule
part_option =
    record (new_rule (codes "part")) { long = Some (codes "part"); action = Some Count }

-- `DIR` of `since`, exactly once.
abbrev pub folder_argument : Rule
folder_argument = record (new_rule (codes "folder")) { value_names = 1; required = true }

-- `-k CERT`, exactly once.
abbrev pub certificate_option : Rule
certificate_option =
    record (new_rule (codes "certificate")) { short = Some 107; value_names = 1; required = true }

-- `-p PLAN`, exactly once.
abbrev pub plan_option : Rule
plan_option =
    record (new_rule (codes "plan")) { short = Some 112; value_names = 1; required = true }

-- `[WORD..]`
abbrev pub words_argument : Rule
words_argument =
    record (new_rule (codes "words")) {
      range = Some (record { start_inclusive = 0; end_inclusive = 18446744073709551615 });
      value_names = 1;
    }

-- The subcommand with this name and these options and arguments.
abbrev pub subcommand : List ℕ → List Rule → App
subcommand name rules = fold with_rule (new_app name) rules

-- `graph [-f F] [-r] [-b BOOK] [-c] [-w] [--json] [WORD..]`
abbrev pub graph_command : App
graph_command =
    subcommand (codes "graph")
    (makefile_option ∷ no_defaults_option ∷ book_option ∷ commands_option ∷ in_words_option ∷
    in_json_option ∷ words_argument ∷ [])

-- `check [-f F] [-r] -b BOOK [-c] [-w] [-e N] [--json] [WORD..]`
abbrev pub check_command : App
check_command =
    subcommand (codes "check")
    (makefile_option ∷ no_defaults_option ∷ needed_book_option ∷ only_certificate_option ∷
    in_words_option ∷ evidence_option ∷ in_json_option ∷ words_argument ∷ [])

-- `verify [-f F] [-r] -b BOOK -k CERT [-w] [--json] [WORD..]`
abbrev pub verify_command : App
verify_command =
    subcommand (codes "verify")
    (makefile_option ∷ no_defaults_option ∷ needed_book_option ∷ certificate_option ∷
    in_words_option ∷ in_json_option ∷ words_argument ∷ [])

-- `repair [-f F] [-r] -b BOOK [--part] [-w] [--json] [WORD..]`
abbrev pub repair_command : App
repair_command =
    subcommand (codes "repair")
    (makefile_option ∷ no_defaults_option ∷ needed_book_option ∷ part_option ∷ in_words_option ∷
    in_json_option ∷ words_argument ∷ [])

-- `since DIR [-f F] [-r] -b BOOK [-w] [--json] [WORD..]`
abbrev pub since_command : App
since_command =
    subcommand (codes "since")
    (makefile_option ∷ no_defaults_option ∷ needed_book_option ∷ folder_argument ∷
    in_words_option ∷ in_json_option ∷ words_argument ∷ [])

-- `simulate [-f F] [-r] -b BOOK -p PLAN [-w] [--json] [WORD..]`
abbrev pub simulate_command : App
simulate_command =
    subcommand (codes "simulate")
    (makefile_option ∷ no_defaults_option ∷ needed_book_option ∷ plan_option ∷ in_words_option ∷
    in_json_option ∷ words_argument ∷ [])

-- `explain [WORD..]`
abbrev pub explain_command : App
explain_command = subcommand (codes "explain") (words_argument ∷ [])

-- The program `mkcheck`, which has a version.
abbrev pub named_program : App
named_program =
    let app = new_app (codes "mkcheck") in record app {
      top = record (app.top)
          { has_version = true };
    }

-- The program, whose words come without its name, and which requires a subcommand.
abbrev pub program : App
program =
    record named_program {
      top = record (named_program.top)
          { no_binary_name = true; subcommand_required = true };
    }

-- A program with these subcommands.
abbrev pub with_subcommands : App → List App → App
with_subcommands app commands = fold (λ app command. with_subcommand app command.top) app commands

-- `mkcheck` with its seven subcommands.
abbrev pub command_line : App
command_line =
    with_subcommands program
    (graph_command ∷ check_command ∷ repair_command ∷ verify_command ∷ since_command ∷
    simulate_command ∷ explain_command ∷ [])

-- The word is read as an option or as `--`: it is a `-` and at least one more byte.
abbrev pub is_option : List ℕ → Bool
is_option [] = false
is_option (b ∷ []) = false
is_option (b ∷ c ∷ rest) = b == 45

-- The words `graph [-f F] WORD..`.
abbrev pub graph_words : Option (List ℕ) → List (List ℕ) → List (List ℕ)
graph_words None words = codes "graph" ∷ words
graph_words (Some name) words = codes "graph" ∷ codes "-f" ∷ name ∷ words

-- Neither the makefile's name nor one of the words is read as an option.
pub record HasNoOption (makefile : Option (List ℕ)) (given : List (List ℕ)) : Type 0 where
  pub name : option_map_or is_option makefile false ≡ false
  pub words : list_any is_option given ≡ false
