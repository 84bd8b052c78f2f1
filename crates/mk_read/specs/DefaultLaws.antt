-- The contents of the default text.
use Rattle.std.specs.Prelude.{◌≡◌, ℕ, true, false, List, [], ◌∷◌, codes, filter, Option, Some, Ok}
use Rattle.mk_macros.specs.Table.{Macro}
use Rattle.mk_read.specs.Reading.{Reader, Makefile, counts, after_default, makefile}
use Rattle.mk_read.specs.RuleLaws.{of_default_text}
use Rattle.mk_read.specs.State.{Command, RuleRead, Last, State, rules_of}

-- A delayed macro that isn't fixed.
abbrev pub default_macro : List ℕ → List ℕ → Macro
default_macro name text = record { name = name; text = text; immediate = false; fixed = false }

-- A command on this line of the default text.
abbrev pub default_command : ℕ → List ℕ → Command
default_command line text =
    record { text = text; place = record { file = codes "(default)"; line = line } }

-- A rule line of the default text with one target and no prerequisites.
abbrev pub default_rule : ℕ → List ℕ → List Command → RuleRead
default_rule line target commands =
    record {
      targets = target ∷
          [];
      words = [];
      commands = Some commands;
      place = record { file = codes "(default)"; line = line };
      default = true;
    }

-- What has been read after the default text.
abbrev pub default_state : State
default_state = record {
  table =
      default_macro (codes "MAKE") (codes "make") ∷ default_macro (codes "CC") (codes "c17") ∷
      default_macro (codes "CFLAGS") (codes "-O1") ∷ default_macro (codes "LDFLAGS") [] ∷ [];
  suffixes = codes ".o" ∷ codes ".c" ∷ codes ".sh" ∷ [];
  phony = [];
  not_parallel = false;
  read = record {
    earlier =
        default_rule 6 (codes ".c")
        (default_command 7 (codes "$(CC) $(CFLAGS) $(LDFLAGS) -o $@ $<") ∷ [])
        ∷ default_rule 8 (codes ".sh") (default_command 9 (codes "cp $< $@") ∷
        default_command 10 (codes "chmod a+x $@") ∷ []) ∷ [];
    owner =
        Last (default_rule 11 (codes ".c.o") (default_command 12 (codes "$(CC) $(CFLAGS) -c $<") ∷
        []));
  };
  texts = [];
  missing = [];
}

-- The default text is read without a fault, and gives three suffixes, four macros, and a rule line
-- with commands for each of `.c`, `.sh` and `.c.o`.
abbrev pub DefaultTextSaysThis : Type 0
DefaultTextSaysThis = (reader : Reader) → after_default reader true ≡ Ok default_state

-- Where the default text was read first, its rule lines in the makefile are those with a target
-- that is an inference name by the final suffixes, unchanged.
abbrev pub DefaultRulesStay : Type 0
DefaultRulesStay =
    (reader : Reader) → (file : Option (List ℕ)) → (operands : List (List ℕ)) → (m : Makefile) →
    makefile reader file true operands ≡ Ok m
    → of_default_text m.rules ≡ filter (counts m.suffixes) (rules_of default_state.read)

-- Where the default text wasn't read, the makefile has no rule line of it.
abbrev pub NoDefaultRules : Type 0
NoDefaultRules =
    (reader : Reader) → (file : Option (List ℕ)) → (operands : List (List ℕ)) → (m : Makefile) →
    makefile reader file false operands ≡ Ok m → of_default_text m.rules ≡ []
