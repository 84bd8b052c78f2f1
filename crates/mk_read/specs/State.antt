-- What has been read so far.
use Rattle.std.specs.Prelude.{ℕ, Bool, false, List, [], ◌∷◌, ◌++◌, Option}
use Rattle.mk_macros.specs.Table.{Macro}
use Rattle.mk_read.specs.declared.fault.Place.{Place}

-- A command before its expansion, and where it stands.
pub record Command : Type 0 where
  pub text : List ℕ
  pub place : Place

-- A rule line that has been read: targets; prerequisites, `.WAIT` included; commands, if it has
-- any; where it stands; and whether it is from the default text.
pub record RuleRead : Type 0 where
  pub targets : List (List ℕ)
  pub words : List (List ℕ)
  pub commands : Option (List Command)
  pub place : Place
  pub default : Bool

-- What a command line belongs to: nothing, the last rule line, a special target, or a rule line
-- that was skipped.
pub data Owner : Type 0 where
  Nobody : Owner
  Last : RuleRead → Owner
  SpecialTarget : Owner
  PassedOver : Owner

-- The rule lines read so far: those before the one that command lines belong to, and what command
-- lines belong to.
pub record Read : Type 0 where
  pub earlier : List RuleRead
  pub owner : Owner

-- The rule line that command lines belong to, if there is one.
abbrev pub last_rule : Owner → List RuleRead
last_rule (Last rule) = rule ∷ []
last_rule Nobody = []
last_rule SpecialTarget = []
last_rule PassedOver = []

-- All rule lines read so far.
abbrev pub rules_of : Read → List RuleRead
rules_of read = read.earlier ++ last_rule read.owner

-- The same rule lines, where command lines belong to the given owner from now on.
abbrev pub owned : Owner → Read → Read
owned owner read = record { earlier = rules_of read; owner = owner }

-- What has been read so far: macros, suffixes, phony names, whether there was `.NOTPARALLEL`, rule
-- lines, the names of the texts that were read, and those of missing files that were skipped.
pub record State : Type 0 where
  pub table : List Macro
  pub suffixes : List (List ℕ)
  pub phony : List (List ℕ)
  pub not_parallel : Bool
  pub read : Read
  pub texts : List (List ℕ)
  pub missing : List (List ℕ)

-- The state before anything is read.
abbrev pub nothing_read : State
nothing_read =
    record {
      table = [];
      suffixes = [];
      phony = [];
      not_parallel = false;
      read = record { earlier = []; owner = Nobody };
      texts = [];
      missing = [];
    }

-- The state where command lines belong to nothing from now on.
abbrev pub parted : State → State
parted state = record state { read = owned Nobody state.read }
