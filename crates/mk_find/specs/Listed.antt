-- Findings with their names, and lists of findings to which some are added.
use Rattle.std.specs.Prelude.{◌≡◌, ℕ, List, ◌++◌, map, [], Option, None, Some}
use Rattle.mk_graph.specs.Membership.{Has}
use Rattle.mk_subject.specs.Subject.{Subject, name_of}
use Rattle.mk_find.specs.declared.finding.Finding.{Finding}
use Rattle.mk_find.specs.declared.finding.Finding.TheVariants as found
use Rattle.mk_find.specs.Candidates.{Candidate, no_record, other_commands, varying_commands, no_target, two_writers, given_written, own_read, unknown_read, loose, race, stale, selection, IsFinding}
use Rattle.mk_find.specs.Listing.{Lists, IsFirstIn}

-- A candidate as a finding, with names in place of node numbers.
abbrev pub named : Subject → Candidate → Finding
named x (no_record t) = found.NoRecord (name_of x t)
named x (other_commands t) = found.OtherCommands (name_of x t)
named x (varying_commands t) = found.VaryingCommands (name_of x t)
named x (no_target t) = found.NoTarget (name_of x t)
named x (two_writers o t f) = found.TwoWriters (name_of x o) (name_of x t) f
named x (given_written t f) = found.GivenWritten (name_of x t) f
named x (own_read t f) = found.OwnRead (name_of x t) f
named x (unknown_read t f) = found.UnknownRead (name_of x t) f
named x (loose n o) = found.Loose (name_of x n) (name_of x o)
named x (race t o f) = found.Race (name_of x t) (name_of x o) f
named x (stale t f) = found.Stale (name_of x t) f
named x (selection n c) = found.Selection (name_of x n) c

-- The new list is the old one followed by the findings for those candidates whose condition holds.
pub record Adds (x : Subject) (all : List Candidate) (old new : List Finding) : Type 0 where
  pub kept : List Candidate
  pub right : Lists x all kept
  pub added : new ≡ old ++ map (named x) kept

-- None of these findings is a `Selection`.
abbrev pub HasNoSelection : List Finding → Type 0
HasNoSelection told = (name chosen : List ℕ) → ¬ (Has told (found.Selection name chosen))

-- The result is the first candidate whose condition holds, as a finding, or `None` if there is no
-- such candidate.
abbrev pub IsFirstFinding : Subject → List Candidate → Option Finding → Type 0
IsFirstFinding x all None = Lists x all []
IsFirstFinding x all (Some finding) =
    (k : Candidate) × IsFirstIn (IsFinding x) all k × (finding ≡ named x k)
