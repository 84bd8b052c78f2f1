-- At which rule lines names are needed.
use Rattle.std.specs.Prelude.{ℕ, ◌-◌, Bool, ◌&&◌, List, length, find, Option, None}
use Rattle.std.specs.List.{slice_get}
use Rattle.std.specs.Option.{option_and_then, option_map}
use Rattle.mk_graph.specs.declared.fault.GraphFault.{GraphFault}
use Rattle.mk_graph.specs.declared.fault.GraphFault.TheVariants as graph
use Rattle.mk_read.specs.Names.{has_name}
use Rattle.mk_read.specs.Reading.{Makefile}
use Rattle.mk_read.specs.State.{RuleRead}
use Rattle.mk_read.specs.declared.fault.Place.{Place}

-- the rule line has the name as a prerequisite
abbrev pub has_prerequisite : List ℕ → RuleRead → Bool
has_prerequisite name rule = has_name rule.words name

-- the rule line has the target, and the name as a prerequisite
abbrev pub joins : (target name : List ℕ) → RuleRead → Bool
joins target name rule = has_name rule.targets target && has_prerequisite name rule

-- the place of the first rule line that has the name as a prerequisite, if one has
abbrev pub needing_place : Makefile → List ℕ → Option Place
needing_place m name = option_map (λ rule. rule.place) (find (has_prerequisite name) m.rules)

-- the place of the first rule line that has the target, and the name as a prerequisite, if one has
abbrev pub joining_place : Makefile → (target name : List ℕ) → Option Place
joining_place m target name = option_map (λ rule. rule.place) (find (joins target name) m.rules)

-- the place of the first rule line that closes a path of names: its last name but one is a target
-- there, and its last name a prerequisite
abbrev pub closing_place : Makefile → List (List ℕ) → Option Place
closing_place m names =
    option_and_then (λ target. option_and_then (λ name. joining_place m target name)
    (slice_get names (length names - 1)))
    (slice_get names (length names - 2))

-- the place at which the graph of a makefile has this fault, if there is one
abbrev pub place_of_graph : Makefile → GraphFault → Option Place
place_of_graph m (graph.Cycle names) = closing_place m names
place_of_graph m fault = None
