-- Laws about findings: about their lists, and about what it means that there are none.
use Rattle.std.specs.Prelude.{◌≡◌, ℕ, List, [], ◌↔◌, map}
use Rattle.mk_read.specs.Reading.{Makefile}
use Rattle.mk_graph.specs.Membership.{Has, IsWithin}
use Rattle.mk_graph.specs.Graph.{Graph, IsGraph}
use Rattle.mk_build.specs.Right.{AreSound, HaveNoRace, HaveWays, IsRight}
use Rattle.mk_infer.specs.Laws.{IsPartOf, StaysSelected}
use Rattle.mk_infer.specs.There.{Exists}
use Rattle.mk_subject.specs.Subject.{Subject, IsSubject, footprints, name_of, all_writes}
use Rattle.mk_find.specs.Candidates.{Candidate, IsFinding, selection, static_candidates, race_candidates, stale_candidates}
use Rattle.mk_find.specs.Listing.{Lists}
use Rattle.mk_find.specs.declared.finding.Finding.{Finding}
use Rattle.mk_find.specs.Findings.{NothingFound, AreFindings, AreHidden}

-- At most one list has just those candidates whose condition holds, in their order.
abbrev pub ListIsOne : Type 0
ListIsOne =
    (x : Subject) (all one other : List Candidate) → Lists x all one → Lists x all other →
    one ≡ other

-- A list of findings has exactly the candidates whose condition holds.
abbrev pub ListedExactly : Type 0
ListedExactly =
    (x : Subject) (all kept : List Candidate) → Lists x all kept →
    (c : Candidate) → Has kept c ↔ (Has all c × IsFinding x c)

-- Footprints without a static finding are sound.
abbrev pub NothingFoundIsSound : Type 0
NothingFoundIsSound =
    (x : Subject) → IsGraph x.graph → IsSubject x →
    Lists x (static_candidates x) [] → AreSound x.graph (footprints x.setting)

-- Each list of goals from among these has a graph of its own that stays selected, and each of its
-- nodes is one of the whole graph, but for its number.
abbrev pub PartsStay : Makefile → Exists → List (List ℕ) → List (List ℕ) → Graph → Type 0
PartsStay m e writes goals g =
    (some : List (List ℕ)) → IsWithin some goals →
    (h : Graph) × IsPartOf h g × StaysSelected m e writes some h

-- If there is no `Selection` finding, whatever other findings there are, the same graph with the
-- same inferred prerequisites and commands is selected whatever part of the files that its recipes
-- write exists, for the goals and for each subset of them.
abbrev pub NothingFoundIsSelected : Type 0
NothingFoundIsSelected =
    (x : Subject) → IsGraph x.graph → IsSubject x →
    (kept : List Candidate) → Lists x (static_candidates x) kept →
    ((n : ℕ) (c : List ℕ) → ¬ (Has kept (selection n c))) →
    StaysSelected x.makefile x.there (all_writes x) (map (name_of x) x.graph.goals) x.graph ×
    PartsStay x.makefile x.there (all_writes x) (map (name_of x) x.graph.goals) x.graph

-- If no race is found, there is none.
abbrev pub NoRaceFoundIsNone : Type 0
NoRaceFoundIsNone =
    (x : Subject) → IsGraph x.graph →
    Lists x (race_candidates x) [] → HaveNoRace x.graph (footprints x.setting)

-- If there is no static finding and no race, and each read of a file that can change has a way,
-- every legal history is right.
abbrev pub NothingFoundIsRight : Type 0
NothingFoundIsRight =
    (x : Subject) → IsGraph x.graph → IsSubject x →
    Lists x (static_candidates x) [] → Lists x (race_candidates x) [] →
    HaveWays x.graph (footprints x.setting) → IsRight x.graph (footprints x.setting)

-- At most one list of findings meets `AreFindings`.
abbrev pub FindingsAreOne : Type 0
FindingsAreOne =
    (x : Subject) (one other : List Finding) → AreFindings x one → AreFindings x other → one ≡ other

-- If the list of findings is empty, there is no static finding, no race and no stale read.
abbrev pub NoFindings : Type 0
NoFindings =
    (x : Subject) → AreFindings x [] → NothingFound x × Lists x (stale_candidates x) []

-- If there is no static finding, what such findings would hide are all findings.
abbrev pub HiddenAreAll : Type 0
HiddenAreAll =
    (x : Subject) (found : List Finding) → IsGraph x.graph → IsSubject x →
    Lists x (static_candidates x) [] → AreHidden x found → AreFindings x found
