-- Laws about groups of findings, and about the lines that are shown.
use Rattle.std.specs.Prelude.{ℕ, List, map, None, IsPermutation}
use Rattle.std.specs.List.{flat_map}
use Rattle.mk_build_needs.specs.NeedsGraph.{IsFirstCycle}
use Rattle.mk_graph.specs.Graph.{Graph}
use Rattle.mk_subject.specs.Subject.{Subject}
use Rattle.mk_claims.specs.Topics.{Topic}
use Rattle.mk_claims.specs.Claims.{Claim}
use Rattle.mk_claims.specs.Grouping.{Group, groups}
use Rattle.mk_claims.specs.Offers.{graph_with, words_of}
use Rattle.mk_claims.specs.Wider.{IsWidest}
use Rattle.mk_claims.specs.Shown.{AreShown}

-- The claim with this topic, name and file.
abbrev pub claim_on : Topic → (who what : List ℕ) → Claim
claim_on topic who what = record { topic = topic; who = who; what = what }

-- What a group claims: its topic of each of its names and each of its files.
abbrev pub claims_in : Group → List Claim
claims_in g = flat_map (λ who. map (claim_on g.topic who) g.what) g.who

-- The groups of claims claim just these, each as often: none is lost, none is made up, and none
-- stands in two groups.
abbrev pub GroupsHoldAll : Type 0
GroupsHoldAll =
    (claims : List Claim) → IsPermutation (flat_map claims_in (groups claims)) claims

-- The lines that are shown close no cycle, with the graph of the goals and of the names in lines
-- which rules make, once the lines are added.
abbrev pub ShownCloseNoCycle : Type 0
ShownCloseNoCycle =
    (x : Subject) (claims shown : List Claim) → AreShown x claims shown →
    (g : Graph) × IsWidest x claims g × IsFirstCycle (graph_with g (words_of shown)) None
