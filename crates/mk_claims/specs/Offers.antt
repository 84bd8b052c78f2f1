-- The lines that claims ask for, without those that would close a cycle.
use Rattle.std.specs.Prelude.{◌==◌, ℕ, Bool, false, ◌&&◌, ◌||◌, nat_lt, List, [], ◌∷◌, ◌++◌, length, map, option_to_list, Option, None, Some, if◌then◌else◌}
use Rattle.std.specs.List.{flat_map}
use Rattle.std.specs.Str.{bytes_eq}
use Rattle.std.specs.String.{string_bytes}
use Rattle.mk_lines.specs.Names.{number_of}
use Rattle.mk_graph.specs.declared.node.Node.{Node}
use Rattle.mk_graph.specs.Graph.{Graph, prerequisites}
use Rattle.mk_build_needs.specs.NeedsGraph.{IsFirstCycle, with_prerequisites}
use Rattle.mk_repair.specs.Word.{Word, needs, phony}
use Rattle.mk_claims.specs.Claims.{Claim, claim_view}
use Rattle.mk_claims.specs.declared.offer.Offer as borrowed
use Rattle.mk_claims.specs.declared.offer.Step as borrowed_step
use Rattle.mk_claims.specs.declared.topic.Kind.{Kind}
use Rattle.mk_claims.specs.declared.topic.Kind.TheVariants.{NoTarget, OutputRace, OutputStale, OutputRaceAndStale, UnreachedRead}

-- What the line of a claim of this kind says: its target becomes phony; or it gets, as a
-- prerequisite, the recipe that writes the file or the file itself.
abbrev pub word_of_kind : Kind → (first who what : List ℕ) → Word
word_of_kind NoTarget first who what = phony who
word_of_kind OutputRace first who what = needs who first
word_of_kind OutputStale first who what = needs who first
word_of_kind OutputRaceAndStale first who what = needs who first
word_of_kind UnreachedRead first who what = needs who first
word_of_kind kind first who what = needs who what

-- What the line that mends a claim says; none where no line does.
abbrev pub word_of_claim : Claim → Option Word
word_of_claim c =
    if c.topic.has_line then Some (word_of_kind c.topic.kind c.topic.first c.who c.what) else None

-- What the lines that mend claims say.
abbrev pub words_of : List Claim → List Word
words_of claims = flat_map (λ c. option_to_list (word_of_claim c)) claims

-- A claim, and the names along the cycle that its line would close, each after a space; empty where
-- it would close none.
pub record Offer : Type 0 where
  pub claim : Claim
  pub cycle : List ℕ

-- The offer that the code's offer stands for.
abbrev pub offer_view : borrowed.Offer → Offer
offer_view o = record { claim = claim_view o.claim; cycle = string_bytes o.cycle }

-- A claim with its line.
abbrev pub offer_of : Claim → Offer
offer_of c = record { claim = c; cycle = [] }

-- What the line of an offer says; none where it has none, or where that would close a cycle.
abbrev pub open_word : Offer → Option Word
open_word o = if bytes_eq o.cycle [] then word_of_claim o.claim else None

-- What the lines of the offers say.
abbrev pub open_words : List Offer → List Word
open_words offers = flat_map (λ o. option_to_list (open_word o)) offers

-- The names of the nodes, each at its number.
abbrev pub names_in : Graph → List (List ℕ)
names_in g = map (λ (n : Node). n.name) g.nodes

-- The numbers, where both are those of nodes; there are `count` nodes.
abbrev pub step_between : (count target prerequisite : ℕ) → List (ℕ × ℕ)
step_between count target prerequisite =
    if nat_lt target count && nat_lt prerequisite count then (target, prerequisite) ∷ [] else []

-- The numbers of the target and the prerequisite of a line that says this word, where both are
-- nodes.
abbrev pub step_of : Graph → (count : ℕ) → Word → List (ℕ × ℕ)
step_of g count (phony target) = []
step_of g count (needs target prerequisite) =
    step_between count (number_of (names_in g) target) (number_of (names_in g) prerequisite)

-- The numbers of the targets and prerequisites of lines that say these words.
abbrev pub steps_of : Graph → List Word → List (ℕ × ℕ)
steps_of g words = flat_map (step_of g (length g.nodes)) words

-- The pair that the code's step stands for.
abbrev pub step_view : borrowed_step.Step → ℕ × ℕ
step_view s = (s.target, s.prerequisite)

-- The prerequisites that the steps give the node n.
abbrev pub needed_in : ℕ → List (ℕ × ℕ) → List ℕ
needed_in n [] = []
needed_in n (step ∷ steps) =
    if step.0 == n then step.1 ∷ needed_in n steps else needed_in n steps

-- The graph with lines that say these words.
abbrev pub graph_with : Graph → List Word → Graph
graph_with g words =
    with_prerequisites g (λ n. prerequisites g n ++ needed_in n (steps_of g words))

-- The names, each after a space.
abbrev pub cycle_text : List (List ℕ) → List ℕ
cycle_text names = flat_map (λ name. 32 ∷ name) names

-- One of the names is the target, and the next one the prerequisite, where `previous` stands before
-- the first one.
abbrev pub stand_after : (previous : List ℕ) → List (List ℕ) → (target prerequisite : List ℕ) → Bool
stand_after previous [] target prerequisite = false
stand_after previous (name ∷ names) target prerequisite =
    (bytes_eq previous target && bytes_eq name prerequisite) ||
    stand_after name names target prerequisite

-- The word says that a name of the cycle needs the next one.
abbrev pub has_step : List (List ℕ) → Word → Bool
has_step names (phony target) = false
has_step names (needs target prerequisite) = stand_after [] names target prerequisite

-- The line of the offer stands on the cycle.
abbrev pub is_on : List (List ℕ) → Option Word → Bool
is_on names None = false
is_on names (Some word) = has_step names word

-- The offer, without its line where that stands on the cycle.
abbrev pub without_step : List (List ℕ) → Offer → Offer
without_step names o =
    if is_on names (open_word o) then record o { cycle = cycle_text names } else o

-- What offers come to: as long as there is a cycle in the graph with their lines, the lines on the
-- first one are taken back.
pub data Settles (g : Graph) : (offers settled : List Offer) → Type 0 where
  -- There is no cycle.
  stays : {offers : List Offer} → IsFirstCycle (graph_with g (open_words offers)) None →
      Settles g offers offers
  -- The lines on the first cycle are taken back.
  goes_on : {offers settled : List Offer} {names : List (List ℕ)} →
      IsFirstCycle (graph_with g (open_words offers)) (Some names) →
      Settles g (map (without_step names) offers) settled → Settles g offers settled

-- The claim of an offer: without a line where that would close a cycle.
abbrev pub claim_offered : Offer → Claim
claim_offered o =
    if bytes_eq o.cycle [] then o.claim
    else record (o.claim) {
      topic = record (o.claim.topic) { has_line = false; cycle = o.cycle };
    }
