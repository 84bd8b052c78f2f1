-- Laws of ways, of their order, and of their places.
use Rattle.std.specs.Prelude.{◌≡◌, ℕ, ◌<◌, ◌≤◌, List, ◌∷◌, ◌++◌, length, Bool, true, false, ◌⊎◌, ◌↔◌}
use Rattle.mk_graph.specs.Membership.{Has}
use Rattle.mk_graph_search.specs.Ways.{end, IsWay, place, Precedes, IsFirstWay}
use Rattle.mk_graph_search.specs.Places.{StandsAt, HasAtMost}

-- `Precedes` is transitive and irreflexive.
abbrev pub PrecedesIsAnOrder : Type 0
PrecedesIsAnOrder =
    (succ : ℕ → List ℕ) (t : ℕ) →
    ((one two three : List ℕ) → Precedes succ t one two → Precedes succ t two three →
    Precedes succ t one three) ×
    ((way : List ℕ) → ¬ (Precedes succ t way way))

-- Of two different ways one precedes the other.
abbrev pub WaysAreInOneOrder : Type 0
WaysAreInOneOrder =
    (succ : ℕ → List ℕ) (t : ℕ) (one other : List ℕ) → IsWay succ t one → IsWay succ t other →
    (one ≡ other) ⊎ (Precedes succ t one other ⊎ Precedes succ t other one)

-- After common steps, one way goes to an earlier successor than the other, and both have equally
-- many steps left.
pub record TurnsOffEarlier (succ : ℕ → List ℕ) (t : ℕ) (one other : List ℕ) : Type 0 where
  pub common : List ℕ
  pub m : ℕ
  pub n : ℕ
  pub rest : List ℕ
  pub other_rest : List ℕ
  pub one_is : one ≡ rest ++ m ∷ common
  pub other_is : other ≡ other_rest ++ n ∷ common
  pub equally_long : length rest ≡ length other_rest
  pub earlier : place (succ (end t common)) m < place (succ (end t common)) n

-- A way precedes another exactly if it is shorter, or equally long and turns off earlier.
abbrev pub PrecedesAsRead : Type 0
PrecedesAsRead =
    (succ : ℕ → List ℕ) (t : ℕ) (one other : List ℕ) →
    Precedes succ t one other ↔ ((length one < length other) ⊎ TurnsOffEarlier succ t one other)

-- There is at most one first way among those whose end passes a test.
abbrev pub FirstIsOne : Type 0
FirstIsOne =
    (succ : ℕ → List ℕ) (t : ℕ) (test : ℕ → Bool) (one other : List ℕ) →
    IsFirstWay succ t (λ n. test n ≡ true) one → IsFirstWay succ t (λ n. test n ≡ true) other →
    one ≡ other

-- The first way whose end passes the test is no longer than any other such way.
abbrev pub FirstIsShortest : Type 0
FirstIsShortest =
    (succ : ℕ → List ℕ) (t : ℕ) (test : ℕ → Bool) (way other : List ℕ) →
    IsFirstWay succ t (λ n. test n ≡ true) way → IsWay succ t other → test (end t other) ≡ true →
    length way ≤ length other

-- There is at most one way at a place.
abbrev pub OneWayAtAPlace : Type 0
OneWayAtAPlace =
    (succ : ℕ → List ℕ) (t k : ℕ) (one other : List ℕ) →
    StandsAt succ t k one → StandsAt succ t k other → one ≡ other

-- The test fails at the end of each way at a place before k.
abbrev pub SaysNoBefore : (ℕ → List ℕ) → ℕ → (ℕ → Bool) → ℕ → Type 0
SaysNoBefore succ t test k =
    (j : ℕ) → j < k → (way : List ℕ) → StandsAt succ t j way → test (end t way) ≡ false

-- If the test fails at all earlier places and passes at this one, then the way at this place is the
-- first whose end passes the test.
abbrev pub FirstByPlaces : Type 0
FirstByPlaces =
    (succ : ℕ → List ℕ) (t : ℕ) (test : ℕ → Bool) (k : ℕ) (way : List ℕ) →
    SaysNoBefore succ t test k → StandsAt succ t k way → test (end t way) ≡ true →
    IsFirstWay succ t (λ n. test n ≡ true) way

-- If the test fails at all places that exist, then it fails at the end of every way.
abbrev pub NoneByPlaces : Type 0
NoneByPlaces =
    (succ : ℕ → List ℕ) (t : ℕ) (test : ℕ → Bool) (k : ℕ) →
    SaysNoBefore succ t test k → HasAtMost succ t k →
    (way : List ℕ) → IsWay succ t way → test (end t way) ≡ false

-- If the start and all successors are below a bound, then so are all places.
abbrev pub PlacesAreBelow : Type 0
PlacesAreBelow =
    (succ : ℕ → List ℕ) (t bound : ℕ) → t < bound →
    ((n o : ℕ) → Has (succ n) o → o < bound) →
    (k : ℕ) (way : List ℕ) → StandsAt succ t k way → k < bound
