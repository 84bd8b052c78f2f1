-- A bit matrix in one list of words, with a row for each number. The stride is the number of words
-- in a row.
use Rattle.std.specs.Prelude.{◌≡◌, ℕ, ◌+◌, ◌*◌, ◌<◌, ◌≤◌, false, ◌⊎◌, ◌↔◌, List, [], ◌∷◌, length, map, take, drop, Vec}
use Rattle.std.specs.declared.alloc.Global.{Global}
use Rattle.mk_graph.specs.Bits.{is_set}
use Rattle.mk_graph.specs.Graph.{Graph, node, prerequisites}
use Rattle.mk_graph.specs.Membership.{Has}
use Rattle.mk_graph.specs.Schedules.{Wanted}
use Rattle.mk_graph.specs.Without.{IsFree, AreFree, joined}

-- The words of row n.
abbrev pub row : (stride : ℕ) → List ℕ → (n : ℕ) → List ℕ
row stride words n = take stride (drop (n * stride) words)

-- Bit o isn't set in these words.
abbrev pub Lacks : List ℕ → (o : ℕ) → Type 0
Lacks words o = is_set words o ≡ false

-- Bit o isn't set in row n.
abbrev pub RowLacks : (stride : ℕ) → List ℕ → (n o : ℕ) → Type 0
RowLacks stride words n o = Lacks (row stride words n) o

-- Bit o isn't set in any of the rows `ns`.
abbrev pub RowsLack : (stride : ℕ) → List ℕ → (ns : List ℕ) → (o : ℕ) → Type 0
RowsLack stride words ns o = (n : ℕ) → Has ns n → RowLacks stride words n o

-- The new rows lack exactly what the old rows lack and what `more` adds.
abbrev pub LackMore : (stride : ℕ) → (old new : List ℕ) → (more : ℕ → ℕ → Type 0) → Type 0
LackMore stride old new more =
    (n o : ℕ) → RowLacks stride new n o ↔ (RowLacks stride old n o ⊎ more n o)

-- The words contain a full row for each of these numbers.
abbrev pub HaveRows : (stride : ℕ) → List ℕ → List ℕ → Type 0
HaveRows stride words numbers = (n : ℕ) → Has numbers n → n * stride + stride ≤ length words

-- The matrix has one row for each node, a row has a bit for each node, and a row has at most 64
-- words.
pub record IsSized (g : Graph) (stride : ℕ) (words : List ℕ) : Type 0 where
  pub narrow : stride ≤ 64
  pub wide : length g.nodes ≤ 64 * stride
  pub long : length words ≡ length g.nodes * stride

-- The groups as lists of numbers.
abbrev pub lists : List (Vec ℕ Global) → List (List ℕ)
lists groups = map (λ (group : Vec ℕ Global). group.items) groups

-- The members of all groups.
abbrev pub listed : List (Vec ℕ Global) → List ℕ
listed groups = joined (lists groups)

-- n is in some group, and `lacks` holds for each member of the groups before it.
abbrev pub IsOpenTo : (lacks : ℕ → Type 0) → List (List ℕ) → ℕ → Type 0
IsOpenTo lacks [] n = ⊥
IsOpenTo lacks (group ∷ groups) n =
    Has group n ⊎ (((m : ℕ) → Has group m → lacks m) × IsOpenTo lacks groups n)

-- The gate before n lacks o: o is neither in the first row of `number`, whose groups these are, nor
-- in the done row of a member of a group before that of n.
abbrev pub GateLacks : (stride : ℕ) → (first done : List ℕ) → ℕ → List (List ℕ) → (n o : ℕ) → Type 0
GateLacks stride first done number groups n o =
    RowLacks stride first number o × IsOpenTo (λ m. RowLacks stride done m o) groups n

-- o isn't in the first row of `number`, isn't `number` itself, and isn't in the done row of any of
-- its prerequisites `needs`.
abbrev pub TargetLacks : (stride : ℕ) → (first done : List ℕ) → ℕ → List ℕ → (o : ℕ) → Type 0
TargetLacks stride first done number needs o =
    RowLacks stride first number o × (¬ (o ≡ number)) × RowsLack stride done needs o

-- Below, the two rows of each node are given by what they lack: `first n o` says that o isn't in
-- the first row of n, and `done n o` that o isn't in the done row of n.

-- What the old rows lack, the new rows lack too.
abbrev pub Stays : (old new : ℕ → ℕ → Type 0) → Type 0
Stays old new = (n o : ℕ) → old n o → new n o

-- If a gate of a node lacks o, then the first rows of the members of the group behind that gate
-- lack o.
abbrev pub PassesGates : Graph → (first done new : ℕ → ℕ → Type 0) → Type 0
PassesGates g first done new =
    (p n o : ℕ) → p < length g.nodes → first p o
    → IsOpenTo (λ m. done m o) (node g p).groups n → new n o

-- If o isn't in the first row of n, isn't n, and isn't in the done row of any prerequisite of n,
-- then o isn't in the done row of n.
abbrev pub PassesTargets : Graph → (first done new : ℕ → ℕ → Type 0) → Type 0
PassesTargets g first done new =
    (n o : ℕ) → n < length g.nodes → first n o → ¬ (o ≡ n)
    → ((p : ℕ) → Has (prerequisites g n) p → done p o) → new n o

-- If o isn't in the first row of a node, then the node is wanted once everything that doesn't
-- depend on o is done.
abbrev pub OnlyIfWanted : Graph → (first : ℕ → ℕ → Type 0) → Type 0
OnlyIfWanted g first =
    (n o : ℕ) (free : List ℕ) → n < length g.nodes → first n o → AreFree g o free
    → Wanted g g.goals free n

-- If o isn't in the done row of a node, then the node can be done without o.
abbrev pub OnlyIfFree : Graph → (done : ℕ → ℕ → Type 0) → Type 0
OnlyIfFree g done = (n o : ℕ) → n < length g.nodes → done n o → IsFree g o n

-- The first rows of goals are empty, all gates and targets are passed, and each missing bit has a
-- reason.
pub record AreSettled (g : Graph) (first done : ℕ → ℕ → Type 0) : Type 0 where
  pub goals : (n o : ℕ) → Has g.goals n → first n o
  pub gates : PassesGates g first done first
  pub targets : PassesTargets g first done done
  pub wanted : OnlyIfWanted g first
  pub free : OnlyIfFree g done

-- The two bit matrices of a graph, as they are after at least one round.
pub record AreBitRowsOf (g : Graph) (stride : ℕ) (first done : List ℕ) (rounds : ℕ) : Type 0 where
  pub first_sized : IsSized g stride first
  pub done_sized : IsSized g stride done
  pub settled : AreSettled g (RowLacks stride first) (RowLacks stride done)
  pub some_rounds : 0 < rounds
