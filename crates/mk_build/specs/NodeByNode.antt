-- Making nodes one after another in a make in which nothing else runs.
use Rattle.std.specs.Prelude.{◌≡◌, ℕ, zero, suc, ◌+◌, List, [], ◌∷◌, ◌++◌, length, map, true, false, unwrap_or, ◌⊎◌}
use Rattle.mk_graph.specs.Graph.{Graph, node}
use Rattle.mk_build.specs.Setting.{Setting, reads, writes}
use Rattle.mk_build.specs.World.{Disk, World, content, outcome, disk_of}
use Rattle.mk_build.specs.Steps.{Step, Pass, after, after_all}
use Rattle.mk_build.specs.SerialMake.{whole_run}

-- The next `many` stamps after the clock.
abbrev pub next_stamps : (clock many : ℕ) → List ℕ
next_stamps clock zero = []
next_stamps clock (suc many) = (clock + 1) ∷ next_stamps (clock + 1) many

-- What a run of the recipe would write: the known outcome for what its reads contain now, or, if
-- none is known, the next stamps as contents.
abbrev pub to_put : Graph → Setting → Disk → ℕ → List ℕ
to_put g s d t =
    unwrap_or (outcome d.known t (map (content d) (reads g s t)))
    (next_stamps d.clock (length (writes g s t)))

-- The steps make these nodes in order from this world: nodes without a recipe and those in `passed`
-- are passed, and the other recipes run whole.
pub data MakesAllBut (g : Graph) (s : Setting) (passed : ℕ → Type 0) : World → List ℕ → List Step →
    Type 0 where
  ends : {w : World} → MakesAllBut g s passed w [] []
  passes : {w : World} {n : ℕ} {ns : List ℕ} {steps : List Step} → ((node g n).recipe ≡ false) ⊎
      passed n → MakesAllBut g s passed (after g s w (Pass n)) ns steps →
      MakesAllBut g s passed w (n ∷ ns) (Pass n ∷ steps)
  runs : {w : World} {t : ℕ} {ns : List ℕ} {steps : List Step} → (node g t).recipe ≡ true →
      ¬ (passed t) →
      MakesAllBut g s passed (after_all g s w (whole_run g s t (to_put g s (disk_of w) t))) ns steps
      →
      MakesAllBut g s passed w (t ∷ ns) (whole_run g s t (to_put g s (disk_of w) t) ++ steps)

-- The steps make these nodes in order from this world: nodes without a recipe are passed, and the
-- other recipes run whole.
abbrev pub MakesAll : Graph → Setting → World → List ℕ → List Step → Type 0
MakesAll g s = MakesAllBut g s (λ n. ⊥)
