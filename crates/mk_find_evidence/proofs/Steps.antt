-- Steps one behind the other, and lists of steps that make nodes.
use Rattle.std.proofs.Common.{◌≡◌, ℕ, List, [], ◌∷◌, ◌++◌, false, inl, inr, ◌⊎◌}
use Rattle.std.proofs.lemmas.Bool.{cases_Bool}
use Rattle.std.proofs.lemmas.List.Sums.{fold-append}
use Rattle.mk_lemmas.proofs.Members.{cases_Has}
use Rattle.mk_graph.specs.Membership.{Has}
use Rattle.mk_graph.specs.Graph.{Graph, node}
use Rattle.mk_build.specs.Setting.{Setting}
use Rattle.mk_build.specs.World.{World, disk_of}
use Rattle.mk_build.specs.Steps.{Step, Pass, after, after_all}
use Rattle.mk_build.specs.SerialMake.{whole_run}
use Rattle.mk_build.specs.NodeByNode.{MakesAllBut, ends, passes, runs, to_put}

-- the world that steps leave behind others
pub after_appended : (g : Graph) (s : Setting) (w : World) (xs ys : List Step) → after_all g s w (xs ++ ys) ≡ after_all g s (after_all g s w xs) ys
after_appended g s w xs ys = fold-append (after g s) w xs ys

-- there is a list of steps that makes these nodes, but for those that are to be passed
pub makes_exist : (g : Graph) (s : Setting) (passed : List ℕ) (w : World) (ns : List ℕ) → (steps : List Step) × MakesAllBut g s (Has passed) w ns steps
makes_exist g s passed w [] = ([], ends)
makes_exist g s passed w (n ∷ ns) =
    let passing : ((node g n).recipe ≡ false) ⊎ Has passed n → (steps : List Step) × MakesAllBut g s (Has passed) w (n ∷ ns) steps = λ why. let rest = makes_exist g s passed (after g s w (Pass n)) ns in (Pass n ∷ rest.0, passes why rest.1) in
    elim (cases_Bool (node g n).recipe) [
      | inl recipe ↦ elim (cases_Has passed n) [
        | inl is ↦ passing (inr is)
        | inr not ↦ let rest = makes_exist g s passed (after_all g s w (whole_run g s n (to_put g s (disk_of w) n))) ns in (whole_run g s n (to_put g s (disk_of w) n) ++ rest.0, runs recipe not rest.1)
      ]
      | inr none ↦ passing (inl none)
    ]

-- what is made is the same where the same nodes are to be passed
pub makes_alike : (g : Graph) (s : Setting) (one other : ℕ → Type 0) → ((n : ℕ) → one n → other n) → ((n : ℕ) → other n → one n) → {w : World} {ns : List ℕ} {steps : List Step} → MakesAllBut g s one w ns steps → MakesAllBut g s other w ns steps
makes_alike g s one other forth back ends = ends
makes_alike g s one other forth back (passes {n = n} why rest) = passes (elim why [ inl none ↦ inl none | inr is ↦ inr (forth n is) ]) (makes_alike g s one other forth back rest)
makes_alike g s one other forth back (runs {t = t} recipe not rest) = runs recipe (λ is. not (back t is)) (makes_alike g s one other forth back rest)
