-- Histories that took given steps from the first disk of a world.
use Rattle.std.proofs.Common.{◌≡◌, ℕ, List, [], ◌++◌, map, sym, ap, ◌∙◌, subst}
use Rattle.std.specs.Prelude.{Option}
use Rattle.std.proofs.lemmas.List.{map-append}
use Rattle.mk_world.proofs.RunsAgree.{legal_behind}
use Rattle.mk_foot.specs.Setting as recorded
use Rattle.mk_graph.specs.Membership.{Has}
use Rattle.mk_graph.specs.Graph.{Graph}
use Rattle.mk_build.specs.World.{Disk, World, Idle}
use Rattle.mk_build.specs.Steps.{Step, IsLegal, after_all}
use Rattle.mk_build.specs.NodeByNode.{MakesAllBut}
use Rattle.mk_world.specs.State.{Scene, MakeState, setting, setting_of, disk_of, world_in, world_of}
use Rattle.mk_world.specs.Steps.{step_of, IsFirstOf}
use Rattle.mk_find_evidence.specs.Histories.{History, MayGoOn, GoesOn, MakesOn}
use Rattle.mk_find_evidence.proofs.Steps.{after_appended}

-- the history has taken these steps from this disk, on which no make was in progress
pub record Taken (g : Graph) (r : recorded.Setting) (d : Disk) (steps : List Step) (h : History) : Type 0 where
  pub scene : h.world.scene ≡ record { graph = g; recorded = r }
  pub are : map (step_of g) h.steps ≡ steps
  pub leaves : world_of h.world ≡ after_all g (setting_of r) (Idle d) steps

-- the first history has taken none
pub nothing_taken : (g : Graph) (r : recorded.Setting) (h : History) → IsFirstOf g r h.world → h.steps ≡ [] → Taken g r (disk_of h.world.disk) [] h
nothing_taken g r h first none =
    record {
      scene = first.scene;
      are = ap (map (step_of g)) none;
      leaves = ap (λ (m : Option MakeState). world_in h.world.scene h.world.disk m) first.idle;
    }

-- it goes on
pub taken_further : (g : Graph) (r : recorded.Setting) (d : Disk) (xs ys : List Step) (a b : History) → Taken g r d xs a → GoesOn a b ys → Taken g r d (xs ++ ys) b
taken_further g r d xs ys a b taken on =
    let later : map (step_of g) on.more ≡ ys = subst (λ (k : Scene). map (step_of k.graph) on.more ≡ ys) taken.scene on.are in
    let leaves : world_of b.world ≡ after_all g (setting_of r) (world_of a.world) ys = subst (λ (k : Scene). world_of b.world ≡ after_all k.graph (setting k) (world_of a.world) ys) taken.scene on.leaves in
    record {
      scene = on.scene ∙ taken.scene;
      are = ap (map (step_of g)) on.added ∙ (map-append (step_of g) a.steps on.more ∙ (λ i. taken.are i ++ later i));
      leaves = leaves ∙ (ap (λ (w : World). after_all g (setting_of r) w ys) taken.leaves ∙ sym (after_appended g (setting_of r) (Idle d) xs ys));
    }

-- what is legal behind those steps is legal from the history
pub may_go_on : (g : Graph) (r : recorded.Setting) (d : Disk) (xs ys : List Step) (h : History) → Taken g r d xs h → IsLegal g (setting_of r) (after_all g (setting_of r) (Idle d) xs) ys → MayGoOn h ys
may_go_on g r d xs ys h taken legal =
    let here = subst (λ (w : World). IsLegal g (setting_of r) w ys) (sym taken.leaves) legal in
    subst (λ (k : Scene). IsLegal k.graph (setting k) (world_of h.world) ys) (sym taken.scene) here

-- so it is where the whole is legal
pub may_go_behind : (g : Graph) (r : recorded.Setting) (d : Disk) (xs ys : List Step) (h : History) → Taken g r d xs h → IsLegal g (setting_of r) (Idle d) (xs ++ ys) → MayGoOn h ys
may_go_behind g r d xs ys h taken legal = may_go_on g r d xs ys h taken (legal_behind g (setting_of r) (Idle d) xs ys legal)

-- what makes nodes from the history makes them behind those steps
pub makes_behind : (g : Graph) (r : recorded.Setting) (d : Disk) (xs : List Step) (h : History) (passed ns : List ℕ) (steps : List Step) → Taken g r d xs h → MakesOn h passed ns steps → MakesAllBut g (setting_of r) (Has passed) (after_all g (setting_of r) (Idle d) xs) ns steps
makes_behind g r d xs h passed ns steps taken makes =
    let here = subst (λ (k : Scene). MakesAllBut k.graph (setting k) (Has passed) (world_of h.world) ns steps) taken.scene makes in
    subst (λ (w : World). MakesAllBut g (setting_of r) (Has passed) w ns steps) taken.leaves here
