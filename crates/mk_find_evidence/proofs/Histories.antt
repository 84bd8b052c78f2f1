-- Histories that go on.
use Rattle.std.proofs.Common.{◌≡◌, ℕ, List, [], ◌∷◌, ◌++◌, map, true, false, refl, sym, ap, ◌∙◌, subst, append_assoc, ◌⊎◌}
use Rattle.std.proofs.lemmas.List.{append-nil, map-append}
use Rattle.mk_world.proofs.RunsAgree.{legal_behind, legal_front}
use Rattle.mk_graph.specs.Membership.{Has}
use Rattle.mk_graph.specs.Graph.{node}
use Rattle.mk_build.specs.World.{World}
use Rattle.mk_build.specs.Steps.{Step, Pass, IsLegal, after, after_all}
use Rattle.mk_build.specs.SerialMake.{whole_run}
use Rattle.mk_build.specs.NodeByNode.{MakesAllBut, ends, passes, runs}
use Rattle.mk_world.specs.State.{Scene, setting, world_of}
use Rattle.mk_world.specs.Steps.{step_of}
use Rattle.mk_world.specs.NamedStep as named
use Rattle.mk_find_evidence.specs.Histories.{History, MayGoOn, GoesOn, puts_in, MakesOn, MayMake, GoesOnMaking}
use Rattle.mk_find_evidence.proofs.Steps.{after_appended, makes_exist}

-- a history goes on by no steps
pub goes_nowhere : (h : History) → GoesOn h h []
goes_nowhere h = record { scene = refl; more = []; added = sym (append-nil h.steps); are = refl; leaves = refl }

-- a history goes on by some steps and then by others
pub goes_further : (a b c : History) (xs ys : List Step) → GoesOn a b xs → GoesOn b c ys → GoesOn a c (xs ++ ys)
goes_further a b c xs ys one two =
    let step = step_of a.world.scene.graph in
    let later : map (step_of a.world.scene.graph) two.more ≡ ys = subst (λ (k : Scene). map (step_of k.graph) two.more ≡ ys) one.scene two.are in
    let leaves : world_of c.world ≡ after_all a.world.scene.graph (setting a.world.scene) (world_of b.world) ys = subst (λ (k : Scene). world_of c.world ≡ after_all k.graph (setting k) (world_of b.world) ys) one.scene two.leaves in
    record {
      scene = two.scene ∙ one.scene;
      more = one.more ++ two.more;
      added = two.added ∙ (ap (λ (l : List named.Step). l ++ two.more) one.added ∙ append_assoc a.steps one.more two.more);
      are = map-append step one.more two.more ∙ (λ i. one.are i ++ later i);
      leaves = leaves ∙ (ap (λ (w : World). after_all a.world.scene.graph (setting a.world.scene) w ys) one.leaves ∙ sym (after_appended a.world.scene.graph (setting a.world.scene) (world_of a.world) xs ys));
    }

-- what is legal from the world that steps leave is legal where the history went on by them
pub legal_there : (a b : History) (xs ys : List Step) → GoesOn a b xs → IsLegal a.world.scene.graph (setting a.world.scene) (after_all a.world.scene.graph (setting a.world.scene) (world_of a.world) xs) ys → MayGoOn b ys
legal_there a b xs ys on h =
    let here = subst (λ (w : World). IsLegal a.world.scene.graph (setting a.world.scene) w ys) (sym on.leaves) h in
    subst (λ (k : Scene). IsLegal k.graph (setting k) (world_of b.world) ys) (sym on.scene) here

-- a history that went on by the front of legal steps may go on by the rest
pub may_further : (a b : History) (xs ys : List Step) → GoesOn a b xs → MayGoOn a (xs ++ ys) → MayGoOn b ys
may_further a b xs ys on h = legal_there a b xs ys on (legal_behind a.world.scene.graph (setting a.world.scene) (world_of a.world) xs ys h)

-- A history has gone on by the front of these steps; these are left.
pub record GoesLeft (init now : History) (all left : List Step) : Type 0 where
  pub scene : now.world.scene ≡ init.world.scene
  pub may : MayGoOn now left
  pub leads : (c : History) → GoesOn now c left → GoesOn init c all

pub all_left : (h : History) (all : List Step) → MayGoOn h all → GoesLeft h h all all
all_left h all may = record { scene = refl; may = may; leads = λ c on. on }

-- the next of the steps that are left may be taken
pub next_may : (init now : History) (all left rest : List Step) (x : Step) → GoesLeft init now all left → left ≡ x ∷ rest → MayGoOn now (x ∷ [])
next_may init now all left rest x so is = let both = subst (λ (l : List Step). MayGoOn now l) is so.may in (both.0, tt)

-- and is taken
pub next_taken : (init now next : History) (all left rest : List Step) (x : Step) → GoesLeft init now all left → left ≡ x ∷ rest → GoesOn now next (x ∷ []) → GoesLeft init next all rest
next_taken init now next all left rest x so is on =
    let both = subst (λ (l : List Step). MayGoOn now l) is so.may in
    record {
      scene = on.scene ∙ so.scene;
      may = may_further now next (x ∷ []) rest on both;
      leads = λ c more. so.leads c (subst (λ (l : List Step). GoesOn now c l) (sym is) (goes_further now next c (x ∷ []) rest on more));
    }

-- none is left
pub none_left : (init now : History) (all left : List Step) → GoesLeft init now all left → left ≡ [] → GoesOn init now all
none_left init now all left so is = so.leads now (subst (λ (l : List Step). GoesOn now now l) (sym is) (goes_nowhere now))

-- A history has made the first of these nodes; these are left.
pub record MakesLeft (init now : History) (passed all left : List ℕ) : Type 0 where
  pub scene : now.world.scene ≡ init.world.scene
  pub may : MayMake now passed left
  pub leads : (c : History) → GoesOnMaking now c passed left → GoesOnMaking init c passed all

pub all_unmade : (h : History) (passed all : List ℕ) → MayMake h passed all → MakesLeft h h passed all all
all_unmade h passed all may = record { scene = refl; may = may; leads = λ c on. on }

-- what makes nodes from the world that steps leave makes them where the history went on by them
makes_there : (a b : History) (xs : List Step) (passed ns : List ℕ) (steps : List Step) → GoesOn a b xs → MakesOn b passed ns steps → MakesAllBut a.world.scene.graph (setting a.world.scene) (Has passed) (after_all a.world.scene.graph (setting a.world.scene) (world_of a.world) xs) ns steps
makes_there a b xs passed ns steps on makes =
    let here = subst (λ (k : Scene). MakesAllBut k.graph (setting k) (Has passed) (world_of b.world) ns steps) on.scene makes in
    subst (λ (w : World). MakesAllBut a.world.scene.graph (setting a.world.scene) (Has passed) w ns steps) on.leaves here

-- the next node may be passed
pub pass_may : (init now : History) (passed all left rest : List ℕ) (n : ℕ) → MakesLeft init now passed all left → left ≡ n ∷ rest → ((node now.world.scene.graph n).recipe ≡ false) ⊎ Has passed n → MayGoOn now (Pass n ∷ [])
pass_may init now passed all left rest n so is why =
    let may = subst (λ (l : List ℕ). MayMake now passed l) is so.may in
    let g = now.world.scene.graph in
    let s = setting now.world.scene in
    let more = makes_exist g s passed (after g s (world_of now.world) (Pass n)) rest in
    let both = may (Pass n ∷ more.0) (passes why more.1) in
    (both.0, tt)

-- and is passed
pub pass_taken : (init now next : History) (passed all left rest : List ℕ) (n : ℕ) → MakesLeft init now passed all left → left ≡ n ∷ rest → ((node now.world.scene.graph n).recipe ≡ false) ⊎ Has passed n → GoesOn now next (Pass n ∷ []) → MakesLeft init next passed all rest
pass_taken init now next passed all left rest n so is why on =
    let may = subst (λ (l : List ℕ). MayMake now passed l) is so.may in
    record {
      scene = on.scene ∙ so.scene;
      may = λ steps makes. may_further now next (Pass n ∷ []) steps on (may (Pass n ∷ steps) (passes why (makes_there now next (Pass n ∷ []) passed rest steps on makes)));
      leads = λ c more. so.leads c (subst (λ (l : List ℕ). GoesOnMaking now c passed l) (sym is) (record {
        steps = Pass n ∷ more.steps;
        makes = passes why (makes_there now next (Pass n ∷ []) passed rest more.steps on more.makes);
        goes_on = goes_further now next c (Pass n ∷ []) more.steps on more.goes_on;
      }));
    }

-- the next recipe may be run
pub run_may : (init now : History) (passed all left rest : List ℕ) (n : ℕ) → MakesLeft init now passed all left → left ≡ n ∷ rest → (node now.world.scene.graph n).recipe ≡ true → ¬ (Has passed n) → MayGoOn now (whole_run now.world.scene.graph (setting now.world.scene) n (puts_in now n))
run_may init now passed all left rest n so is recipe not =
    let may = subst (λ (l : List ℕ). MayMake now passed l) is so.may in
    let g = now.world.scene.graph in
    let s = setting now.world.scene in
    let run = whole_run g s n (puts_in now n) in
    let more = makes_exist g s passed (after_all g s (world_of now.world) run) rest in
    legal_front g s (world_of now.world) run more.0 (may (run ++ more.0) (runs recipe not more.1))

-- and is run
pub run_taken : (init now next : History) (passed all left rest : List ℕ) (n : ℕ)
    → MakesLeft init now passed all left → left ≡ n ∷ rest → (node now.world.scene.graph n).recipe ≡ true
    → ¬ (Has passed n) → GoesOn now next (whole_run now.world.scene.graph (setting now.world.scene) n
    (puts_in now n)) → MakesLeft init next passed all rest
run_taken init now next passed all left rest n so is recipe not on =
    let may = subst (λ (l : List ℕ). MayMake now passed l) is so.may in
    let run = whole_run now.world.scene.graph (setting now.world.scene) n (puts_in now n) in
    record {
      scene = on.scene ∙ so.scene;
      may = λ steps makes. may_further now next run steps on (may (run ++ steps) (runs recipe not (makes_there now next run passed rest steps on makes)));
      leads = λ c more. so.leads c (subst (λ (l : List ℕ). GoesOnMaking now c passed l) (sym is) (record {
        steps = run ++ more.steps;
        makes = runs recipe not (makes_there now next run passed rest more.steps on more.makes);
        goes_on = goes_further now next c run more.steps on more.goes_on;
      }));
    }

-- no node is left
pub none_unmade : (init now : History) (passed all left : List ℕ) → MakesLeft init now passed all left → left ≡ [] → GoesOnMaking init now passed all
none_unmade init now passed all left so is =
    so.leads now (subst (λ (l : List ℕ). GoesOnMaking now now passed l) (sym is) (record { steps = []; makes = ends; goes_on = goes_nowhere now }))
