-- What a finished make of all goals leaves: each recipe is as if it had run on what is there now.
use Rattle.std.proofs.Common.{◌≡◌, ℕ, ◌<◌, ◌≤◌, List, [], ◌∷◌, true, Some, map, ⊎_elim, refl, sym, ◌∙◌, ap, subst, arith}
use Rattle.mk_graph.specs.Membership.{Has, IsWithin}
use Rattle.mk_graph.specs.Graph.{Graph, node, IsGraph, Reached, goal, onward}
use Rattle.mk_graph.proofs.Nodes.{recipe_is_node}
use Rattle.mk_build.specs.Setting.{FileName, Setting, name, reads, writes}
use Rattle.mk_build.specs.World.{Disk, Making, World, Idle, Busy, content, HasStamp, outcome}
use Rattle.mk_build.specs.Steps.{Step, Edit, Make, Begin, Look, Put, End, Break, Pass, Stop, EndMake, Allowed, make_of}
use Rattle.mk_build.specs.BuildLaws.{IsInside, AreInside}
use Rattle.mk_build.specs.Clean.{Contents, given_contents, ReachedFrom}
use Rattle.mk_build.specs.Right.{AreSound, HaveNoRace, HaveWays}
use Rattle.mk_build.proofs.Sound.{writer_has_recipe}
use Rattle.mk_build.proofs.Writing.{map_same}
use Rattle.mk_build_behaviours.specs.Behaviours.{Behaviour, Behaviours, behaviour, path, result}
use Rattle.mk_build_behaviours.specs.CleanBy.{ArePresent}
use Rattle.mk_build_behaviours.specs.StepsBy.{AllowedBy, after_by, IsLegalBy, after_all_by}
use Rattle.mk_build_behaviours.specs.Trusting.{Trust, with_left, IsCoherentTrusting}
use Rattle.mk_build_behaviours.proofs.Paths.{same_walk}
use Rattle.mk_build_behaviours.proofs.CleanContents.{IsClean}
use Rattle.mk_build_behaviours.proofs.Following.{Follows, done_is_clean}
use Rattle.mk_build_behaviours.proofs.Present.{all_nodes, all_recipes, reached_is_done}
use Rattle.mk_build_behaviours.proofs.Trusted.{trusting, trusted_reads, trusting_sound, trusting_no_race, trusting_ways, trusted_behaves}
use Rattle.mk_build_behaviours.proofs.TrustedMakes.{TrustingIn, trusting_steps, wanted, trusting_begins}
use Rattle.mk_build_since.specs.Named.{Build}
use Rattle.mk_build_since.specs.Next.{IsAcceptedTrusting, IsFinished}

-- Each trusted recipe wrote the result of what is there now and reads only its footprint; and all files were written later than nothing.
pub record IsMade (g : Graph) (s : Setting) (b : Behaviours) (trusted : Trust) (d : Disk) : Type 0 where
  pub stamped : (f : FileName) (stamp : ℕ) → HasStamp d f stamp → stamp ≤ d.clock
  pub holds : (t : ℕ) → (node g t).recipe ≡ true → trusted (name g t) ≡ true → map (content d) (writes g s t) ≡ map (λ c. Some c) (result (behaviour g b t) (content d))
  pub late : (t : ℕ) (f : FileName) (stamp : ℕ) → Has (writes g s t) f → HasStamp d f stamp → 0 < stamp
  pub within : (t : ℕ) → (node g t).recipe ≡ true → trusted (name g t) ≡ true → IsWithin (path (behaviour g b t) (content d)) (reads g s t)

-- the goals of the make in progress
abbrev HasGoals : List ℕ → World → Type 0
HasGoals goals (Idle d) = Unit {0}
HasGoals goals (Busy m d) = m.goals ≡ goals

module _ (g : Graph) (s : Setting) (b : Behaviours) (goals : List ℕ) where
  -- they stay inside of it
  same_goals : (m : Making) (d : Disk) (step : Step) → IsInside step → m.goals ≡ goals → HasGoals goals (after_by g s (Busy m d) step)
  same_goals m d (Edit f c) inside same = absurd inside
  same_goals m d (Make jobs others) inside same = absurd inside
  same_goals m d (Begin t) inside same = same
  same_goals m d (Look t f) inside same = same
  same_goals m d (Put t f c) inside same = same
  same_goals m d (End t) inside same = same
  same_goals m d (Break t removed) inside same = same
  same_goals m d (Pass n) inside same = same
  same_goals m d Stop inside same = absurd inside
  same_goals m d EndMake inside same = absurd inside

  goals_after : (w : World) (step : Step) → IsInside step → HasGoals goals w → AllowedBy g s b w step → HasGoals goals (after_by g s w step)
  goals_after (Busy m d) step inside same may = same_goals m d step inside same
  goals_after (Idle d) (Edit f c) inside same may = absurd inside
  goals_after (Idle d) (Make jobs others) inside same may = absurd inside
  goals_after (Idle d) (Begin t) inside same may = absurd may
  goals_after (Idle d) (Look t f) inside same may = absurd may
  goals_after (Idle d) (Put t f c) inside same may = absurd may
  goals_after (Idle d) (End t) inside same may = absurd may
  goals_after (Idle d) (Break t removed) inside same may = absurd may
  goals_after (Idle d) (Pass n) inside same may = absurd may
  goals_after (Idle d) Stop inside same may = absurd inside
  goals_after (Idle d) EndMake inside same may = absurd inside

  all_goals : (w : World) (steps : List Step) → AreInside steps → HasGoals goals w → IsLegalBy g s b w steps → HasGoals goals (after_all_by g s w steps)
  all_goals w [] inside same legal = same
  all_goals w (first ∷ steps) inside same legal = all_goals (after_by g s w first) steps inside.1 (goals_after w first inside.0 same legal.0) legal.1

module _ (g : Graph) (s : Setting) (b : Behaviours) (graph : IsGraph g) (sound : AreSound g s) (no_race : HaveNoRace g s) (ways : HaveWays g s)
    (given clean : Contents) (is : IsClean g s b given clean (all_nodes g graph)) (m : Making) (d : Disk)
    (follows : Follows g s b graph sound no_race ways given clean (all_nodes g graph) is (all_recipes g graph s sound) m d)
    (all : m.goals ≡ g.goals) (may : Allowed g s (Busy m d) EndMake) where
  -- goals reach each node
  from_goals : {n : ℕ} → Reached g n → ReachedFrom g g.goals n
  from_goals (goal h) = goal h
  from_goals (onward more h) = onward (from_goals more) h

  -- each recipe is done
  is_done : (t : ℕ) → (node g t).recipe ≡ true → Has m.done t
  is_done t recipe =
      let order = follows.whole.0.make.order in
      reached_is_done g graph m.goals order.part m.done order.turns may.0 (subst (λ (goals : List ℕ). ReachedFrom g goals t) (sym all) (from_goals (graph.sound.reached t (recipe_is_node g t recipe))))

  -- what it reads is clean
  reads_clean : (t : ℕ) (f : FileName) → Has (reads g s t) f → content d f ≡ clean f
  reads_clean t f read =
      ⊎_elim (λ given. follows.given_clean f given)
      (λ wrote. let recipe = writer_has_recipe g s wrote.0 f wrote.1 in
      done_is_clean g s b graph sound no_race ways given clean (all_nodes g graph) is (all_recipes g graph s sound) m d follows wrote.0 (is_done wrote.0 recipe) recipe f wrote.1)
      (sound.known t f read)

  module _ (t : ℕ) (recipe : (node g t).recipe ≡ true) where
    -- so it walks as over clean contents
    walks : (path (behaviour g b t) clean ≡ path (behaviour g b t) (content d)) × (result (behaviour g b t) clean ≡ result (behaviour g b t) (content d))
    walks = same_walk (behaviour g b t) clean (content d) (λ f on_clean on_there. sym (reads_clean t f (is.within t (all_recipes g graph s sound t recipe) recipe f on_clean)))

    -- and its last run wrote the clean result
    wrote_clean : map (content d) (writes g s t) ≡ map (λ c. Some c) (result (behaviour g b t) clean)
    wrote_clean =
        let up = follows.whole.1 t (is_done t recipe) recipe in
        let whole = up.ran.whole in
        let same : map up.run.saw (reads g s t) ≡ map clean (reads g s t) = map_same up.run.saw clean (reads g s t) (λ k read. sym (up.sees k read) ∙ reads_clean t k read) in
        let wrote : whole.written ≡ result (behaviour g b t) clean = follows.true_of t whole.written recipe (subst (λ l. outcome follows.known t l ≡ Some whole.written) same whole.known) in
        subst (λ (l : List ℕ). map (content d) (writes g s t) ≡ map (λ c. Some c) l) wrote whole.holds

  -- what the make leaves
  pub is_made : IsMade g s b (λ target. true) d
  is_made = record {
    stamped = follows.whole.0.fits.stamped;
    holds = λ t recipe is_trusted. wrote_clean t recipe ∙ ap (λ (l : List ℕ). map (λ c. Some c) l) (walks t recipe).1;
    late = λ t f stamp wrote has.
        let recipe = writer_has_recipe g s t f wrote in
        let after = (follows.whole.1 t (is_done t recipe) recipe).ran.after_begin f stamp wrote has in
        omega arith;
    within = λ t recipe is_trusted. subst (λ (l : List FileName). IsWithin l (reads g s t)) (walks t recipe).0 (is.within t (all_recipes g graph s sound t recipe) recipe);
  }

module _ (x : Build) (trusted : Trust) (accepted : IsAcceptedTrusting x trusted) (first left : Disk) (coherent : IsCoherentTrusting x.graph x.setting x.behaviours trusted first) (present : ArePresent x.graph x.setting x.behaviours first) (finished : IsFinished x first left) where
  -- the contents that trusted recipes write in the clean build
  abbrev clean : Contents
  clean = wanted x.graph x.setting x.behaviours trusted accepted.graph accepted.sound accepted.may first coherent.0 coherent.1 present finished.jobs x.graph.goals finished.legal.0.1

  -- the make follows one in which other recipes write what they leave
  abbrev Goes : World → Type 0
  Goes = TrustingIn x.graph x.setting x.behaviours trusted accepted.graph accepted.sound accepted.may (given_contents x.setting first) clean

  goes : Goes (Busy finished.making left)
  goes = subst Goes finished.leaves
      (trusting_steps x.graph x.setting x.behaviours trusted accepted.graph accepted.sound accepted.may (given_contents x.setting first) clean (Busy (make_of finished.jobs x.graph.goals) first) finished.steps
      (trusting_begins x.graph x.setting x.behaviours trusted accepted.graph accepted.sound accepted.may first coherent.0 coherent.1 present finished.jobs x.graph.goals finished.legal.0.1) finished.inside finished.legal.1)

  -- and has all goals
  has_goals : finished.making.goals ≡ x.graph.goals
  has_goals = subst (HasGoals x.graph.goals) finished.leaves (all_goals x.graph x.setting x.behaviours x.graph.goals (Busy (make_of finished.jobs x.graph.goals) first) finished.steps finished.inside refl finished.legal.1)

  -- so all recipes are as if they had run, where others write what they left
  abbrev less : Setting
  less = trusting x.setting trusted

  abbrev others : Behaviours
  others = with_left x.setting x.behaviours trusted goes.left

  all_made : IsMade x.graph less others (λ target. true) left
  all_made = is_made x.graph less others accepted.graph (trusting_sound x.graph x.setting trusted accepted.sound accepted.may) (trusting_no_race x.graph x.setting trusted accepted.sound accepted.may) (trusting_ways x.graph x.setting trusted accepted.sound accepted.may)
      (given_contents x.setting first) goes.clean goes.is finished.making left goes.follows has_goals finished.ends

  -- and each trusted one is as if it had run on what is there
  pub finished_is_made : IsMade x.graph x.setting x.behaviours trusted left
  finished_is_made = record {
    stamped = all_made.stamped;
    holds = λ t recipe is. subst (λ (k : Behaviour). map (content left) (writes x.graph x.setting t) ≡ map (λ c. Some c) (result k (content left))) (trusted_behaves x.graph x.setting trusted x.behaviours goes.left t is) (all_made.holds t recipe refl);
    late = all_made.late;
    within = λ t recipe is. subst (λ (l : List FileName). IsWithin (path (behaviour x.graph x.behaviours t) (content left)) l) (trusted_reads x.graph x.setting trusted t is)
        (subst (λ (k : Behaviour). IsWithin (path k (content left)) (reads x.graph less t)) (trusted_behaves x.graph x.setting trusted x.behaviours goes.left t is) (all_made.within t recipe refl));
  }
