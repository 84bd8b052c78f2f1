-- Recipes that are run whole.
use Rattle.std.proofs.Common.{◌≡◌, ℕ, ◌-◌, ◌<◌, ◌≤◌, List, [], ◌∷◌, ◌++◌, length, map, take, drop, get_or, Option, Some, None, refl, sym, ap, ◌∙◌, subst, append_assoc, arith, inr}
use Rattle.std.proofs.lemmas.List.{take_rest}
use Rattle.mk_build.specs.Setting.{FileName, reads, writes}
use Rattle.mk_build.specs.World as world
use Rattle.mk_build.specs.World.{Disk}
use Rattle.mk_build.specs.Steps.{Step, Begin, Look, Put, End}
use Rattle.mk_build.specs.SerialMake.{puts, whole_run}
use Rattle.mk_world.specs.Running.{contents_of}
use Rattle.mk_world.specs.RunLaws.{WholeRunsAgree}
use Rattle.mk_world.specs.State.{Scene, State, DiskState, MakeState, setting, disk_of, world_in, world_of}
use Rattle.mk_find_evidence.specs.Histories.{History, MayGoOn, Notes, looks_and_puts, puts_in}
use Rattle.mk_find_evidence.proofs.Notes.{notes_further}

-- the next put of those that are left
pub next_put : (t : ℕ) (names more : List FileName) (f : FileName) (cs : List ℕ) → names ≡ f ∷ more → 1 ≤ length cs → puts t names cs ≡ Put t f (get_or cs 0 0) ∷ puts t more (take (length cs - 1) (drop 1 cs))
next_put t names more f [] is some = absurd (omega arith)
next_put t names more f (c ∷ cs) is some =
    let rest : take (length (c ∷ cs) - 1) (drop 1 (c ∷ cs)) ≡ cs = take_rest (c ∷ cs) 1 in
    ap (λ (l : List FileName). puts t l (c ∷ cs)) is ∙ ap (λ (l : List ℕ). Put t f c ∷ puts t more l) (sym rest)

-- no put is left where no content is
pub no_put : (t : ℕ) (names : List FileName) (cs : List ℕ) → length cs < 1 → puts t names cs ≡ []
no_put t [] cs none = refl
no_put t (f ∷ names) [] none = refl
no_put t (f ∷ names) (c ∷ cs) none = absurd (omega arith)

-- the looks at these files and the puts into these are all that a recipe does between begin and end
pub both_noted : (h looked end : History) (t : ℕ) (cs : List ℕ) (files texts : List FileName) → files ≡ reads h.world.scene.graph (setting h.world.scene) t → texts ≡ writes h.world.scene.graph (setting h.world.scene) t
    → Notes h looked (map (λ f. Look t f) files) → Notes looked end (puts t texts cs) → Notes h end (looks_and_puts h t cs)
both_noted h looked end t cs files texts read written on more =
    subst (λ (l : List Step). Notes h end l) (λ i. map (λ f. Look t f) (read i) ++ puts t (written i) cs) (notes_further h looked end (map (λ f. Look t f) files) (puts t texts cs) on more)

-- begin, looks and puts, and end are a whole run
pub run_noted : (h begun put ended : History) (t : ℕ) (cs : List ℕ) → Notes h begun (Begin t ∷ []) → Notes begun put (looks_and_puts begun t cs) → Notes put ended (End t ∷ []) → Notes h ended (whole_run h.world.scene.graph (setting h.world.scene) t cs)
run_noted h begun put ended t cs first more last =
    let g = h.world.scene.graph in
    let s = setting h.world.scene in
    let same : looks_and_puts begun t cs ≡ looks_and_puts h t cs = ap (λ (w : State). map (λ f. Look t f) (reads w.scene.graph (setting w.scene) t) ++ puts t (writes w.scene.graph (setting w.scene) t) cs) first.world in
    let rest = subst (λ (l : List Step). Notes begun ended (l ++ End t ∷ [])) same (notes_further begun put ended (looks_and_puts begun t cs) (End t ∷ []) more last) in
    let is : looks_and_puts h t cs ++ End t ∷ [] ≡ map (λ f. Look t f) (reads g s t) ++ (puts t (writes g s t) cs ++ End t ∷ []) = append_assoc (map (λ f. Look t f) (reads g s t)) (puts t (writes g s t) cs) (End t ∷ []) in
    subst (λ (l : List Step). Notes h ended (Begin t ∷ l)) is (notes_further h begun ended (Begin t ∷ []) (looks_and_puts h t cs ++ End t ∷ []) first rest)

same_disk : (scene : Scene) (d : DiskState) (m : Option MakeState) → world.disk_of (world_in scene d m) ≡ disk_of d
same_disk scene d None = refl
same_disk scene d (Some m) = refl

-- what a recipe is to put in a history is what it puts in a plan
pub puts_are : WholeRunsAgree → (h : History) (t : ℕ) (cs : List ℕ) → cs ≡ contents_of h.world.scene.graph (setting h.world.scene) (disk_of h.world.disk) t → MayGoOn h (whole_run h.world.scene.graph (setting h.world.scene) t (puts_in h t)) → cs ≡ puts_in h t
puts_are agree h t cs are legal =
    let g = h.world.scene.graph in
    let s = setting h.world.scene in
    are ∙ (ap (λ (d : Disk). contents_of g s d t) (sym (same_disk h.world.scene h.world.disk h.world.make)) ∙ agree g s (world_of h.world) t (inr legal))

-- so the whole run with it is the one of the plan
pub run_is : WholeRunsAgree → (h : History) (t : ℕ) (cs : List ℕ) → cs ≡ contents_of h.world.scene.graph (setting h.world.scene) (disk_of h.world.disk) t → MayGoOn h (whole_run h.world.scene.graph (setting h.world.scene) t (puts_in h t))
    → whole_run h.world.scene.graph (setting h.world.scene) t cs ≡ whole_run h.world.scene.graph (setting h.world.scene) t (puts_in h t)
run_is agree h t cs are legal = ap (whole_run h.world.scene.graph (setting h.world.scene) t) (puts_are agree h t cs are legal)
