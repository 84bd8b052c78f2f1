-- Steps that are noted.
use Rattle.std.proofs.Common.{◌≡◌, List, [], ◌∷◌, ◌++◌, map, refl, sym, ap, ◌∙◌, subst, append_assoc}
use Rattle.std.proofs.lemmas.List.{append-nil, map-append}
use Rattle.mk_build.specs.Steps.{Step, after_all}
use Rattle.mk_world.specs.State.{Scene, State, setting, world_of}
use Rattle.mk_world.specs.Steps.{step_of}
use Rattle.mk_world.specs.NamedStep as named
use Rattle.mk_find_evidence.specs.Histories.{History, GoesOn, Notes}

-- no steps are noted
pub notes_nothing : (h : History) → Notes h h []
notes_nothing h = record { world = refl; more = []; added = sym (append-nil h.steps); are = refl }

-- some steps are noted and then others
pub notes_further : (a b c : History) (xs ys : List Step) → Notes a b xs → Notes b c ys → Notes a c (xs ++ ys)
notes_further a b c xs ys one two =
    let step = step_of a.world.scene.graph in
    let later : map (step_of a.world.scene.graph) two.more ≡ ys = subst (λ (w : State). map (step_of w.scene.graph) two.more ≡ ys) one.world two.are in
    record {
      world = two.world ∙ one.world;
      more = one.more ++ two.more;
      added = two.added ∙ (ap (λ (l : List named.Step). l ++ two.more) one.added ∙ append_assoc a.steps one.more two.more);
      are = map-append step one.more two.more ∙ (λ i. one.are i ++ later i);
    }

-- The first of these steps are noted; these are left.
pub record NotesLeft (init now : History) (all left : List Step) : Type 0 where
  pub world : now.world ≡ init.world
  pub leads : (c : History) → Notes now c left → Notes init c all

pub all_unnoted : (h : History) (all : List Step) → NotesLeft h h all all
all_unnoted h all = record { world = refl; leads = λ c on. on }

-- the next of the steps that are left is noted
pub next_noted : (init now next : History) (all left rest : List Step) (x : Step) → NotesLeft init now all left → left ≡ x ∷ rest → Notes now next (x ∷ []) → NotesLeft init next all rest
next_noted init now next all left rest x so is on =
    record {
      world = on.world ∙ so.world;
      leads = λ c more. so.leads c (subst (λ (l : List Step). Notes now c l) (sym is) (notes_further now next c (x ∷ []) rest on more));
    }

-- none is left
pub none_unnoted : (init now : History) (all left : List Step) → NotesLeft init now all left → left ≡ [] → Notes init now all
none_unnoted init now all left so is = so.leads now (subst (λ (l : List Step). Notes now now l) (sym is) (notes_nothing now))

-- a history goes on by steps that its world took and that are noted then
pub taken_and_noted : (old mid new : History) (steps : List Step) → mid.steps ≡ old.steps → mid.world.scene ≡ old.world.scene
    → world_of mid.world ≡ after_all old.world.scene.graph (setting old.world.scene) (world_of old.world) steps → Notes mid new steps → GoesOn old new steps
taken_and_noted old mid new steps same scene leaves on =
    record {
      scene = ap (λ (w : State). w.scene) on.world ∙ scene;
      more = on.more;
      added = on.added ∙ ap (λ (l : List named.Step). l ++ on.more) same;
      are = subst (λ (k : Scene). map (step_of k.graph) on.more ≡ steps) scene on.are;
      leaves = ap world_of on.world ∙ leaves;
    }
