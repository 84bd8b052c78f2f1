-- Steps that are taken one after another.
use Rattle.std.proofs.Common.{◌≡◌, ◌<◌, ◌-◌, ℕ, List, [], ◌∷◌, ◌++◌, length, take, drop, get_or, Result, Ok, Err, refl, sym, ap, ◌∙◌, subst, arith, inl, append_assoc}
use Rattle.std.proofs.lemmas.List.{take_all}
use Rattle.std.specs.Prelude.{OnErr}
use Rattle.mk_graph.specs.Graph.{Graph}
use Rattle.mk_build.specs.Setting.{FileName, Setting}
use Rattle.mk_build.specs.World.{World}
use Rattle.mk_build.specs.Steps.{Step, Put, IsLegal, after, after_all}
use Rattle.mk_build.specs.SerialMake.{puts}
use Rattle.mk_world.specs.declared.fault.StepFault.{StepFault}
use Rattle.mk_world.specs.declared.fault.StepFault.TheVariants.{Memory}
use Rattle.mk_world.specs.State.{State, Scene, setting, world_of}
use Rattle.mk_world.specs.Steps.{Answers, Judges}
use Rattle.mk_world.specs.Running.{AnswersInTurn, TakesInTurn, ends, takes, refused, LeadsTo, LeavesPartly}

-- a step that is taken, before others
pub turn_next : (scene : Scene) (old mid new : World) (one : Step) (steps : List Step) (r : Result (Unit {0}) StepFault) → Judges scene old mid one (Ok tt) → TakesInTurn scene.graph (setting scene) mid new steps r → TakesInTurn scene.graph (setting scene) old new (one ∷ steps) r
turn_next scene old mid new one steps r taken rest =
    takes taken.allowed (subst (λ (w : World). TakesInTurn scene.graph (setting scene) w new steps r) taken.leaves rest)

-- a step that is refused, before others
pub turn_refused : (scene : Scene) (old new : World) (one : Step) (steps : List Step) (fault : StepFault) → Judges scene old new one (Err fault) → new ≡ old → TakesInTurn scene.graph (setting scene) old new (one ∷ steps) (Err fault)
turn_refused scene old new one steps fault first same = subst (λ (w : World). TakesInTurn scene.graph (setting scene) old w (one ∷ steps) (Err fault)) (sym same) (refused first)

-- one step
pub turn_one : (scene : Scene) (old new : World) (one : Step) (r : Result (Unit {0}) StepFault) → Judges scene old new one r → OnErr r (new ≡ old) → TakesInTurn scene.graph (setting scene) old new (one ∷ []) r
turn_one scene old new one (Ok done) taken same = turn_next scene old new new one [] (Ok done) taken ends
turn_one scene old new one (Err fault) first same = turn_refused scene old new one [] fault first same

-- the result of one step, as one of steps in turn
pub answers_one : (old new : State) (one : Step) (r : Result (Unit {0}) StepFault) → Answers old new one r → AnswersInTurn old new (one ∷ []) r
answers_one old new one r h = record { scene = h.scene; names = h.names; takes = turn_one old.scene (world_of old) (world_of new) one r h.judged (world_same r h.unchanged) }
  where
    world_same : (r : Result (Unit {0}) StepFault) → OnErr r (new ≡ old) → OnErr r (world_of new ≡ world_of old)
    world_same (Ok done) same = tt
    world_same (Err fault) same = ap world_of same

-- a step that is refused, before others
pub answers_refused : (old new : State) (one : Step) (steps : List Step) (fault : StepFault) → Answers old new one (Err fault) → AnswersInTurn old new (one ∷ steps) (Err fault)
answers_refused old new one steps fault h = record { scene = h.scene; names = h.names; takes = turn_refused old.scene (world_of old) (world_of new) one steps fault h.judged (ap world_of h.unchanged) }

-- a step that is taken, before others
pub answers_next : (old mid new : State) (one : Step) (steps : List Step) (r : Result (Unit {0}) StepFault) → Answers old mid one (Ok tt) → AnswersInTurn mid new steps r → AnswersInTurn old new (one ∷ steps) r
answers_next old mid new one steps r h rest =
    let takes_on = subst (λ (k : Scene). TakesInTurn k.graph (setting k) (world_of mid) (world_of new) steps r) h.scene rest.takes in
    record { scene = rest.scene ∙ h.scene; names = rest.names ∙ h.names; takes = turn_next old.scene (world_of old) (world_of mid) (world_of new) one steps r h.judged takes_on }

-- steps that are all taken, before others
pub turn_append : (g : Graph) (s : Setting) (old mid new : World) (first steps : List Step) (r : Result (Unit {0}) StepFault) → TakesInTurn g s old mid first (Ok tt) → TakesInTurn g s mid new steps r → TakesInTurn g s old new (first ++ steps) r
turn_append g s old mid new first steps r ends rest = rest
turn_append g s old mid new first steps r (takes {next = x} {steps = others} allowed more) rest = takes allowed (turn_append g s (after g s old x) mid new others steps r more rest)

-- steps of which one is refused, before others
pub turn_stops : (g : Graph) (s : Setting) (old new : World) (first steps : List Step) (fault : StepFault) → TakesInTurn g s old new first (Err fault) → TakesInTurn g s old new (first ++ steps) (Err fault)
turn_stops g s old new first steps fault (takes {next = x} {steps = others} allowed more) = takes allowed (turn_stops g s (after g s old x) new others steps fault more)
turn_stops g s old new first steps fault (refused is) = refused is

-- a put that is taken, before those that are left
pub put_next : (scene : Scene) (old mid new : World) (t : ℕ) (file : FileName) (files left : List FileName) (rest : List ℕ)
    (r : Result (Unit {0}) StepFault) → left ≡ file ∷ files → 0 < length rest
    → Judges scene old mid (Put t file (get_or rest 0 0)) (Ok tt)
    → TakesInTurn scene.graph (setting scene) mid new (puts t files (take (length rest - 1) (drop 1 rest))) r
    → TakesInTurn scene.graph (setting scene) old new (puts t left rest) r
put_next scene old mid new t file files left [] r is some taken more = absurd (omega arith)
put_next scene old mid new t file files left (c ∷ cs) r is some taken more =
    let others : take (length (c ∷ cs) - 1) cs ≡ cs = take_all (length (c ∷ cs) - 1) cs (omega arith) in
    let next = turn_next scene old mid new (Put t file c) (puts t files cs) r taken (subst (λ (l : List ℕ). TakesInTurn scene.graph (setting scene) mid new (puts t files l) r) others more) in
    subst (λ (fs : List FileName). TakesInTurn scene.graph (setting scene) old new (puts t fs (c ∷ cs)) r) (sym is) next

-- a put that is refused, before those that are left
pub put_refused : (scene : Scene) (old new : World) (t : ℕ) (file : FileName) (files left : List FileName) (rest : List ℕ) (fault : StepFault)
    → left ≡ file ∷ files → 0 < length rest → Judges scene old new (Put t file (get_or rest 0 0)) (Err fault)
    → new ≡ old → TakesInTurn scene.graph (setting scene) old new (puts t left rest) (Err fault)
put_refused scene old new t file files left [] fault is some first same = absurd (omega arith)
put_refused scene old new t file files left (c ∷ cs) fault is some first same =
    subst (λ (fs : List FileName). TakesInTurn scene.graph (setting scene) old new (puts t fs (c ∷ cs)) (Err fault)) (sym is) (turn_refused scene old new (Put t file c) (puts t files cs) fault first same)

-- where no contents are left, or no files, nothing is put
pub no_contents : (g : Graph) (s : Setting) (w : World) (t : ℕ) (files : List FileName) (cs : List ℕ) → length cs < 1 → TakesInTurn g s w w (puts t files cs) (Ok tt)
no_contents g s w t [] cs none = ends
no_contents g s w t (f ∷ files) [] none = ends
no_contents g s w t (f ∷ files) (c ∷ cs) none = absurd (omega arith)

pub no_files : (g : Graph) (s : Setting) (w : World) (t : ℕ) (files : List FileName) (cs : List ℕ) → files ≡ [] → TakesInTurn g s w w (puts t files cs) (Ok tt)
no_files g s w t files cs none = subst (λ (fs : List FileName). TakesInTurn g s w w (puts t fs cs) (Ok tt)) (sym none) ends

-- memory may run out before the first step
pub turn_short : (g : Graph) (s : Setting) (old : World) (steps : List Step) → 0 < length steps → TakesInTurn g s old old steps (Err Memory)
turn_short g s old [] some = absurd (omega arith)
turn_short g s old (one ∷ steps) some = refused (inl refl)

-- of steps that are taken in turn the first are taken
pub turn_front : (g : Graph) (s : Setting) (old new : World) (steps : List Step) (r : Result (Unit {0}) StepFault) → TakesInTurn g s old new steps r → LeavesPartly g s old new steps
turn_front g s old new steps r ends = record { front = []; rest = []; are = refl; leaves = refl }
turn_front g s old new steps r (takes {next = one} {steps = others} allowed more) =
    let later = turn_front g s (after g s old one) new others r more in
    record { front = one ∷ later.front; rest = later.rest; are = ap (λ (l : List Step). one ∷ l) later.are; leaves = later.leaves }
turn_front g s old new steps r (refused {next = one} {steps = others} is) = record { front = []; rest = one ∷ others; are = refl; leaves = refl }

-- steps that are taken in turn lead somewhere
pub turn_leads : (g : Graph) (s : Setting) (old new : World) (steps : List Step) (r : Result (Unit {0}) StepFault) → TakesInTurn g s old new steps r → LeadsTo g s old new
turn_leads g s old new steps r ends = record { steps = []; legal = tt; leaves = refl }
turn_leads g s old new steps r (takes {next = one} {steps = others} allowed more) =
    let rest = turn_leads g s (after g s old one) new others r more in
    record { steps = one ∷ rest.steps; legal = (allowed, rest.legal); leaves = rest.leaves }
turn_leads g s old new steps r (refused is) = record { steps = []; legal = tt; leaves = refl }

-- what leads on from where steps led
pub leads_on : (g : Graph) (s : Setting) (old mid new : World) → LeadsTo g s old mid → LeadsTo g s mid new → LeadsTo g s old new
leads_on g s old mid new first next = at first.steps old first.legal first.leaves
  where
    at : (steps : List Step) (w : World) → IsLegal g s w steps → mid ≡ after_all g s w steps → LeadsTo g s w new
    at [] w legal is = subst (λ (k : World). LeadsTo g s k new) is next
    at (one ∷ steps) w legal is =
        let rest = at steps (after g s w one) legal.1 is in
        record { steps = one ∷ rest.steps; legal = (legal.0, rest.legal); leaves = rest.leaves }

some_steps : (first : List Step) (one : Step) → 0 < length (first ++ one ∷ [])
some_steps [] one = omega arith
some_steps (x ∷ first) one = omega arith

-- memory runs out before a run is finished
pub finish_short : (g : Graph) (s : Setting) (old : World) (looks puts : List Step) (end : Step) → TakesInTurn g s old old (looks ++ (puts ++ end ∷ [])) (Err Memory)
finish_short g s old looks puts end =
    turn_short g s old (looks ++ (puts ++ end ∷ [])) (subst (λ (l : List Step). 0 < length l) (append_assoc looks puts (end ∷ [])) (some_steps (looks ++ puts) end))

-- a run is finished: looks, puts, and the end
pub finish_all : (g : Graph) (s : Setting) (old mid late new : World) (looks puts : List Step) (end : Step)
    (r : Result (Unit {0}) StepFault) → TakesInTurn g s old mid looks (Ok tt)
    → TakesInTurn g s mid late puts (Ok tt) → TakesInTurn g s late new (end ∷ []) r
    → TakesInTurn g s old new (looks ++ (puts ++ end ∷ [])) r
finish_all g s old mid late new looks puts end r h k j =
    turn_append g s old mid new looks (puts ++ end ∷ []) r h (turn_append g s mid late new puts (end ∷ []) r k j)

-- a put of it is refused
pub finish_stops : (g : Graph) (s : Setting) (old mid new : World) (looks puts : List Step) (end : Step) (fault : StepFault) → TakesInTurn g s old mid looks (Ok tt) → TakesInTurn g s mid new puts (Err fault) → TakesInTurn g s old new (looks ++ (puts ++ end ∷ [])) (Err fault)
finish_stops g s old mid new looks puts end fault h k =
    turn_append g s old mid new looks (puts ++ end ∷ []) (Err fault) h (turn_stops g s mid new puts (end ∷ []) fault k)

-- on an error two parts stay, so what is made of them stays
pub on_errors : {A B C T E : Type 0} (r : Result T E) (make : A → B → C) (a a' : A) (b b' : B) → OnErr r (a' ≡ a) → OnErr r (b' ≡ b) → OnErr r (make a' b' ≡ make a b)
on_errors (Ok x) make a a' b b' h k = tt
on_errors (Err e) make a a' b b' h k = λ i. make (h i) (k i)
