-- Lines of plans that are followed.
use Rattle.std.proofs.Common.{◌≡◌, ℕ, suc, ◌+◌, ◌<◌, Bool, true, false, cond, List, [], ◌∷◌, ◌++◌, length, map, Option, Some, None, option_map, Result, Ok, Err, refl, sym, ap, ◌∙◌, subst, arith, inl, inr, ◌⊎◌, unwrap_or, get_or, drop, take}
use Rattle.std.specs.Prelude.{OnOk, OnErr, IfErr}
use Rattle.std.specs.declared.alloc.AllocError.{AllocError}
use Rattle.std.specs.List.{flat_map}
use Rattle.std.specs.Str.{bytes_eq}
use Rattle.std.proofs.lemmas.List.{length-map, append_assoc, drop_more, append-nil, take-append-drop, take_more}
use Rattle.std.proofs.lemmas.Bool.{false≢true}
use Rattle.mk_lines.specs.Names.{place_from}
use Rattle.mk_graph.specs.declared.node.Node.{Node}
use Rattle.mk_graph.specs.Membership.{Has}
use Rattle.mk_graph.specs.Graph.{Graph}
use Rattle.mk_build.specs.Setting.{FileName, Setting, reads, writes}
use Rattle.mk_build.specs.World.{World, Disk, Idle, Busy}
use Rattle.mk_build.specs.World as model
use Rattle.mk_graph.specs.Schedules.{HasAll, IsPart}
use Rattle.mk_build.specs.Steps.{Begin, Look, End, after}
use Rattle.mk_build.specs.SerialMake.{puts, rest_of_run}
use Rattle.mk_world.specs.declared.fault.StepFault.{StepFault}
use Rattle.mk_world.specs.declared.fault.StepFault.TheVariants.{NoMake, Memory, ClockSpent, OtherOutcome, MakeRuns, NotReady, NoJobFree, OutOfDate, NotRunning, NotInFootprint, NotAllDone, PlanLine, NotEditable, NotAGoal, NotLeftToRun}
use Rattle.mk_world.specs.declared.file.File.{File}
use Rattle.mk_world.specs.declared.file.Listed.{Listed}
use Rattle.mk_world.specs.State.{State, DiskState, MakeState, Scene, setting, disk_of, world_of, world_in, number_of, file_of}
use Rattle.mk_world.specs.Steps.{Answers}
use Rattle.mk_world.specs.Tables.{look}
use Rattle.mk_world.specs.Listing.{there_among, entry, listing, listed_as}
use Rattle.mk_world.specs.Running.{TakesInTurn, is_node, listed_at, files_text, file_text, steps_of, own_steps, Follows, Stage, stage_of, is_known, Prepares, AnswersInTurn, contents_of, finish_steps, run_steps, AnswersLine, IsRefusal, RunsTo, ends, follows, refused, printed, LeadsTo, PassesSomeIn, PassesSomeBefore, FollowsPartly, StopsIn, RunsPartly}
use Rattle.mk_world.specs.declared.plan.PlanCommand.{PlanCommand}
use Rattle.mk_world.specs.declared.plan.PlanCommand.TheVariants as command
use Rattle.mk_world.specs.declared.plan.PlanLine as planned
use Rattle.mk_world.proofs.Fronts.{fronts_first}
use Rattle.mk_world.proofs.Idle.{passes_lead}
use Rattle.mk_world.proofs.InTurn.{answers_next, answers_refused, turn_leads, leads_on}
use Rattle.mk_world.proofs.Tables.{unplaced}

all_within : (xs ns : List ℕ) → ((n : ℕ) → Has ns n → Has xs n) → HasAll xs ns
all_within xs [] w = tt
all_within xs (n ∷ ns) w = (w n (inl refl), all_within xs ns (λ m h. w m (inr h)))

-- all goals are a part of them
pub all_are_part : (goals all : List ℕ) → goals ≡ all → ¬ (all ≡ []) → IsPart goals all
all_are_part goals all e some = record { not_empty = λ none. some (sym e ∙ none); within = subst (HasAll all) (sym e) (all_within all all (λ n h. h)) }

-- a name that stands among others has a place among them
place_low : (n : ℕ) (names : List FileName) (f : FileName) (i : ℕ) → place_from n names f ≡ Some i → i < n + length names
unfolding place_from
place_low n [] f i e = absurd cc
place_low n (h ∷ names) f i e = at (bytes_eq f h) e (place_low (n + 1) names f i)
  where
    at : (b : Bool) → cond b (Some n) (place_from (n + 1) names f) ≡ Some i → (place_from (n + 1) names f ≡ Some i → i < n + 1 + length names) → i < n + suc (length names)
    at true k ih = let here : n ≡ i = cc in omega arith
    at false k ih = let low = ih k in omega arith

pub node_low : (g : Graph) (f : FileName) → is_node g f ≡ true → number_of g f < length g.nodes
node_low g f there = at (place_from 0 (map (λ (n : Node). n.name) g.nodes) f) refl
  where
    at : (o : Option ℕ) → place_from 0 (map (λ (n : Node). n.name) g.nodes) f ≡ o → unwrap_or o (length g.nodes) < length g.nodes
    at None e = absurd (false≢true (sym (unplaced ℕ (map (λ (n : Node). n.name) g.nodes) f e).0 ∙ there))
    at (Some i) e =
        let low = place_low 0 (map (λ (n : Node). n.name) g.nodes) f i e in
        omega (arith, low, length-map g.nodes (λ (n : Node). n.name))

-- without a make nothing is finished
idle_list : (g : Graph) (s : Setting) (d : Disk) (n : ℕ) (fs ws : List FileName) (cs : List ℕ) → TakesInTurn g s (Idle d) (Idle d) (map (λ f. Look n f) fs ++ (puts n ws cs ++ End n ∷ [])) (Err NoMake)
idle_list g s d n (f ∷ fs) ws cs = refused (inr (inl (λ h. h, refl)))
idle_list g s d n [] [] cs = refused (inr (inl (λ h. h, refl)))
idle_list g s d n [] (w ∷ ws) [] = refused (inr (inl (λ h. h, refl)))
idle_list g s d n [] (w ∷ ws) (c ∷ cs) = refused (inr (inl (λ h. h, refl)))

pub idle_finish : (g : Graph) (s : Setting) (d : Disk) (n : ℕ) (cs : List ℕ) → TakesInTurn g s (Idle d) (Idle d) (rest_of_run g s n cs) (Err NoMake)
idle_finish g s d n cs = idle_list g s d n (reads g s n) (writes g s n) cs

-- the disk of a world in lists
pub same_disk : (w : State) → model.disk_of (world_of w) ≡ disk_of w.disk
same_disk w = at w.make
  where
    at : (make : Option MakeState) → model.disk_of (world_in w.scene w.disk make) ≡ disk_of w.disk
    at None = refl
    at (Some m) = refl

-- a begin leaves the disk
pub begun_disk : (old mid : State) (n : ℕ) → world_of mid ≡ after old.scene.graph (setting old.scene) (world_of old) (Begin n) → disk_of mid.disk ≡ disk_of old.disk
begun_disk old mid n leaves = sym (same_disk mid) ∙ (ap model.disk_of leaves ∙ (at (world_of old) ∙ same_disk old))
  where
    at : (w : World) → model.disk_of (after old.scene.graph (setting old.scene) w (Begin n)) ≡ model.disk_of w
    at (Idle d) = refl
    at (Busy m d) = refl

-- a recipe begins, and is finished
pub whole_answers : (old mid new : State) (node : FileName) (r : Result (Unit {0}) StepFault) → Answers old mid (Begin (number_of old.scene.graph node)) (Ok tt) → AnswersInTurn mid new (finish_steps mid node) r → AnswersInTurn old new (run_steps old node) r
whole_answers old mid new node r begun finished =
    let g = old.scene.graph in
    let s = setting old.scene in
    let n = number_of g node in
    let here = subst (λ (k : Scene). AnswersInTurn mid new (rest_of_run k.graph (setting k) (number_of k.graph node) (contents_of k.graph (setting k) (disk_of mid.disk) (number_of k.graph node))) r) begun.scene finished in
    let rest = subst (λ (d : Disk). AnswersInTurn mid new (rest_of_run g s n (contents_of g s d n)) r) (begun_disk old mid n begun.judged.leaves) here in
    answers_next old mid new (Begin n) (rest_of_run g s n (contents_of g s (disk_of old.disk) n)) r begun rest

-- its begin is refused
pub whole_refused : (old mid : State) (node : FileName) (fault : StepFault) → Answers old mid (Begin (number_of old.scene.graph node)) (Err fault) → AnswersInTurn old mid (run_steps old node) (Err fault)
whole_refused old mid node fault refusal =
    let g = old.scene.graph in
    let s = setting old.scene in
    let n = number_of g node in
    answers_refused old mid (Begin n) (rest_of_run g s n (contents_of g s (disk_of old.disk) n)) fault refusal

-- the files of a disk in lists are those of the disk
entry_is : (d : DiskState) (f : FileName) → entry d f ≡ listed_at (disk_of d) f
entry_is d f = at (look d.names d.files f)
  where
    at : (o : Option File) → option_map (listed_as f) o ≡ option_map (λ (file : model.File). let x : Listed = record { name = f; content = file.content; stamp = file.stamp } in x) (option_map file_of o)
    at None = refl
    at (Some file) = refl

there_same : (at be : FileName → Option Listed) (names : List FileName) → ((f : FileName) → at f ≡ be f) → there_among at names ≡ there_among be names
there_same at be names same = ap (λ (p : FileName → Option Listed). there_among p names) (λ i f. same f i)

pub listing_text : (w : State) → flat_map file_text (listing w.disk) ≡ files_text w.disk.names (model.disk_of (world_of w))
listing_text w = ap (flat_map file_text) (there_same (entry w.disk) (listed_at (disk_of w.disk)) w.disk.names (entry_is w.disk)) ∙ ap (files_text w.disk.names) (sym (same_disk w))

-- one more line is printed
pub text_more : {A : Type 0} (F : A → List ℕ) (so_far piece whole : List ℕ) (items : List A) (i : ℕ) (d : A) → i < length items → piece ≡ F (get_or items i d) → so_far ++ flat_map F (drop i items) ≡ whole → (so_far ++ piece) ++ flat_map F (drop (i + 1) items) ≡ whole
text_more F so_far piece whole items i d lt is h =
    append_assoc so_far piece (flat_map F (drop (i + 1) items)) ∙ (ap (λ p. so_far ++ (p ++ flat_map F (drop (i + 1) items))) is ∙ (ap (λ l. so_far ++ flat_map F l) (sym (drop_more items i d lt)) ∙ h))

-- a fault is out of memory, or isn't
memory_or : (fault : StepFault) → (fault ≡ Memory) ⊎ (¬ (fault ≡ Memory))
memory_or Memory = inl refl
memory_or ClockSpent = inr (λ e. cc)
memory_or OtherOutcome = inr (λ e. cc)
memory_or NoMake = inr (λ e. cc)
memory_or MakeRuns = inr (λ e. cc)
memory_or NotReady = inr (λ e. cc)
memory_or NoJobFree = inr (λ e. cc)
memory_or OutOfDate = inr (λ e. cc)
memory_or NotRunning = inr (λ e. cc)
memory_or NotInFootprint = inr (λ e. cc)
memory_or NotAllDone = inr (λ e. cc)
memory_or PlanLine = inr (λ e. cc)
memory_or NotEditable = inr (λ e. cc)
memory_or NotAGoal = inr (λ e. cc)
memory_or NotLeftToRun = inr (λ e. cc)

line_follows : (old mid new : State) (order : PlanCommand) (r : Result (Unit {0}) StepFault) → is_known old.scene.graph old.disk.names order ≡ true → Prepares old mid order (Ok tt) → AnswersInTurn mid new (steps_of mid order) r → Follows (stage_of old) (world_of old) (world_of new) order r
line_follows old mid new order r known before own =
    let takes = subst (λ (d : Disk). TakesInTurn mid.scene.graph (setting mid.scene) (world_of mid) (world_of new) (own_steps mid.scene.graph (setting mid.scene) d order) r) (sym (same_disk mid)) own.takes in
    record {
      known = known;
      behind = world_of mid;
      passes = before.ok;
      takes = subst (λ (k : Scene). TakesInTurn k.graph (setting k) (world_of mid) (world_of new) (own_steps k.graph (setting k) (model.disk_of (world_of mid)) order) r) before.scene takes;
    }

-- passes of idle nodes lead somewhere
in_lead : (g : Graph) (s : Setting) (old new : World) → PassesSomeIn g old new → LeadsTo g s old new
in_lead g s (Idle d) new h = record { steps = []; legal = tt; leaves = h }
in_lead g s (Busy m d) new h = subst (λ (w : World). LeadsTo g s (Busy m d) w) (sym h.leaves) (passes_lead g s d m h.nodes h.end h.passes)

before_lead : (g : Graph) (s : Setting) (order : PlanCommand) (old new : World) → PassesSomeBefore g order old new → LeadsTo g s old new
before_lead g s (command.Make jobs goals) old new h = record { steps = []; legal = tt; leaves = h }
before_lead g s command.Stop old new h = record { steps = []; legal = tt; leaves = h }
before_lead g s (command.Begin t) old new h = in_lead g s old new h
before_lead g s (command.Look t f) old new h = record { steps = []; legal = tt; leaves = h }
before_lead g s (command.Put t f c) old new h = record { steps = []; legal = tt; leaves = h }
before_lead g s (command.Done t) old new h = record { steps = []; legal = tt; leaves = h }
before_lead g s (command.Break t removed) old new h = record { steps = []; legal = tt; leaves = h }
before_lead g s (command.Finish t) old new h = record { steps = []; legal = tt; leaves = h }
before_lead g s (command.Run t) old new h = in_lead g s old new h
before_lead g s (command.Pass t) old new h = in_lead g s old new h
before_lead g s command.End old new h = in_lead g s old new h
before_lead g s (command.Edit f c) old new h = record { steps = []; legal = tt; leaves = h }

-- a line that is followed
pub line_followed : (old mid new : State) (order : PlanCommand) (r : Result (Unit {0}) StepFault) → is_known old.scene.graph old.disk.names order ≡ true → Prepares old mid order (Ok tt) → AnswersInTurn mid new (steps_of mid order) r → AnswersLine old new order r
unfolding line_follows
line_followed old mid new order r known before own =
    let all = line_follows old mid new order r known before own in
    record {
      scene = own.scene ∙ before.scene;
      names = own.names ∙ before.names;
      ok = on_ok r all;
      err = on_err r all;
      leads = leads_on old.scene.graph (setting old.scene) (world_of old) (world_of mid) (world_of new) (before_lead old.scene.graph (setting old.scene) order (world_of old) (world_of mid) before.some) (turn_leads old.scene.graph (setting old.scene) (world_of mid) (world_of new) _ r all.takes);
    }
  where
    on_ok : (r : Result (Unit {0}) StepFault) → Follows (stage_of old) (world_of old) (world_of new) order r → OnOk r (Follows (stage_of old) (world_of old) (world_of new) order (Ok tt))
    on_ok (Ok done) h = h
    on_ok (Err fault) h = tt

    on_err : (r : Result (Unit {0}) StepFault) → Follows (stage_of old) (world_of old) (world_of new) order r → IfErr r (λ fault. ((fault ≡ Memory) × FollowsPartly (stage_of old) (world_of old) (world_of new) order) ⊎ IsRefusal (stage_of old) (world_of old) (world_of new) order fault)
    on_err (Ok done) h = tt
    on_err (Err fault) h = elim (memory_or fault) [
      | inl e ↦ inl (e, inr (subst (λ (f : StepFault). Follows (stage_of old) (world_of old) (world_of new) order (Err f)) e h))
      | inr not ↦ inr (inr (not, h))
    ]

-- a line whose idle nodes aren't all passed, since memory runs out
pub line_cut : (old new : State) (order : PlanCommand) (e : AllocError) (fault : StepFault) → is_known old.scene.graph old.disk.names order ≡ true → Prepares old new order (Err e) → fault ≡ Memory → AnswersLine old new order (Err fault)
line_cut old new order e fault known before memory = record {
  scene = before.scene;
  names = before.names;
  ok = tt;
  err = inl (memory, inl (known, before.some));
  leads = before_lead old.scene.graph (setting old.scene) order (world_of old) (world_of new) before.some;
}

same_stage : (first now : State) → now.scene ≡ first.scene → now.disk.names ≡ first.disk.names → stage_of now ≡ stage_of first
same_stage first now scene names = λ i. record { graph = (scene i).graph; setting = setting (scene i); names = names i }

-- steps that lead on from where lines led
pub leads_further : (first now new : State) → now.scene ≡ first.scene
    → LeadsTo first.scene.graph (setting first.scene) (world_of first) (world_of now)
    → LeadsTo now.scene.graph (setting now.scene) (world_of now) (world_of new)
    → LeadsTo first.scene.graph (setting first.scene) (world_of first) (world_of new)
leads_further first now new scene before on =
    leads_on first.scene.graph (setting first.scene) (world_of first) (world_of now) (world_of new) before (subst (λ (k : Scene). LeadsTo k.graph (setting k) (world_of now) (world_of new)) scene on)

-- A state has the stage of another one, and the run of some lines, without a refusal, leads from that one to it.
pub record LinesRun (first now : State) (front : List planned.PlanLine) (text : List ℕ) : Type 0 where
  pub scene : now.scene ≡ first.scene
  pub names : now.disk.names ≡ first.disk.names
  pub run : RunsTo (stage_of first) (world_of first) front text None (world_of now)

pub nothing_run : (first : State) (text : List ℕ) → text ≡ [] → LinesRun first first [] text
nothing_run first text none = record { scene = refl; names = refl; run = subst (λ (t : List ℕ). RunsTo (stage_of first) (world_of first) [] t None (world_of first)) (sym none) ends }

-- a line is followed
pub one_run : (first now new : State) (front : List planned.PlanLine) (line : planned.PlanLine) (text more : List ℕ)
    → LinesRun first now front text → new.scene ≡ now.scene → new.disk.names ≡ now.disk.names
    → Follows (stage_of now) (world_of now) (world_of new) line.order (Ok tt)
    → more ≡ text ++ printed new.disk.names line.order (world_of new)
    → LinesRun first new (front ++ line ∷ []) more
one_run first now new front line text more so_far scene names follow prints =
    let stage = stage_of first in
    let follows_there = subst (λ (k : Stage). Follows k (world_of now) (world_of new) line.order (Ok tt)) (same_stage first now so_far.scene so_far.names) follow in
    let piece = printed stage.names line.order (world_of new) in
    let joined : more ≡ text ++ (piece ++ []) = prints ∙ (ap (λ (ns : List FileName). text ++ printed ns line.order (world_of new)) (names ∙ so_far.names) ∙ ap (λ (t : List ℕ). text ++ t) (sym (append-nil piece))) in
    record {
      scene = scene ∙ so_far.scene;
      names = names ∙ so_far.names;
      run = (fronts_first stage (world_of first) (world_of now) front (line ∷ []) text so_far.run more None (world_of new)).1 (piece ++ [], follows follows_there ends, joined);
    }

-- a line is refused
pub one_refused : (first now new : State) (front rest : List planned.PlanLine) (line : planned.PlanLine) (text : List ℕ)
    (fault : StepFault) → LinesRun first now front text
    → IsRefusal (stage_of now) (world_of now) (world_of new) line.order fault
    → RunsTo (stage_of first) (world_of first) (front ++ line ∷ rest) text (Some (line.number, fault)) (world_of new)
one_refused first now new front rest line text fault so_far refusal =
    let stage = stage_of first in
    let refused_there = subst (λ (k : Stage). IsRefusal k (world_of now) (world_of new) line.order fault) (same_stage first now so_far.scene so_far.names) refusal in
    (fronts_first stage (world_of first) (world_of now) front (line ∷ rest) text so_far.run text (Some (line.number, fault)) (world_of new)).1 ([], refused refused_there, sym (append-nil text))

-- memory runs out after a line
pub cut_after : (first now : State) (front rest : List planned.PlanLine) (text : List ℕ) → LinesRun first now front text
    → RunsPartly (stage_of first) (world_of first) (world_of now) (front ++ rest)
cut_after first now front rest text so_far = record {
  front = front;
  rest = rest;
  are = refl;
  text = text;
  behind = world_of now;
  ran = so_far.run;
  stops = nothing rest;
}
  where
    nothing : (lines : List planned.PlanLine) → StopsIn (stage_of first) (world_of now) (world_of now) lines
    nothing [] = refl
    nothing (line ∷ lines) = inl refl

-- memory runs out within a line
pub cut_within : (first now new : State) (front rest : List planned.PlanLine) (line : planned.PlanLine) (text : List ℕ)
    → LinesRun first now front text → FollowsPartly (stage_of now) (world_of now) (world_of new) line.order
    → RunsPartly (stage_of first) (world_of first) (world_of new) (front ++ line ∷ rest)
cut_within first now new front rest line text so_far part = record {
  front = front;
  rest = line ∷ rest;
  are = refl;
  text = text;
  behind = world_of now;
  ran = so_far.run;
  stops = inr (subst (λ (k : Stage). FollowsPartly k (world_of now) (world_of new) line.order) (same_stage first now so_far.scene so_far.names) part);
}

-- the lines before one, that one, and the lines behind it
pub line_at : (lines : List planned.PlanLine) (i : ℕ) (line : planned.PlanLine) → i < length lines → line ≡ get_or lines i line → take i lines ++ line ∷ drop (i + 1) lines ≡ lines
line_at lines i line lt is =
    ap (λ l. take i lines ++ l ∷ drop (i + 1) lines) is ∙ (ap (λ l. take i lines ++ l) (sym (drop_more lines i line lt)) ∙ take-append-drop i lines)

-- the lines up to one
pub up_to : (lines : List planned.PlanLine) (i : ℕ) (line : planned.PlanLine) → i < length lines → line ≡ get_or lines i line → take i lines ++ line ∷ [] ≡ take (i + 1) lines
up_to lines i line lt is = ap (λ l. take i lines ++ l ∷ []) is ∙ sym (take_more lines i line lt)

-- of two cases the other
pub not_memory : {P Q R : Type 0} → ¬ P → (P × Q) ⊎ R → R
not_memory not (inl p) = absurd (not p.0)
not_memory not (inr q) = q

-- where memory runs out a part of the line is followed
pub part_of : (stage : Stage) (old new : World) (order : PlanCommand) (fault : StepFault) → fault ≡ Memory → ((fault ≡ Memory) × FollowsPartly stage old new order) ⊎ IsRefusal stage old new order fault → FollowsPartly stage old new order
part_of stage old new order fault e (inl p) = p.1
part_of stage old new order fault e (inr (inl m)) = let same : PlanLine ≡ Memory = sym m.is ∙ e in absurd cc
part_of stage old new order fault e (inr (inr f)) = absurd (f.0 e)

-- what holds in any case holds on an error
pub on_error : {T E P : Type 0} (r : Result T E) → P → OnErr r P
on_error (Ok x) p = tt
on_error (Err e) p = p
