-- A source of the old build that a recipe of the new build writes.
use Rattle.std.proofs.Common.{◌≡◌, ℕ, ◌≤◌, List, [], ◌∷◌, true, false, Option, Some, None, inl, ⊎_elim, refl, sym, ◌∙◌, ap, subst, arith}
use Rattle.std.proofs.lemmas.Bool.{false≢true}
use Rattle.mk_graph.specs.Membership.{Has}
use Rattle.mk_graph.specs.Graph.{node}
use Rattle.mk_build.specs.Setting.{FileName, Setting, is_given}
use Rattle.mk_build.specs.World.{File, Disk, Idle, IsStartDisk, HasStamp, changed}
use Rattle.mk_build.specs.Steps.{Make, Pass}
use Rattle.mk_build.specs.Clean.{given_contents}
use Rattle.mk_build.proofs.Changes.{cases_name, changed_here, changed_there}
use Rattle.mk_build.proofs.Histories.{stamped_file}
use Rattle.mk_build_behaviours.specs.Behaviours.{Behaviours, Write}
use Rattle.mk_build_behaviours.specs.StepsBy.{after_all_by}
use Rattle.mk_build_behaviours.proofs.Coherence.{start_is_coherent_by}
use Rattle.mk_build_behaviours.proofs.Traces.{sound_without_reads}
use Rattle.mk_build_since.specs.Named.{Build, Rule, NewRecipe, OtherCommands, OtherWrites, OtherReads, ReadText, HoldsOf, IsNamed}
use Rattle.mk_build_since.specs.Next.{IsAccepted, IsNext}
use Rattle.mk_build_since.specs.Needed.{FallShort}
use Rattle.mk_build_since.proofs.OneNode.{target, one, only_recipe, only_writes, accepted, present, can_start, is_part, passes, not_built, making_in, in_one}

-- the file is a source
abbrev source : Setting
source = record { reads = λ f. []; writes = λ f. []; sources = target ∷ []; texts = []; fixed = [] }

-- or made
abbrev made : Setting
made = record { reads = λ f. []; writes = λ f. target ∷ []; sources = []; texts = []; fixed = [] }

-- the recipe writes 1
abbrev writing : Behaviours
writing f = Write (1 ∷ [])

abbrev old : Build
old = record { graph = one false; setting = source; commands = λ f. []; behaviours = writing }

abbrev new : Build
new = record { graph = one true; setting = made; commands = λ f. []; behaviours = writing }

-- it contains 0
abbrev file : File
file = record { content = 0; stamp = 1 }

abbrev disk : Disk
disk = record { files = changed (λ f. None) target (Some file); clock = 1; known = [] }

-- no other one is there
only_file : (f : FileName) (there : File) → disk.files f ≡ Some there → (target ≡ f) × (file ≡ there)
only_file f there e =
    ⊎_elim (λ same. let both : Some file ≡ Some there = sym (changed_here (λ h. None) target f (Some file) same) ∙ e in (same, cc))
    (λ differ. let both : None ≡ Some there = sym (changed_there (λ h. None) target f (Some file) differ) ∙ e in absurd (cc))
    (cases_name target f)

start : IsStartDisk source disk
start = record {
  nothing_known = refl;
  given = λ f there e. subst (λ (k : FileName). is_given source k ≡ true) (only_file f there e).0 refl;
  stamped = λ f there e. let same = ap (λ (x : File). x.stamp) (only_file f there e).1 in omega arith;
}

stamped : (f : FileName) (stamp : ℕ) → HasStamp disk f stamp → stamp ≤ disk.clock
stamped f stamp has = let is = stamped_file disk f stamp has in let same = ap (λ (x : File). x.stamp) (only_file f is.0 is.1).1 in let value = is.2 in omega arith

-- the old build has no recipe
no_recipe : (o : ℕ) → ¬ ((node old.graph o).recipe ≡ true)
no_recipe o recipe = false≢true (only_recipe false o recipe).1

-- the other rules name nothing
abbrev rules : List Rule
rules = OtherCommands ∷ OtherWrites ∷ OtherReads ∷ ReadText ∷ []

none_holds : (rule : Rule) → Has rules rule → (t : ℕ) → ¬ (HoldsOf rule old new t)
none_holds NewRecipe among t holds = ⊎_elim (λ e. absurd (cc)) (λ rest. ⊎_elim (λ e. absurd (cc)) (λ more. ⊎_elim (λ e. absurd (cc)) (λ last. ⊎_elim (λ e. absurd (cc)) (λ none. none) last) more) rest) among
none_holds OtherCommands among t holds = no_recipe holds.0 holds.1.0
none_holds OtherWrites among t holds = no_recipe holds.0 holds.1.0
none_holds OtherReads among t holds = no_recipe holds.0 holds.1.0
none_holds ReadText among t holds = no_recipe holds.0 holds.1.0

unnamed : (f : FileName) → ¬ (IsNamed rules old new f)
unnamed f named =
    ⊎_elim (λ left. false≢true (only_writes source false left.0.0 f left.0.1).1) (λ anew. none_holds anew.3.0 anew.3.1 anew.0 anew.3.2) named.1

next : IsNext rules old new disk disk
next = record {
  came = omega arith;
  stamped = stamped;
  removed = λ f named. absurd (unnamed f named);
  others = λ f has out. inl refl;
  lacking = λ t f wrote not. let same : target ≡ f = in_one target f (only_writes made true t f wrote).2 in absurd (not (inl (inl same)));
  coming = λ o t f same_recipe on not. absurd on;
}

-- the clean contents
abbrev end : FileName → Option ℕ
end = changed (λ f. None) target (Some 1)

-- a make of the new build passes the recipe
pub without_new_recipe : FallShort IsAccepted rules
without_new_recipe = record {
  old = old;
  new = new;
  alike = λ o t same_recipe. absurd (no_recipe o same_recipe.0.0);
  old_kind = accepted source false (λ e. absurd (false≢true e)) (λ f wrote. absurd wrote) (λ f read. absurd read) (λ f read can. read) (λ f. []) writing;
  new_accepted = accepted made true (λ e. inl refl) (λ f wrote. refl) (λ f read. absurd read) (λ f read can. read) (λ f. []) writing;
  first = disk;
  before = disk;
  now = disk;
  coherent = start_is_coherent_by old.graph source writing (sound_without_reads old.graph source (accepted source false (λ e. absurd (false≢true e)) (λ f wrote. absurd wrote) (λ f read. absurd read) (λ f read can. read) (λ f. []) writing).sound) disk start;
  present = present false source writing disk (λ f. given_contents source disk f) refl (λ e. absurd (false≢true e));
  finished = record {
    jobs = 1;
    steps = Pass 0 ∷ [];
    inside = (tt, tt);
    legal = ((omega arith, is_part false), (((can_start false, λ h. h, λ h. h), inl refl), tt));
    making = making_in (after_all_by old.graph source (Idle disk) (Make 1 (0 ∷ []) ∷ Pass 0 ∷ []));
    leaves = refl;
    ends = ((inl refl, tt), refl);
  };
  next = next;
  steps = Make 1 (0 ∷ []) ∷ Pass 0 ∷ [];
  legal = passes made writing disk file refl;
  stay = (present true made writing disk end refl (λ e f on. absurd on), (tt, tt));
  wrong = λ right. not_built made writing disk end refl target 1 (inl refl) refl (λ e. absurd (cc)) (right ((inl refl, tt), refl));
}
