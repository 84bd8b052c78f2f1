-- A recipe whose commands change.
use Rattle.std.proofs.Common.{◌≡◌, ℕ, List, [], ◌∷◌, true, Some, None, inl, inr, ⊎_elim, refl, sym, ◌∙◌, subst, arith}
use Rattle.mk_graph.specs.Membership.{Has}
use Rattle.mk_build.specs.Setting.{FileName, Setting, name, reads, writes}
use Rattle.mk_build.specs.World.{File, Disk, Making, Idle, changed, written}
use Rattle.mk_build.specs.Steps.{Step, Make, Begin, Put, End, Pass}
use Rattle.mk_build_behaviours.specs.Behaviours.{Behaviours, Write}
use Rattle.mk_build_behaviours.specs.StepsBy.{after_all_by}
use Rattle.mk_build_behaviours.proofs.Coherence.{start_is_coherent_by}
use Rattle.mk_build_behaviours.proofs.Traces.{sound_without_reads}
use Rattle.mk_build_since.specs.Named.{Commands, Build, AreSameFiles, Rule, NewRecipe, OtherCommands, OtherWrites, OtherReads, ReadText, HoldsOf, IsNamed}
use Rattle.mk_build_since.specs.Next.{IsAccepted, IsNext}
use Rattle.mk_build_since.specs.Needed.{FallShort}
use Rattle.mk_build_since.proofs.OneNode.{target, one, only_recipe, only_writes, only_reads, accepted, present, can_start, is_part, passes, not_built, making_in, in_one, not_none, empty, empty_start, empty_stamped, written_stamped}

abbrev made : Setting
made = record { reads = λ f. []; writes = λ f. target ∷ []; sources = []; texts = []; fixed = [] }

-- the recipe writes this
abbrev writing : ℕ → Behaviours
writing c f = Write (c ∷ [])

-- without commands it writes 0
abbrev old : Build
old = record { graph = one true; setting = made; commands = λ f. []; behaviours = writing 0 }

-- with one it writes 1
abbrev new : Build
new = record { graph = one true; setting = made; commands = λ f. [] ∷ []; behaviours = writing 1 }

is_accepted : (commands : FileName → Commands) (behaviours : Behaviours) → IsAccepted (record { graph = one true; setting = made; commands = commands; behaviours = behaviours })
is_accepted commands behaviours = accepted made true (λ e. inl refl) (λ f wrote. refl) (λ f read. absurd read) (λ f read can. read) commands behaviours

-- the first make
abbrev run : List Step
run = Begin 0 ∷ Put 0 target 0 ∷ End 0 ∷ []

abbrev before : Disk
before = written empty target 0

abbrev file : File
file = record { content = 0; stamp = 1 }

-- the make before the recipe ends
abbrev ending : Making
ending = making_in (after_all_by (one true) made (Idle empty) (Make 1 (0 ∷ []) ∷ Begin 0 ∷ Put 0 target 0 ∷ []))

has_put : (f : FileName) → Has (writes (one true) made 0) f → ¬ (ending.put 0 f ≡ None)
has_put f wrote = subst (λ (k : FileName). ¬ (ending.put 0 k ≡ None)) (in_one target f wrote) (not_none 0)

-- the other rules name nothing
abbrev rules : List Rule
rules = NewRecipe ∷ OtherWrites ∷ OtherReads ∷ ReadText ∷ []

none_holds : (rule : Rule) → Has rules rule → (t : ℕ) → t ≡ 0 → ¬ (HoldsOf rule old new t)
none_holds NewRecipe among t first none = none 0 (refl, subst (λ (k : ℕ). target ≡ name (one true) k) (sym first) refl)
none_holds OtherCommands among t first holds = ⊎_elim (λ e. absurd (cc)) (λ rest. ⊎_elim (λ e. absurd (cc)) (λ more. ⊎_elim (λ e. absurd (cc)) (λ last. ⊎_elim (λ e. absurd (cc)) (λ none. none) last) more) rest) among
none_holds OtherWrites among t first holds = holds.2 (subst (λ (k : ℕ). AreSameFiles (writes (one true) made k) (writes (one true) made t)) (first ∙ sym (only_recipe true holds.0 holds.1.0).0) (λ f. (λ h. h, λ h. h)))
none_holds OtherReads among t first holds = holds.2 (subst (λ (k : ℕ). AreSameFiles (reads (one true) made k) (reads (one true) made t)) (first ∙ sym (only_recipe true holds.0 holds.1.0).0) (λ f. (λ h. h, λ h. h)))
none_holds ReadText among t first holds = (only_reads made true holds.0 holds.2.0 holds.2.1).2

unnamed : (f : FileName) → ¬ (IsNamed rules old new f)
unnamed f named =
    ⊎_elim (λ left. left.1 (inr left.0)) (λ anew. none_holds anew.3.0 anew.3.1 anew.0 (only_writes made true anew.0 f anew.1).0 anew.3.2) named.1

next : IsNext rules old new before before
next = record {
  came = omega arith;
  stamped = written_stamped empty target 0 empty_stamped;
  removed = λ f named. absurd (unnamed f named);
  others = λ f has out. inl refl;
  lacking = λ t f wrote not. absurd (not (inr (inr (t, wrote))));
  coming = λ o t f same_recipe on not. absurd on;
}

-- a make of the new build passes the recipe
pub without_other_commands : FallShort IsAccepted rules
without_other_commands = record {
  old = old;
  new = new;
  alike = λ o t same_recipe. let same = same_recipe.1 in absurd (cc);
  old_kind = is_accepted old.commands old.behaviours;
  new_accepted = is_accepted new.commands new.behaviours;
  first = empty;
  before = before;
  now = before;
  coherent = start_is_coherent_by (one true) made old.behaviours (sound_without_reads (one true) made (is_accepted old.commands old.behaviours).sound) empty (empty_start made);
  present = present true made old.behaviours empty (changed (λ f. None) target (Some 0)) refl (λ e f on. absurd on);
  finished = record {
    jobs = 1;
    steps = run;
    inside = (tt, (tt, (tt, tt)));
    legal = ((omega arith, is_part true), (((can_start true, λ h. h, λ h. h), refl, omega arith), ((inl refl, inl refl, omega arith), (record { runs = inl refl; seen = λ f on. absurd on; put = has_put; agrees = refl }, tt))));
    making = making_in (after_all_by (one true) made (Idle empty) (Make 1 (0 ∷ []) ∷ run));
    leaves = refl;
    ends = ((inl refl, tt), refl);
  };
  next = next;
  steps = Make 1 (0 ∷ []) ∷ Pass 0 ∷ [];
  legal = passes made new.behaviours before file refl;
  stay = (present true made new.behaviours before (changed (λ f. None) target (Some 1)) refl (λ e f on. absurd on), (tt, tt));
  wrong = λ right. not_built made new.behaviours before (changed (λ f. None) target (Some 1)) refl target 1 (inl refl) refl (λ e. absurd (cc)) (right ((inl refl, tt), refl));
}
