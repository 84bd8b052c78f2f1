-- A recipe that reads a makefile text.
use Rattle.std.proofs.Common.{◌≡◌, ℕ, List, [], ◌∷◌, true, false, Some, None, inl, inr, ⊎_elim, refl, sym, ◌∙◌, ap, subst, arith}
use Rattle.std.specs.Prelude.{unwrap_or}
use Rattle.std.proofs.lemmas.Bool.{true≢false, false≢true}
use Rattle.mk_graph.specs.Membership.{Has}
use Rattle.mk_build.specs.Setting.{FileName, Setting, is_given, is_editable, name, reads, writes}
use Rattle.mk_build.specs.World.{File, Disk, Making, Idle, IsStartDisk, changed, written}
use Rattle.mk_build.specs.Steps.{Step, Make, Begin, Look, Put, End, Pass}
use Rattle.mk_build.specs.Clean.{given_contents}
use Rattle.mk_build.specs.Ways.{CanChange}
use Rattle.mk_build.proofs.Changes.{cases_name, changed_here, changed_there}
use Rattle.mk_build_behaviours.specs.Behaviours.{Behaviours, Read, Write}
use Rattle.mk_build_behaviours.specs.StepsBy.{after_all_by}
use Rattle.mk_build_behaviours.proofs.Coherence.{start_is_coherent_by}
use Rattle.mk_build_behaviours.proofs.Traces.{sound_without_reads}
use Rattle.mk_build_since.specs.Named.{Build, AreSameFiles, Rule, NewRecipe, OtherCommands, OtherWrites, OtherReads, ReadText, HoldsOf, IsNamed}
use Rattle.mk_build_since.specs.Alike.{both, ends}
use Rattle.mk_build_since.specs.Next.{IsAccepted, MayBecome, IsNext}
use Rattle.mk_build_since.specs.Needed.{FallShort}
use Rattle.mk_build_since.proofs.OneNode.{target, one, only_recipe, only_named, hold_at, only_writes, accepted, present, can_start, is_part, passes, not_built, making_in, in_one, not_none, empty, empty_stamped, written_stamped}

-- the makefile
abbrev makefile : FileName
makefile = 109 ∷ []

abbrev made : Setting
made = record { reads = λ f. makefile ∷ []; writes = λ f. target ∷ []; sources = []; texts = makefile ∷ []; fixed = [] }

-- the recipe copies it
abbrev copying : Behaviours
copying f = Read makefile (λ c. Write (unwrap_or c 0 ∷ []))

-- both builds
abbrev build : Build
build = record { graph = one true; setting = made; commands = λ f. []; behaviours = copying }

-- what it writes isn't given
not_given : (f : FileName) → target ≡ f → is_given made f ≡ false
not_given f same = subst (λ (k : FileName). is_given made k ≡ false) same refl

-- what it reads is
given : (f : FileName) → makefile ≡ f → is_given made f ≡ true
given f same = subst (λ (k : FileName). is_given made k ≡ true) same refl

-- and can't change
fixed : (f : FileName) → makefile ≡ f → ¬ (CanChange made f)
fixed f same can = ⊎_elim (λ editable. false≢true (subst (λ (k : FileName). is_editable made k ≡ true) (sym same) editable)) (λ not. true≢false (sym (given f same) ∙ not)) can

is_accepted : IsAccepted build
is_accepted = accepted made true (λ e. inl refl) (λ f wrote. not_given f (in_one target f wrote)) (λ f read. given f (in_one makefile f read)) (λ f read. fixed f (in_one makefile f read)) (λ f. []) copying

-- at first there is the makefile alone
abbrev first : Disk
first = written empty makefile 0

-- no other file is there
only_file : (f : FileName) (there : File) → first.files f ≡ Some there → (makefile ≡ f) × (record { content = 0; stamp = 1 } ≡ there)
only_file f there e =
    ⊎_elim (λ same. let both : Some (record { content = 0; stamp = 1 }) ≡ Some there = sym (changed_here (λ h. None) makefile f (Some (record { content = 0; stamp = 1 })) same) ∙ e in (same, cc))
    (λ differ. let both : None ≡ Some there = sym (changed_there (λ h. None) makefile f (Some (record { content = 0; stamp = 1 })) differ) ∙ e in absurd (cc))
    (cases_name makefile f)

start : IsStartDisk made first
start = record {
  nothing_known = refl;
  given = λ f there e. given f (only_file f there e).0;
  stamped = λ f there e. let same = ap (λ (x : File). x.stamp) (only_file f there e).1 in omega arith;
}

-- the first make
abbrev run : List Step
run = Begin 0 ∷ Look 0 makefile ∷ Put 0 target 0 ∷ End 0 ∷ []

abbrev before : Disk
before = written first target 0

-- then the makefile changes
abbrev now : Disk
now = written before makefile 1

abbrev file : File
file = record { content = 0; stamp = 2 }

-- the make before the recipe ends
abbrev ending : Making
ending = making_in (after_all_by (one true) made (Idle first) (Make 1 (0 ∷ []) ∷ Begin 0 ∷ Look 0 makefile ∷ Put 0 target 0 ∷ []))

has_put : (f : FileName) → Has (writes (one true) made 0) f → ¬ (ending.put 0 f ≡ None)
has_put f wrote = subst (λ (k : FileName). ¬ (ending.put 0 k ≡ None)) (in_one target f wrote) (not_none 0)

has_seen : (f : FileName) → makefile ≡ f → ¬ (ending.seen 0 f ≡ None)
has_seen f same = subst (λ (k : FileName). ¬ (ending.seen 0 k ≡ None)) same (λ e. absurd (cc))

-- the other rules name nothing
abbrev rules : List Rule
rules = NewRecipe ∷ OtherCommands ∷ OtherWrites ∷ OtherReads ∷ []

none_holds : (rule : Rule) → Has rules rule → (t : ℕ) → t ≡ 0 → ¬ (HoldsOf rule build build t)
none_holds NewRecipe among t is none = none 0 (refl, subst (λ (k : ℕ). target ≡ name (one true) k) (sym is) refl)
none_holds OtherCommands among t is holds = holds.2 refl
none_holds OtherWrites among t is holds = holds.2 (subst (λ (k : ℕ). AreSameFiles (writes (one true) made k) (writes (one true) made t)) (is ∙ sym (only_recipe true holds.0 holds.1.0).0) (λ f. (λ h. h, λ h. h)))
none_holds OtherReads among t is holds = holds.2 (subst (λ (k : ℕ). AreSameFiles (reads (one true) made k) (reads (one true) made t)) (is ∙ sym (only_recipe true holds.0 holds.1.0).0) (λ f. (λ h. h, λ h. h)))
none_holds ReadText among t is holds = ⊎_elim (λ e. absurd (cc)) (λ rest. ⊎_elim (λ e. absurd (cc)) (λ more. ⊎_elim (λ e. absurd (cc)) (λ last. ⊎_elim (λ e. absurd (cc)) (λ none. none) last) more) rest) among

unnamed : (f : FileName) → ¬ (IsNamed rules build build f)
unnamed f named =
    ⊎_elim (λ left. left.1 (inr left.0)) (λ anew. none_holds anew.3.0 anew.3.1 anew.0 (only_writes made true anew.0 f anew.1).0 anew.3.2) named.1

-- the makefile has changed alone
others : (f : FileName) → MayBecome build build before now f
others f = ⊎_elim (λ same. inr (inr (inl (inl same)))) (λ differ. inl (changed_there before.files makefile f (Some (record { content = 1; stamp = 3 })) differ)) (cases_name makefile f)

next : IsNext rules build build before now
next = record {
  came = omega arith;
  stamped = written_stamped before makefile 1 (written_stamped first target 0 (written_stamped empty makefile 0 empty_stamped));
  removed = λ f named. absurd (unnamed f named);
  others = λ f has out. others f;
  lacking = λ t f wrote not. absurd (not (inr (inr (t, wrote))));
  coming = λ o t f same_recipe on not. absurd (not (inl (given f (in_one makefile f on))));
}

-- a make passes the recipe
pub without_read_text : FallShort IsAccepted rules
without_read_text = record {
  old = build;
  new = build;
  alike = λ o t same_recipe. both (λ c. ends (hold_at made made o t (unwrap_or c 0 ∷ []) (unwrap_or c 0 ∷ []) (only_named true o t same_recipe.0.0 same_recipe.0.1) (λ at e. e)));
  old_kind = is_accepted;
  new_accepted = is_accepted;
  first = first;
  before = before;
  now = now;
  coherent = start_is_coherent_by (one true) made copying (sound_without_reads (one true) made is_accepted.sound) first start;
  present = present true made copying first (changed (given_contents made first) target (Some 0)) refl (λ e f on. on);
  finished = record {
    jobs = 1;
    steps = run;
    inside = (tt, (tt, (tt, (tt, tt))));
    legal = ((omega arith, is_part true), (((can_start true, λ h. h, λ h. h), refl, omega arith), (inl refl, ((inl refl, inl refl, omega arith), (record { runs = inl refl; seen = λ f on. has_seen f (in_one makefile f on); put = has_put; agrees = refl }, tt)))));
    making = making_in (after_all_by (one true) made (Idle first) (Make 1 (0 ∷ []) ∷ run));
    leaves = refl;
    ends = ((inl refl, tt), refl);
  };
  next = next;
  steps = Make 1 (0 ∷ []) ∷ Pass 0 ∷ [];
  legal = passes made copying now file refl;
  stay = (present true made copying now (changed (given_contents made now) target (Some 1)) refl (λ e f on. on), (tt, tt));
  wrong = λ right. not_built made copying now (changed (given_contents made now) target (Some 1)) refl target 1 (inl refl) refl (λ e. absurd (cc)) (right ((inl refl, tt), refl));
}
