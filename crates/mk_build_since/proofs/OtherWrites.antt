-- A recipe that writes another file with the same commands.
use Rattle.std.proofs.Common.{◌≡◌, ℕ, List, [], ◌∷◌, true, Some, None, ◌⊎◌, inl, inr, ⊎_elim, refl, sym, ◌∙◌, subst, arith}
use Rattle.std.proofs.lemmas.Bool.{false≢true}
use Rattle.std.proofs.lemmas.Slice.Eq.{bytes_eq-Decides}
use Rattle.mk_graph.specs.Membership.{Has}
use Rattle.mk_build.specs.Setting.{FileName, Setting, name, reads, writes}
use Rattle.mk_build.specs.World.{File, Disk, Making, Idle, changed, written, without}
use Rattle.mk_build.specs.Steps.{Step, Make, Begin, Put, End, Pass}
use Rattle.mk_build.specs.Clean.{Contents}
use Rattle.mk_build_behaviours.specs.Behaviours.{Behaviours, Write}
use Rattle.mk_build_behaviours.specs.StepsBy.{after_all_by}
use Rattle.mk_build_behaviours.proofs.Coherence.{start_is_coherent_by}
use Rattle.mk_build_behaviours.proofs.Traces.{sound_without_reads}
use Rattle.mk_build_since.specs.Named.{Build, HasFile, OwnsFile, AreSameFiles, Rule, NewRecipe, OtherCommands, OtherWrites, OtherReads, ReadText, HoldsOf, IsNamed}
use Rattle.mk_build_since.specs.Next.{IsAccepted, MayBecome, IsNext}
use Rattle.mk_build_since.specs.Needed.{FallShort}
use Rattle.mk_build_since.proofs.OneNode.{target, one, only_recipe, only_named, only_writes, only_reads, accepted, present, can_start, is_part, passes, not_built, making_in, in_two, not_none, empty, empty_start, empty_stamped, written_stamped, without_stamped}

-- its second file
abbrev was : FileName
was = 117 ∷ []

abbrev is : FileName
is = 118 ∷ []

abbrev with_second : FileName → Setting
with_second second = record { reads = λ f. []; writes = λ f. target ∷ second ∷ []; sources = []; texts = []; fixed = [] }

-- the recipe writes two files
abbrev two : Behaviours
two f = Write (0 ∷ 1 ∷ [])

abbrev writing : FileName → Build
writing second = record { graph = one true; setting = with_second second; commands = λ f. []; behaviours = two }

is_accepted : (second : FileName) → IsAccepted (writing second)
is_accepted second = accepted (with_second second) true (λ e. inl refl) (λ f wrote. refl) (λ f read. absurd read) (λ f read can. read) (λ f. []) two

-- the first make
abbrev run : List Step
run = Begin 0 ∷ Put 0 target 0 ∷ Put 0 was 1 ∷ End 0 ∷ []

abbrev before : Disk
before = written (written empty target 0) was 1

-- what is left over is removed
abbrev now : Disk
now = without before was

abbrev file : File
file = record { content = 0; stamp = 1 }

-- the make before the recipe ends
abbrev ending : Making
ending = making_in (after_all_by (one true) (with_second was) (Idle empty) (Make 1 (0 ∷ []) ∷ Begin 0 ∷ Put 0 target 0 ∷ Put 0 was 1 ∷ []))

has_put : (f : FileName) → Has (writes (one true) (with_second was) 0) f → ¬ (ending.put 0 f ≡ None)
has_put f wrote =
    ⊎_elim (λ same. subst (λ (k : FileName). ¬ (ending.put 0 k ≡ None)) same (not_none 0)) (λ same. subst (λ (k : FileName). ¬ (ending.put 0 k ≡ None)) same (not_none 1)) (in_two target was f wrote)

-- these names differ
target_was : ¬ (target ≡ was)
target_was e = false≢true ((bytes_eq-Decides target was).1 e)

is_was : ¬ (is ≡ was)
is_was e = false≢true ((bytes_eq-Decides is was).1 e)

-- the new build doesn't have the old file
lacks : ¬ (HasFile (writing is) was)
lacks has = ⊎_elim (λ given. false≢true given) (λ wrote. ⊎_elim target_was is_was (in_two target is was (only_writes (with_second is) true wrote.0 was wrote.1).2)) has

-- the other rules name nothing
abbrev rules : List Rule
rules = NewRecipe ∷ OtherCommands ∷ OtherReads ∷ ReadText ∷ []

none_holds : (rule : Rule) → Has rules rule → (t : ℕ) → t ≡ 0 → ¬ (HoldsOf rule (writing was) (writing is) t)
none_holds NewRecipe among t first none = none 0 (refl, subst (λ (k : ℕ). target ≡ name (one true) k) (sym first) refl)
none_holds OtherCommands among t first holds = holds.2 refl
none_holds OtherWrites among t first holds = ⊎_elim (λ e. absurd (cc)) (λ rest. ⊎_elim (λ e. absurd (cc)) (λ more. ⊎_elim (λ e. absurd (cc)) (λ last. ⊎_elim (λ e. absurd (cc)) (λ none. none) last) more) rest) among
none_holds OtherReads among t first holds = holds.2 (subst (λ (k : ℕ). AreSameFiles (reads (one true) (with_second was) k) (reads (one true) (with_second is) t)) (first ∙ sym (only_recipe true holds.0 holds.1.0).0) (λ f. (λ h. h, λ h. h)))
none_holds ReadText among t first holds = (only_reads (with_second was) true holds.0 holds.2.0 holds.2.1).2

-- so what is named is left over, and gone
named_is_gone : (f : FileName) → IsNamed rules (writing was) (writing is) f → now.files f ≡ None
named_is_gone f named =
    ⊎_elim (λ left. ⊎_elim (λ same. absurd (left.1 (inr (0, inl same)))) (λ same. subst (λ (k : FileName). now.files k ≡ None) same refl) (in_two target was f (only_writes (with_second was) true left.0.0 f left.0.1).2))
    (λ anew. absurd (none_holds anew.3.0 anew.3.1 anew.0 (only_writes (with_second is) true anew.0 f anew.1).0 anew.3.2))
    named.1

-- the old build has two files
others : (f : FileName) → HasFile (writing was) f → ¬ (IsNamed rules (writing was) (writing is) f) → MayBecome (writing was) (writing is) before now f
others f has out =
    ⊎_elim (λ given. absurd (false≢true given))
    (λ wrote. ⊎_elim (λ same. inl (subst (λ (k : FileName). now.files k ≡ before.files k) same refl))
    (λ same. absurd (out (subst (λ (k : FileName). IsNamed rules (writing was) (writing is) k) same (inr (inr (0, inr (inl refl))), inl ((0, inr (inl refl)), lacks)))))
    (in_two target was f (only_writes (with_second was) true wrote.0 f wrote.1).2))
    has

-- and the new one a file that isn't there
not_there : (f : FileName) → (target ≡ f) ⊎ (is ≡ f) → ¬ (OwnsFile (writing was) f) → now.files f ≡ None
not_there f (inl same) out = absurd (out (inr (inr (0, inl same))))
not_there f (inr same) out = subst (λ (k : FileName). now.files k ≡ None) same refl

next : IsNext rules (writing was) (writing is) before now
next = record {
  came = omega arith;
  stamped = without_stamped before was (written_stamped (written empty target 0) was 1 (written_stamped empty target 0 empty_stamped));
  removed = named_is_gone;
  others = others;
  lacking = λ t f wrote out. not_there f (in_two target is f (only_writes (with_second is) true t f wrote).2) out;
  coming = λ o t f same_recipe on not. absurd on;
}

-- the recipes write different files
not_same : (o t : ℕ) → (o ≡ 0) × (t ≡ 0) → ¬ (AreSameFiles (writes (one true) (with_second was) o) (writes (one true) (with_second is) t))
not_same o t are files =
    let same : AreSameFiles (target ∷ was ∷ []) (target ∷ is ∷ []) = subst (λ (k : ℕ). AreSameFiles (writes (one true) (with_second was) 0) (writes (one true) (with_second is) k)) are.1 (subst (λ (k : ℕ). AreSameFiles (writes (one true) (with_second was) k) (writes (one true) (with_second is) t)) are.0 files) in
    ⊎_elim target_was is_was (in_two target is was ((same was).0 (inr (inl refl))))

-- what the recipe writes in the clean builds
abbrev both : FileName → Contents
both second = changed (changed (λ f. None) target (Some 0)) second (Some 1)

-- a make of the new build passes the recipe
pub without_other_writes : FallShort IsAccepted rules
without_other_writes = record {
  old = writing was;
  new = writing is;
  alike = λ o t same_recipe. absurd (not_same o t (only_named true o t same_recipe.0.0 same_recipe.0.1) same_recipe.2);
  old_kind = is_accepted was;
  new_accepted = is_accepted is;
  first = empty;
  before = before;
  now = now;
  coherent = start_is_coherent_by (one true) (with_second was) two (sound_without_reads (one true) (with_second was) (is_accepted was).sound) empty (empty_start (with_second was));
  present = present true (with_second was) two empty (both was) refl (λ e f on. absurd on);
  finished = record {
    jobs = 1;
    steps = run;
    inside = (tt, (tt, (tt, (tt, tt))));
    legal = ((omega arith, is_part true), (((can_start true, λ h. h, λ h. h), refl, omega arith), ((inl refl, inl refl, omega arith), ((inl refl, inr (inl refl), omega arith), (record { runs = inl refl; seen = λ f on. absurd on; put = has_put; agrees = refl }, tt)))));
    making = making_in (after_all_by (one true) (with_second was) (Idle empty) (Make 1 (0 ∷ []) ∷ run));
    leaves = refl;
    ends = ((inl refl, tt), refl);
  };
  next = next;
  steps = Make 1 (0 ∷ []) ∷ Pass 0 ∷ [];
  legal = passes (with_second is) two now file refl;
  stay = (present true (with_second is) two now (both is) refl (λ e f on. absurd on), (tt, tt));
  wrong = λ right. not_built (with_second is) two now (both is) refl is 1 (inr (inl refl)) refl (λ e. absurd (cc)) (right ((inl refl, tt), refl));
}
