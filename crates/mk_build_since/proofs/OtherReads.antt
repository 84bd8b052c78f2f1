-- A recipe that reads other files: one that it read is gone.
use Rattle.std.proofs.Common.{◌≡◌, ℕ, List, [], ◌∷◌, true, false, Option, Some, None, inl, inr, ⊎_elim, refl, sym, ◌∙◌, ap, subst, arith}
use Rattle.std.proofs.lemmas.Bool.{true≢false, false≢true}
use Rattle.std.proofs.lemmas.Slice.Eq.{bytes_eq-Decides}
use Rattle.mk_graph.specs.Membership.{Has}
use Rattle.mk_build.specs.Setting.{FileName, Setting, is_given, is_editable, name, writes}
use Rattle.mk_build.specs.World.{File, Disk, Making, Idle, IsStartDisk, changed, written, without}
use Rattle.mk_build.specs.Steps.{Step, Make, Begin, Look, Put, End, Pass}
use Rattle.mk_build.specs.Clean.{given_contents}
use Rattle.mk_build.specs.Ways.{CanChange}
use Rattle.mk_build.proofs.Changes.{cases_name, changed_here, changed_there}
use Rattle.mk_build.proofs.Removing.{gone_here, stays_there}
use Rattle.mk_build_behaviours.specs.Behaviours.{Behaviours, Read, Write}
use Rattle.mk_build_behaviours.specs.StepsBy.{after_all_by}
use Rattle.mk_build_behaviours.proofs.Coherence.{start_is_coherent_by}
use Rattle.mk_build_behaviours.proofs.Traces.{sound_without_reads}
use Rattle.mk_build_since.specs.Named.{Build, HasFile, AreSameFiles, Rule, NewRecipe, OtherCommands, OtherWrites, OtherReads, ReadText, HoldsOf, IsNamed}
use Rattle.mk_build_since.specs.Alike.{gone, ends}
use Rattle.mk_build_since.specs.Next.{IsAccepted, MayBecome, IsNext}
use Rattle.mk_build_since.specs.Needed.{FallShort}
use Rattle.mk_build_since.proofs.OneNode.{target, one, only_recipe, only_named, hold_at, only_writes, accepted, present, can_start, is_part, passes, not_built, making_in, in_one, not_none, empty, empty_stamped, written_stamped, without_stamped}

-- a header
abbrev header : FileName
header = 104 ∷ []

-- which is given
abbrev with_header : Setting
with_header = record { reads = λ f. header ∷ []; writes = λ f. target ∷ []; sources = []; texts = []; fixed = header ∷ [] }

-- or unknown
abbrev without_header : Setting
without_header = record { reads = λ f. []; writes = λ f. target ∷ []; sources = []; texts = []; fixed = [] }

-- the recipe tells whether it is there
abbrev tells : Option ℕ → ℕ
tells None = 0
tells (Some c) = 1

abbrev looking : Behaviours
looking f = Read header (λ c. Write (tells c ∷ []))

abbrev not_looking : Behaviours
not_looking f = Write (0 ∷ [])

abbrev old : Build
old = record { graph = one true; setting = with_header; commands = λ f. []; behaviours = looking }

abbrev new : Build
new = record { graph = one true; setting = without_header; commands = λ f. []; behaviours = not_looking }

-- the names differ
target_header : ¬ (target ≡ header)
target_header e = false≢true ((bytes_eq-Decides target header).1 e)

-- the new build doesn't have the header
lacks : ¬ (HasFile new header)
lacks has = ⊎_elim (λ is. false≢true is) (λ wrote. target_header (in_one target header (only_writes without_header true wrote.0 header wrote.1).2)) has

-- what it writes isn't given
not_given : (f : FileName) → target ≡ f → is_given with_header f ≡ false
not_given f same = subst (λ (k : FileName). is_given with_header k ≡ false) same refl

-- what it reads is
given : (f : FileName) → header ≡ f → is_given with_header f ≡ true
given f same = subst (λ (k : FileName). is_given with_header k ≡ true) same refl

-- and can't change
fixed : (f : FileName) → header ≡ f → ¬ (CanChange with_header f)
fixed f same can = ⊎_elim (λ editable. false≢true (subst (λ (k : FileName). is_editable with_header k ≡ true) (sym same) editable)) (λ not. true≢false (sym (given f same) ∙ not)) can

old_accepted : IsAccepted old
old_accepted = accepted with_header true (λ e. inl refl) (λ f wrote. not_given f (in_one target f wrote)) (λ f read. given f (in_one header f read)) (λ f read. fixed f (in_one header f read)) (λ f. []) looking

new_accepted : IsAccepted new
new_accepted = accepted without_header true (λ e. inl refl) (λ f wrote. refl) (λ f read. absurd read) (λ f read can. read) (λ f. []) not_looking

-- at first there is the header
abbrev first : Disk
first = written empty header 0

-- no other file is there
only_file : (f : FileName) (there : File) → first.files f ≡ Some there → (header ≡ f) × (record { content = 0; stamp = 1 } ≡ there)
only_file f there e =
    ⊎_elim (λ same. let both : Some (record { content = 0; stamp = 1 }) ≡ Some there = sym (changed_here (λ h. None) header f (Some (record { content = 0; stamp = 1 })) same) ∙ e in (same, cc))
    (λ differ. let both : None ≡ Some there = sym (changed_there (λ h. None) header f (Some (record { content = 0; stamp = 1 })) differ) ∙ e in absurd (cc))
    (cases_name header f)

start : IsStartDisk with_header first
start = record {
  nothing_known = refl;
  given = λ f there e. given f (only_file f there e).0;
  stamped = λ f there e. let same = ap (λ (x : File). x.stamp) (only_file f there e).1 in omega arith;
}

-- the first make
abbrev run : List Step
run = Begin 0 ∷ Look 0 header ∷ Put 0 target 1 ∷ End 0 ∷ []

abbrev before : Disk
before = written first target 1

-- then the header is deleted
abbrev now : Disk
now = without before header

abbrev file : File
file = record { content = 1; stamp = 2 }

-- the make before the recipe ends
abbrev ending : Making
ending = making_in (after_all_by (one true) with_header (Idle first) (Make 1 (0 ∷ []) ∷ Begin 0 ∷ Look 0 header ∷ Put 0 target 1 ∷ []))

has_put : (f : FileName) → Has (writes (one true) with_header 0) f → ¬ (ending.put 0 f ≡ None)
has_put f wrote = subst (λ (k : FileName). ¬ (ending.put 0 k ≡ None)) (in_one target f wrote) (not_none 1)

has_seen : (f : FileName) → header ≡ f → ¬ (ending.seen 0 f ≡ None)
has_seen f same = subst (λ (k : FileName). ¬ (ending.seen 0 k ≡ None)) same (λ e. absurd (cc))

-- the other rules name nothing
abbrev rules : List Rule
rules = NewRecipe ∷ OtherCommands ∷ OtherWrites ∷ ReadText ∷ []

none_holds : (rule : Rule) → Has rules rule → (t : ℕ) → t ≡ 0 → ¬ (HoldsOf rule old new t)
none_holds NewRecipe among t is none = none 0 (refl, subst (λ (k : ℕ). target ≡ name (one true) k) (sym is) refl)
none_holds OtherCommands among t is holds = holds.2 refl
none_holds OtherWrites among t is holds = holds.2 (subst (λ (k : ℕ). AreSameFiles (writes (one true) with_header k) (writes (one true) without_header t)) (is ∙ sym (only_recipe true holds.0 holds.1.0).0) (λ f. (λ h. h, λ h. h)))
none_holds ReadText among t is holds = holds.2.2
none_holds OtherReads among t is holds = ⊎_elim (λ e. absurd (cc)) (λ rest. ⊎_elim (λ e. absurd (cc)) (λ more. ⊎_elim (λ e. absurd (cc)) (λ last. ⊎_elim (λ e. absurd (cc)) (λ none. none) last) more) rest) among

unnamed : (f : FileName) → ¬ (IsNamed rules old new f)
unnamed f named =
    ⊎_elim (λ left. left.1 (inr left.0)) (λ anew. none_holds anew.3.0 anew.3.1 anew.0 (only_writes without_header true anew.0 f anew.1).0 anew.3.2) named.1

-- the header is gone alone
others : (f : FileName) → MayBecome old new before now f
others f = ⊎_elim (λ same. inr (inr (inr (given f same, subst (λ (k : FileName). is_given without_header k ≡ false) same refl, inl (gone_here before header f same))))) (λ differ. inl (stays_there before header f differ)) (cases_name header f)

next : IsNext rules old new before now
next = record {
  came = omega arith;
  stamped = without_stamped before header (written_stamped first target 1 (written_stamped empty header 0 empty_stamped));
  removed = λ f named. absurd (unnamed f named);
  others = λ f has out. others f;
  lacking = λ t f wrote not. absurd (not (inr (inr (t, wrote))));
  coming = λ o t f same_recipe on not. absurd on;
}

-- a make of the new build passes the recipe
pub without_other_reads : FallShort IsAccepted rules
without_other_reads = record {
  old = old;
  new = new;
  alike = λ o t same_recipe. gone lacks (ends (hold_at with_header without_header o t (0 ∷ []) (0 ∷ []) (only_named true o t same_recipe.0.0 same_recipe.0.1) (λ at e. e)));
  old_kind = old_accepted;
  new_accepted = new_accepted;
  first = first;
  before = before;
  now = now;
  coherent = start_is_coherent_by (one true) with_header looking (sound_without_reads (one true) with_header old_accepted.sound) first start;
  present = present true with_header looking first (changed (given_contents with_header first) target (Some 1)) refl (λ e f on. on);
  finished = record {
    jobs = 1;
    steps = run;
    inside = (tt, (tt, (tt, (tt, tt))));
    legal = ((omega arith, is_part true), (((can_start true, λ h. h, λ h. h), refl, omega arith), (inl refl, ((inl refl, inl refl, omega arith), (record { runs = inl refl; seen = λ f on. has_seen f (in_one header f on); put = has_put; agrees = refl }, tt)))));
    making = making_in (after_all_by (one true) with_header (Idle first) (Make 1 (0 ∷ []) ∷ run));
    leaves = refl;
    ends = ((inl refl, tt), refl);
  };
  next = next;
  steps = Make 1 (0 ∷ []) ∷ Pass 0 ∷ [];
  legal = passes without_header not_looking now file refl;
  stay = (present true without_header not_looking now (changed (λ f. None) target (Some 0)) refl (λ e f on. on), (tt, tt));
  wrong = λ right. not_built without_header not_looking now (changed (λ f. None) target (Some 0)) refl target 0 (inl refl) refl (λ e. absurd (cc)) (right ((inl refl, tt), refl));
}
