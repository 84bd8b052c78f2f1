-- What a finished make of the old build left is coherent for the new build.
use Rattle.std.proofs.Common.{◌≡◌, ℕ, true, false, Option, None, ◌⊎◌, inl, inr, ⊎_elim, sym, ◌∙◌, ap, subst, arith}
use Rattle.std.specs.Option.{option_map}
use Rattle.std.proofs.lemmas.Bool.{cases_Bool, or_right, true≢false}
use Rattle.mk_lines.specs.Names.{has_name, begins_with_any}
use Rattle.mk_lines.proofs.NameTests.{has_name-from_Has}
use Rattle.mk_graph.specs.Membership.{Has}
use Rattle.mk_graph.specs.Graph.{node, IsGraph}
use Rattle.mk_graph.proofs.Nodes.{recipe_is_node}
use Rattle.mk_build.specs.Setting.{FileName, Setting, is_given, name, reads, writes, IsAlwaysMade}
use Rattle.mk_build.specs.World.{File, Disk, content, HasStamp}
use Rattle.mk_build.specs.Right.{AreSound}
use Rattle.mk_build.specs.Coherent.{LastRun, IsBoundToRun, ContainsOrChanged}
use Rattle.mk_build.proofs.Sound.{editable_is_given}
use Rattle.mk_build.proofs.Writing.{map_same}
use Rattle.mk_build.proofs.ChainWays.{one_number}
use Rattle.mk_build_behaviours.specs.Behaviours.{behaviour, path, result}
use Rattle.mk_build_behaviours.specs.CleanBy.{ArePresent}
use Rattle.mk_build_behaviours.specs.CoherentBy.{IsAsLeftBy, IsCoherentBy}
use Rattle.mk_build_behaviours.specs.Trusting.{Trust, IsCoherentTrusting}
use Rattle.mk_build_behaviours.proofs.TrustedTraces.{coherent_is_trusting, all_may}
use Rattle.mk_build_since.specs.Named.{Build, IsWritten, HasFile, WasRecipe, AreSameFiles, Rule, NewRecipe, OtherCommands, OtherWrites, OtherReads, ReadText, all_rules, HoldsOf, CantStayTrusting, IsNamed, IsNamedTrusting}
use Rattle.mk_build_since.specs.Alike.{HoldAlike, BehaveAlike}
use Rattle.mk_build_since.specs.Next.{IsAccepted, IsAcceptedTrusting, IsFinished, MayBecome, IsNext, IsNextTrusting}
use Rattle.mk_build_since.proofs.Deciding.{cases_always, cases_owned, Stays, stay_cases}
use Rattle.mk_build_since.proofs.Walking.{alike_walk}
use Rattle.mk_build_since.proofs.Made.{IsMade, finished_is_made}

-- a makefile text is given
text_is_given : (s : Setting) (f : FileName) → Has s.texts f → is_given s f ≡ true
text_is_given s f among = or_right (has_name s.sources f) _ (or_right (begins_with_any s.fixed f) (has_name s.texts f) (has_name-from_Has s.texts f among))

module _ (old new : Build) (trusted : Trust) (alike : BehaveAlike old new) (accepted : IsAcceptedTrusting old trusted) (graph : IsGraph new.graph) (sound : AreSound new.graph new.setting) (before now : Disk) (made : IsMade old.graph old.setting old.behaviours trusted before) (next : IsNextTrusting trusted old new before now) where
  -- no given file is written
  not_both : (x : Build) → AreSound x.graph x.setting → (t : ℕ) (f : FileName) → Has (writes x.graph x.setting t) f → ¬ (is_given x.setting f ≡ true)
  not_both x is t f wrote given = true≢false (sym given ∙ is.not_given t f wrote)

  -- a recipe that isn't always made writes its target
  writes_target : (t : ℕ) → (node new.graph t).recipe ≡ true → ¬ (IsAlwaysMade new.graph t) → Has (writes new.graph new.setting t) (name new.graph t)
  writes_target t recipe sometimes = ⊎_elim (λ phony. absurd (sometimes (inl phony))) (λ not_phony. sound.target t recipe not_phony) (cases_Bool (node new.graph t).phony)

  -- a file of a recipe that isn't always made and can't stay isn't there
  anew_is_gone : (t : ℕ) (f : FileName) → Has (writes new.graph new.setting t) f → ¬ (IsAlwaysMade new.graph t) → CantStayTrusting trusted old new t → now.files f ≡ None
  anew_is_gone t f wrote sometimes anew =
      ⊎_elim (λ has. next.removed f (has, inr (t, wrote, sometimes, anew))) (λ not. next.lacking t f wrote not) (cases_owned old f)

  -- a trusted recipe stays, or what it wrote can't
  abbrev Remains : ℕ → Type 0
  Remains t = (trusted (name new.graph t) ≡ true) × Stays old new t

  remain_cases : (t : ℕ) → Remains t ⊎ CantStayTrusting trusted old new t
  remain_cases t =
      ⊎_elim (λ is. ⊎_elim (λ stays. inl (is, stays)) (λ anew. inr (inl anew)) (stay_cases old new t)) (λ other. inr (inr other)) (cases_Bool (trusted (name new.graph t)))

  module _ (t : ℕ) (sometimes : ¬ (IsAlwaysMade new.graph t)) (remains : Remains t) where
    abbrev stays : Stays old new t
    stays = remains.1

    -- two recipes of the old build with the target are one
    same_recipe : (o : ℕ) → WasRecipe old new o t → o ≡ stays.was
    same_recipe o was =
        one_number old.graph accepted.graph.sound (name new.graph t) o stays.was (recipe_is_node old.graph o was.0, was.1) (recipe_is_node old.graph stays.was stays.is.0, stays.is.1)

    -- what stays can stay
    no_rule : (rule : Rule) → ¬ (HoldsOf rule old new t)
    no_rule NewRecipe none = none stays.was stays.is
    no_rule OtherCommands other = other.2 (subst (λ (k : ℕ). old.commands (name old.graph k) ≡ new.commands (name new.graph t)) (sym (same_recipe other.0 other.1)) stays.commands)
    no_rule OtherWrites other = other.2 (subst (λ (k : ℕ). AreSameFiles (writes old.graph old.setting k) (writes new.graph new.setting t)) (sym (same_recipe other.0 other.1)) stays.files)
    no_rule OtherReads other = other.2 (subst (λ (k : ℕ). AreSameFiles (reads old.graph old.setting k) (reads new.graph new.setting t)) (sym (same_recipe other.0 other.1)) stays.same_reads)
    no_rule ReadText text = stays.no_text text.2.0 (subst (λ (k : ℕ). Has (reads old.graph old.setting k) text.2.0) (same_recipe text.0 text.1) text.2.1) text.2.2

    can_stay : ¬ (CantStayTrusting trusted old new t)
    can_stay cant = ⊎_elim (λ anew. no_rule anew.0 anew.2) (λ other. true≢false (sym remains.0 ∙ other)) cant

    -- so its files aren't named
    not_named : (f : FileName) → Has (writes new.graph new.setting t) f → ¬ (IsNamedTrusting trusted old new f)
    not_named f wrote named =
        ⊎_elim (λ left. left.1 (inr (t, wrote)))
        (λ anew. can_stay (subst (λ (k : ℕ). CantStayTrusting trusted old new k) (sound.one_writer anew.0 t f anew.1 wrote) anew.3))
        named.1

  -- what a given file may become
  from_given : (f : FileName) → is_given new.setting f ≡ true → ¬ (Has new.setting.texts f) → MayBecome old new before now f → ContainsOrChanged new.graph new.setting now f (content before f) before.clock
  from_given f given no_text become =
      ⊎_elim (λ same. inl (ap (λ (o : Option File). option_map (λ (file : File). file.content) o) same))
      (λ rest. ⊎_elim (λ edited. inr (inl (inl edited.0, edited.1)))
      (λ more. ⊎_elim (λ text. absurd (no_text text))
      (λ dropped. absurd (true≢false (sym given ∙ dropped.1)))
      more) rest)
      become

  -- what a written one may
  from_written : (f : FileName) → IsWritten new f → is_given new.setting f ≡ false → ¬ (Has new.setting.texts f) → MayBecome old new before now f → ContainsOrChanged new.graph new.setting now f (content before f) before.clock
  from_written f wrote not_given no_text become =
      ⊎_elim (λ same. inl (ap (λ (o : Option File). option_map (λ (file : File). file.content) o) same))
      (λ rest. ⊎_elim (λ edited. inr (inl (inl edited.0, edited.1)))
      (λ more. ⊎_elim (λ text. absurd (no_text text))
      (λ dropped. ⊎_elim (λ none. inr (inr (none, wrote))) (λ later. inr (inl (inr not_given, later))) dropped.2)
      more) rest)
      become

  -- no given file is named
  given_is_not_named : (f : FileName) → is_given new.setting f ≡ true → ¬ (IsNamedTrusting trusted old new f)
  given_is_not_named f given named = ⊎_elim (λ left. left.1 (inl given)) (λ anew. not_both new sound anew.0 f anew.1 given) named.1

  -- what a recipe writes and another one has read is named and gone, or not named
  written_cases : (f : FileName) → HasFile old f → (o : ℕ) → Has (writes new.graph new.setting o) f → (now.files f ≡ None) ⊎ (¬ (IsNamedTrusting trusted old new f))
  written_cases f has o wrote =
      ⊎_elim (λ always. inr (λ named. ⊎_elim (λ left. left.1 (inr (o, wrote))) (λ anew. anew.2 (subst (λ (k : ℕ). IsAlwaysMade new.graph k) (sound.one_writer o anew.0 f wrote anew.1) always)) named.1))
      (λ not_always. ⊎_elim (λ others. inr (not_named o not_always others f wrote)) (λ anew. inl (anew_is_gone o f wrote not_always anew)) (remain_cases o))
      (cases_always new.graph o)

  module _ (t : ℕ) (sometimes : ¬ (IsAlwaysMade new.graph t)) (remains : Remains t) where
    abbrev stayed : Stays old new t
    stayed = remains.1

    -- the old recipe is trusted
    is_trusted : trusted (name old.graph stayed.was) ≡ true
    is_trusted = ap trusted stayed.is.1 ∙ remains.0

    -- it wrote them
    was_written : (f : FileName) → Has (writes new.graph new.setting t) f → Has (writes old.graph old.setting stayed.was) f
    was_written f wrote = (stayed.files f).1 wrote

    -- and they are as they were
    as_before : (f : FileName) → Has (writes new.graph new.setting t) f → now.files f ≡ before.files f
    as_before f wrote =
        ⊎_elim (λ same. same)
        (λ rest. ⊎_elim (λ edited. absurd (not_both new sound t f wrote (editable_is_given new.setting f edited.0)))
        (λ more. ⊎_elim (λ text. absurd (not_both new sound t f wrote (text_is_given new.setting f text)))
        (λ dropped. absurd (not_both old accepted.sound stayed.was f (was_written f wrote) dropped.0))
        more) rest)
        (next.others f (inr (stayed.was, was_written f wrote)) (not_named t sometimes remains f wrote))

    -- the new build has what the old recipe read
    known : (f : FileName) → Has (reads old.graph old.setting stayed.was) f → HasFile new f
    known f read = ⊎_elim (λ given. inl given) (λ wrote. inr wrote) (sound.known t f ((stayed.same_reads f).0 read))

    -- the old build has what the old recipe read
    was_there : (f : FileName) → Has (reads old.graph old.setting stayed.was) f → HasFile old f
    was_there f read = ⊎_elim (λ given. inl given) (λ wrote. inr wrote) (accepted.sound.known stayed.was f read)

    -- what it read is there or has changed since
    saw : (f : FileName) → Has (reads old.graph old.setting stayed.was) f → ContainsOrChanged new.graph new.setting now f (content before f) before.clock
    saw f read =
        let no_text = stayed.no_text f read in
        let has = was_there f read in
        ⊎_elim (λ given. from_given f given no_text (next.others f has (given_is_not_named f given)))
        (λ wrote. ⊎_elim (λ none. inr (inr (none, wrote)))
        (λ unnamed. from_written f wrote (sound.not_given wrote.0 f wrote.1) no_text (next.others f has unnamed))
        (written_cases f has wrote.0 wrote.1))
        (known f read)

    -- it walks as the old one did
    walked : HoldAlike (writes old.graph old.setting stayed.was) (result (behaviour old.graph old.behaviours stayed.was) (content before)) (writes new.graph new.setting t) (result (behaviour new.graph new.behaviours t) (content before)) × ((f : FileName) → Has (path (behaviour new.graph new.behaviours t) (content before)) f → Has (path (behaviour old.graph old.behaviours stayed.was) (content before)) f ⊎ (¬ (HasFile old f)))
    walked = alike_walk old new (writes old.graph old.setting stayed.was) (writes new.graph new.setting t) (alike stayed.was t (stayed.is, stayed.commands, stayed.files, stayed.same_reads)) (content before)
        (λ f on. known f (made.within stayed.was stayed.is.0 is_trusted f on))
        (λ f on not. ap (λ (o : Option File). option_map (λ (file : File). file.content) o) (next.coming stayed.was t f (stayed.is, stayed.commands, stayed.files, stayed.same_reads) on not).0)

    -- what it looked for in vain isn't there or came since
    in_vain : (f : FileName) → Has (path (behaviour new.graph new.behaviours t) (content before)) f → ¬ (HasFile old f) → ContainsOrChanged new.graph new.setting now f (content before f) before.clock
    in_vain f on not =
        let comes = next.coming stayed.was t f (stayed.is, stayed.commands, stayed.files, stayed.same_reads) on not in
        ⊎_elim (λ none. inl (ap (λ (o : Option File). option_map (λ (file : File). file.content) o) (none ∙ sym comes.0))) (λ new_source. inr (inl (inl new_source.0, new_source.1))) comes.1

    -- so it is as its last run left it
    abbrev run : LastRun
    run = record { began = 0; ended = before.clock; saw = content before }

    is_as_left : IsAsLeftBy new.graph new.setting new.behaviours run now t
    is_as_left = record {
      holds = map_same (content now) (content before) (writes new.graph new.setting t) (λ f wrote. ap (λ (o : Option File). option_map (λ (file : File). file.content) o) (as_before f wrote))
          ∙ walked.0 (content before) (made.holds stayed.was stayed.is.0 is_trusted);
      during = λ f stamp wrote has.
          let was : HasStamp before f stamp = ap (λ (o : Option File). option_map (λ (file : File). file.stamp) o) (sym (as_before f wrote)) ∙ has in
          (made.late stayed.was f stamp (was_written f wrote) was, made.stamped f stamp was);
      saw = λ f on. ⊎_elim (λ on_old. saw f (made.within stayed.was stayed.is.0 is_trusted f on_old)) (λ not. in_vain f on not) (walked.1 f on);
    }

  -- a recipe is bound to run or as it was left
  left : (t : ℕ) → (node new.graph t).recipe ≡ true → IsBoundToRun new.graph new.setting now t ⊎ IsAsLeftBy new.graph new.setting new.behaviours (record { began = 0; ended = before.clock; saw = content before }) now t
  left t recipe =
      ⊎_elim (λ always. inl (inl (inl always)))
      (λ sometimes. ⊎_elim (λ remains. inr (is_as_left t sometimes remains))
      (λ anew. inl (inl (inr (inl (anew_is_gone t (name new.graph t) (writes_target t recipe sometimes) sometimes anew)))))
      (remain_cases t))
      (cases_always new.graph t)

  -- the disk is coherent for the new build
  pub carried : IsCoherentBy new.graph new.setting new.behaviours now
  carried = record {
    last = λ t. record { began = 0; ended = before.clock; saw = content before };
    stamped = next.stamped;
    came = λ t. let later = next.came in (omega arith, omega arith);
    left = λ t recipe stopped. left t recipe;
    apart = λ o t is_before. inl (omega arith);
  }

-- after a finished make of a build that is accepted as far as recipes are trusted the disk is
pub next_is_coherent_trusting : (old new : Build) (trusted : Trust) → BehaveAlike old new → IsAcceptedTrusting old trusted → IsGraph new.graph → AreSound new.graph new.setting → (first before now : Disk) → IsCoherentTrusting old.graph old.setting old.behaviours trusted first → ArePresent old.graph old.setting old.behaviours first → IsFinished old first before → IsNextTrusting trusted old new before now → IsCoherentBy new.graph new.setting new.behaviours now
next_is_coherent_trusting old new trusted alike accepted graph sound first before now coherent present finished next =
    carried old new trusted alike accepted graph sound before now (finished_is_made old trusted accepted first before coherent present finished) next

-- all recipes of an accepted build may be trusted
pub all_trusted : (x : Build) → IsAccepted x → IsAcceptedTrusting x (λ target. true)
all_trusted x accepted = record { graph = accepted.graph; sound = accepted.sound; may = all_may x.graph x.setting accepted.no_race accepted.ways }

-- and then the rules name all
pub rules_name : (old new : Build) (f : FileName) → IsNamedTrusting (λ target. true) old new f → IsNamed all_rules old new f
rules_name old new f named =
    (named.0, ⊎_elim (λ left. inl left) (λ anew. inr (anew.0, anew.1, anew.2, ⊎_elim (λ rule. rule) (λ other. absurd (true≢false other)) anew.3)) named.1)

pub named_too : (old new : Build) (f : FileName) → IsNamed all_rules old new f → IsNamedTrusting (λ target. true) old new f
named_too old new f named = (named.0, ⊎_elim (λ left. inl left) (λ anew. inr (anew.0, anew.1, anew.2, inl anew.3)) named.1)

next_too : (old new : Build) (before now : Disk) → IsNext all_rules old new before now → IsNextTrusting (λ target. true) old new before now
next_too old new before now next = record {
  came = next.came;
  stamped = next.stamped;
  removed = λ f named. next.removed f (rules_name old new f named);
  others = λ f has unnamed. next.others f has (λ named. unnamed (named_too old new f named));
  lacking = next.lacking;
  coming = next.coming;
}

-- so after a finished make of an accepted build the disk is
pub next_is_coherent : (old new : Build) → BehaveAlike old new → IsAccepted old → IsGraph new.graph → AreSound new.graph new.setting → (first before now : Disk) → IsCoherentBy old.graph old.setting old.behaviours first → ArePresent old.graph old.setting old.behaviours first → IsFinished old first before → IsNext all_rules old new before now → IsCoherentBy new.graph new.setting new.behaviours now
next_is_coherent old new alike accepted graph sound first before now coherent present finished next =
    next_is_coherent_trusting old new (λ target. true) alike (all_trusted old accepted) graph sound first before now (coherent_is_trusting old.graph old.setting old.behaviours (λ target. true) first coherent) present finished (next_too old new before now next)
