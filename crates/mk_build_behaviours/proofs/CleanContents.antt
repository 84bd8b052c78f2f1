-- The contents after a clean build in which each recipe reads only its footprint: they are as if each recipe had run on them.
use Rattle.std.proofs.Common.{◌≡◌, ℕ, List, [], ◌∷◌, ◌++◌, true, false, Option, Some, reverse, ⊎_elim, refl, sym, ◌∙◌, ap, subst}
use Rattle.std.specs.Option.{option_and_then}
use Rattle.std.proofs.lemmas.Bool.{cases_Bool, cond-true, cond-false, true≢false}
use mathlib.Core.List.{reverse-cons}
use Rattle.mk_graph.specs.Membership.{Has, IsWithin}
use Rattle.mk_graph.specs.Graph.{Graph, node, IsGraph}
use Rattle.mk_graph.specs.Schedules.{CanStart, IsSchedule, IsPart}
use Rattle.mk_graph.proofs.Turning.{turn_has_before}
use Rattle.mk_build.specs.Setting.{FileName, Setting, is_given, reads, writes}
use Rattle.mk_build.specs.Clean.{Contents, put_all}
use Rattle.mk_build.specs.Right.{AreSound, HaveNoRace}
use Rattle.mk_build.proofs.Sound.{writer_is_before}
use Rattle.mk_build.proofs.CleanEnd.{fold_push}
use Rattle.mk_build_behaviours.specs.Behaviours.{Behaviours, behaviour, path, result}
use Rattle.mk_build_behaviours.specs.CleanBy.{run_by, make_by, make_all_by, ReadWithin}
use Rattle.mk_build_behaviours.proofs.Paths.{same_walk}
use Rattle.mk_build_behaviours.proofs.Putting.{put_all_keeps}

-- The contents are clean for these nodes: given files are as given, and each recipe read within its footprint and wrote the result of the contents.
pub record IsClean (g : Graph) (s : Setting) (b : Behaviours) (given at : Contents) (ns : List ℕ) : Type 0 where
  pub as_given : (f : FileName) → is_given s f ≡ true → at f ≡ given f
  pub made : (t : ℕ) → Has ns t → (node g t).recipe ≡ true → (old : Contents) × (new : Contents) × (put_all old (writes g s t) (result (behaviour g b t) at) ≡ Some new) × ((f : FileName) → Has (writes g s t) f → at f ≡ new f)
  pub within : (t : ℕ) → Has ns t → (node g t).recipe ≡ true → IsWithin (path (behaviour g b t) at) (reads g s t)

module _ (g : Graph) (s : Setting) (b : Behaviours) where
  -- a build of two lists of nodes is one of the second after one of the first
  pub within_split : (at : Contents) (xs ys : List ℕ) → ReadWithin g s b at (xs ++ ys) → (mid : Contents) × (make_all_by g s b (Some at) xs ≡ Some mid) × ReadWithin g s b at xs × ReadWithin g s b mid ys
  within_split at [] ys within = (at, refl, tt, within)
  within_split at (x ∷ xs) ys (first, (next, made, rest)) =
      let later = within_split next xs ys rest in
      (later.0, ap (λ (o : Option Contents). make_all_by g s b o xs) made ∙ later.1, (first, (next, made, later.2)), later.3)

  -- the contents after one node more
  pub make_one_more : (base : Contents) (ns : List ℕ) (n : ℕ) (mid : Contents) → make_all_by g s b (Some base) (reverse ns) ≡ Some mid → make_all_by g s b (Some base) (reverse (n ∷ ns)) ≡ make_by g s b mid n
  make_one_more base ns n mid e =
      let push = fold_push (λ at k. option_and_then (λ (before : Contents). make_by g s b before k) at) (Some base) (reverse ns) n in
      ap (λ (l : List ℕ). make_all_by g s b (Some base) l) (reverse-cons n ns) ∙ (push ∙ ap (λ (o : Option Contents). option_and_then (λ (before : Contents). make_by g s b before n) o) e)

module _ (g : Graph) (s : Setting) (b : Behaviours) (graph : IsGraph g) (sound : AreSound g s) (no_race : HaveNoRace g s) (part : IsPart g.goals g.goals) (given : Contents) where
  module _ (n : ℕ) (ns : List ℕ) (may : CanStart g g.goals ns n) (turns : IsSchedule g g.goals ns) (mid next : Contents) (before : IsClean g s b given mid ns) where
    -- a node without a recipe changes nothing
    clean_without : (node g n).recipe ≡ false → mid ≡ next → IsClean g s b given next (n ∷ ns)
    clean_without none same =
        subst (λ (k : Contents). IsClean g s b given k (n ∷ ns)) same (record {
          as_given = before.as_given;
          made = λ t among recipe. ⊎_elim (λ here. absurd (true≢false (sym recipe ∙ subst (λ (k : ℕ). (node g k).recipe ≡ false) here none))) (λ there. before.made t there recipe) among;
          within = λ t among recipe. ⊎_elim (λ here. absurd (true≢false (sym recipe ∙ subst (λ (k : ℕ). (node g k).recipe ≡ false) here none))) (λ there. before.within t there recipe) among;
        })

    module _ (recipe : (node g n).recipe ≡ true) (inside : IsWithin (path (behaviour g b n) mid) (reads g s n)) (ran : put_all mid (writes g s n) (result (behaviour g b n) mid) ≡ Some next) where
      -- what the recipe doesn't write stays
      keeps : (f : FileName) → ¬ (Has (writes g s n) f) → next f ≡ mid f
      keeps f out = put_all_keeps (writes g s n) (result (behaviour g b n) mid) mid next ran f out

      -- it doesn't write what those before it read
      not_read : (t : ℕ) → Has ns t → (node g t).recipe ≡ true → (f : FileName) → Has (reads g s t) f → ¬ (Has (writes g s n) f)
      not_read t there t_recipe f read wrote = may.not_done (turn_has_before g g.goals part n t t_recipe (writer_is_before g s graph sound no_race t n f read wrote) ns turns there)

      -- nor what they write
      not_written : (t : ℕ) → Has ns t → (f : FileName) → Has (writes g s t) f → ¬ (Has (writes g s n) f)
      not_written t there f own wrote = may.not_done (subst (λ (k : ℕ). Has ns k) (sound.one_writer t n f own wrote) there)

      -- so each of them would run as before, and so would it
      same_old : (t : ℕ) → Has ns t → (node g t).recipe ≡ true → (path (behaviour g b t) mid ≡ path (behaviour g b t) next) × (result (behaviour g b t) mid ≡ result (behaviour g b t) next)
      same_old t there t_recipe = same_walk (behaviour g b t) mid next (λ f on_mid on_next. sym (keeps f (not_read t there t_recipe f (before.within t there t_recipe f on_mid))))

      same_new : (path (behaviour g b n) mid ≡ path (behaviour g b n) next) × (result (behaviour g b n) mid ≡ result (behaviour g b n) next)
      same_new = same_walk (behaviour g b n) mid next (λ f on_mid on_next. sym (keeps f (sound.not_own n f (inside f on_mid))))

      -- what it made
      made_new : (old : Contents) × (new : Contents) × (put_all old (writes g s n) (result (behaviour g b n) next) ≡ Some new) × ((f : FileName) → Has (writes g s n) f → next f ≡ new f)
      made_new = (mid, next, subst (λ (l : List ℕ). put_all mid (writes g s n) l ≡ Some next) same_new.1 ran, λ f wrote. refl)

      -- what another one made
      made_old : (t : ℕ) → Has ns t → (node g t).recipe ≡ true → (old : Contents) × (new : Contents) × (put_all old (writes g s t) (result (behaviour g b t) next) ≡ Some new) × ((f : FileName) → Has (writes g s t) f → next f ≡ new f)
      made_old t there t_recipe =
          let was = before.made t there t_recipe in
          (was.0, was.1, subst (λ (l : List ℕ). put_all was.0 (writes g s t) l ≡ Some was.1) (same_old t there t_recipe).1 was.2, λ f own. keeps f (not_written t there f own) ∙ was.3 f own)

      clean_with : IsClean g s b given next (n ∷ ns)
      clean_with = record {
        as_given = λ f is. keeps f (λ wrote. true≢false (sym is ∙ sound.not_given n f wrote)) ∙ before.as_given f is;
        made = λ t among t_recipe. ⊎_elim (λ here. subst (λ (k : ℕ). (old : Contents) × (new : Contents) × (put_all old (writes g s k) (result (behaviour g b k) next) ≡ Some new) × ((f : FileName) → Has (writes g s k) f → next f ≡ new f)) here made_new) (λ there. made_old t there t_recipe) among;
        within = λ t among t_recipe. ⊎_elim (λ here. subst (λ (k : ℕ). IsWithin (path (behaviour g b k) next) (reads g s k)) here (subst (λ (l : List FileName). IsWithin l (reads g s n)) same_new.0 inside)) (λ there. subst (λ (l : List FileName). IsWithin l (reads g s t)) (same_old t there t_recipe).0 (before.within t there t_recipe)) among;
      }

    -- the contents are clean after one node more
    clean_one_more : ((node g n).recipe ≡ true → IsWithin (path (behaviour g b n) mid) (reads g s n)) → make_by g s b mid n ≡ Some next → IsClean g s b given next (n ∷ ns)
    clean_one_more inside made =
        ⊎_elim (λ recipe. clean_with recipe (inside recipe) (sym (cond-true (node g n).recipe (run_by g s b mid n) (Some mid) recipe) ∙ made))
        (λ none. clean_without none (let both : Some mid ≡ Some next = sym (cond-false (node g n).recipe (run_by g s b mid n) (Some mid) none) ∙ made in cc))
        (cases_Bool (node g n).recipe)

  -- the contents after a schedule are clean
  pub clean_after : (ns : List ℕ) → IsSchedule g g.goals ns → ReadWithin g s b given (reverse ns) → (end : Contents) → make_all_by g s b (Some given) (reverse ns) ≡ Some end → IsClean g s b given end ns
  clean_after [] turns within end e =
      let same : given ≡ end = cc in
      subst (λ (k : Contents). IsClean g s b given k []) same (record { as_given = λ f is. refl; made = λ t among. absurd among; within = λ t among. absurd among })
  clean_after (n ∷ ns) turns within end e =
      let split = within_split g s b given (reverse ns) (n ∷ []) (subst (λ (l : List ℕ). ReadWithin g s b given l) (reverse-cons n ns) within) in
      let made : make_by g s b split.0 n ≡ Some end = sym (make_one_more g s b given ns n split.0 split.1) ∙ e in
      clean_one_more n ns turns.0 turns.1 split.0 end (clean_after ns turns.1 split.2 split.0 split.1) split.3.0 made
