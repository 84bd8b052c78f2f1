-- Where only prerequisites differ, each recipe stays.
use Rattle.std.proofs.Common.{◌≡◌, ℕ, List, [], true, inr, ⊎_elim, sym, ◌∙◌, ap, subst}
use Rattle.std.proofs.lemmas.Bool.{cond-true}
use Rattle.mk_graph.specs.Membership.{Has}
use Rattle.mk_graph.specs.Graph.{node}
use Rattle.mk_build.specs.Setting.{FileName, Setting, name, reads, writes}
use Rattle.mk_build.proofs.Sound.{writer_has_recipe}
use Rattle.mk_build_since.specs.Named.{Build, HasFile, AreSameFiles, Rule, NewRecipe, OtherCommands, OtherWrites, OtherReads, ReadText, all_rules, HoldsOf, IsNamed}
use Rattle.mk_build_since.specs.SinceLaws.{HasItsRecipesIn}

module _ (old new : Build) (setting : new.setting ≡ old.setting)
    (commands : (target : FileName) → new.commands target ≡ old.commands target)
    (there : HasItsRecipesIn old.graph new.graph) (back : HasItsRecipesIn new.graph old.graph)
    (no_text : (o : ℕ) (f : FileName) → Has (reads old.graph old.setting o) f → ¬ (Has new.setting.texts f)) where
  -- recipes of one target write the same
  same_writes : (o t : ℕ) → (node old.graph o).recipe ≡ true → (node new.graph t).recipe ≡ true → name old.graph o ≡ name new.graph t → writes old.graph old.setting o ≡ writes new.graph new.setting t
  same_writes o t was is same =
      cond-true (node old.graph o).recipe (old.setting.writes (name old.graph o)) [] was
      ∙ (ap (λ (f : FileName). old.setting.writes f) same
      ∙ (ap (λ (s : Setting). s.writes (name new.graph t)) (sym setting)
      ∙ sym (cond-true (node new.graph t).recipe (new.setting.writes (name new.graph t)) [] is)))

  -- and read the same
  same_reads : (o t : ℕ) → (node old.graph o).recipe ≡ true → (node new.graph t).recipe ≡ true → name old.graph o ≡ name new.graph t → reads old.graph old.setting o ≡ reads new.graph new.setting t
  same_reads o t was is same =
      cond-true (node old.graph o).recipe (old.setting.reads (name old.graph o)) [] was
      ∙ (ap (λ (f : FileName). old.setting.reads f) same
      ∙ (ap (λ (s : Setting). s.reads (name new.graph t)) (sym setting)
      ∙ sym (cond-true (node new.graph t).recipe (new.setting.reads (name new.graph t)) [] is)))

  -- what was written is written
  still_written : (f : FileName) (o : ℕ) → Has (writes old.graph old.setting o) f → HasFile new f
  still_written f o wrote =
      let was = writer_has_recipe old.graph old.setting o f wrote in
      let now = there o was in
      inr (now.0, subst (λ (l : List FileName). Has l f) (same_writes o now.0 was now.1 now.2) wrote)

  -- no rule holds of a recipe
  none_holds : (t : ℕ) → (node new.graph t).recipe ≡ true → (rule : Rule) → ¬ (HoldsOf rule old new t)
  none_holds t recipe NewRecipe none = let was = back t recipe in none was.0 (was.1, sym was.2)
  none_holds t recipe OtherCommands other = other.2 (ap (λ (f : FileName). old.commands f) other.1.1 ∙ sym (commands (name new.graph t)))
  none_holds t recipe OtherWrites other = other.2 (subst (λ (l : List FileName). AreSameFiles (writes old.graph old.setting other.0) l) (same_writes other.0 t other.1.0 recipe other.1.1) (λ f. (λ h. h, λ h. h)))
  none_holds t recipe OtherReads other = other.2 (subst (λ (l : List FileName). AreSameFiles (reads old.graph old.setting other.0) l) (same_reads other.0 t other.1.0 recipe other.1.1) (λ f. (λ h. h, λ h. h)))
  none_holds t recipe ReadText text = no_text text.0 text.2.0 text.2.1 text.2.2

  -- so nothing is named
  pub nothing_named : (f : FileName) → ¬ (IsNamed all_rules old new f)
  nothing_named f named =
      ⊎_elim (λ left. left.1 (still_written f left.0.0 left.0.1))
      (λ anew. none_holds anew.0 (writer_has_recipe new.graph new.setting anew.0 f anew.1) anew.3.0 anew.3.2)
      named.1
