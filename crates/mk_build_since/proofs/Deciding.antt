-- Which files a build has, which recipes every make runs, and whose files can't stay: each question has an answer.
use Rattle.std.proofs.Common.{◌≡◌, ℕ, ◌<◌, zero, suc, List, [], ◌∷◌, length, true, ◌⊎◌, inl, inr, ⊎_elim, refl, sym, ◌∙◌, subst, arith}
use Rattle.std.proofs.lemmas.Bool.{cases_Bool, cases_eq, true≢false}
use Rattle.mk_graph.specs.Membership.{Has}
use Rattle.mk_graph.specs.Graph.{Graph, node, prerequisites}
use Rattle.mk_graph.proofs.Nodes.{recipe_is_node}
use Rattle.mk_build.specs.Setting.{FileName, is_given, name, reads, writes, IsAlwaysMade}
use Rattle.mk_build.proofs.Changes.{cases_name}
use Rattle.mk_build.proofs.CleanEnd.{cases_among}
use Rattle.mk_build.proofs.Sound.{writer_has_recipe}
use Rattle.mk_build_since.specs.Named.{Build, IsWritten, HasFile, OwnsFile, WasRecipe, AreSameFiles, NewRecipe, OtherCommands, OtherWrites, OtherReads, ReadText, all_rules, CantStay}

-- it holds or it doesn't
abbrev pub Cases : Type 0 → Type 0
Cases A = A ⊎ (¬ A)

-- two lists of texts are equal or not
pub cases_texts : (xs ys : List FileName) → Cases (xs ≡ ys)
cases_texts [] [] = inl refl
cases_texts [] (y ∷ ys) = inr (λ same. absurd (cc))
cases_texts (x ∷ xs) [] = inr (λ same. absurd (cc))
cases_texts (x ∷ xs) (y ∷ ys) =
    ⊎_elim (λ here. ⊎_elim (λ there. inl (cc)) (λ differ. inr (λ same. differ (cc))) (cases_texts xs ys)) (λ differ. inr (λ same. differ (cc))) (cases_name x y)

-- some number below the bound has the property, or none has
pub first_below : (P : ℕ → Type 0) → ((n : ℕ) → Cases (P n)) → (bound : ℕ) → ((n : ℕ) × P n) ⊎ ((n : ℕ) → n < bound → ¬ (P n))
first_below P decide zero = inr (λ n low. absurd (omega arith))
first_below P decide (suc bound) =
    ⊎_elim (λ here. inl (bound, here))
    (λ not_here. ⊎_elim (λ found. inl found)
    (λ none. inr (λ n low has. ⊎_elim (λ same. not_here (subst P (sym same) has)) (λ differ. none n (omega arith) has) (cases_eq bound n)))
    (first_below P decide bound))
    (decide bound)

-- some member has the property, or none has
pub first_among : {A : Type 0} (P : A → Type 0) → ((x : A) → Cases (P x)) → (xs : List A) → ((x : A) × Has xs x × P x) ⊎ ((x : A) → Has xs x → ¬ (P x))
first_among P decide [] = inr (λ x among. absurd among)
first_among P decide (y ∷ xs) =
    ⊎_elim (λ here. inl (y, inl refl, here))
    (λ not_here. ⊎_elim (λ found. inl (found.0, inr found.1, found.2))
    (λ none. inr (λ x among has. ⊎_elim (λ same. not_here (subst P (sym same) has)) (λ there. none x there has) among))
    (first_among P decide xs))
    (decide y)

-- each file of one list is in the other, or not
cases_within : (xs ys : List FileName) → Cases ((f : FileName) → Has xs f → Has ys f)
cases_within xs ys =
    ⊎_elim (λ lacks. inr (λ within. lacks.2 (within lacks.0 lacks.1)))
    (λ none. inl (λ f among. ⊎_elim (λ has. has) (λ not. absurd (none f among not)) (cases_among ys f)))
    (first_among (λ f. ¬ (Has ys f)) (λ f. ⊎_elim (λ has. inr (λ not. not has)) (λ not. inl not) (cases_among ys f)) xs)

-- two lists have the same files or not
pub cases_same : (xs ys : List FileName) → Cases (AreSameFiles xs ys)
cases_same xs ys =
    ⊎_elim (λ there. ⊎_elim (λ back. inl (λ f. (there f, back f))) (λ not. inr (λ same. not (λ f. (same f).1))) (cases_within ys xs)) (λ not. inr (λ same. not (λ f. (same f).0))) (cases_within xs ys)

-- every make runs the node or not
pub cases_always : (g : Graph) (t : ℕ) → Cases (IsAlwaysMade g t)
cases_always g t =
    ⊎_elim (λ phony. inl (inl phony))
    (λ not_phony. ⊎_elim (λ found. inl (inr (found.0, found.1, found.2)))
    (λ none. inr (λ always. ⊎_elim (λ phony. true≢false (sym phony ∙ not_phony)) (λ need. none need.0 need.1 need.2) always))
    (first_among (λ p. (node g p).phony ≡ true) (λ p. ⊎_elim (λ phony. inl phony) (λ not. inr (λ phony. true≢false (sym phony ∙ not))) (cases_Bool (node g p).phony)) (prerequisites g t)))
    (cases_Bool (node g t).phony)

module _ (x : Build) where
  -- a recipe writes the file or none does
  pub cases_written : (f : FileName) → Cases (IsWritten x f)
  cases_written f =
      ⊎_elim (λ found. inl (found.0, found.1))
      (λ none. inr (λ wrote. none wrote.0 (recipe_is_node x.graph wrote.0 (writer_has_recipe x.graph x.setting wrote.0 f wrote.1)) wrote.1))
      (first_below (λ o. Has (writes x.graph x.setting o) f) (λ o. cases_among (writes x.graph x.setting o) f) (length x.graph.nodes))

  -- the build has the file or it doesn't
  pub cases_file_of : (f : FileName) → Cases (HasFile x f)
  cases_file_of f =
      ⊎_elim (λ given. inl (inl given))
      (λ not_given. ⊎_elim (λ wrote. inl (inr wrote)) (λ none. inr (λ has. ⊎_elim (λ given. true≢false (sym given ∙ not_given)) none has)) (cases_written f))
      (cases_Bool (is_given x.setting f))

  -- itself or not
  pub cases_owned : (f : FileName) → Cases (OwnsFile x f)
  cases_owned f =
      ⊎_elim (λ source. inl (inl source))
      (λ no_source. ⊎_elim (λ text. inl (inr (inl text)))
      (λ no_text. ⊎_elim (λ wrote. inl (inr (inr wrote))) (λ none. inr (λ owns. ⊎_elim no_source (λ rest. ⊎_elim no_text none rest) owns)) (cases_written f))
      (cases_among x.setting.texts f))
      (cases_among x.setting.sources f)

module _ (old new : Build) (t : ℕ) where
  -- The recipe was there with its commands, writes and reads, and none of these is a makefile text.
  pub record Stays : Type 0 where
    pub was : ℕ
    pub is : WasRecipe old new was t
    pub commands : old.commands (name old.graph was) ≡ new.commands (name new.graph t)
    pub files : AreSameFiles (writes old.graph old.setting was) (writes new.graph new.setting t)
    pub same_reads : AreSameFiles (reads old.graph old.setting was) (reads new.graph new.setting t)
    pub no_text : (f : FileName) → Has (reads old.graph old.setting was) f → ¬ (Has new.setting.texts f)

  -- the recipe with its target
  cases_was : (o : ℕ) → Cases (WasRecipe old new o t)
  cases_was o =
      ⊎_elim (λ recipe. ⊎_elim (λ same. inl (recipe, same)) (λ differ. inr (λ was. differ was.1)) (cases_name (name old.graph o) (name new.graph t)))
      (λ none. inr (λ was. true≢false (sym was.0 ∙ none)))
      (cases_Bool (node old.graph o).recipe)

  module _ (o : ℕ) (was : WasRecipe old new o t) where
    -- what it read stays or not
    read_cases : old.commands (name old.graph o) ≡ new.commands (name new.graph t) → AreSameFiles (writes old.graph old.setting o) (writes new.graph new.setting t) → Stays ⊎ CantStay all_rules old new t
    read_cases commands files =
        ⊎_elim (λ same. ⊎_elim (λ text. inr (ReadText, inr (inr (inr (inr (inl refl)))), (o, was, (text.0, text.1, text.2))))
        (λ no_text. inl (record { was = o; is = was; commands = commands; files = files; same_reads = same; no_text = no_text }))
        (first_among (λ f. Has new.setting.texts f) (λ f. cases_among new.setting.texts f) (reads old.graph old.setting o)))
        (λ differ. inr (OtherReads, inr (inr (inr (inl refl))), (o, was, differ)))
        (cases_same (reads old.graph old.setting o) (reads new.graph new.setting t))

    was_cases : Stays ⊎ CantStay all_rules old new t
    was_cases =
        ⊎_elim (λ commands. ⊎_elim (λ files. read_cases commands files) (λ differ. inr (OtherWrites, inr (inr (inl refl)), (o, was, differ))) (cases_same (writes old.graph old.setting o) (writes new.graph new.setting t)))
        (λ differ. inr (OtherCommands, inr (inl refl), (o, was, differ)))
        (cases_texts (old.commands (name old.graph o)) (new.commands (name new.graph t)))

  -- what it wrote stays or can't
  pub stay_cases : Stays ⊎ CantStay all_rules old new t
  stay_cases =
      ⊎_elim (λ found. was_cases found.0 found.1)
      (λ none. inr (NewRecipe, inl refl, λ o was. none o (recipe_is_node old.graph o was.0) was))
      (first_below (λ o. WasRecipe old new o t) cases_was (length old.graph.nodes))
