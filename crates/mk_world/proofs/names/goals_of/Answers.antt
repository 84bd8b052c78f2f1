use Rattle.std.proofs.Common.{◌≡◌, ℕ, List, [], ◌∷◌, length, map, refl, sym, ap, ◌∙◌, subst, inl, ⊎_elim}
use Rattle.std.proofs.lemmas.Bool.{false≢true, eq-eqb}
use Rattle.mk_graph.proofs.Parts.{HasAll-grows}
use Rattle.mk_graph.specs.Membership.{Has}
use Rattle.mk_graph.specs.Schedules.{HasAll}
use Rattle.mk_build.specs.Setting.{FileName}
use Rattle.mk_world.specs.State.{number_of}
use Rattle.mk_world.proofs.names.goals_of.Goals as goal

pub returns-then-not-has_all : goal.returns-then-not-has_all
returns-then-not-has_all c = λ part.
    let goals = c.goals.ensures.value ∙ ap (λ g. g.goals) c.graph.ensures in
    let numbers = c.deref.ensures.value ∙ c.in_ok-numbers.ensures in
    let within : (n : ℕ) → Has c.args.scene.now.graph.goals n → Has c.insert_all.new.self n = λ n h. (c.insert_all.ensures n).1 (inl (subst (λ (l : List ℕ). Has l n) (sym goals) h)) in
    false≢true (c.if-not-has_all.ensures.1 (subst (HasAll c.insert_all.new.self) (sym numbers) (HasAll-grows c.args.scene.now.graph.goals c.insert_all.new.self _ within part.within)))

-- where there are no numbers there are no names
no_names : {A : Type 0} (names : List A) (seen : A → FileName) (number : FileName → ℕ) → map number (map seen names) ≡ [] → length names ≡ 0
no_names [] seen number none = refl
no_names (x ∷ xs) seen number none = cc

pub returns : goal.returns
returns c =
    let goals = c.goals.ensures.value ∙ ap (λ g. g.goals) c.graph.ensures in
    let within : (n : ℕ) → Has c.insert_all.new.self n → Has c.args.scene.now.graph.goals n = λ n h. ⊎_elim (λ k. subst (λ (l : List ℕ). Has l n) goals k) (λ none. absurd (c.new-goals.ensures n none)) ((c.insert_all.ensures n).0 h) in (
      c.in_ok-numbers.ensures,
      record {
        not_empty = λ none. false≢true (c.if-is_empty.ensures ∙ eq-eqb (length c.args.names.now) 0 (no_names c.args.names.now (λ name. name.now) (number_of c.args.scene.now.graph) (sym c.in_ok-numbers.ensures ∙ none)));
        within = HasAll-grows c.insert_all.new.self c.args.scene.now.graph.goals _ within (subst (HasAll c.insert_all.new.self) c.deref.ensures.value (c.if-not-has_all.ensures.0 refl));
      },
    )
