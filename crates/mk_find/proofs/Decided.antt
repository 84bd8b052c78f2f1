-- What is tested of nodes decides what is found.
use Rattle.std.proofs.Common.{◌≡◌, ℕ, List, [], ◌∷◌, map, true, false, cond, Option, None, Some, Ok, refl, sym, ap, subst, ◌∙◌, ⊎_elim}
use Rattle.std.specs.Prelude.{not, option_to_list, is_some, is_none, bytes_eq}
use Rattle.std.proofs.lemmas.Bool.{true≢false, cases_Bool, and_from, and_parts, not-true}
use Rattle.std.proofs.lemmas.Slice.Eq.{bytes_eq-Decides}
use Rattle.mk_lines.proofs.NameTests.{Has-from_has_name, has_name-from_Has}
use Rattle.mk_lines.specs.Names.{has_name}
use Rattle.mk_graph.specs.Membership.{Has}
use Rattle.mk_graph.specs.declared.node.Node.{Node}
use Rattle.mk_foot.specs.Book.{Record}
use Rattle.mk_infer.specs.Commands.{Commands}
use Rattle.mk_subject.specs.Subject.{Subject, name_of, writes_of}
use Rattle.mk_find.specs.Conditions.{HasNoRecord, HasOtherCommands, HasVaryingCommands, LacksItsTarget, ChoosesOtherwise}
use Rattle.mk_find.specs.Candidates.{selection, choice_with_writes}
use Rattle.mk_find.specs.Listed.{Adds}
use Rattle.mk_find.specs.declared.finding.Finding.{Finding}
use Rattle.mk_subject.specs.NodeRow.{NodeRow, IsRow, has_others, is_unwritten, lines_eq, writes_in}
use Rattle.mk_find.specs.Tests.{lacks_record, has_varying, has_other_commands}
use Rattle.mk_subject.proofs.Entries.{same_writes}
use Rattle.mk_subject.proofs.Decided.{lines_same}

is_none_none : {A : Type 0} (o : Option A) → is_none o ≡ true → o ≡ None
is_none_none None e = refl
is_none_none (Some a) e = absurd (let f : false ≡ true = e in cc)

-- no record
pub record_lacking : (x : Subject) (e : NodeRow) → IsRow x e → lacks_record e ≡ true → HasNoRecord x e.number
record_lacking x e is t =
    let both = and_parts e.node.recipe (is_none e.recorded) t in
    (sym (ap (λ (n : Node). n.recipe) is.same_node) ∙ both.0, sym is.same_record ∙ is_none_none e.recorded both.1)

pub record_there : (x : Subject) (e : NodeRow) → IsRow x e → lacks_record e ≡ false → ¬ (HasNoRecord x e.number)
record_there x e is f (recipe, none) =
    true≢false (sym (and_from e.node.recipe (is_none e.recorded) (ap (λ (n : Node). n.recipe) is.same_node ∙ recipe) (ap (λ (o : Option Record). is_none o) (is.same_record ∙ none))) ∙ f)

-- varying commands
pub varying_commands_there : (x : Subject) (e : NodeRow) → IsRow x e → has_varying e ≡ true → HasVaryingCommands x e.number
varying_commands_there x e is t =
    let both = and_parts e.node.recipe e.commands.varying t in
    (sym (ap (λ (n : Node). n.recipe) is.same_node) ∙ both.0, e.commands, is.same_commands, both.1)

pub no_varying_commands : (x : Subject) (e : NodeRow) → IsRow x e → has_varying e ≡ false → ¬ (HasVaryingCommands x e.number)
no_varying_commands x e is f (recipe, c, told, varying) =
    let same : Ok c ≡ Ok e.commands = sym told ∙ is.same_commands in
    let k : c ≡ e.commands = cc in
    true≢false (sym (and_from e.node.recipe e.commands.varying (ap (λ (n : Node). n.recipe) is.same_node ∙ recipe) (ap (λ (d : Commands). d.varying) (sym k) ∙ varying)) ∙ f)

some_is : {A : Type 0} (o : Option A) → is_some o ≡ true → (a : A) × (o ≡ Some a)
some_is None e = absurd (let f : false ≡ true = e in cc)
some_is (Some a) e = (a, refl)

-- what the record of a recipe says is written is what the recipe writes
recorded_writes : (x : Subject) (e : NodeRow) → IsRow x e → e.node.recipe ≡ true → writes_in e.recorded ≡ writes_of x e.number
recorded_writes x e is recipe = sym (ap (λ b. cond b (writes_in e.recorded) []) recipe) ∙ same_writes x e is

-- no target
pub target_lacking : (x : Subject) (e : NodeRow) → IsRow x e → e.unwritten ≡ true → LacksItsTarget x e.number
target_lacking x e is told =
    let t : is_unwritten e.node e.recorded ≡ true = sym is.same_unwritten ∙ told in
    let recipe = and_parts e.node.recipe _ t in
    let recorded = and_parts (is_some e.recorded) _ recipe.1 in
    let phony = and_parts (not e.node.phony) _ recorded.1 in
    let record_is = some_is e.recorded recorded.0 in
    let out : has_name (writes_in e.recorded) e.node.name ≡ false = not-true _ phony.1 in (
      sym (ap (λ (n : Node). n.recipe) is.same_node) ∙ recipe.0,
      (record_is.0, sym is.same_record ∙ record_is.1),
      sym (ap (λ (n : Node). n.phony) is.same_node) ∙ not-true e.node.phony phony.0,
      λ h. true≢false (sym (has_name-from_Has (writes_in e.recorded) e.node.name (subst (λ (n : Node). Has (writes_in e.recorded) n.name) (sym is.same_node) (subst (λ (fs : List (List ℕ)). Has fs (name_of x e.number)) (sym (recorded_writes x e is recipe.0)) h))) ∙ out),
    )

pub target_there : (x : Subject) (e : NodeRow) → IsRow x e → e.unwritten ≡ false → ¬ (LacksItsTarget x e.number)
target_there x e is told (recipe, (r, recorded), phony, out) =
    let f : is_unwritten e.node e.recorded ≡ false = sym is.same_unwritten ∙ told in
    let own : e.node.recipe ≡ true = ap (λ (n : Node). n.recipe) is.same_node ∙ recipe in
    let unwritten : has_name (writes_in e.recorded) e.node.name
    ≡ false = ⊎_elim (λ t. absurd (out (subst (λ (fs : List (List ℕ)). Has fs (name_of x e.number))
    (recorded_writes x e is own) (subst (λ (n : Node). Has (writes_in e.recorded) n.name) is.same_node
    (Has-from_has_name (writes_in e.recorded) e.node.name t))))) (λ e. e)
    (cases_Bool (has_name (writes_in e.recorded) e.node.name)) in
    true≢false (sym (and_from e.node.recipe _ own (and_from (is_some e.recorded) _ (ap (λ (o : Option Record). is_some o) (is.same_record ∙ recorded)) (and_from (not e.node.phony) _ (ap (λ (n : Node). not n.phony) is.same_node ∙ ap (λ b. not b) phony) (ap (λ b. not b) unwritten)))) ∙ f)

-- the name in an entry is that of its node
pub name_is : (x : Subject) (e : NodeRow) (name : List ℕ) → IsRow x e → name ≡ e.node.name → name ≡ name_of x e.number
name_is x e name is same = same ∙ ap (λ (n : Node). n.name) is.same_node

lines_equal : (xs : List (List ℕ)) → lines_eq xs xs ≡ true
lines_equal [] = refl
lines_equal (x ∷ xs) = and_from (bytes_eq x x) (lines_eq xs xs) ((bytes_eq-Decides x x).1 refl) (lines_equal xs)

-- other commands
others_some : (o : Option Record) (lines : List (List ℕ)) → has_others o lines ≡ true → (r : Record) × (o ≡ Some r) × (¬ (r.commands ≡ lines))
others_some None lines t = absurd (let e : false ≡ true = t in cc)
others_some (Some r) lines t = (r, refl, λ same. true≢false (sym (lines_equal lines) ∙ (ap (λ (l : List (List ℕ)). lines_eq l lines) (sym same) ∙ not-true (lines_eq r.commands lines) t)))

others_from : (r : Record) (lines : List (List ℕ)) → ¬ (r.commands ≡ lines) → has_others (Some r) lines ≡ true
others_from r lines differ = ⊎_elim (λ t. absurd (differ (lines_same r.commands lines t))) (λ f. ap (λ b. not b) f) (cases_Bool (lines_eq r.commands lines))

pub other_commands_there : (x : Subject) (e : NodeRow) → IsRow x e → has_other_commands e ≡ true → HasOtherCommands x e.number
other_commands_there x e is t =
    let recipe = and_parts e.node.recipe _ t in
    let varying = and_parts (not e.commands.varying) _ recipe.1 in
    let others = others_some e.recorded e.commands.lines (sym is.same_others ∙ varying.1) in
    (sym (ap (λ (n : Node). n.recipe) is.same_node) ∙ recipe.0, others.0, sym is.same_record ∙ others.1, e.commands, is.same_commands, not-true e.commands.varying varying.0, others.2)

pub no_other_commands : (x : Subject) (e : NodeRow) → IsRow x e → has_other_commands e ≡ false → ¬ (HasOtherCommands x e.number)
no_other_commands x e is f (recipe, r, recorded, c, told, steady, differ) =
    let same : Ok c ≡ Ok e.commands = sym told ∙ is.same_commands in
    let k : c ≡ e.commands = cc in
    let other : e.others ≡ true = is.same_others ∙ (ap (λ (o : Option Record). has_others o e.commands.lines) (is.same_record ∙ recorded) ∙ others_from r e.commands.lines (λ h. differ (h ∙ ap (λ (d : Commands). d.lines) (sym k)))) in
    true≢false (sym (and_from e.node.recipe _ (ap (λ (n : Node). n.recipe) is.same_node ∙ recipe) (and_from (not e.commands.varying) _ (ap (λ (d : Commands). not d.varying) (sym k) ∙ ap (λ b. not b) steady) other)) ∙ f)

-- the selection that may be found of a node is the one that is looked up
pub selection_is : (x : Subject) (e : NodeRow) (o : Option (List ℕ)) (old new : List Finding) → IsRow x e → e.chosen_after ≡ o → Adds x (map (λ c. selection e.number c) (option_to_list o)) old new → Adds x (map (λ c. selection e.number c) (choice_with_writes x e.number)) old new
selection_is x e o old new is same h = subst (λ (k : Option (List ℕ)). Adds x (map (λ c. selection e.number c) (option_to_list k)) old new) (sym same ∙ is.same_choice_after) h

-- another choice, and the same one
pub other_choice : (x : Subject) (e : NodeRow) (c : List ℕ) → IsRow x e → e.chosen_after ≡ Some c → ¬ (e.chosen ≡ Some c) → ChoosesOtherwise x e.number c
other_choice x e c is after differ = (sym is.same_choice_after ∙ after, λ h. differ (is.same_choice ∙ h))

pub same_choice_stays : (x : Subject) (e : NodeRow) (c : List ℕ) → IsRow x e → e.chosen ≡ Some c → ¬ (ChoosesOtherwise x e.number c)
same_choice_stays x e c is same (after, differ) = differ (sym is.same_choice ∙ same)
