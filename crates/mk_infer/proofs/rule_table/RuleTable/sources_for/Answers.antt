use Rattle.std.proofs.Common.{◌≡◌, List, ℕ, [], Option, Vec, ap, sym, subst, ◌∙◌}
use Rattle.std.specs.Borrow.{Bor}
use Rattle.std.specs.declared.alloc.Global.{Global}
use Rattle.std.specs.Option.{option_map_or}
use Rattle.mk_lemmas.proofs.Texts.{texts}
use Rattle.mk_read.specs.Reading.{Makefile}
use Rattle.mk_infer.specs.Inference.{ending}
use Rattle.mk_infer.specs.Table.{AreSources, HasSources, texts_at}
use Rattle.mk_infer.proofs.rule_table.RuleTable.sources_for.Goals as goal

pub returns-in-Some : goal.returns-in-Some
returns-in-Some c = λ name is.
    let m = c.args.self.now in
    let behind : Option (Vec (Bor (List ℕ)) Global) → List (List ℕ) = λ o. texts (option_map_or (λ found. found.items) o []) in
    let held = subst (λ (x : Makefile). HasSources x c.self.inside.sources) c.self.view_is c.self.invariant.sources_held in
    let found : texts_at c.self.inside.sources (ending m name) ≡ texts c.as_slice.result.now = ap (texts_at c.self.inside.sources) (sym is) ∙ (ap behind (sym c.in-Some.ensures.value) ∙ ap texts (sym c.as_slice.ensures.value)) in
    subst (AreSources m name) found (held name)

pub returns-in-None : goal.returns-in-None
returns-in-None c = λ name is.
    let m = c.args.self.now in
    let behind : Option (Vec (Bor (List ℕ)) Global) → List (List ℕ) = λ o. texts (option_map_or (λ found. found.items) o []) in
    let held = subst (λ (x : Makefile). HasSources x c.self.inside.sources) c.self.view_is c.self.invariant.sources_held in
    let found : texts_at c.self.inside.sources (ending m name) ≡ [] = ap (texts_at c.self.inside.sources) (sym is) ∙ ap behind (sym c.in-None.ensures.value) in
    subst (AreSources m name) found (held name)
