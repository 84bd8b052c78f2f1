use Rattle.std.proofs.Common.{◌≡◌, ◌∙◌, ℕ, List, sym, ap}
use Rattle.mk_lines.specs.Names.{has_name}
use Rattle.mk_infer.specs.There.{Exists}
use Rattle.mk_subject.proofs.Stays.{source_there, target_there}
use Rattle.mk_subject.proofs.looking_up.is_there.Goals as goal

pub returns-in-Some : goal.returns-in-Some
returns-in-Some c = λ t. target_there c.args.table.now c.args.exists.now c.args.name.now c.in-Some.ensures.1

pub returns-in-None : goal.returns-in-None
returns-in-None c = λ t.
    let there = c.args.exists.now in
    let name = c.args.name.now in
    let sources : c.exists.inside.sources.now ≡ there.sources = ap (λ (e : Exists). e.sources) c.exists.view_is in
    source_there c.args.table.now there name (sym (c.contains.ensures ∙ ap (λ (ns : List (List ℕ)). has_name ns name) sources) ∙ t)
