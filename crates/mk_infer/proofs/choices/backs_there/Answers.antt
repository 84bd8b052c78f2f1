use Rattle.std.proofs.Common.{◌≡◌, ◌∙◌, ◌++◌, ◌||◌, List, ℕ, false, map, refl, ap}
use Rattle.std.specs.String.{string_bytes}
use Rattle.mk_lines.specs.Names.{has_name}
use Rattle.mk_read.specs.State.{RuleRead}
use Rattle.mk_infer.specs.Table.{targets_in, texts_at}
use Rattle.mk_infer.specs.There.{Exists}
use Rattle.mk_infer.proofs.NamesThere.{has_there, listed_suffix}
use Rattle.mk_infer.proofs.choices.backs_there.Goals as goal

pub returns : goal.returns
returns c = λ stem suffix some known there.
    let m = c.args.table.now in
    let e = c.args.exists.now in
    let whole = stem ++ suffix in
    let is = listed_suffix m suffix c.rules.ensures.suffixes known in
    let none : has_name (texts_at c.new-backs.result stem) suffix ≡ false = rw c.new-backs.ensures.empty refl in
    let one = has_name (texts_at c.add_backs.new.backs stem) suffix in
    let two = has_name (texts_at c.add_backs-2.new.backs stem) suffix in
    let three = has_name (texts_at c.add_backs-3.new.backs stem) suffix in
    let four = has_name (texts_at c.add_targets.new.backs stem) suffix in
    let first = c.in_ok-add_backs.ensures stem suffix some is ∙ (ap (λ b. b || has_name (map string_bytes c.as_slice.result.now) whole) none ∙ ap (λ (ns : List (List ℕ)). has_name ns whole) (c.as_slice.ensures ∙ ap (λ (x : Exists). x.sources) c.exists.view_is)) in
    let second = c.in_ok-add_backs-2.ensures stem suffix some is ∙ ap (λ (ns : List (List ℕ)). one || has_name ns whole) (c.as_slice-2.ensures ∙ ap (λ (x : Exists). x.texts) c.exists.view_is) in
    let third = c.in_ok-add_backs-3.ensures stem suffix some is ∙ ap (λ (ns : List (List ℕ)). two || has_name ns whole) (c.as_slice-3.ensures ∙ ap (λ (x : Exists). x.more) c.exists.view_is) in
    let last = c.in_ok-add_targets.ensures stem suffix some is ∙ ap (λ (rules : List RuleRead). three || has_name (targets_in rules) whole) c.rules.ensures.exact in
    has_there m e whole one two three four first second third last there
