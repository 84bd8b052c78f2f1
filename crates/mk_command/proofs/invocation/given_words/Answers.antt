use Rattle.std.proofs.Common.{◌≡◌, ◌∙◌, [], codes, ap, subst, IfOk}
use Rattle.std.specs.Prelude.{unwrap_or}
use Rattle.clap.specs.Words.{found_of}
use Rattle.clap.proofs.WalkLemmas.{raw_values-rows}
use Rattle.mk_core.specs.Words.{goals_of, operands_of}
use Rattle.mk_command.proofs.invocation.given_words.Goals as goal

pub returns-in-Some-clause-operands : goal.returns-in-Some-clause-operands
returns-in-Some-clause-operands c =
    let given = ap (λ o. unwrap_or o []) (c.in-Some.ensures ∙ raw_values-rows (found_of c.args.matches.now) (codes "words")) in
    subst (λ words. IfOk c.split_words.result (λ r. r.0 ≡ operands_of words)) given c.split_words.ensures.operands

pub returns-in-Some-clause-goals : goal.returns-in-Some-clause-goals
returns-in-Some-clause-goals c =
    let given = ap (λ o. unwrap_or o []) (c.in-Some.ensures ∙ raw_values-rows (found_of c.args.matches.now) (codes "words")) in
    subst (λ words. IfOk c.split_words.result (λ r. r.1 ≡ goals_of words)) given c.split_words.ensures.goals

pub returns-in-None-clause-operands : goal.returns-in-None-clause-operands
returns-in-None-clause-operands c =
    let given = ap (λ o. unwrap_or o []) (c.in-None.ensures ∙ raw_values-rows (found_of c.args.matches.now) (codes "words")) in
    subst (λ words. IfOk c.split_words-in-None.result (λ r. r.0 ≡ operands_of words)) given c.split_words-in-None.ensures.operands

pub returns-in-None-clause-goals : goal.returns-in-None-clause-goals
returns-in-None-clause-goals c =
    let given = ap (λ o. unwrap_or o []) (c.in-None.ensures ∙ raw_values-rows (found_of c.args.matches.now) (codes "words")) in
    subst (λ words. IfOk c.split_words-in-None.result (λ r. r.1 ≡ goals_of words)) given c.split_words-in-None.ensures.goals
