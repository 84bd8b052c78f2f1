use Rattle.std.proofs.Common.{◌∙◌, ap, map, List, ℕ}
use Rattle.mk_explain.specs.Near.{near_text, with_nears}
use Rattle.mk_explain.specs.declared.faults.TheConstants.{FAULTS}
use Rattle.mk_explain.specs.declared.findings.TheConstants.{FINDINGS}
use Rattle.mk_explain.proofs.near.near_words.Goals as goal

abbrev words : List (List ℕ)
words = map (λ row. row.0.now) FINDINGS

abbrev names : List (List ℕ)
names = map (λ row. row.1.now) FAULTS

pub returns : goal.returns
unfolding near_text
returns c =
    let what = c.args.what.now in
    c.in_ok-push_near_faults.ensures
    ∙ ap (λ (text : List ℕ). with_nears what text names) (c.in_ok-push_near_findings.ensures ∙ ap (λ (text : List ℕ). with_nears what text words) c.new-text.ensures.bytes)
