use Rattle.std.proofs.Common.{◌≡◌, map, drop}
use Rattle.std.specs.String.{string_bytes}
use Rattle.mk_explain.specs.Near.{with_nears}
use Rattle.mk_explain.proofs.near.push_near_findings.Given as goal

-- the text so far, with the words that are left
abbrev pub invariant-loop-word : goal.invariant-loop-word
invariant-loop-word l = with_nears l.what (string_bytes l.text) (map (λ row. row.0.now) (drop l.word-index l.findings)) ≡ with_nears l.what (string_bytes l.fn.text) (map (λ row. row.0.now) l.findings)
