use Rattle.std.proofs.Common.{sym, ◌∙◌, string_bytes}
use Rattle.std.proofs.lemmas.List.{length-map}
use Rattle.mk_foot.proofs.Same.{other_lengths}
use Rattle.mk_foot.proofs.checks.same_names.Goals as goal

pub returns-then-goals-own : goal.returns-then-goals-own
returns-then-goals-own c = sym (other_lengths _ _ (λ e. c.if-goals-own.true (e ∙ length-map c.args.own.now string_bytes)))
