use Rattle.std.proofs.Common.{ℕ, List, nat_eq, refl, sym, subst, arith}
use Rattle.std.specs.Map.{lookup}
use Rattle.indexmap.specs.IndexMap.{get}
use Rattle.mk_graph_search.specs.Visits.{AreNoted}
use Rattle.mk_graph_search.proofs.Tables.{noted_more}
use Rattle.mk_graph_search.proofs.visits.note_all.Goals as goal

pub returns-in_err-insert : goal.returns-in_err-insert
returns-in_err-insert c = subst (λ (entries : List (ℕ × ℕ)). AreNoted c.args.list.now (λ n. lookup (nat_eq n) entries) c.loop-noted.noted) (sym c.in_err-insert.ensures.err) c.loop-noted.invariant

pub loop-noted-preserved : goal.loop-noted-preserved
loop-noted-preserved c = noted_more c.args.list.now (get nat_eq c.loop-noted.places) (get nat_eq c.insert.new.self) c.loop-noted.noted _ c.loop-noted.invariant (omega arith) refl c.in_ok-insert.ensures.updates.0
