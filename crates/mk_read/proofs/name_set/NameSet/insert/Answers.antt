use Rattle.std.proofs.Common.{◌≡◌, List, ℕ, sym, subst, string_bytes}
use Rattle.mk_read.specs.Names.{once}
use Rattle.mk_read.proofs.NameSets.{inserted}
use Rattle.mk_read.proofs.Once.{stays_once}
use Rattle.mk_read.proofs.name_set.NameSet.insert.Goals as goal

pub returns-clause-ok : goal.returns-clause-ok
returns-clause-ok c = inserted c.self.inside.names.keys c.args.name c.args.self.now c.insert.new.self.keys c.in_ok-insert.ensures.keys c.self.view_is

pub invariant_of-self-2 : goal.invariant_of-self-2
invariant_of-self-2 c =
    let is = inserted c.self.inside.names.keys c.args.name c.args.self.now c.insert.new.self.keys c.in_ok-insert.ensures.keys c.self.view_is in
    subst (λ (names : List (List ℕ)). once names ≡ names) (sym is) (stays_once c.args.self.now (string_bytes c.args.name) (subst (λ (names : List (List ℕ)). once names ≡ names) c.self.view_is c.self.invariant))
