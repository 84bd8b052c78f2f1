use Rattle.std.proofs.Common.{◌≡◌, ◌<◌, ◌≤◌, length, drop, List, ℕ, arith, refl, sym, ap, subst, string_bytes, ◌∙◌}
use Rattle.std.specs.Prelude.{fold}
use Rattle.std.proofs.lemmas.List.{drop_all}
use Rattle.mk_read.specs.Names.{with_name, once}
use Rattle.mk_read.proofs.NameSets.{names_of, inserted}
use Rattle.mk_read.proofs.Once.{one_in, all_in, stays_once}
use Rattle.mk_read.proofs.name_set.NameSet.with_all.Goals as goal

pub loop-name-init : goal.loop-name-init
loop-name-init c = (c.self.invariant, ap (λ set. fold with_name set (names_of c.args.names.now)) c.self.view_is)

pub loop-name-preserved : goal.loop-name-preserved
loop-name-preserved c =
    let lt : c.loop-name.name-index < length c.args.names.now = omega arith in
    let old = names_of c.loop-name.all.keys in
    let is = inserted c.loop-name.all.keys _ old c.insert.new.self.keys c.in_ok-insert.ensures.keys refl in (
      subst (λ (names : List (List ℕ)). once names ≡ names) (sym is) (stays_once old _ c.loop-name.invariant.0),
      one_in old (names_of c.insert.new.self.keys) c.args.names.now c.loop-name.name-index _ _ _ (c.in_ok-from_str.ensures.ok ∙ (c.deref.ensures ∙ ap string_bytes c.name-item.is)) is c.loop-name.invariant.1 lt,
    )

pub returns : goal.returns
returns c =
    let le : length c.args.names.now ≤ c.loop-name.name-index = omega arith in
    let end : names_of c.loop-name.all.keys ≡ fold with_name (names_of c.loop-name.all.keys) (names_of (drop c.loop-name.name-index c.args.names.now)) = rw (drop_all c.loop-name.name-index c.args.names.now le) refl in
    let own : once c.args.self ≡ c.args.self = subst (λ (names : List (List ℕ)). once names ≡ names) c.self.view_is c.self.invariant in
    end ∙ (c.loop-name.invariant.1 ∙ all_in c.args.self (names_of c.args.names.now) own)
