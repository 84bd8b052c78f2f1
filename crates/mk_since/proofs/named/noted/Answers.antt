use Rattle.std.proofs.Common.{◌≡◌, ℕ, Bool, true, false, List, get_or, subst, sym}
use Rattle.std.specs.Prelude.{◌↔◌}
use Rattle.mk_build.specs.Setting.{IsAlwaysMade}
use Rattle.mk_since.proofs.Naming.{both_noted}
use Rattle.mk_since.proofs.named.noted.Goals as goal

pub returns : goal.returns
returns c =
    let (entries, held) = c.in_ok-note_made_anew.ensures in
    record {
      always = c.deref.result.now;
      always_made = subst (λ (l : List Bool). (t : ℕ) → (get_or l t false ≡ true) ↔ IsAlwaysMade c.args.subject.now.graph t) (sym c.deref.ensures.value) c.in_ok-ends.ensures.always_held;
      entries = entries;
      are_entries = held.0;
      all = λ f. both_noted _ _ _ f c.new-names.ensures (c.in_ok-note_left_over.ensures f) (held.1 f);
    }
