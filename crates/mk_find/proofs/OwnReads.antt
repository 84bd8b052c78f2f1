-- What static findings hide: races, and stale reads of files that the reader doesn't write.
use Rattle.std.proofs.Common.{◌≡◌, ◌∙◌, ℕ, List, [], ◌∷◌, Bool, true, false, refl, sym, subst, eqb, eq-eqb, eqb-true}
use Rattle.std.specs.List.{list_any}
use Rattle.std.proofs.lemmas.Bool.{false≢true, false_from_ne_true}
use Rattle.mk_lemmas.proofs.Members.{Has-from_filter}
use Rattle.mk_lines.proofs.NameTests.{Has-from_has_name, has_name-from_Has}
use Rattle.mk_lines.specs.Names.{has_name}
use Rattle.mk_graph.specs.Graph.{IsGraph}
use Rattle.mk_graph.specs.Laws.{SerialReachesEachOnce}
use Rattle.mk_graph.specs.Membership.{Has}
use Rattle.mk_graph.specs.Serial.{serial_order}
use Rattle.mk_find.specs.Candidates.{stale}
use Rattle.mk_find.specs.Listed.{Adds}
use Rattle.mk_subject.specs.NodeRow.{writers_of}
use Rattle.mk_subject.specs.Subject.{Subject, writes_of}
use Rattle.mk_find.specs.declared.finding.Finding.{Finding}
use Rattle.mk_find.specs.Findings.{hidden_read}
use Rattle.mk_find.proofs.Adding.{adds_nothing}
use Rattle.mk_find.proofs.Trying.{some_passes, which_passes, writer_there}

module _ (serial : SerialReachesEachOnce) (x : Subject) (is : IsGraph x.graph) (f : List ℕ) (t : ℕ) where
  -- who is among the writers of a file writes it, and the other way
  by_writes : (b : Bool) → has_name (writes_of x t) f ≡ b → list_any (λ n. eqb n t) (writers_of x f) ≡ b
  by_writes true e = some_passes (λ n. eqb n t) (writers_of x f) t (writer_there serial x is f t (Has-from_has_name (writes_of x t) f e)) (eq-eqb t t refl)
  by_writes false e = false_from_ne_true (list_any (λ n. eqb n t) (writers_of x f)) (λ any.
      let (n, among, passes) = which_passes (λ n. eqb n t) (writers_of x f) any in
      let writes = (Has-from_filter (λ o. has_name (writes_of x o) f) (serial_order x.graph) n among).1 in
      false≢true (sym e ∙ subst (λ (k : ℕ). has_name (writes_of x k) f ≡ true) (eqb-true n t passes) writes))

  pub own_exactly : list_any (λ n. eqb n t) (writers_of x f) ≡ has_name (writes_of x t) f
  own_exactly = by_writes (has_name (writes_of x t) f) refl

-- a read of the recipe's own file is no candidate
pub own_adds_none : (x : Subject) (t : ℕ) (f : List ℕ) (found : List Finding) → has_name (writes_of x t) f ≡ true → Adds x (hidden_read x t f) found found
own_adds_none x t f found own = rw own (adds_nothing x found)

-- another is
pub other_adds : (x : Subject) (t : ℕ) (f : List ℕ) (old new : List Finding) → has_name (writes_of x t) f ≡ false → Adds x (stale t f ∷ []) old new → Adds x (hidden_read x t f) old new
other_adds x t f old new other added = rw other added

-- so the recipe doesn't write it
pub writes_not : (x : Subject) (t : ℕ) (f : List ℕ) → has_name (writes_of x t) f ≡ false → ¬ (Has (writes_of x t) f)
writes_not x t f other h = false≢true (sym other ∙ has_name-from_Has (writes_of x t) f h)
