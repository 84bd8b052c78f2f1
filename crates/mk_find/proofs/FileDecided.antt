-- What is tested of files decides what is found.
use Rattle.std.proofs.Common.{◌≡◌, ℕ, ◌<◌, List, [], ◌∷◌, Bool, true, false, length, refl, sym, ap, subst, ◌∙◌, inl, inr, ⊎_elim, arith}
use Rattle.std.specs.Prelude.{not, ◌||◌, ◌==◌, ◌↔◌}
use Rattle.std.proofs.Math.Dec.{eqb-suc-zero}
use Rattle.std.proofs.lemmas.Bool.{true≢false, or_cases, or_parts}
use Rattle.mk_lemmas.proofs.Members.{Has-filter, Has-from_filter, Has-from_has, not-from_has}
use Rattle.mk_lines.specs.Names.{has_name}
use Rattle.mk_graph.specs.Membership.{Has, has}
use Rattle.mk_graph.specs.Graph.{IsGraph}
use Rattle.mk_graph.specs.Laws.{SerialReachesEachOnce}
use Rattle.mk_graph.specs.Serial.{serial_order}
use Rattle.mk_foot.specs.Setting.{is_given}
use Rattle.mk_subject.specs.Subject.{Subject, writes_of}
use Rattle.mk_find.specs.Conditions.{WritesWhatIsGiven, ReadsItsOwn}
use Rattle.mk_subject.specs.NodeRow.{writers_of}
use Rattle.mk_find.specs.FileTests.{is_taken}
use Rattle.mk_subject.proofs.InOrder.{writer_in_order}
use Rattle.mk_subject.proofs.Decided.{has_decides}
use Rattle.mk_subject.proofs.FileDecided.{writers_write}

-- what is written and taken, and what isn't taken
pub taken_there : (x : Subject) (t : ℕ) (f : List ℕ) → Has (writes_of x t) f → is_taken x f ≡ true → WritesWhatIsGiven x t f
taken_there x t f h taken =
    (h, ⊎_elim (λ g. inl g) (λ more. inr (or_cases (has_name x.makefile.phony f) (has_name x.setting.passed_over f) more)) (or_cases (is_given x.setting f) (has_name x.makefile.phony f || has_name x.setting.passed_over f) taken))

pub not_taken : (x : Subject) (t : ℕ) (f : List ℕ) → is_taken x f ≡ false → ¬ (WritesWhatIsGiven x t f)
not_taken x t f free (h, which) =
    let given = or_parts (is_given x.setting f) (has_name x.makefile.phony f || has_name x.setting.passed_over f) free in
    let others = or_parts (has_name x.makefile.phony f) (has_name x.setting.passed_over f) given.1 in
    ⊎_elim (λ g. true≢false (sym g ∙ given.0)) (λ more. ⊎_elim (λ p. true≢false (sym p ∙ others.0)) (λ p. true≢false (sym p ∙ others.1)) more) which

-- a file has a writer just where it has some in the order
first_of : (ns : List ℕ) → 0 < length ns → (n : ℕ) × Has ns n
first_of [] some = absurd (omega arith)
first_of (n ∷ ns) some = (n, inl refl)

not_empty : (ns : List ℕ) (n : ℕ) → Has ns n → 0 < length ns
not_empty [] n h = absurd h
not_empty (m ∷ ns) n h = omega arith

pub some_writer : (x : Subject) (f : List ℕ) (ns : List ℕ) → ns ≡ writers_of x f → 0 < length ns → (o : ℕ) × Has (writes_of x o) f
some_writer x f ns same some =
    let first = first_of ns some in
    (first.0, (has_decides (writes_of x first.0) f).0 ((Has-from_filter (λ o. has_name (writes_of x o) f) (serial_order x.graph) first.0 (subst (λ (l : List ℕ). Has l first.0) same first.1)).1))

pub writer_found : (x : Subject) (f : List ℕ) (ns : List ℕ) → IsGraph x.graph → SerialReachesEachOnce → ns ≡ writers_of x f → (o : ℕ) × Has (writes_of x o) f → 0 < length ns
writer_found x f ns is reaches same (o, wrote) =
    not_empty ns o (subst (λ (l : List ℕ). Has l o) (sym same) (Has-filter (λ n. has_name (writes_of x n) f) (serial_order x.graph) o (writer_in_order x is reaches o f wrote) ((has_decides (writes_of x o) f).1 wrote)))

-- whether a list is empty
empty_test : (ns : List ℕ) → (not (length ns == 0) ≡ true → 0 < length ns) × (0 < length ns → not (length ns == 0) ≡ true)
empty_test [] = ((λ t. absurd (let e : false ≡ true = t in cc)), (λ lt. absurd (omega arith)))
empty_test (n ∷ ns) = ((λ t. omega arith), (λ lt. ap (λ b. not b) (eqb-suc-zero (length ns))))

pub written_decides : (x : Subject) (f : List ℕ) (ns : List ℕ) (b : Bool) → IsGraph x.graph → SerialReachesEachOnce → ns ≡ writers_of x f → b ≡ (length ns == 0) → (not b ≡ true) ↔ ((o : ℕ) × Has (writes_of x o) f)
written_decides x f ns b is reaches same e =
    ((λ t. some_writer x f ns same ((empty_test ns).0 (ap (λ c. not c) (sym e) ∙ t))), (λ h. ap (λ c. not c) e ∙ (empty_test ns).1 (writer_found x f ns is reaches same h)))

-- a file that is read is one of the recipe's own just where the recipe is one of its writers
pub own_there : (x : Subject) (t : ℕ) (f : List ℕ) (ns : List ℕ) (n : ℕ) → ns ≡ writers_of x f → n ≡ t → has ns n ≡ true → Has (writes_of x t) f
own_there x t f ns n same number stands = subst (λ (k : ℕ). Has (writes_of x k) f) number (writers_write x f ns same n (Has-from_has ns n stands))

pub not_own : (x : Subject) (t : ℕ) (f : List ℕ) (ns : List ℕ) (n : ℕ) → IsGraph x.graph → SerialReachesEachOnce → ns ≡ writers_of x f → n ≡ t → has ns n ≡ false → ¬ (ReadsItsOwn x t f)
not_own x t f ns n is reaches same number out (read, wrote) =
    not-from_has ns n out (subst (λ (k : ℕ). Has ns k) (sym number) (subst (λ (l : List ℕ). Has l t) (sym same) (Has-filter (λ o. has_name (writes_of x o) f) (serial_order x.graph) t (writer_in_order x is reaches t f wrote) ((has_decides (writes_of x t) f).1 wrote))))
