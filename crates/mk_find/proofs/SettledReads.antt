-- What is found of reads of settled files: nothing. And the places of those that aren't settled.
use Rattle.std.proofs.Common.{◌≡◌, ℕ, ◌<◌, ◌≤◌, List, [], length, get_or, map, drop, refl, sym, ap, subst, ◌∙◌, ⊎_elim, arith}
use Rattle.std.specs.Prelude.{not}
use Rattle.std.proofs.lemmas.Bool.{true≢false}
use Rattle.mk_lemmas.proofs.Members.{Has-from_filter, Has-get_or}
use Rattle.mk_lines.specs.Names.{has_name}
use Rattle.mk_graph.specs.Graph.{IsGraph}
use Rattle.mk_graph.specs.Laws.{SerialReachesEachOnce}
use Rattle.mk_graph.specs.Membership.{Has}
use Rattle.mk_graph.specs.Serial.{serial_order}
use Rattle.mk_build.specs.Ways.{CanChange}
use Rattle.mk_subject.specs.Subject.{Subject, footprints, reads_of, writes_of}
use Rattle.mk_find.specs.Candidates.{race}
use Rattle.mk_find.specs.Conditions.{ReadsItsOwn, ReadsWhatIsUnknown}
use Rattle.mk_subject.specs.FileInfo.{known_of}
use Rattle.mk_find.specs.Listing.{Lists, nothing}
use Rattle.mk_subject.specs.Settled.{is_settled}
use Rattle.mk_subject.specs.Target.{Target, target_of, unsettled_of}
use Rattle.mk_find.proofs.Adding.{drop_past, lists_lifted}
use Rattle.mk_subject.proofs.Decided.{has_decides}
use Rattle.mk_find.proofs.FileDecided.{not_own}
use Rattle.mk_subject.proofs.SettledReads.{IsSettled, OpenAt}

module _ (x : Subject) (f : List ℕ) (is : IsSettled (known_of x f)) where
  pub not_unknown : (t : ℕ) → ¬ (ReadsWhatIsUnknown x t f)
  not_unknown t h = true≢false (sym is.given ∙ h.1)

  pub not_own_read : (t : ℕ) → IsGraph x.graph → SerialReachesEachOnce → ¬ (ReadsItsOwn x t f)
  not_own_read t graph reaches = not_own x t f [] t graph reaches (sym is.unwritten) refl refl

  pub no_race : (t : ℕ) → Lists x (map (λ o. race t o f) (serial_order x.graph)) []
  no_race t =
      lists_lifted x (λ o. race t o f) (λ o. has_name (writes_of x o) f) (serial_order x.graph) []
      (λ o out k. true≢false (sym ((has_decides (writes_of x o) f).1 k.2) ∙ out))
      (subst (λ (l : List ℕ). Lists x (map (λ o. race t o f) l) []) (sym is.unwritten) nothing)

  pub cannot_change : ¬ (CanChange (footprints x.setting) f)
  cannot_change h = ⊎_elim (λ e. true≢false (sym e ∙ is.fixed)) (λ g. true≢false (sym is.given ∙ g)) h

-- what isn't settled at a place is a file that the recipe reads
pub unsettled_read : (x : Subject) (t i : ℕ) → i < length (unsettled_of x t) → Has (reads_of x t) (get_or (unsettled_of x t) i [])
unsettled_read x t i low = (Has-from_filter (λ f. not (is_settled (known_of x f))) (reads_of x t) (get_or (unsettled_of x t) i []) (Has-get_or (unsettled_of x t) i [] low)).0

pub open_at : (x : Subject) (n t i count : ℕ) (target : Target) → n ≡ t → count ≡ length (unsettled_of x n) → i < count → target ≡ target_of x (get_or (unsettled_of x n) i []) → OpenAt x t i target
open_at x n t i count target number many lt is =
    let low : i < length (unsettled_of x t) = omega (arith, many, ap (λ (k : ℕ). length (unsettled_of x k)) number) in
    let named : target.file ≡ get_or (unsettled_of x t) i [] = ap (λ (k : Target). k.file) is ∙ ap (λ (k : ℕ). get_or (unsettled_of x k) i []) number in
    record {
      low = low;
      file = named;
      read = subst (λ (f : List ℕ). Has (reads_of x t) f) (sym named) (unsettled_read x t i low);
    }

-- past the last of them nothing is left
pub none_left : (x : Subject) (n t i count : ℕ) → n ≡ t → count ≡ length (unsettled_of x n) → count ≤ i → drop i (unsettled_of x t) ≡ []
none_left x n t i count number many past =
    let end : length (unsettled_of x t) ≤ i = omega (arith, many, ap (λ (k : ℕ). length (unsettled_of x k)) number) in
    drop_past (unsettled_of x t) i end
