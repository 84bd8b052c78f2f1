-- Reads that are found at a place among those that aren't settled.
use Rattle.std.proofs.Common.{◌≡◌, ℕ, ◌<◌, List, [], Bool, true, false, length, get_or, refl, sym, ap, subst, ◌∙◌}
use Rattle.std.specs.Prelude.{not, bytes_eq, if◌then◌else◌}
use Rattle.std.proofs.lemmas.Bool.{not-false}
use Rattle.std.proofs.lemmas.Slice.Eq.{bytes_eq-Decides}
use Rattle.mk_lemmas.proofs.Members.{Has-from_filter, Has-get_or}
use Rattle.mk_find.proofs.ReadsOnce.{reader_is_recipe}
use Rattle.mk_graph.specs.Membership.{Has}
use Rattle.mk_graph.specs.Graph.{node}
use Rattle.mk_subject.specs.Subject.{Subject, name_of, reads_of}
use Rattle.mk_cert.specs.Cursor.{IsReadOf}
use Rattle.mk_subject.specs.FileInfo.{known_of}
use Rattle.mk_subject.specs.Settled.{is_settled}
use Rattle.mk_subject.specs.Target.{Target, target_of, unsettled_of}

-- a node whose recipe reads a file has a recipe
none_read : (b : Bool) (fs : List (List ℕ)) (f : List ℕ) → Has (if b then fs else []) f → b ≡ true
none_read true fs f h = refl
none_read false fs f h = absurd h

-- names that aren't found to differ are the same
pub same_names : (a b : List ℕ) (differ : Bool) → differ ≡ not (bytes_eq a b) → differ ≡ false → a ≡ b
same_names a b differ told same = (bytes_eq-Decides a b).0 (not-false (bytes_eq a b) (sym told ∙ same))

-- what stands at such a place is a read of the recipe
pub found_there : (x : Subject) (recipe file : List ℕ) (t place : ℕ) (target : Target) → place < length (unsettled_of x t) → target ≡ target_of x (get_or (unsettled_of x t) place []) → name_of x t ≡ recipe → target.file ≡ file → IsReadOf x recipe file t target
found_there x recipe file t place target within is named same =
    let f = get_or (unsettled_of x t) place [] in
    let it : f ≡ file = sym (ap (λ (v : Target). v.file) is) ∙ same in
    let reads : Has (reads_of x t) file = subst (λ (g : List ℕ). Has (reads_of x t) g) it ((Has-from_filter (λ g. not (is_settled (known_of x g))) (reads_of x t) f (Has-get_or (unsettled_of x t) place [] within)).0) in
    record {
      is_recipe = reader_is_recipe x t file reads;
      named = named;
      reads = reads;
      known = is ∙ ap (target_of x) it;
    }
