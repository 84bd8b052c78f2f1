-- What is there on a disk of numbered names.
use Rattle.std.proofs.Common.{◌≡◌, ℕ, ◌+◌, ◌<◌, List, [], ◌∷◌, length, Option, Some, None, inl, inr, ⊎_elim, refl, sym, ◌∙◌, ap, subst, arith}
use Rattle.std.specs.Option.{option_map}
use Rattle.std.specs.Prelude.{bytes_eq}
use Rattle.std.proofs.lemmas.Bool.{cases_Bool, cond-true, cond-false}
use Rattle.std.proofs.lemmas.Slice.Eq.{bytes_eq-Decides}
use Rattle.mk_lines.specs.Names.{place_from}
use Rattle.mk_graph.specs.Membership.{Has}
use Rattle.mk_build.specs.Setting.{FileName, Setting}
use Rattle.mk_graph.specs.Graph.{Graph}
use Rattle.mk_build.specs.World.{File, Disk, IsStartDisk, IsFirstDisk}

-- what has a place stands in the list, and its place is before the end of it
has_place : (n : ℕ) (names : List FileName) (f : FileName) (i : ℕ) → place_from n names f ≡ Some i → Has names f × (i < n + length names)
unfolding place_from
has_place n [] f i e = absurd (cc)
has_place n (h ∷ names) f i e =
    ⊎_elim (λ here. let first : Some n ≡ Some i = sym (cond-true (bytes_eq f h) (Some n)
    (place_from (n + 1) names f) here) ∙ e in let is : n
    ≡ i = cc in (inl (sym ((bytes_eq-Decides f h).0 here)), omega arith))
    (λ there. let rest = has_place (n + 1) names f i (sym
    (cond-false (bytes_eq f h) (Some n) (place_from (n + 1) names f) there) ∙ e) in let bound = rest.1 in
    (inr rest.0, omega arith)) (cases_Bool (bytes_eq f h))

-- a file that is there has the stamp of its place
file_at : (o : Option ℕ) (file : File) → option_map (λ place. record { content = place; stamp = place }) o ≡ Some file → o ≡ Some file.stamp
file_at None file e = absurd (cc)
file_at (Some k) file e = ap (λ o. option_map (λ (x : File). x.stamp) o) e

-- the first disk is a start
pub first_start : (g : Graph) (s : Setting) (d : Disk) → IsFirstDisk g s d → IsStartDisk s d
first_start g s d first = subst (λ (k : Disk). IsStartDisk s k) (sym first.disk) (record {
  nothing_known = refl;
  given = λ f file e. ((first.given f).0 (has_place 1 first.names f file.stamp (file_at (place_from 1 first.names f) file e)).0).1;
  stamped = λ f file e. let low = (has_place 1 first.names f file.stamp (file_at (place_from 1 first.names f) file e)).1 in omega arith;
})
