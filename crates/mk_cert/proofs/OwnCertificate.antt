-- The certificate is accepted: no entry is bad, and no read lacks its way.
use Rattle.std.proofs.Common.{◌≡◌, ℕ, List, [], ◌∷◌, map, reverse, get_or, All, inl, inr, refl, sym, ◌∙◌, ap, subst}
use Rattle.mk_lemmas.proofs.Members.{Has-get_or}
use Rattle.mk_graph.proofs.Nodes.{recipe_is_node}
use Rattle.mk_graph.specs.Graph.{IsGraph}
use Rattle.mk_build.specs.BuildLaws.{NamesHaveOneNumber}
use Rattle.mk_graph.specs.Laws.{SerialReachesEachOnce}
use Rattle.mk_graph.specs.Membership.{Has, IsDistinct}
use Rattle.mk_cert_text.specs.Certificate.{Way}
use Rattle.mk_subject.specs.Subject.{IsRecipe, Subject, footprints, name_of}
use Rattle.mk_subject.specs.Paths.{AreCarried, IsPath}
use Rattle.mk_subject.specs.Reads.{Read, NeedsWay}
use Rattle.mk_cert.specs.Verdict.{IsGood, HasEntry, NoneBad}
use Rattle.mk_find.specs.Certifying.{reads_once, ReadNeedsWay, IsEntryFor, AreEntriesFor, nothing, entry, none}
use Rattle.mk_cert.specs.Laws.{CertificateIsAccepted}
use Rattle.mk_find.proofs.ReadsOnce.{reads_differ, reader_is_recipe, stands_there}
use Rattle.mk_find.proofs.CarriedRecipes.{carried_are_recipes}

-- all on the path are recipes
path_of_recipes : (x : Subject) (t : ℕ) (others : List ℕ) → IsRecipe x t → AreCarried x.graph (footprints x.setting) t others → All (IsRecipe x) (t ∷ others)
path_of_recipes x t others is are k d low = by (get_or (t ∷ others) k d) (Has-get_or (t ∷ others) k d low)
  where
    by : (n : ℕ) → Has (t ∷ others) n → IsRecipe x n
    by n (inl here) = subst (λ (m : ℕ). IsRecipe x m) here is
    by n (inr there) = carried_are_recipes x t others are n there

-- an entry for a read that needs a way is good
entry_is_good : (x : Subject) (r : Read) (w : Way) → ReadNeedsWay x r → IsEntryFor x r w → IsGood x w
entry_is_good x r w needs is = record {
  start = r.recipe;
  others = reverse is.first.way;
  names = is.same_path ∙ ap (λ (ns : List ℕ). map (name_of x) ns) is.first.goes;
  begins = is.same_recipe;
  recipes = path_of_recipes x r.recipe (reverse is.first.way) (reader_is_recipe x r.recipe r.file needs.0) is.first.first.path.carried;
  path = subst (λ (f : List ℕ). IsPath x.graph (footprints x.setting) f w.finish r.recipe (reverse is.first.way)) (sym is.same_file) is.first.first.path;
  needed = subst (λ (f : List ℕ). NeedsWay x r.recipe f) (sym is.same_file) needs;
}

-- these entries are for some of these reads, of which each is a recipe's
abbrev AreFor : Subject → List Read → List Way → Type 0
AreFor x reads ways =
    (w : Way) → Has ways w → (r : Read) × Has reads r × IsRecipe x r.recipe × (w.recipe ≡ name_of x r.recipe) × (w.file ≡ r.file)

-- a read with these names is this one
same_read : NamesHaveOneNumber → (x : Subject) → IsGraph x.graph → (r k : Read) → IsRecipe x r.recipe → IsRecipe x k.recipe → name_of x r.recipe ≡ name_of x k.recipe → r.file ≡ k.file → r ≡ k
same_read one x is r k recipe other name file =
    let number = one x.graph is.sound (name_of x k.recipe) r.recipe k.recipe (recipe_is_node x.graph r.recipe recipe, name) (recipe_is_node x.graph k.recipe other, refl) in
    (λ i. record { recipe = number i; file = file i })

-- no entry is bad
none_bad : NamesHaveOneNumber → (x : Subject) → IsGraph x.graph → (before : List Way) (earlier reads : List Read) (ways : List Way) → AreFor x earlier before → ((r : Read) → Has reads r → ¬ (Has earlier r)) → IsDistinct reads → AreEntriesFor x reads ways → NoneBad x before ways
none_bad one x is before earlier [] ways are apart d nothing = tt
none_bad one x is before earlier (r ∷ reads) ways are apart d (entry {w} {ways = others} needs for_it more) =
    let recipe = reader_is_recipe x r.recipe r.file needs.0 in
    let new : ¬ (HasEntry before w.recipe w.file) = λ found. (let old = are found.0 found.1 in apart r (inl refl) (subst (λ (k : Read). Has earlier k) (same_read one x is old.0 r old.2 recipe (sym old.3 ∙ (found.2 ∙ for_it.same_recipe)) (sym old.4 ∙ (found.3 ∙ for_it.same_file))) old.1)) in (
      (entry_is_good x r w needs for_it, new),
      none_bad one x is (w ∷ before) (r ∷ earlier) reads others
          (λ v h. elim h [
            | inl here ↦ (
              r,
              inl refl,
              recipe,
              ap (λ (k : Way). k.recipe) (sym here)
                  ∙ for_it.same_recipe,
              ap (λ (k : Way). k.file) (sym here) ∙ for_it.same_file,
            )
            | inr there ↦ (let old = are v there in (old.0, inr old.1, old.2, old.3, old.4))
          ])
          (λ k h in_it. elim in_it [
            | inl here ↦ d.0 (subst (λ (j : Read). Has reads j) (sym here) h)
            | inr there ↦ apart k (inr h) there
          ]) d.1 more,
    )
none_bad one x is before earlier (r ∷ reads) ways are apart d (none out more) =
    none_bad one x is before earlier reads ways are (λ k h. apart k (inr h)) d.1 more

-- each read that needs a way has its entry
has_its_entry : (x : Subject) (reads : List Read) (ways : List Way) → AreEntriesFor x reads ways → (r : Read) → Has reads r → ReadNeedsWay x r → HasEntry ways (name_of x r.recipe) r.file
has_its_entry x [] ways nothing r h needs = absurd h
has_its_entry x (k ∷ reads) ways (entry {w} other is more) r (inl here) needs = (w, inl refl, is.same_recipe ∙ ap (λ (j : Read). name_of x j.recipe) here, is.same_file ∙ ap (λ (j : Read). j.file) here)
has_its_entry x (k ∷ reads) ways (entry {ways = others} other is more) r (inr there) needs = let found = has_its_entry x reads others more r there needs in (found.0, inr found.1, found.2, found.3)
has_its_entry x (k ∷ reads) ways (none out more) r (inl here) needs = absurd (out (subst (λ (j : Read). ReadNeedsWay x j) (sym here) needs))
has_its_entry x (k ∷ reads) ways (none out more) r (inr there) needs = has_its_entry x reads ways more r there needs

-- so it is accepted
pub certificate_is_accepted : NamesHaveOneNumber → SerialReachesEachOnce → CertificateIsAccepted
certificate_is_accepted one serial x c is found certified =
    (certified.goals, found, none_bad one x is [] [] (reads_once x) c.ways (λ w h. absurd h) (λ r h in_it. in_it) (reads_differ serial x is) certified.ways, λ r needs. has_its_entry x (reads_once x) c.ways certified.ways r (stands_there serial x is r needs.0) needs)
