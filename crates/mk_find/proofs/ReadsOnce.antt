-- Reads, each once.
use Rattle.std.proofs.Common.{◌≡◌, ℕ, not, List, [], ◌∷◌, inl, inr, sym, ◌∙◌, ap, subst}
use Rattle.std.specs.List.{flat_map}
use Rattle.std.specs.Str.{bytes_eq}
use Rattle.std.proofs.lemmas.Bool.{cases_Bool}
use Rattle.std.proofs.lemmas.Slice.Eq.{bytes_eq-Decides}
use Rattle.mk_lemmas.proofs.Members.{Has-filter, Has-flat_map, Has-from_flat_map, Has-from_map, Has-from_then, Has-map, IsDistinct-append, IsDistinct-map}
use Rattle.mk_graph.proofs.Nodes.{recipe_is_node}
use Rattle.mk_lines.proofs.Once.{once-distinct}
use Rattle.mk_lines.specs.Names.{once}
use Rattle.mk_graph.specs.Graph.{IsGraph, node}
use Rattle.mk_graph.specs.Laws.{SerialReachesEachOnce}
use Rattle.mk_graph.specs.Membership.{Has, IsDistinct}
use Rattle.mk_graph.specs.Serial.{serial_order}
use Rattle.mk_subject.specs.Subject.{IsRecipe, Subject, reads_of}
use Rattle.mk_subject.specs.Reads.{Read}
use Rattle.mk_find.specs.Certifying.{reads_by, reads_once}

-- a name stands in the list in which each stands once
once_has : (names : List (List ℕ)) (f : List ℕ) → Has names f → Has (once names) f
once_has [] f h = absurd h
once_has (name ∷ names) f (inl here) = inl here
once_has (name ∷ names) f (inr there) =
    elim (cases_Bool (bytes_eq name f)) [ inl e ↦ inl ((bytes_eq-Decides name f).0 e) | inr e ↦ inr (Has-filter (λ other. not (bytes_eq name other)) (once names) f (once_has names f there) (ap not e)) ]

-- the reads of a recipe have its number
read_by : (x : Subject) (t : ℕ) (r : Read) → Has (reads_by x t) r → t ≡ r.recipe
read_by x t r h = let at = Has-from_map (λ f. record { recipe = t; file = f }) (once (reads_of x t)) r h in ap (λ (k : Read). k.recipe) at.2

-- those of recipes without repeats have none
reads_apart : (x : Subject) (order : List ℕ) → IsDistinct order → IsDistinct (flat_map (reads_by x) order)
reads_apart x [] d = tt
reads_apart x (t ∷ order) d =
    IsDistinct-append (reads_by x t) (flat_map (reads_by x) order)
    (IsDistinct-map (λ f. record { recipe = t; file = f }) (λ f h e. ap (λ (k : Read). k.file) e)
    (once (reads_of x t)) (once-distinct (reads_of x t))) (reads_apart x order d.1)
    (λ r here there. let at = Has-from_flat_map (reads_by x) order r there in d.0
    (subst (λ (n : ℕ). Has order n) (read_by x at.0 r at.2 ∙ sym (read_by x t r here)) at.1))

-- no read stands twice
pub reads_differ : SerialReachesEachOnce → (x : Subject) → IsGraph x.graph → IsDistinct (reads_once x)
reads_differ serial x is = reads_apart x (serial_order x.graph) (serial x.graph is.no_cycle).0

-- who reads a file is a recipe
pub reader_is_recipe : (x : Subject) (t : ℕ) (f : List ℕ) → Has (reads_of x t) f → IsRecipe x t
reader_is_recipe x t f h = (Has-from_then (node x.graph t).recipe _ f h).0

-- each read of a recipe stands among them
pub stands_there : SerialReachesEachOnce → (x : Subject) → IsGraph x.graph → (r : Read) → Has (reads_of x r.recipe) r.file → Has (reads_once x) r
stands_there serial x is r h =
    let low = recipe_is_node x.graph r.recipe (reader_is_recipe x r.recipe r.file h) in
    let in_order : Has (serial_order x.graph) r.recipe = ((serial x.graph is.no_cycle).1 r.recipe).1 (is.sound.reached r.recipe low) in
    Has-flat_map (reads_by x) (serial_order x.graph) r.recipe r in_order (Has-map (λ f. record { recipe = r.recipe; file = f }) (once (reads_of x r.recipe)) r.file (once_has (reads_of x r.recipe) r.file h))
