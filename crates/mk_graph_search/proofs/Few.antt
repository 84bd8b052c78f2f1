-- Numbers below a bound that differ are few, and so are places.
use Rattle.std.proofs.Common.{ℕ, ◌<◌, List, [], ◌∷◌, ◌++◌, map, inl, inr, refl, subst, arith}
use Rattle.std.proofs.lemmas.List.{length-append, length-map}
use Rattle.mk_lemmas.proofs.Members.{Has-from_map, length-le_distinct}
use Rattle.mk_graph.specs.Membership.{Has, IsDistinct}
use Rattle.mk_graph_search.specs.Ways.{end, IsWay, Precedes, IsFirstThere}
use Rattle.mk_graph_search.specs.Places.{IsRising}
use Rattle.mk_graph_search.specs.Laws.{PlacesAreBelow}
use Rattle.mk_graph_search.proofs.Order.{before_none}
use Rattle.mk_graph_search.proofs.Firsts.{one_first_there}

module _ (succ : ℕ → List ℕ) (t : ℕ) where
  -- the ends of first ways in their order differ
  ends_differ : (ways : List (List ℕ)) → IsRising succ t ways → ((way : List ℕ) → Has ways way → IsFirstThere succ t way) → IsDistinct (map (end t) ways)
  ends_differ [] r first = tt
  ends_differ (way ∷ ways) r first =
      (λ h. let at = Has-from_map (end t) ways (end t way) h in before_none succ t way (subst (λ (w : List ℕ). Precedes succ t way w) (one_first_there succ t at.0 way (first at.0 (inr at.1)) (first way (inl refl)) at.2) (r.0 at.0 at.1)), ends_differ ways r.1 (λ w h. first w (inr h)))

  -- the end of a way is below what the start and all successors are
  end_low : (bound : ℕ) → t < bound → ((n o : ℕ) → Has (succ n) o → o < bound) → (way : List ℕ) → IsWay succ t way → end t way < bound
  end_low bound low all [] is = low
  end_low bound low all (n ∷ way) is = all (end t way) n is.0

-- so places are below it
pub places_are_below : PlacesAreBelow
places_are_below succ t bound low all k way stands =
    let ways = stands.preceding ++ way ∷ [] in
    let b = stands.beginning in
    let few = length-le_distinct (map (end t) ways) bound (ends_differ succ t ways b.rising b.first) (λ n h. let at = Has-from_map (end t) ways n h in subst (λ (m : ℕ). m < bound) at.2 (end_low succ t bound low all at.0 (b.first at.0 at.1).is_way)) in
    let long = length-map ways (end t) in
    let behind = length-append stands.preceding (way ∷ []) in
    let many = stands.many in
    omega arith
