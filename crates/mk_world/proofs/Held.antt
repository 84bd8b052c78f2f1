-- What files hold at their places.
use Rattle.std.proofs.Common.{◌≡◌, ℕ, ◌+◌, ◌<◌, ◌≤◌, List, [], ◌∷◌, ◌++◌, length, map, Option, Some, None, refl, sym, ap, ◌∙◌, arith, inl, inr, get_or, option_map, unwrap_or}
use Rattle.std.proofs.Math.ListN.{get_or-eq_default, get_or-append}
use Rattle.std.proofs.lemmas.Bool.{cases_lt}
use Rattle.std.proofs.lemmas.List.{get_or_push}
use Rattle.std.specs.Prelude.{if◌then◌else◌}
use Rattle.mk_lines.specs.Names.{place_from}
use Rattle.mk_graph.specs.declared.node.Node.{Node}
use Rattle.mk_graph.specs.Graph.{Graph, no_node}
use Rattle.mk_build.specs.Setting.{FileName, Setting, reads}
use Rattle.mk_build.specs.World.{content}
use Rattle.mk_build.specs.World as world
use Rattle.mk_world.specs.declared.file.File.{File}
use Rattle.mk_world.specs.Places.{place_among, content_at}
use Rattle.mk_world.specs.State.{DiskState, disk_of, file_of}
use Rattle.mk_world.specs.Tables.{look}
use Rattle.mk_world.proofs.Tables.{placed, unplaced}

-- what is known of a name stands at its place
look_at_place : (A : Type 0) (names : List FileName) (xs : List (Option A)) (f : FileName) → length xs ≡ length names → look names xs f ≡ get_or xs (place_among names f) None
look_at_place A names xs f many = at (place_from 0 names f) refl
  where
    at : (o : Option ℕ) → place_from 0 names f ≡ o → look names xs f ≡ get_or xs (unwrap_or o (length names)) None
    at (Some i) e = (placed A names f i e).gets xs
    at None e =
        let past : length xs ≤ length names = omega (arith, many) in
        (unplaced A names f e).1 xs ∙ sym (get_or-eq_default xs None past)

-- so does what a file holds
held_at : (d : DiskState) (f : FileName) → length d.files ≡ length d.names → content_at d.files (place_among d.names f) ≡ content (disk_of d) f
held_at d f many = ap (option_map (λ (file : File). file.content)) (sym (look_at_place File d.names d.files f many)) ∙ same (look d.names d.files f)
  where
    same : (o : Option File) → option_map (λ (file : File). file.content) o ≡ option_map (λ (file : world.File). file.content) (option_map file_of o)
    same None = refl
    same (Some file) = refl

-- and what files hold stands at their places
pub all_held : (d : DiskState) (places : List ℕ) (files : List FileName) → length d.files ≡ length d.names → places ≡ map (place_among d.names) files → map (content_at d.files) places ≡ map (content (disk_of d)) files
all_held d places files many is = ap (map (content_at d.files)) is ∙ each files
  where
    each : (fs : List FileName) → map (content_at d.files) (map (place_among d.names) fs) ≡ map (content (disk_of d)) fs
    each [] = refl
    each (f ∷ fs) = λ i. held_at d f many i ∷ each fs i

-- one more list of places
pub one_placed : (F : ℕ → List ℕ) (old : List (List ℕ)) (new : List ℕ) (n t : ℕ) → length old ≡ n → ((k : ℕ) → k < n → get_or old k [] ≡ F k) → new ≡ F n → t < n + 1 → get_or (old ++ new ∷ []) t [] ≡ F t
one_placed F old new n t many each is low = elim (cases_lt t n) [
  | inl lt ↦ get_or-append old (new ∷ []) [] t (omega (arith, many)) ∙ each t lt
  | inr ge ↦
      let last : n ≡ t = omega arith in
      get_or_push old new [] t (many ∙ last) ∙ (is ∙ ap F last)
]

-- no node past the last one reads anything
pub none_read : (g : Graph) (s : Setting) (names : List FileName) (t : ℕ) → length g.nodes ≤ t → [] ≡ map (place_among names) (reads g s t)
none_read g s names t past = sym (ap (λ (v : Node). map (place_among names) (if v.recipe then s.reads v.name else [])) (get_or-eq_default g.nodes no_node past))

-- so the places of all nodes are there
pub all_placed : (g : Graph) (s : Setting) (names : List FileName) (lists : List (List ℕ)) (n : ℕ) → length lists ≡ n → length g.nodes ≡ n → ((k : ℕ) → k < n → get_or lists k [] ≡ map (place_among names) (reads g s k)) → (t : ℕ) → get_or lists t [] ≡ map (place_among names) (reads g s t)
all_placed g s names lists n many all each t = elim (cases_lt t n) [
  | inl lt ↦ each t lt
  | inr ge ↦ get_or-eq_default lists [] (omega (arith, many)) ∙ none_read g s names t (omega (arith, all))
]
