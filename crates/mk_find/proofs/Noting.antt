-- Whether a read is stale, by the paths that lead to the file.
use Rattle.std.proofs.Common.{◌≡◌, ◌<◌, ℕ, arith, map, String, Global, true, false, cond, List, [], length, Option, Some, None, MatchOption, is_some, Bool, ap, refl, sym, subst, ◌∙◌}
use Rattle.std.specs.String.{string_bytes}
use Rattle.std.proofs.lemmas.List.{length-map}
use Rattle.std.proofs.lemmas.Bool.{false≢true}
use Rattle.mk_subject.proofs.Entries.{same_reads}
use Rattle.mk_graph.proofs.Nodes.{recipe_is_node}
use Rattle.mk_lines.specs.Names.{once}
use Rattle.mk_foot.specs.Setting as foot
use Rattle.mk_graph.specs.Graph.{IsGraph, node}
use Rattle.mk_graph.specs.Membership.{Has}
use Rattle.mk_build.specs.Ways.{CanChange}
use Rattle.mk_cert_text.specs.declared.certificate.Finish.{Finish}
use Rattle.mk_find.specs.Candidates.{static_candidates}
use Rattle.mk_find.specs.Conditions.{IsStale}
use Rattle.mk_subject.specs.NodeRow.{NodeRow, IsRow, reads_in, row_reads}
use Rattle.mk_find.specs.FindingLaws.{NothingFoundIsSound}
use Rattle.mk_subject.specs.Laws.{PathsAreWays}
use Rattle.mk_find.specs.Listing.{Lists}
use Rattle.mk_subject.specs.Subject.{Subject, IsSubject, footprints, reads_of, writes_of}
use Rattle.mk_find.specs.declared.first_path.FirstPath.{FirstPath}
use Rattle.mk_find.specs.FirstPaths.{IsAlongFirstPath, HasNoPath}
use Rattle.mk_find.proofs.ReadsOnce.{reader_is_recipe}

-- and no file twice
pub reads_distinct : (x : Subject) (e : NodeRow) → IsRow x e → once (reads_of x e.number) ≡ reads_of x e.number
reads_distinct x e is = subst (λ (files : List (List ℕ)). once files ≡ files) (same_reads x e is) (by e.node.recipe)
  where
    by : (b : Bool) → once (cond b (reads_in e.recorded) []) ≡ cond b (reads_in e.recorded) []
    by true = is.distinct
    by false = refl

-- as many files as the recipe reads
pub count_is : (x : Subject) (e : NodeRow) (files : List (String Global)) → IsRow x e → map string_bytes files ≡ row_reads e → length files ≡ length (reads_of x e.number)
count_is x e files is same = sym (length-map files string_bytes) ∙ ap (λ (l : List (List ℕ)). length l) (same ∙ same_reads x e is)

-- a place of theirs is one of the record's files
pub place_is : (e : NodeRow) (files : List (String Global)) (i : ℕ) → map string_bytes files ≡ row_reads e → i < length files → i < length (row_reads e)
place_is e files i same lt = omega (arith, length-map files string_bytes, ap (λ (l : List (List ℕ)). length l) same)

-- who reads is a node
pub reader_is_node : (x : Subject) (t : ℕ) (f : List ℕ) → Has (reads_of x t) f → t < length x.graph.nodes
reader_is_node x t f h = recipe_is_node x.graph t (reader_is_recipe x t f h)

-- it doesn't write what it reads
pub reader_writes_not : NothingFoundIsSound → (x : Subject) → IsGraph x.graph → IsSubject x → Lists x (static_candidates x) [] → (t : ℕ) (f : List ℕ) → Has (reads_of x t) f → ¬ (Has (writes_of x t) f)
reader_writes_not sound x graph is none t f h = (sound x graph is none).not_own t f h

-- a path leads to the file, so it isn't stale
pub path_not_stale : PathsAreWays → (x : Subject) (f : List ℕ) (t : ℕ) (nodes : List ℕ) (finish : Finish) → IsAlongFirstPath x f t nodes finish → ¬ (IsStale x t f)
path_not_stale ways x f t nodes finish goes is = is.2 ((ways x.graph (footprints x.setting) f t).1 (finish, _, goes.first.path))

-- none does, so it is
pub no_path_stale : PathsAreWays → (x : Subject) (f : List ℕ) (t : ℕ) → Has (reads_of x t) f → CanChange (footprints x.setting) f → HasNoPath x f t → IsStale x t f
no_path_stale ways x f t reads can none = (reads, can, λ way. let path = (ways x.graph (footprints x.setting) f t).0 way in none path.0 path.1 path.2)

-- the same of what a search has answered
pub some_not_stale : PathsAreWays → (x : Subject) (f : List ℕ) (t : ℕ) (o : Option FirstPath) → MatchOption o (HasNoPath x f t) (λ p. IsAlongFirstPath x f t p.nodes.items p.finish) → is_some o ≡ true → ¬ (IsStale x t f)
some_not_stale ways x f t None m e = absurd (false≢true e)
some_not_stale ways x f t (Some p) m e = path_not_stale ways x f t p.nodes.items p.finish m

pub none_is_none : (x : Subject) (f : List ℕ) (t : ℕ) (o : Option FirstPath) → MatchOption o (HasNoPath x f t) (λ p. IsAlongFirstPath x f t p.nodes.items p.finish) → is_some o ≡ false → HasNoPath x f t
none_is_none x f t None m e = m
none_is_none x f t (Some p) m e = absurd (false≢true (sym e))
