-- Entries of certificates: there is one for each read, and none is longer than a path.
use Rattle.std.proofs.Common.{◌≡◌, ℕ, List, [], ◌∷◌, length, map, inl, inr, refl, sym, ◌∙◌, ap, subst, arith}
use Rattle.std.proofs.lemmas.List.{length-map}
use Rattle.mk_graph.proofs.Nodes.{recipe_is_node}
use Rattle.mk_build.specs.BuildLaws.{NamesHaveOneNumber}
use Rattle.mk_graph.specs.Membership.{Has}
use Rattle.mk_graph_search.specs.Ways.{along}
use Rattle.mk_cert_text.specs.Certificate.{Way}
use Rattle.mk_subject.specs.Subject.{Subject, name_of}
use Rattle.mk_subject.specs.Reads.{Read}
use Rattle.mk_find.specs.Certifying.{IsEntryFor, AreEntriesFor, nothing, entry, none, reads_once, ReadNeedsWay}
use Rattle.mk_find.specs.FirstPaths.{IsPathOver}
use Rattle.mk_find.specs.WayLaws.{FirstPathIsOne, FirstPathIsShortest, CertificateIsOne, CertificateIsShortest, EntriesAreShortest}
use Rattle.mk_find.proofs.ReadsOnce.{reader_is_recipe}
use Rattle.mk_find.proofs.Turned.{length_turned}

-- there is one entry for a read
one_entry : FirstPathIsOne → (x : Subject) (r : Read) (v w : Way) → IsEntryFor x r v → IsEntryFor x r w → v ≡ w
one_entry one x r v w a b =
    let same = one x r.file r.recipe a.first.way b.first.way v.finish w.finish a.first.first b.first.first in
    let nodes : a.nodes ≡ b.nodes = a.first.goes ∙ (ap (λ (way : List ℕ). along r.recipe way) same.0 ∙ sym b.first.goes) in
    let recipe : v.recipe ≡ w.recipe = a.same_recipe ∙ sym b.same_recipe in
    let file : v.file ≡ w.file = a.same_file ∙ sym b.same_file in
    let path : v.path ≡ w.path = a.same_path ∙ (ap (λ (ns : List ℕ). map (name_of x) ns) nodes ∙ sym b.same_path) in
    (λ i. record { recipe = recipe i; file = file i; path = path i; finish = same.1 i })

-- there is one list of entries for reads
one_list : FirstPathIsOne → (x : Subject) (reads : List Read) (a b : List Way) → AreEntriesFor x reads a → AreEntriesFor x reads b → a ≡ b
one_list one x [] a b nothing nothing = refl
one_list one x (r ∷ reads) a b (entry {w = v} {ways = vs} needs is more) (entry {w} {ways = ws} other_needs other_is other_more) =
    let here = one_entry one x r v w is other_is in
    let rest = one_list one x reads vs ws more other_more in
    (λ i. here i ∷ rest i)
one_list one x (r ∷ reads) a b (entry needs is more) (none out other_more) = absurd (out needs)
one_list one x (r ∷ reads) a b (none out more) (entry needs is other_more) = absurd (out needs)
one_list one x (r ∷ reads) a b (none out more) (none other_out other_more) = one_list one x reads a b more other_more

-- there is one certificate
pub certificate_is_one : FirstPathIsOne → CertificateIsOne
certificate_is_one one x a b is other =
    let goals : a.goals ≡ b.goals = is.goals ∙ sym other.goals in
    let ways = one_list one x (reads_once x) a.ways b.ways is.ways other.ways in
    (λ i. record { goals = goals i; ways = ways i })

-- no path for a read is shorter than that of its entry
pub entries_are_shortest : FirstPathIsShortest → EntriesAreShortest
entries_are_shortest shortest x r w is others finish path =
    let less = shortest x r.file r.recipe is.first.way w.finish is.first.first others finish path in
    let long : length w.path ≡ length (along r.recipe is.first.way) = ap length is.same_path ∙ (length-map is.nodes (name_of x) ∙ ap length is.first.goes) in
    let turned = length_turned is.first.way in
    omega arith

-- an entry is for one of the reads, which needs a way
entry_of : (x : Subject) (reads : List Read) (ways : List Way) → AreEntriesFor x reads ways → (w : Way) → Has ways w → (r : Read) × ReadNeedsWay x r × IsEntryFor x r w
entry_of x [] ways nothing w h = absurd h
entry_of x (r ∷ reads) ways (entry needs is more) w (inl here) = (r, needs, subst (λ (k : Way). IsEntryFor x r k) here is)
entry_of x (r ∷ reads) ways (entry {ways = others} needs is more) w (inr there) = entry_of x reads others more w there
entry_of x (r ∷ reads) ways (none out more) w h = entry_of x reads ways more w h

-- no way is shorter than the certificate's
pub certificate_is_shortest : NamesHaveOneNumber → EntriesAreShortest → CertificateIsShortest
certificate_is_shortest one shortest x c is certified w stands t recipe named finish others path =
    let found = entry_of x (reads_once x) c.ways certified.ways w stands in
    let r = found.0 in
    let reader = reader_is_recipe x r.recipe r.file found.1.0 in
    let same : t ≡ r.recipe = one x.graph is.sound w.recipe t r.recipe (recipe_is_node x.graph t recipe, named) (recipe_is_node x.graph r.recipe reader, sym found.2.same_recipe) in
    let from : IsPathOver x w.file finish r.recipe others = subst (λ (n : ℕ). IsPathOver x w.file finish n others) same path in
    let to : IsPathOver x r.file finish r.recipe others = subst (λ (f : List ℕ). IsPathOver x f finish r.recipe others) found.2.same_file from in
    shortest x r w found.2 others finish to
