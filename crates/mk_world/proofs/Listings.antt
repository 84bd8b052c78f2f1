-- How files are listed one after another.
use Rattle.std.proofs.Common.{◌≡◌, ℕ, ◌+◌, ◌<◌, Bor, List, [], ◌∷◌, ◌++◌, Option, Some, None, option_map, map, length, get_or, drop, refl, subst, sym, ap, ◌∙◌}
use Rattle.std.specs.declared.cmp.Ordering.TheVariants.{Less}
use Rattle.std.specs.Ordering.{nat_cmp}
use Rattle.std.specs.Cmp.Lexicographic.{slice_cmp}
use Rattle.std.specs.List.Sorted.{IsStrictlySortedBy}
use Rattle.std.specs.List.{AllByRecursion}
use Rattle.std.proofs.lemmas.List.{append_assoc}
use Rattle.mk_lemmas.proofs.Texts.{texts}
use Rattle.mk_build.specs.Setting.{FileName}
use Rattle.mk_world.specs.declared.file.Listed.{Listed}
use Rattle.mk_world.specs.declared.file.File.{File}
use Rattle.mk_world.specs.First.{AreSorted}
use Rattle.mk_world.specs.State.{DiskState}
use Rattle.mk_world.specs.Tables.{look}
use Rattle.mk_world.proofs.FirstDisk.{rest_is}
use Rattle.mk_world.specs.Listing.{before, there_among, entry, listing, listed_as}

-- a name that isn't there
pub list_pass : (at : FileName → Option Listed) (f : FileName) (texts rest : List FileName) (old all : List Listed) → texts ≡ f ∷ rest → at f ≡ None → old ++ there_among at texts ≡ all → old ++ there_among at rest ≡ all
list_pass at f texts rest old all is none so_far = ap (λ o. old ++ before o (there_among at rest)) (sym none) ∙ (ap (λ t. old ++ there_among at t) (sym is) ∙ so_far)

-- one that is
list_take : (at : FileName → Option Listed) (f : FileName) (texts rest : List FileName) (old new all : List Listed) (x : Listed) → texts ≡ f ∷ rest → at f ≡ Some x → new ≡ old ++ x ∷ [] → old ++ there_among at texts ≡ all → new ++ there_among at rest ≡ all
list_take at f texts rest old new all x is found e so_far = ap (λ l. l ++ there_among at rest) e ∙ (append_assoc old (x ∷ []) (there_among at rest) ∙ (ap (λ o. old ++ before o (there_among at rest)) (sym found) ∙ (ap (λ t. old ++ there_among at t) (sym is) ∙ so_far)))

pub one_listed : (d : DiskState) (names : List (Bor FileName)) (i : ℕ) (z : Bor FileName)
    (name copy : FileName) (values : List (Option File)) (file : File) (old new all : List Listed)
    → i < length names → name ≡ (get_or names i z).now → values ≡ d.files → Some file
    ≡ look d.names values name → copy ≡ name
    → new ≡ old ++ listed_as copy file ∷ [] → old ++ there_among (entry d) (texts (drop i names)) ≡ all → new ++ there_among (entry d) (texts (drop (i + 1) names)) ≡ all
one_listed d names i z name copy values file old new all lt is same found copied e so_far =
    let known : entry d name ≡ Some (listed_as copy file) = ap (λ vs. option_map (listed_as name) (look d.names vs name)) (sym same) ∙ (ap (option_map (listed_as name)) (sym found) ∙ ap (λ n. Some (listed_as n file)) (sym copied)) in
    list_take (entry d) name _ _ old new all (listed_as copy file) (rest_is (λ (t : Bor FileName). t.now) names i z name lt is) known e so_far

-- each is listed by its own name
Names : (FileName → Option Listed) → Type 0
Names at = (f : FileName) (x : Listed) → at f ≡ Some x → x.name ≡ f

names_of : List Listed → List FileName
names_of listed = map (λ (x : Listed). x.name) listed

all_there : (at : FileName → Option Listed) → Names at → (f : FileName) (names : List FileName) → AllByRecursion (λ y. slice_cmp nat_cmp f y ≡ Less) names → AllByRecursion (λ y. slice_cmp nat_cmp f y ≡ Less) (names_of (there_among at names))
unfolding Names names_of
all_there at own f [] h = h
all_there at own f (y ∷ names) h = cases (at y) refl (all_there at own f names h.1)
  where
    cases : (o : Option Listed) → at y ≡ o → AllByRecursion (λ y. slice_cmp nat_cmp f y ≡ Less) (map (λ (x : Listed). x.name) (there_among at names)) → AllByRecursion (λ y. slice_cmp nat_cmp f y ≡ Less) (map (λ (x : Listed). x.name) (before o (there_among at names)))
    cases None e ih = ih
    cases (Some x) e ih = (subst (λ (k : FileName). slice_cmp nat_cmp f k ≡ Less) (sym (own y x e)) h.0, ih)

there_sorted : (at : FileName → Option Listed) → Names at → (names : List FileName) → AreSorted names → AreSorted (names_of (there_among at names))
unfolding Names names_of IsStrictlySortedBy
there_sorted at own [] h = h
there_sorted at own (y ∷ names) h = cases (at y) refl (there_sorted at own names h.1) (all_there at own y names h.0)
  where
    cases : (o : Option Listed) → at y ≡ o → AreSorted (map (λ (x : Listed). x.name) (there_among at names)) → AllByRecursion (λ z. slice_cmp nat_cmp y z ≡ Less) (map (λ (x : Listed). x.name) (there_among at names)) → AreSorted (map (λ (x : Listed). x.name) (before o (there_among at names)))
    cases None e ih all = ih
    cases (Some x) e ih all = (subst (λ (k : FileName). AllByRecursion (λ z. slice_cmp nat_cmp k z ≡ Less) (map (λ (x : Listed). x.name) (there_among at names))) (sym (own y x e)) all, ih)

-- the files of a disk ascend by their names
pub listing_sorted : (d : DiskState) → AreSorted d.names → AreSorted (map (λ (x : Listed). x.name) (listing d))
unfolding Names names_of
listing_sorted d h = there_sorted (entry d) (λ f x e. own f (look d.names d.files f) x e) d.names h
  where
    own : (f : FileName) (o : Option File) (x : Listed) → option_map (listed_as f) o ≡ Some x → x.name ≡ f
    own f None x e = absurd cc
    own f (Some file) x e = let is : listed_as f file ≡ x = cc in ap (λ (k : Listed). k.name) (sym is)
