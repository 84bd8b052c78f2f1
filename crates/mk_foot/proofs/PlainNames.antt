-- What is read has plain paths for names.
use Rattle.std.proofs.Common.{◌≡◌, ℕ, Bool, true, false, not, cond, List, [], ◌∷◌, ◌++◌, map, Some, Result, Ok, Err, refl, sym, subst, ◌∙◌}
use Rattle.std.specs.Prelude.{⊤, filter, find, ok_or}
use Rattle.std.specs.List.{list_all, flat_map}
use Rattle.std.specs.Str.{bytes_eq}
use Rattle.std.proofs.lemmas.Bool.{and_parts, and_from}
use Rattle.std.proofs.lemmas.List.Folds.{list_all-append}
use Rattle.serde_json.specs.Data.{Data}
use Rattle.mk_json.specs.Reading.{json_of}
use Rattle.mk_lines.specs.Paths.{is_plain_path}
use Rattle.mk_foot.specs.declared.fault.FootFault.{FootFault}
use Rattle.mk_foot.specs.declared.fault.FootFault.TheVariants.{BadName, NoGroup, NotJson}
use Rattle.mk_foot.specs.declared.key.Key.TheVariants as keys
use Rattle.mk_foot.specs.Book.{Book}
use Rattle.mk_foot.specs.Checks.{are_plain, entry_is_plain, goals_are_plain, group_is_plain, list_is_plain, names_are_plain, check_all, targets_differ, sources_are_not_fixed, shared_lists_exist, list_names, serves, group_for}
use Rattle.mk_foot.specs.FootprintFile.{footprints_in}
use Rattle.mk_foot.specs.Laws.{names_of_record, names_of, NamesReadArePlain}
use Rattle.mk_foot.specs.Names.{once, is_prefix}
use Rattle.mk_foot.specs.Parts.{RawRecord, Group, SharedList, FootprintFile}
use Rattle.mk_foot.specs.Reading.{listed, record_of, book_of, book_in, book_from}
use Rattle.mk_foot.specs.Steps.{◌>>=◌, check_that, test_each}

abbrev ArePlain : List (List ℕ) → Type 0
ArePlain names = list_all is_plain_path names ≡ true

-- the steps of a result
bind_ok : {A B : Type 0} (r : Result A FootFault) (f : A → Result B FootFault) (y : B) → (r >>= f) ≡ Ok y → (x : A) × (r ≡ Ok x) × (f x ≡ Ok y)
bind_ok (Ok x) f y e = (x, refl, e)
bind_ok (Err fault) f y e = absurd cc

-- a test that was passed
passed : (fault : FootFault) (b : Bool) (done : ⊤) → check_that fault b ≡ Ok done → b ≡ true
passed fault true done e = refl
passed fault false done e = absurd cc

each_passed : {A : Type 0} (p : A → Bool) (test : A → Result ⊤ FootFault) → ((x : A) (done : ⊤) → test x ≡ Ok done → p x ≡ true) → (xs : List A) (done : ⊤) → test_each test xs ≡ Ok done → list_all p xs ≡ true
unfolding test_each
each_passed p test h [] done e = refl
each_passed p test h (x ∷ xs) done e =
    let first = bind_ok (test x) (λ _. test_each test xs) done e in
    and_from (p x) (list_all p xs) (h x first.0 first.1) (each_passed p test h xs done first.2)

-- both parts of two lists
both_plain : (names others : List (List ℕ)) → ArePlain names → ArePlain others → ArePlain (names ++ others)
both_plain names others a b = list_all-append is_plain_path names others ∙ and_from (list_all is_plain_path names) (list_all is_plain_path others) a b

flat_plain : {A : Type 0} (names : A → List (List ℕ)) (xs : List A) → list_all (λ x. list_all is_plain_path (names x)) xs ≡ true → ArePlain (flat_map names xs)
flat_plain names [] h = refl
flat_plain names (x ∷ xs) h =
    let p = and_parts (list_all is_plain_path (names x)) (list_all (λ y. list_all is_plain_path (names y)) xs) h in
    both_plain (names x) (flat_map names xs) p.0 (flat_plain names xs p.1)

-- fewer names
fewer_plain : (test : List ℕ → Bool) (names : List (List ℕ)) → ArePlain names → ArePlain (filter test names)
fewer_plain test [] h = refl
fewer_plain test (name ∷ names) h = at (test name) (fewer_plain test names p.1)
  where
    p : (is_plain_path name ≡ true) × ArePlain names
    p = and_parts (is_plain_path name) (list_all is_plain_path names) h

    at : (b : Bool) → ArePlain (filter test names) → ArePlain (cond b (name ∷ filter test names) (filter test names))
    at true rest = and_from (is_plain_path name) (list_all is_plain_path (filter test names)) p.0 rest
    at false rest = rest

once_plain : (names : List (List ℕ)) → ArePlain names → ArePlain (once names)
once_plain [] h = refl
once_plain (name ∷ names) h =
    let p = and_parts (is_plain_path name) (list_all is_plain_path names) h in
    let rest = filter (λ other. not (bytes_eq name other)) (once names) in
    and_from (is_plain_path name) (list_all is_plain_path rest) p.0 (fewer_plain (λ other. not (bytes_eq name other)) (once names) (once_plain names p.1))

-- ---- what the tests say

-- the names in an entry
abbrev names_of_entry : RawRecord → List (List ℕ)
names_of_entry entry = entry.target ∷ (entry.reads ++ entry.writes)

abbrev is_plain_entry : RawRecord → Bool
is_plain_entry entry = list_all is_plain_path (names_of_entry entry)

abbrev is_plain_list : SharedList → Bool
is_plain_list list = list_all is_plain_path list.names

entry_plain : (entry : RawRecord) (done : ⊤) → entry_is_plain entry ≡ Ok done → is_plain_entry entry ≡ true
unfolding entry_is_plain
entry_plain entry done e =
    let first = bind_ok (are_plain keys.Target (entry.target ∷ [])) (λ _. are_plain keys.Reads entry.reads >>= λ _. are_plain keys.Writes entry.writes) done e in
    let second = bind_ok (are_plain keys.Reads entry.reads) (λ _. are_plain keys.Writes entry.writes) done first.2 in
    let target = passed (BadName keys.Target) (list_all is_plain_path (entry.target ∷ [])) first.0 first.1 in
    let reads = passed (BadName keys.Reads) (list_all is_plain_path entry.reads) second.0 second.1 in
    let writes = passed (BadName keys.Writes) (list_all is_plain_path entry.writes) done second.2 in
    and_from (is_plain_path entry.target) (list_all is_plain_path (entry.reads ++ entry.writes)) (and_parts (is_plain_path entry.target) true target).0 (both_plain entry.reads entry.writes reads writes)

group_plain : (group : Group) (done : ⊤) → group_is_plain group ≡ Ok done → list_all is_plain_entry group.records ≡ true
unfolding group_is_plain
group_plain group done e =
    let first = bind_ok (goals_are_plain group.goals) (λ _. test_each entry_is_plain group.records) done e in
    each_passed is_plain_entry entry_is_plain entry_plain group.records done first.2

list_plain : (list : SharedList) (done : ⊤) → list_is_plain list ≡ Ok done → is_plain_list list ≡ true
list_plain list done e = passed (BadName keys.Lists) (list_all is_plain_path list.names) done e

abbrev is_plain_group : Group → Bool
is_plain_group group = list_all is_plain_entry group.records

-- the parts of a file that passed all tests
record Tested (file : FootprintFile) : Type 0 where
  sources : ArePlain file.sources
  lists : list_all is_plain_list file.lists ≡ true
  groups : list_all is_plain_group file.groups ≡ true

names_tested : (file : FootprintFile) (done : ⊤) → names_are_plain file ≡ Ok done → Tested file
unfolding names_are_plain
names_tested file done e =
    let first = bind_ok (check_that (BadName keys.Fixed) (list_all is_prefix file.fixed)) (λ _. are_plain keys.Sources file.sources >>= λ _. test_each list_is_plain file.lists >>= λ _. test_each group_is_plain file.groups) done e in
    let second = bind_ok (are_plain keys.Sources file.sources) (λ _. test_each list_is_plain file.lists >>= λ _. test_each group_is_plain file.groups) done first.2 in
    let third = bind_ok (test_each list_is_plain file.lists) (λ _. test_each group_is_plain file.groups) done second.2 in
    record {
      sources = passed (BadName keys.Sources) (list_all is_plain_path file.sources) second.0 second.1;
      lists = each_passed is_plain_list list_is_plain list_plain file.lists third.0 third.1;
      groups = each_passed is_plain_group group_is_plain group_plain file.groups done third.2;
    }

tested : (file : FootprintFile) (done : ⊤) → check_all file ≡ Ok done → Tested file
unfolding check_all
tested file done e =
    let first = bind_ok (names_are_plain file) (λ _. test_each targets_differ file.groups >>= λ _. sources_are_not_fixed file >>= λ _. test_each (shared_lists_exist (list_names file)) file.groups) done e in
    names_tested file first.0 first.1

-- ---- the book

listed_plain : (lists : List SharedList) (name : List ℕ) → list_all is_plain_list lists ≡ true → ArePlain (listed lists name)
listed_plain [] name h = refl
listed_plain (list ∷ lists) name h =
    let p = and_parts (is_plain_list list) (list_all is_plain_list lists) h in
    at (bytes_eq name list.name) p.0 (listed_plain lists name p.1)
  where
    at : (b : Bool) → ArePlain list.names → ArePlain (listed lists name) → ArePlain (cond b list.names (listed lists name))
    at true own rest = own
    at false own rest = rest

shared_plain : (lists : List SharedList) (names : List (List ℕ)) → list_all is_plain_list lists ≡ true → ArePlain (flat_map (listed lists) names)
shared_plain lists [] h = refl
shared_plain lists (name ∷ names) h = both_plain (listed lists name) (flat_map (listed lists) names) (listed_plain lists name h) (shared_plain lists names h)

record_plain : (lists : List SharedList) (entry : RawRecord) → list_all is_plain_list lists ≡ true → is_plain_entry entry ≡ true → ArePlain (names_of_record (record_of lists entry))
record_plain lists entry h plain =
    let target = and_parts (is_plain_path entry.target) (list_all is_plain_path (entry.reads ++ entry.writes)) plain in
    let own = and_parts (list_all is_plain_path entry.reads) (list_all is_plain_path entry.writes) (sym (list_all-append is_plain_path entry.reads entry.writes) ∙ target.1) in
    let all = entry.reads ++ flat_map (listed lists) entry.shared in
    let reads = once_plain all (both_plain entry.reads (flat_map (listed lists) entry.shared) own.0 (shared_plain lists entry.shared h)) in
    and_from (is_plain_path entry.target) (list_all is_plain_path (once all ++ once entry.writes)) target.0 (both_plain (once all) (once entry.writes) reads (once_plain entry.writes own.1))

records_plain : (lists : List SharedList) (entries : List RawRecord) → list_all is_plain_list lists ≡ true → list_all is_plain_entry entries ≡ true → ArePlain (flat_map names_of_record (map (record_of lists) entries))
records_plain lists [] h all = refl
records_plain lists (entry ∷ entries) h all =
    let p = and_parts (is_plain_entry entry) (list_all is_plain_entry entries) all in
    both_plain (names_of_record (record_of lists entry)) (flat_map names_of_record (map (record_of lists) entries)) (record_plain lists entry h p.0) (records_plain lists entries h p.1)

book_plain : (file : FootprintFile) (group : Group) → Tested file → is_plain_group group ≡ true → ArePlain (names_of (book_of file group))
book_plain file group t plain = both_plain (once file.sources) (flat_map names_of_record (map (record_of file.lists) group.records)) (once_plain file.sources t.sources) (records_plain file.lists group.records t.lists plain)

-- the group that is found is one of them
found_plain : (goals : List (List ℕ)) (groups : List Group) (group : Group) → list_all is_plain_group groups ≡ true → group_for goals groups ≡ Ok group → is_plain_group group ≡ true
found_plain goals [] group all e = absurd cc
found_plain goals (one ∷ groups) group all e =
    let p = and_parts (is_plain_group one) (list_all is_plain_group groups) all in
    at (serves goals one.goals) p.0 (found_plain goals groups group p.1) e
  where
    at : (b : Bool) → is_plain_group one ≡ true → (group_for goals groups ≡ Ok group → is_plain_group group ≡ true) → ok_or (cond b (Some one) (find (λ (other : Group). serves goals other.goals) groups)) NoGroup ≡ Ok group → is_plain_group group ≡ true
    at true own rest is = let same : one ≡ group = cc in subst (λ g. is_plain_group g ≡ true) same own
    at false own rest is = rest is

in_plain : (goals : List (List ℕ)) (value : Data) (book : Book) → book_in goals value ≡ Ok book → ArePlain (names_of book)
unfolding book_in
in_plain goals value book e =
    let first = bind_ok (footprints_in value) (λ file. check_all file >>= λ _. group_for goals file.groups >>= λ group. Ok (book_of file group)) book e in
    let file : FootprintFile = first.0 in
    let second = bind_ok (check_all file) (λ _. group_for goals file.groups >>= λ group. Ok (book_of file group)) book first.2 in
    let third = bind_ok (group_for goals file.groups) (λ group. Ok (book_of file group)) book second.2 in
    let t = tested file second.0 second.1 in
    let same : book_of file third.0 ≡ book = cc in
    subst (λ b. ArePlain (names_of b)) same (book_plain file third.0 t (found_plain goals file.groups third.0 t.groups third.1))

pub names_read_are_plain : NamesReadArePlain
unfolding book_from
names_read_are_plain goals bytes book e =
    let first = bind_ok (ok_or (json_of bytes) NotJson) (book_in goals) book e in
    in_plain goals first.0 book first.2
