-- Which fault says that there is no JSON value.
use Rattle.std.proofs.Common.{◌≡◌, ℕ, Bool, true, false, cond, List, [], ◌∷◌, map, Option, Some, None, Result, Ok, Err, refl, ap}
use Rattle.std.specs.Prelude.{⊤, ◌≢◌, ℤ, pos, option_and_then, ok_or}
use Rattle.std.specs.List.{list_all}
use Rattle.std.specs.Ordering.{int_eq}
use Rattle.serde_json.specs.Data.{Data}
use Rattle.serde_json.specs.Find.{get}
use Rattle.mk_json.specs.Kinds as json
use Rattle.mk_json.specs.Reading.{json_of}
use Rattle.mk_foot.specs.declared.fault.FootFault.{FootFault}
use Rattle.mk_foot.specs.declared.fault.FootFault.TheVariants.{NotJson, Shape, OtherFormat, BadName, TwoRecords, SourceIsFixed, NoGroup, NoList}
use Rattle.mk_foot.specs.declared.key.Key.{Key}
use Rattle.mk_foot.specs.declared.key.Key.TheVariants as keys
use Rattle.mk_foot.specs.declared.format.Format.{Format}
use Rattle.mk_foot.specs.declared.format.Format.TheVariants.{One, Two}
use Rattle.mk_foot.specs.Steps.{◌>>=◌, check_that, each, test_each}
use Rattle.mk_foot.specs.Fields.{texts_of, text_at, texts_at, elements_at, members_at, is_object, has_only, format_of, format_in}
use Rattle.mk_foot.specs.Keys.{spelling}
use Rattle.mk_foot.specs.Parts.{RawRecord, Group, FootprintFile}
use Rattle.mk_foot.specs.FootprintFile.{shared_in, entry_in, group_in, list_in, lists_in, first_format, second_format, in_format, footprints_in}
use Rattle.mk_foot.specs.Names.{is_prefix}
use Rattle.mk_foot.specs.Checks.{are_plain, entry_is_plain, goals_are_plain, group_is_plain, list_is_plain, names_are_plain, unless_found, targets_differ, sources_are_not_fixed, list_names, shared_lists_exist, check_all, group_for}
use Rattle.mk_foot.specs.Reading.{book_of, book_in, book_from}
use Rattle.mk_foot.specs.Laws.{OnlyTextWithoutValueIsNoJson}

-- a result is not that fault
abbrev Other : {A : Type 0} → Result A FootFault → Type 0
Other r = r ≢ Err NotJson

other_ok : {A : Type 0} (x : A) → Other (Ok x)
other_ok x e = cc

other_then : {A B : Type 0} (r : Result A FootFault) (f : A → Result B FootFault) → Other r → ((x : A) → Other (f x)) → Other (r >>= f)
other_then (Ok x) f h k e = k x e
other_then {A} (Err fault) f h k e = let same : fault ≡ NotJson = cc e in h (ap (λ z. Err z) same)

other_or : {A : Type 0} (fault : FootFault) (o : Option A) → fault ≢ NotJson → Other (ok_or o fault)
other_or fault (Some x) h e = cc
other_or {A} fault None h e = let same : fault ≡ NotJson = cc e in h same

other_unless : (fault : FootFault) (b : Bool) → fault ≢ NotJson → Other (check_that fault b)
other_unless fault true h e = cc
other_unless fault false h e = let same : fault ≡ NotJson = cc e in h same

other_each : {A B : Type 0} (f : A → Result B FootFault) (xs : List A) → ((x : A) → Other (f x)) → Other (each f xs)
unfolding each
other_each f [] h = other_ok []
other_each f (x ∷ xs) h = other_then (f x) _ (h x) (λ y. other_then (each f xs) _ (other_each f xs h) (λ ys. other_ok (y ∷ ys)))

other_tests : {A : Type 0} (test : A → Result ⊤ FootFault) (xs : List A) → ((x : A) → Other (test x)) → Other (test_each test xs)
unfolding test_each
other_tests test [] h = other_ok tt
other_tests test (x ∷ xs) h = other_then (test x) _ (h x) (λ _. other_tests test xs h)

shape : (key : Key) → Shape key ≢ NotJson
shape key e = cc

texts_other : (key : Key) (value : Data) → Other (texts_of key value)
texts_other key value = other_or (Shape key) (json.texts_of value) (shape key)

text_at_other : (key : Key) (value : Data) → Other (text_at key value)
unfolding text_at
text_at_other key value = other_or (Shape key) (json.text_at (spelling key) value) (shape key)

texts_at_other : (key : Key) (value : Data) → Other (texts_at key value)
unfolding texts_at
texts_at_other key value = other_or (Shape key) (json.texts_at (spelling key) value) (shape key)

elements_at_other : (key : Key) (value : Data) → Other (elements_at key value)
unfolding elements_at
elements_at_other key value = other_or (Shape key) (json.elements_at (spelling key) value) (shape key)

members_at_other : (key : Key) (value : Data) → Other (members_at key value)
unfolding members_at
members_at_other key value = other_or (Shape key) (option_and_then json.pairs_of (get (spelling key) value)) (shape key)

object_other : (key : Key) (value : Data) → Other (is_object key value)
object_other key value = other_unless (Shape key) _ (shape key)

only_other : (known : List Key) (value : Data) → Other (has_only known value)
only_other known value = other_unless (Shape keys.Unknown) (json.has_only (map spelling known) value) (shape keys.Unknown)

format_other : (number : ℤ) → Other (format_of number)
format_other number e = chosen (int_eq number (pos 1)) (int_eq number (pos 2)) e
  where
    chosen : (a b : Bool) → Other (cond a (Ok One) (cond b (Ok Two) (Err OtherFormat)))
    chosen true b e = cc
    chosen false true e = cc
    chosen false false e = cc

format_in_other : (value : Data) → Other (format_in value)
unfolding format_in
format_in_other value = other_then (ok_or (json.integer_at (spelling keys.Format) value) (Shape keys.Format)) _ (other_or (Shape keys.Format) (json.integer_at (spelling keys.Format) value) (shape keys.Format)) format_other

shared_other : (format : Format) (value : Data) → Other (shared_in format value)
unfolding shared_in
shared_other One value = other_ok []
shared_other Two value = texts_at_other keys.Shared value

entry_other : (format : Format) (value : Data) → Other (entry_in format value)
unfolding entry_in
entry_other format value =
    other_then (is_object keys.Records value) _ (object_other keys.Records value) (λ _.
    other_then (text_at keys.Target value) _ (text_at_other keys.Target value) (λ target.
    other_then (texts_at keys.Commands value) _ (texts_at_other keys.Commands value) (λ commands.
    other_then (texts_at keys.Reads value) _ (texts_at_other keys.Reads value) (λ reads.
    other_then (texts_at keys.Writes value) _ (texts_at_other keys.Writes value) (λ writes.
    other_then (shared_in format value) _ (shared_other format value) (λ shared.
    other_then (has_only _ value) _ (only_other _ value) (λ _. other_ok _)))))))

group_other : (value : Data) → Other (group_in value)
unfolding group_in
group_other value =
    other_then (is_object keys.Groups value) _ (object_other keys.Groups value) (λ _.
    other_then (texts_at keys.Goals value) _ (texts_at_other keys.Goals value) (λ goals.
    other_then (elements_at keys.Records value) _ (elements_at_other keys.Records value) (λ records.
    other_then (has_only (keys.Goals ∷ keys.Records ∷ []) value) _ (only_other (keys.Goals ∷ keys.Records ∷ []) value) (λ _.
    other_then (each (entry_in Two) records) _ (other_each (entry_in Two) records (entry_other Two)) (λ entries. other_ok _)))))

list_other : (pair : List ℕ × Data) → Other (list_in pair)
unfolding list_in
list_other pair = other_then (texts_of keys.Lists pair.1) _ (texts_other keys.Lists pair.1) (λ names. other_ok _)

lists_other : (value : Data) → Other (lists_in value)
unfolding lists_in
lists_other value = other_then (members_at keys.Lists value) _ (members_at_other keys.Lists value) (λ members. other_each list_in members list_other)

first_other : (value : Data) → Other (first_format value)
unfolding first_format
first_other value =
    other_then (texts_at keys.Fixed value) _ (texts_at_other keys.Fixed value) (λ fixed.
    other_then (texts_at keys.Sources value) _ (texts_at_other keys.Sources value) (λ sources.
    other_then (elements_at keys.Records value) _ (elements_at_other keys.Records value) (λ records.
    other_then (has_only (keys.Format ∷ keys.Fixed ∷ keys.Sources ∷ keys.Records ∷ []) value) _ (only_other (keys.Format ∷ keys.Fixed ∷ keys.Sources ∷ keys.Records ∷ []) value) (λ _.
    other_then (each (entry_in One) records) _ (other_each (entry_in One) records (entry_other One)) (λ entries. other_ok _)))))

second_other : (value : Data) → Other (second_format value)
unfolding second_format
second_other value =
    other_then (texts_at keys.Fixed value) _ (texts_at_other keys.Fixed value) (λ fixed.
    other_then (texts_at keys.Sources value) _ (texts_at_other keys.Sources value) (λ sources.
    other_then (lists_in value) _ (lists_other value) (λ lists.
    other_then (elements_at keys.Groups value) _ (elements_at_other keys.Groups value) (λ values.
    other_then (has_only (keys.Format ∷ keys.Fixed ∷ keys.Sources ∷ keys.Lists ∷ keys.Groups ∷ []) value) _ (only_other (keys.Format ∷ keys.Fixed ∷ keys.Sources ∷ keys.Lists ∷ keys.Groups ∷ []) value) (λ _.
    other_then (each group_in values) _ (other_each group_in values group_other) (λ groups. other_ok _))))))

in_format_other : (format : Format) (value : Data) → Other (in_format format value)
in_format_other One value = first_other value
in_format_other Two value = second_other value

footprints_other : (value : Data) → Other (footprints_in value)
unfolding footprints_in
footprints_other value = other_then (is_object keys.Top value) _ (object_other keys.Top value) (λ _. other_then (format_in value) _ (format_in_other value) (λ format. in_format_other format value))

plain_other : (key : Key) (names : List (List ℕ)) → Other (are_plain key names)
plain_other key names = other_unless (BadName key) _ (λ e. cc e)

entry_plain_other : (entry : RawRecord) → Other (entry_is_plain entry)
unfolding entry_is_plain
entry_plain_other entry = other_then (are_plain keys.Target (entry.target ∷ [])) _ (plain_other keys.Target (entry.target ∷ [])) (λ _. other_then (are_plain keys.Reads entry.reads) _ (plain_other keys.Reads entry.reads) (λ _. plain_other keys.Writes entry.writes))

goals_other : (goals : Option (List (List ℕ))) → Other (goals_are_plain goals)
goals_other None = other_ok tt
goals_other (Some goals) = plain_other keys.Goals goals

group_plain_other : (group : Group) → Other (group_is_plain group)
unfolding group_is_plain
group_plain_other group = other_then (goals_are_plain group.goals) _ (goals_other group.goals) (λ _. other_tests entry_is_plain group.records entry_plain_other)

names_other : (file : FootprintFile) → Other (names_are_plain file)
unfolding names_are_plain
names_other file =
    other_then (check_that (BadName keys.Fixed) (list_all is_prefix file.fixed)) _ (other_unless (BadName keys.Fixed) _ (λ e. cc e)) (λ _.
    other_then (are_plain keys.Sources file.sources) _ (plain_other keys.Sources file.sources) (λ _.
    other_then (test_each list_is_plain file.lists) _ (other_tests list_is_plain file.lists (λ list. plain_other keys.Lists list.names)) (λ _.
    other_tests group_is_plain file.groups group_plain_other)))

found_other : (fault : List ℕ → FootFault) (o : Option (List ℕ)) → ((name : List ℕ) → fault name ≢ NotJson) → Other (unless_found fault o)
found_other fault None h e = cc e
found_other fault (Some name) h e = let same : fault name ≡ NotJson = cc e in h name same

tests_other : (file : FootprintFile) → Other (check_all file)
unfolding check_all
tests_other file =
    other_then (names_are_plain file) _ (names_other file) (λ _.
    other_then (test_each targets_differ file.groups) _ (other_tests targets_differ file.groups (λ group. found_other TwoRecords _ (λ name e. cc e))) (λ _.
    other_then (sources_are_not_fixed file) _ (found_other SourceIsFixed _ (λ name e. cc e)) (λ _.
    other_tests (shared_lists_exist (list_names file)) file.groups (λ group. other_unless NoList _ (λ e. cc e)))))

book_other : (goals : List (List ℕ)) (value : Data) → Other (book_in goals value)
unfolding book_in
book_other goals value =
    other_then (footprints_in value) _ (footprints_other value) (λ file.
    other_then (check_all file) _ (tests_other file) (λ _.
    other_then (group_for goals file.groups) _ (other_or NoGroup _ (λ e. cc e)) (λ group. other_ok (book_of file group))))

no_value : (goals : List (List ℕ)) (o : Option Data) → (ok_or o NotJson >>= book_in goals) ≡ Err NotJson → o ≡ None
no_value goals None e = refl
no_value goals (Some value) e = absurd (book_other goals value e)

pub only_text_without_value_is_no_json : OnlyTextWithoutValueIsNoJson
unfolding book_from
only_text_without_value_is_no_json goals bytes = (no_value goals (json_of bytes), λ e. ap (λ (o : Option Data). ok_or o NotJson >>= book_in goals) e)
