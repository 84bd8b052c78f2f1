-- Parts where a member is put.
use Rattle.std.proofs.Common.{◌≡◌, ℕ, true, false, List, [], ◌∷◌, map, codes, Option, Some, Result, bytes_eq, String, Vec, Global, string_bytes, refl, sym, ap, ◌∙◌, subst}
use Rattle.std.specs.Prelude.{option_and_then, ok_or}
use Rattle.std.proofs.lemmas.Slice.Eq.{bytes_eq-Decides}
use Rattle.mk_lemmas.proofs.Texts.{bytes_eq-differ, differ-sym}
use Rattle.mk_lines.specs.Names.{has_name}
use Rattle.serde_json.specs.Data.{Data, object, Members, put}
use Rattle.serde_json.specs.Find.{get, as_str, as_number, as_integer}
use Rattle.mk_json.specs.Kinds as json
use Rattle.mk_json.specs.Laws.{LastValueCounts}
use Rattle.mk_foot.specs.declared.fault.FootFault.{FootFault}
use Rattle.mk_foot.specs.declared.fault.FootFault.TheVariants.{Shape}
use Rattle.mk_foot.specs.declared.format.Format.{Format}
use Rattle.mk_foot.specs.declared.format.Format.TheVariants.{One, Two}
use Rattle.mk_foot.specs.declared.groups.GroupParts.{GroupParts}
use Rattle.mk_foot.specs.declared.key.Key.{Key}
use Rattle.mk_foot.specs.declared.key.Key.TheVariants as keys
use Rattle.mk_foot.specs.declared.records.EntryParts.{EntryParts}
use Rattle.mk_foot.specs.declared.shapes.Parts.{Parts}
use Rattle.mk_foot.specs.FootprintFile.{entry_keys, shared_in, entry_in, group_in, list_in, lists_in}
use Rattle.mk_foot.specs.Keys.{spelling}
use Rattle.mk_foot.specs.Fields.{texts_of, text_at, texts_at, elements_at, members_at, format_of, format_in}
use Rattle.mk_foot.specs.Parts.{RawRecord, Group, SharedList}
use Rattle.mk_foot.specs.ReaderParts.{text_of, format_from, lists_from, GivesTexts, AreEach, IsOfEntry, IsOfGroup, IsOf, first_keys, second_keys}
use Rattle.mk_foot.specs.Steps.{◌>>=◌, Gives, each}
use Rattle.mk_foot.proofs.Read.{moved}

texts_moved : (texts : Result (Vec (String Global) Global) FootFault) (old new : Result (List (List ℕ)) FootFault) → GivesTexts texts old → new ≡ old → GivesTexts texts new
texts_moved texts old new given e = moved (λ all. map string_bytes all.items) texts old new given e

each_moved : {A : Type 0} (part : Data → Result A FootFault) (all : Result (Result (Vec A Global) FootFault) FootFault) (old new : Result (List Data) FootFault) → AreEach part all old → new ≡ old → AreEach part all new
each_moved part all old new given e = subst (λ (z : Result (List Data) FootFault). AreEach part all z) (sym e) given

module _ (law : LastValueCounts) where
  here : (key : List ℕ) (value : Data) (ms : Members) → get key (object (put key value ms)) ≡ Some value
  here key value ms = law.value key key value ms ∙ rw ((bytes_eq-Decides key key).1 refl) refl

  there : (key other : List ℕ) (value : Data) (ms : Members) → bytes_eq key other ≡ false → get key (object (put other value ms)) ≡ get key (object ms)
  there key other value ms apart = law.value key other value ms ∙ rw apart refl

  text_here : (q : Key) (value : Data) (ms : Members) → text_at q (object (put (spelling q) value ms)) ≡ text_of q value
  unfolding text_at
  text_here q value ms = ap (λ (o : Option Data). ok_or (option_and_then as_str o) (Shape q)) (here (spelling q) value ms)

  text_there : (q : Key) (other : List ℕ) (value : Data) (ms : Members) → bytes_eq (spelling q) other ≡ false → text_at q (object (put other value ms)) ≡ text_at q (object ms)
  unfolding text_at
  text_there q other value ms apart = ap (λ (o : Option Data). ok_or (option_and_then as_str o) (Shape q)) (there (spelling q) other value ms apart)

  texts_here : (q : Key) (value : Data) (ms : Members) → texts_at q (object (put (spelling q) value ms)) ≡ texts_of q value
  unfolding texts_at
  texts_here q value ms = ap (λ (o : Option Data). ok_or (option_and_then json.texts_of o) (Shape q)) (here (spelling q) value ms)

  texts_there : (q : Key) (other : List ℕ) (value : Data) (ms : Members) → bytes_eq (spelling q) other ≡ false → texts_at q (object (put other value ms)) ≡ texts_at q (object ms)
  unfolding texts_at
  texts_there q other value ms apart = ap (λ (o : Option Data). ok_or (option_and_then json.texts_of o) (Shape q)) (there (spelling q) other value ms apart)

  elements_here : (q : Key) (value : Data) (ms : Members) → elements_at q (object (put (spelling q) value ms)) ≡ ok_or (json.elements_of value) (Shape q)
  unfolding elements_at
  elements_here q value ms = ap (λ (o : Option Data). ok_or (option_and_then json.elements_of o) (Shape q)) (here (spelling q) value ms)

  elements_there : (q : Key) (other : List ℕ) (value : Data) (ms : Members) → bytes_eq (spelling q) other ≡ false → elements_at q (object (put other value ms)) ≡ elements_at q (object ms)
  unfolding elements_at
  elements_there q other value ms apart = ap (λ (o : Option Data). ok_or (option_and_then json.elements_of o) (Shape q)) (there (spelling q) other value ms apart)

  format_here : (value : Data) (ms : Members) → format_in (object (put (codes "format") value ms)) ≡ format_from value
  unfolding format_in
  format_here value ms = ap (λ (o : Option Data). ok_or (option_and_then as_integer (option_and_then as_number o)) (Shape keys.Format) >>= format_of) (here (codes "format") value ms)

  format_there : (other : List ℕ) (value : Data) (ms : Members) → bytes_eq (codes "format") other ≡ false → format_in (object (put other value ms)) ≡ format_in (object ms)
  unfolding format_in
  format_there other value ms apart = ap (λ (o : Option Data). ok_or (option_and_then as_integer (option_and_then as_number o)) (Shape keys.Format) >>= format_of) (there (codes "format") other value ms apart)

  lists_here : (value : Data) (ms : Members) → lists_in (object (put (codes "lists") value ms)) ≡ lists_from value
  unfolding lists_in members_at
  lists_here value ms = ap (λ (o : Option Data). ok_or (option_and_then json.pairs_of o) (Shape keys.Lists) >>= each list_in) (here (codes "lists") value ms)

  lists_there : (other : List ℕ) (value : Data) (ms : Members) → bytes_eq (codes "lists") other ≡ false → lists_in (object (put other value ms)) ≡ lists_in (object ms)
  unfolding lists_in members_at
  lists_there other value ms apart = ap (λ (o : Option Data). ok_or (option_and_then json.pairs_of o) (Shape keys.Lists) >>= each list_in) (there (codes "lists") other value ms apart)

  shared_here : (value : Data) (ms : Members) → shared_in Two (object (put (codes "shared") value ms)) ≡ texts_of keys.Shared value
  unfolding shared_in
  shared_here value ms = texts_here keys.Shared value ms

  shared_there : (format : Format) (other : List ℕ) (value : Data) (ms : Members) → bytes_eq (codes "shared") other ≡ false → shared_in format (object (put other value ms)) ≡ shared_in format (object ms)
  unfolding shared_in
  shared_there One other value ms apart = refl
  shared_there Two other value ms apart = texts_there keys.Shared other value ms apart

  no_shared : (value : Data) (ms : Members) → shared_in One (object (put (codes "shared") value ms)) ≡ shared_in One (object ms)
  unfolding shared_in
  no_shared value ms = refl

  -- a key that is known, and one that is not
  known_there : (known : List (List ℕ)) (key : List ℕ) (value : Data) (ms : Members) → has_name known key ≡ true → json.has_only known (object (put key value ms)) ≡ json.has_only known (object ms)
  known_there known key value ms e = law.keys known key value ms ∙ rw e refl

  unknown_there : (known : List (List ℕ)) (key : List ℕ) (value : Data) (ms : Members) → has_name known key ≡ false → json.has_only known (object (put key value ms)) ≡ false
  unknown_there known key value ms e = law.keys known key value ms ∙ rw e refl

  -- ---- the parts of a record

  abbrev names_of : Format → List (List ℕ)
  names_of format = map spelling (entry_keys format)

  is_target : (format : Format) → has_name (names_of format) (codes "target") ≡ true
  is_target One = refl
  is_target Two = refl

  is_commands : (format : Format) → has_name (names_of format) (codes "commands") ≡ true
  is_commands One = refl
  is_commands Two = refl

  is_reads : (format : Format) → has_name (names_of format) (codes "reads") ≡ true
  is_reads One = refl
  is_reads Two = refl

  is_writes : (format : Format) → has_name (names_of format) (codes "writes") ≡ true
  is_writes One = refl
  is_writes Two = refl

  pub target_put : (format : Format) (p : EntryParts) (target : Result (String Global) FootFault) (key : List ℕ) (value : Data) (ms : Members) → key ≡ codes "target" → Gives string_bytes target (text_of keys.Target value) → IsOfEntry format p (object ms)
      → IsOfEntry format (record p { target = target }) (object (put key value ms))
  target_put format p target key value ms is given was = rw is (record {
    target = moved string_bytes target _ _ given (text_here keys.Target value ms);
    commands = texts_moved p.commands _ _ was.commands (texts_there keys.Commands (codes "target") value ms refl);
    reads = texts_moved p.reads _ _ was.reads (texts_there keys.Reads (codes "target") value ms refl);
    writes = texts_moved p.writes _ _ was.writes (texts_there keys.Writes (codes "target") value ms refl);
    shared = texts_moved p.shared _ _ was.shared (shared_there format (codes "target") value ms refl);
    alone = was.alone ∙ sym (known_there (names_of format) (codes "target") value ms (is_target format));
  })

  pub commands_put : (format : Format) (p : EntryParts) (commands : Result (Vec (String Global) Global) FootFault) (key : List ℕ) (value : Data) (ms : Members) → key ≡ codes "commands" → GivesTexts commands (texts_of keys.Commands value) → IsOfEntry format p (object ms)
      → IsOfEntry format (record p { commands = commands }) (object (put key value ms))
  commands_put format p commands key value ms is given was = rw is (record {
    target = moved string_bytes p.target _ _ was.target (text_there keys.Target (codes "commands") value ms refl);
    commands = texts_moved commands _ _ given (texts_here keys.Commands value ms);
    reads = texts_moved p.reads _ _ was.reads (texts_there keys.Reads (codes "commands") value ms refl);
    writes = texts_moved p.writes _ _ was.writes (texts_there keys.Writes (codes "commands") value ms refl);
    shared = texts_moved p.shared _ _ was.shared (shared_there format (codes "commands") value ms refl);
    alone = was.alone ∙ sym (known_there (names_of format) (codes "commands") value ms (is_commands format));
  })

  pub reads_put : (format : Format) (p : EntryParts) (reads : Result (Vec (String Global) Global) FootFault) (key : List ℕ) (value : Data) (ms : Members) → key ≡ codes "reads" → GivesTexts reads (texts_of keys.Reads value) → IsOfEntry format p (object ms)
      → IsOfEntry format (record p { reads = reads }) (object (put key value ms))
  reads_put format p reads key value ms is given was = rw is (record {
    target = moved string_bytes p.target _ _ was.target (text_there keys.Target (codes "reads") value ms refl);
    commands = texts_moved p.commands _ _ was.commands (texts_there keys.Commands (codes "reads") value ms refl);
    reads = texts_moved reads _ _ given (texts_here keys.Reads value ms);
    writes = texts_moved p.writes _ _ was.writes (texts_there keys.Writes (codes "reads") value ms refl);
    shared = texts_moved p.shared _ _ was.shared (shared_there format (codes "reads") value ms refl);
    alone = was.alone ∙ sym (known_there (names_of format) (codes "reads") value ms (is_reads format));
  })

  pub writes_put : (format : Format) (p : EntryParts) (writes : Result (Vec (String Global) Global) FootFault) (key : List ℕ) (value : Data) (ms : Members) → key ≡ codes "writes" → GivesTexts writes (texts_of keys.Writes value) → IsOfEntry format p (object ms)
      → IsOfEntry format (record p { writes = writes }) (object (put key value ms))
  writes_put format p writes key value ms is given was = rw is (record {
    target = moved string_bytes p.target _ _ was.target (text_there keys.Target (codes "writes") value ms refl);
    commands = texts_moved p.commands _ _ was.commands (texts_there keys.Commands (codes "writes") value ms refl);
    reads = texts_moved p.reads _ _ was.reads (texts_there keys.Reads (codes "writes") value ms refl);
    writes = texts_moved writes _ _ given (texts_here keys.Writes value ms);
    shared = texts_moved p.shared _ _ was.shared (shared_there format (codes "writes") value ms refl);
    alone = was.alone ∙ sym (known_there (names_of format) (codes "writes") value ms (is_writes format));
  })

  pub shared_put : (p : EntryParts) (shared : Result (Vec (String Global) Global) FootFault) (value : Data) (ms : Members) → GivesTexts shared (texts_of keys.Shared value) → IsOfEntry Two p (object ms)
      → IsOfEntry Two (record p { shared = shared }) (object (put (codes "shared") value ms))
  shared_put p shared value ms given was = record {
    target = moved string_bytes p.target _ _ was.target (text_there keys.Target (codes "shared") value ms refl);
    commands = texts_moved p.commands _ _ was.commands (texts_there keys.Commands (codes "shared") value ms refl);
    reads = texts_moved p.reads _ _ was.reads (texts_there keys.Reads (codes "shared") value ms refl);
    writes = texts_moved p.writes _ _ was.writes (texts_there keys.Writes (codes "shared") value ms refl);
    shared = texts_moved shared _ _ given (shared_here value ms);
    alone = was.alone ∙ sym (known_there (names_of Two) (codes "shared") value ms refl);
  }

  pub first_shared_put : (p : EntryParts) (value : Data) (ms : Members) → IsOfEntry One p (object ms) → IsOfEntry One (record p { alone = false }) (object (put (codes "shared") value ms))
  first_shared_put p value ms was = record {
    target = moved string_bytes p.target _ _ was.target (text_there keys.Target (codes "shared") value ms refl);
    commands = texts_moved p.commands _ _ was.commands (texts_there keys.Commands (codes "shared") value ms refl);
    reads = texts_moved p.reads _ _ was.reads (texts_there keys.Reads (codes "shared") value ms refl);
    writes = texts_moved p.writes _ _ was.writes (texts_there keys.Writes (codes "shared") value ms refl);
    shared = texts_moved p.shared _ _ was.shared (no_shared value ms);
    alone = sym (unknown_there (names_of One) (codes "shared") value ms refl);
  }

  is_none : (format : Format) (key : List ℕ) → (key ≡ codes "target" → ⊥) → (key ≡ codes "commands" → ⊥) → (key ≡ codes "reads" → ⊥) → (key ≡ codes "writes" → ⊥) → (key ≡ codes "shared" → ⊥) → has_name (names_of format) key ≡ false
  is_none One key a b c d e = rw (bytes_eq-differ key (codes "target") a, bytes_eq-differ key (codes "commands") b, bytes_eq-differ key (codes "reads") c, bytes_eq-differ key (codes "writes") d) refl
  is_none Two key a b c d e = rw (bytes_eq-differ key (codes "target") a, bytes_eq-differ key (codes "commands") b, bytes_eq-differ key (codes "reads") c, bytes_eq-differ key (codes "writes") d, bytes_eq-differ key (codes "shared") e) refl

  pub other_put : (format : Format) (p : EntryParts) (key : List ℕ) (value : Data) (ms : Members) → (key ≡ codes "target" → ⊥) → (key ≡ codes "commands" → ⊥) → (key ≡ codes "reads" → ⊥) → (key ≡ codes "writes" → ⊥) → (key ≡ codes "shared" → ⊥) → IsOfEntry format p (object ms)
      → IsOfEntry format (record p { alone = false }) (object (put key value ms))
  other_put format p key value ms a b c d e was = record {
    target = moved string_bytes p.target _ _ was.target (text_there keys.Target key value ms (bytes_eq-differ _ _ (differ-sym a)));
    commands = texts_moved p.commands _ _ was.commands (texts_there keys.Commands key value ms (bytes_eq-differ _ _ (differ-sym b)));
    reads = texts_moved p.reads _ _ was.reads (texts_there keys.Reads key value ms (bytes_eq-differ _ _ (differ-sym c)));
    writes = texts_moved p.writes _ _ was.writes (texts_there keys.Writes key value ms (bytes_eq-differ _ _ (differ-sym d)));
    shared = texts_moved p.shared _ _ was.shared (shared_there format key value ms (bytes_eq-differ _ _ (differ-sym e)));
    alone = sym (unknown_there (names_of format) key value ms (is_none format key a b c d e));
  }

  -- ---- the parts of a group

  abbrev group_names : List (List ℕ)
  group_names = map spelling (keys.Goals ∷ keys.Records ∷ [])

  pub goals_put : (p : GroupParts) (goals : Result (Vec (String Global) Global) FootFault) (key : List ℕ) (value : Data) (ms : Members) → key ≡ codes "goals" → GivesTexts goals (texts_of keys.Goals value) → IsOfGroup p (object ms)
      → IsOfGroup (record { goals = goals; records = p.records; alone = p.alone }) (object (put key value ms))
  goals_put p goals key value ms is given was = rw is (record {
    goals = texts_moved goals _ _ given (texts_here keys.Goals value ms);
    records = each_moved (entry_in Two) p.records _ _ was.records (elements_there keys.Records (codes "goals") value ms refl);
    alone = was.alone ∙ sym (known_there group_names (codes "goals") value ms refl);
  })

  pub group_records_put : (p : GroupParts) (records : Result (Result (Vec RawRecord Global) FootFault) FootFault) (key : List ℕ) (value : Data) (ms : Members) → key ≡ codes "records" → AreEach (entry_in Two) records (ok_or (json.elements_of value) (Shape keys.Records))
      → IsOfGroup p (object ms) → IsOfGroup (record { goals = p.goals; records = records; alone = p.alone }) (object (put key value ms))
  group_records_put p records key value ms is given was = rw is (record {
    goals = texts_moved p.goals _ _ was.goals (texts_there keys.Goals (codes "records") value ms refl);
    records = each_moved (entry_in Two) records _ _ given (elements_here keys.Records value ms);
    alone = was.alone ∙ sym (known_there group_names (codes "records") value ms refl);
  })

  pub other_group_put : (p : GroupParts) (key : List ℕ) (value : Data) (ms : Members) → (key ≡ codes "goals" → ⊥) → (key ≡ codes "records" → ⊥) → IsOfGroup p (object ms)
      → IsOfGroup (record { goals = p.goals; records = p.records; alone = false }) (object (put key value ms))
  other_group_put p key value ms a b was = record {
    goals = texts_moved p.goals _ _ was.goals (texts_there keys.Goals key value ms (bytes_eq-differ _ _ (differ-sym a)));
    records = each_moved (entry_in Two) p.records _ _ was.records (elements_there keys.Records key value ms (bytes_eq-differ _ _ (differ-sym b)));
    alone = sym (unknown_there group_names key value ms (rw (bytes_eq-differ key (codes "goals") a, bytes_eq-differ key (codes "records") b) refl));
  }

  -- ---- the parts of a file

  abbrev first_names : List (List ℕ)
  first_names = map spelling first_keys

  abbrev second_names : List (List ℕ)
  second_names = map spelling second_keys

  pub file_format_put : (p : Parts) (format : Result Format FootFault) (key : List ℕ) (value : Data) (ms : Members) → key ≡ codes "format" → Gives (λ format. format) format (format_from value) → IsOf p (object ms)
      → IsOf (record { format = format; fixed = p.fixed; sources = p.sources; records = p.records; lists = p.lists; groups = p.groups; is_first = p.is_first; is_second = p.is_second }) (object (put key value ms))
  file_format_put p format key value ms is given was = rw is (record {
    format = moved (λ format. format) format _ _ given (format_here value ms);
    fixed = texts_moved p.fixed _ _ was.fixed (texts_there keys.Fixed (codes "format") value ms refl);
    sources = texts_moved p.sources _ _ was.sources (texts_there keys.Sources (codes "format") value ms refl);
    records = each_moved (entry_in One) p.records _ _ was.records (elements_there keys.Records (codes "format") value ms refl);
    lists = moved (λ (all : Vec SharedList Global). all.items) p.lists _ _ was.lists (lists_there (codes "format") value ms refl);
    groups = each_moved group_in p.groups _ _ was.groups (elements_there keys.Groups (codes "format") value ms refl);
    is_first = was.is_first ∙ sym (known_there first_names (codes "format") value ms refl);
    is_second = was.is_second ∙ sym (known_there second_names (codes "format") value ms refl);
  })

  pub file_fixed_put : (p : Parts) (fixed : Result (Vec (String Global) Global) FootFault) (key : List ℕ) (value : Data) (ms : Members) → key ≡ codes "fixed" → GivesTexts fixed (texts_of keys.Fixed value) → IsOf p (object ms)
      → IsOf (record { format = p.format; fixed = fixed; sources = p.sources; records = p.records; lists = p.lists; groups = p.groups; is_first = p.is_first; is_second = p.is_second }) (object (put key value ms))
  file_fixed_put p fixed key value ms is given was = rw is (record {
    format = moved (λ format. format) p.format _ _ was.format (format_there (codes "fixed") value ms refl);
    fixed = texts_moved fixed _ _ given (texts_here keys.Fixed value ms);
    sources = texts_moved p.sources _ _ was.sources (texts_there keys.Sources (codes "fixed") value ms refl);
    records = each_moved (entry_in One) p.records _ _ was.records (elements_there keys.Records (codes "fixed") value ms refl);
    lists = moved (λ (all : Vec SharedList Global). all.items) p.lists _ _ was.lists (lists_there (codes "fixed") value ms refl);
    groups = each_moved group_in p.groups _ _ was.groups (elements_there keys.Groups (codes "fixed") value ms refl);
    is_first = was.is_first ∙ sym (known_there first_names (codes "fixed") value ms refl);
    is_second = was.is_second ∙ sym (known_there second_names (codes "fixed") value ms refl);
  })

  pub file_sources_put : (p : Parts) (sources : Result (Vec (String Global) Global) FootFault) (key : List ℕ) (value : Data) (ms : Members) → key ≡ codes "sources" → GivesTexts sources (texts_of keys.Sources value) → IsOf p (object ms)
      → IsOf (record { format = p.format; fixed = p.fixed; sources = sources; records = p.records; lists = p.lists; groups = p.groups; is_first = p.is_first; is_second = p.is_second }) (object (put key value ms))
  file_sources_put p sources key value ms is given was = rw is (record {
    format = moved (λ format. format) p.format _ _ was.format (format_there (codes "sources") value ms refl);
    fixed = texts_moved p.fixed _ _ was.fixed (texts_there keys.Fixed (codes "sources") value ms refl);
    sources = texts_moved sources _ _ given (texts_here keys.Sources value ms);
    records = each_moved (entry_in One) p.records _ _ was.records (elements_there keys.Records (codes "sources") value ms refl);
    lists = moved (λ (all : Vec SharedList Global). all.items) p.lists _ _ was.lists (lists_there (codes "sources") value ms refl);
    groups = each_moved group_in p.groups _ _ was.groups (elements_there keys.Groups (codes "sources") value ms refl);
    is_first = was.is_first ∙ sym (known_there first_names (codes "sources") value ms refl);
    is_second = was.is_second ∙ sym (known_there second_names (codes "sources") value ms refl);
  })

  pub file_records_put : (p : Parts) (records : Result (Result (Vec RawRecord Global) FootFault) FootFault) (key : List ℕ) (value : Data) (ms : Members) → key ≡ codes "records" → AreEach (entry_in One) records (ok_or (json.elements_of value) (Shape keys.Records)) → IsOf p (object ms)
      → IsOf (record { format = p.format; fixed = p.fixed; sources = p.sources; records = records; lists = p.lists; groups = p.groups; is_first = p.is_first; is_second = false }) (object (put key value ms))
  file_records_put p records key value ms is given was = rw is (record {
    format = moved (λ format. format) p.format _ _ was.format (format_there (codes "records") value ms refl);
    fixed = texts_moved p.fixed _ _ was.fixed (texts_there keys.Fixed (codes "records") value ms refl);
    sources = texts_moved p.sources _ _ was.sources (texts_there keys.Sources (codes "records") value ms refl);
    records = each_moved (entry_in One) records _ _ given (elements_here keys.Records value ms);
    lists = moved (λ (all : Vec SharedList Global). all.items) p.lists _ _ was.lists (lists_there (codes "records") value ms refl);
    groups = each_moved group_in p.groups _ _ was.groups (elements_there keys.Groups (codes "records") value ms refl);
    is_first = was.is_first ∙ sym (known_there first_names (codes "records") value ms refl);
    is_second = sym (unknown_there second_names (codes "records") value ms refl);
  })

  pub file_lists_put : (p : Parts) (lists : Result (Vec SharedList Global) FootFault) (key : List ℕ) (value : Data) (ms : Members) → key ≡ codes "lists" → Gives (λ all. all.items) lists (lists_from value) → IsOf p (object ms)
      → IsOf (record { format = p.format; fixed = p.fixed; sources = p.sources; records = p.records; lists = lists; groups = p.groups; is_first = false; is_second = p.is_second }) (object (put key value ms))
  file_lists_put p lists key value ms is given was = rw is (record {
    format = moved (λ format. format) p.format _ _ was.format (format_there (codes "lists") value ms refl);
    fixed = texts_moved p.fixed _ _ was.fixed (texts_there keys.Fixed (codes "lists") value ms refl);
    sources = texts_moved p.sources _ _ was.sources (texts_there keys.Sources (codes "lists") value ms refl);
    records = each_moved (entry_in One) p.records _ _ was.records (elements_there keys.Records (codes "lists") value ms refl);
    lists = moved (λ (all : Vec SharedList Global). all.items) lists _ _ given (lists_here value ms);
    groups = each_moved group_in p.groups _ _ was.groups (elements_there keys.Groups (codes "lists") value ms refl);
    is_first = sym (unknown_there first_names (codes "lists") value ms refl);
    is_second = was.is_second ∙ sym (known_there second_names (codes "lists") value ms refl);
  })

  pub file_groups_put : (p : Parts) (groups : Result (Result (Vec Group Global) FootFault) FootFault) (key : List ℕ) (value : Data) (ms : Members) → key ≡ codes "groups" → AreEach group_in groups (ok_or (json.elements_of value) (Shape keys.Groups)) → IsOf p (object ms)
      → IsOf (record { format = p.format; fixed = p.fixed; sources = p.sources; records = p.records; lists = p.lists; groups = groups; is_first = false; is_second = p.is_second }) (object (put key value ms))
  file_groups_put p groups key value ms is given was = rw is (record {
    format = moved (λ format. format) p.format _ _ was.format (format_there (codes "groups") value ms refl);
    fixed = texts_moved p.fixed _ _ was.fixed (texts_there keys.Fixed (codes "groups") value ms refl);
    sources = texts_moved p.sources _ _ was.sources (texts_there keys.Sources (codes "groups") value ms refl);
    records = each_moved (entry_in One) p.records _ _ was.records (elements_there keys.Records (codes "groups") value ms refl);
    lists = moved (λ (all : Vec SharedList Global). all.items) p.lists _ _ was.lists (lists_there (codes "groups") value ms refl);
    groups = each_moved group_in groups _ _ given (elements_here keys.Groups value ms);
    is_first = sym (unknown_there first_names (codes "groups") value ms refl);
    is_second = was.is_second ∙ sym (known_there second_names (codes "groups") value ms refl);
  })

  pub other_file_put : (p : Parts) (key : List ℕ) (value : Data) (ms : Members) → (key ≡ codes "format" → ⊥) → (key ≡ codes "fixed" → ⊥) → (key ≡ codes "sources" → ⊥) → (key ≡ codes "records" → ⊥) → (key ≡ codes "lists" → ⊥) → (key ≡ codes "groups" → ⊥) → IsOf p (object ms)
      → IsOf (record { format = p.format; fixed = p.fixed; sources = p.sources; records = p.records; lists = p.lists; groups = p.groups; is_first = false; is_second = false }) (object (put key value ms))
  other_file_put p key value ms a b c d e g was = record {
    format = moved (λ format. format) p.format _ _ was.format (format_there key value ms (bytes_eq-differ _ _ (differ-sym a)));
    fixed = texts_moved p.fixed _ _ was.fixed (texts_there keys.Fixed key value ms (bytes_eq-differ _ _ (differ-sym b)));
    sources = texts_moved p.sources _ _ was.sources (texts_there keys.Sources key value ms (bytes_eq-differ _ _ (differ-sym c)));
    records = each_moved (entry_in One) p.records _ _ was.records (elements_there keys.Records key value ms (bytes_eq-differ _ _ (differ-sym d)));
    lists = moved (λ (all : Vec SharedList Global). all.items) p.lists _ _ was.lists (lists_there key value ms (bytes_eq-differ _ _ (differ-sym e)));
    groups = each_moved group_in p.groups _ _ was.groups (elements_there keys.Groups key value ms (bytes_eq-differ _ _ (differ-sym g)));
    is_first = sym (unknown_there first_names key value ms (rw (bytes_eq-differ key (codes "format") a, bytes_eq-differ key (codes "fixed") b, bytes_eq-differ key (codes "sources") c, bytes_eq-differ key (codes "records") d) refl));
    is_second = sym (unknown_there second_names key value ms (rw (bytes_eq-differ key (codes "format") a, bytes_eq-differ key (codes "fixed") b, bytes_eq-differ key (codes "sources") c, bytes_eq-differ key (codes "lists") e, bytes_eq-differ key (codes "groups") g) refl));
  }
