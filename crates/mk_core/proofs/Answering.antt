-- What is answered where a step fails, and where all of them succeed.
use Rattle.std.proofs.Common.{◌≡◌, ℕ, Bool, true, false, List, Option, None, Some, Result, Ok, Err, Vec, cond, inl, inr, refl, sym, ap, subst, ◌∙◌}
use Rattle.std.specs.Prelude.{IsOk, OnErr, OnOk}
use Rattle.std.specs.declared.alloc.Global.{Global}
use Rattle.std.specs.Option.{is_none, ok_or, option_map_or}
use Rattle.std.specs.Str.{bytes_eq}
use Rattle.mk_graph.specs.Graph as value
use Rattle.mk_foot.specs.Book.{Book}
use Rattle.mk_foot.specs.Reading.{book_from}
use Rattle.mk_foot.specs.declared.fault.FootFault.{FootFault}
use Rattle.mk_infer.specs.Goals.{goal_names}
use Rattle.mk_infer.specs.Selection.{Selects}
use Rattle.mk_infer.specs.Steps as inferring
use Rattle.mk_infer.specs.declared.fault.InferFault.{InferFault}
use Rattle.mk_macros.specs.Table.{Macro}
use Rattle.mk_read.specs.declared.fault.ReadFault.{ReadFault}
use Rattle.mk_read.specs.Files.{Told, text_at}
use Rattle.mk_read.specs.Following as following
use Rattle.mk_read.specs.Reading.{Makefile, makefile}
use Rattle.mk_read_parse.specs.Requests.{request_read}
use Rattle.mk_core_text.specs.declared.fault.Fault.{Fault}
use Rattle.mk_core_text.specs.declared.fault.Fault.TheVariants.{Read, Infer, Foot, Plan, Certificate, Verify, FileReadFailed, NoFile, Memory}
use Rattle.mk_core.specs.declared.request.Request.{Request}
use Rattle.mk_core.specs.Answer.{Answers, Draws, failed_file, failing_of}
use Rattle.mk_core_text.specs.GraphText.{graph_text, shown_lines}
use Rattle.mk_core.specs.Ready.{Ready, book_for, exists, macros_for, makefile_for, ready_for, setting_of}
use Rattle.mk_core.specs.Steps.{◌>>=◌, as_fault, of_infer, of_read, seen}
use Rattle.mk_core.specs.Views.{AnswersOver, DrawsOver, Finds, PrintsOver, ready_over, ready_with}
use Rattle.mk_core.proofs.Seen.{fault_same}
use Rattle.mk_core.proofs.Faults.{by_infer, by_read}

-- ---- the graph, and what is printed of it

module _ (asked : Bool) (ready : Ready) where
  -- the goals have no graph
  pub graph_fails : (fault : InferFault) → Selects ready.makefile (exists ready) ready.goals (Err fault) → PrintsOver asked ready (Err fault)
  graph_fails fault s settled = (Err fault, s, (settled, refl))

  -- the graph is printed, or its commands have a fault
  pub graph_printed : (g : value.Graph) (found : Result (Vec ℕ Global) InferFault) → Selects ready.makefile (exists ready) ready.goals (Ok g)
      → inferring.Gives (λ text. text.items) found (graph_text (shown_lines asked ready.makefile (exists ready)) g) → PrintsOver asked ready (seen (λ text. text.items) found)
  graph_printed g (Ok text) s h = (Ok g, s, sym h)
  graph_printed g (Err fault) s (inl k) = λ settled. let e : true ≡ false = ap inferring.is_out_of_memory (sym k) ∙ settled in absurd cc
  graph_printed g (Err fault) s (inr h) = λ settled. (Ok g, s, sym h)

-- ---- what is ready

abbrev pub made_with : Makefile → List (List ℕ) → Book → Bool → Ready
made_with m goals book any_leaf = record { makefile = m; goals = goals; setting = setting_of m book; any_leaf = any_leaf }

module _ (files : Told) (request : Request) (m : Makefile) (goals : List (List ℕ)) where
  abbrev made_by : Book → Ready
  made_by book = made_with m goals book (is_none request.book)

  module _ (name : Option (List ℕ)) (n : name ≡ request.book) where
    -- the book isn't found
    pub book_fails : (fault : Fault) → Finds (λ failing. book_for files failing name goals) (Err fault) → Finds (λ failing. ready_with files failing request m goals) (Err fault)
    book_fails fault (inl k) = inl (fault_same fault Memory k)
    book_fails fault (inr h) =
        inr (ap (λ (r : Result Book Fault). r >>= λ book. Ok (made_by book)) (ap (λ (x : Option (List ℕ)). book_for files (failed_file fault) x goals) (sym n) ∙ h))

    -- the book is found
    pub book_found : (book : Book) (ready : Ready) → Finds (λ failing. book_for files failing name goals) (Ok book) → ready ≡ made_by book → Finds (λ failing. ready_with files failing request m goals) (Ok ready)
    book_found book ready (inl k) e = absurd cc
    book_found book ready (inr h) e =
        inr (ap (λ (r : Result Book Fault). r >>= λ b. Ok (made_by b)) (ap (λ (x : Option (List ℕ)). book_for files None x goals) (sym n) ∙ h) ∙ ap (λ (r : Ready). Ok r) (sym e))

  -- the goals are named
  pub goals_found : goal_names m request.goals ≡ Ok goals → (found : Result Ready Fault) → Finds (λ failing. ready_with files failing request m goals) found
      → Finds (λ failing. ready_over files failing request m) found
  goals_found named found (inl k) = inl k
  goals_found named found (inr h) = inr (ap (λ (r : Result (List (List ℕ)) InferFault). as_fault Infer r >>= ready_with files (failing_of found) request m) named ∙ h)

-- the goals are refused
pub goals_fail : (files : Told) (request : Request) (m : Makefile) (fault : InferFault) → inferring.Fails fault (goal_names m request.goals) → Finds (λ failing. ready_over files failing request m) (Err (of_infer fault))
goals_fail files request m fault h = by_infer (λ f. Finds (λ failing. ready_over files failing request m) (Err f)) fault (inl refl) (λ settled. by settled h)
  where
    by : inferring.is_out_of_memory fault ≡ false → inferring.Fails fault (goal_names m request.goals) → Finds (λ failing. ready_over files failing request m) (Err (Infer fault))
    by settled (inl k) = let e : true ≡ false = ap inferring.is_out_of_memory (sym k) ∙ settled in absurd cc
    by settled (inr is) = inr (ap (λ (r : Result (List (List ℕ)) InferFault). as_fault Infer r >>= ready_with files None request m) is)

-- ---- what is refused before a file is read

module _ (request : Request) (name : Option (List ℕ)) (operands : List (List ℕ)) (n : name ≡ request.makefile) (o : operands ≡ request.operands) where
  same_macros : request_read name request.defaults operands ≡ macros_for request
  same_macros = ap (λ (x : Option (List ℕ)). request_read x request.defaults operands) n ∙ ap (λ (words : List (List ℕ)). request_read request.makefile request.defaults words) o

  -- what holds where the name or an operand is refused
  pub untouched_by : (same : Type 0) → OnErr (request_read name request.defaults operands) same → OnErr (macros_for request) same
  untouched_by same h = subst (λ (r : Result (List Macro) ReadFault). OnErr r same) same_macros h

  -- neither is refused where a makefile is read
  pub not_refused : (same : Type 0) → IsOk (request_read name request.defaults operands) → OnErr (macros_for request) same
  not_refused same h = never (macros_for request) (subst (λ (r : Result (List Macro) ReadFault). IsOk r) same_macros h)
    where
      never : (r : Result (List Macro) ReadFault) → IsOk r → OnErr r same
      never (Ok macros) k = tt
      never (Err fault) k = absurd cc

  -- neither is refused where there is an answer
  pub were_accepted : {A : Type 0} (answer : Result A Fault) → IsOk (request_read name request.defaults operands) → OnOk answer (IsOk (macros_for request))
  were_accepted (Ok x) h = subst (λ (r : Result (List Macro) ReadFault). IsOk r) same_macros h
  were_accepted (Err fault) h = tt

-- ---- the answer of a command

module _ {A : Type 0} (files : Told) (request : Request) (m : Makefile) (answers : Ready → Result A Fault → Type 0) where
  -- what is ready isn't found
  pub over_fault : (fault : Fault) → Finds (λ failing. ready_over files failing request m) (Err fault) → AnswersOver files request m answers (Err fault)
  over_fault fault (inl k) = inl (fault_same fault Memory k)
  over_fault fault (inr h) = inr (subst (λ (r : Result Ready Fault). Draws answers r (Err fault)) (sym h) refl)

  -- what is ready is found
  pub over_ready : (ready : Ready) (answer : Result A Fault) → failing_of answer ≡ None → Finds (λ failing. ready_over files failing request m) (Ok ready) → answers ready answer
      → AnswersOver files request m answers answer
  over_ready ready answer none (inl k) a = absurd cc
  over_ready ready answer none (inr h) a =
      inr (subst (λ (failing : Option (List ℕ)). Draws answers (ready_over files failing request m) answer) (sym none) (subst (λ (r : Result Ready Fault). Draws answers r answer) (sym h) a))

module _ (asked : Bool) (ready : Ready) where
  -- the text of the graph is the answer
  pub text_drawn : (text : List ℕ) → PrintsOver asked ready (Ok text) → DrawsOver asked ready (Ok text)
  text_drawn text p = inr (Ok text, p, refl)

  -- its fault is the answer
  pub no_text_drawn : (fault : InferFault) → PrintsOver asked ready (Err fault) → DrawsOver asked ready (Err (of_infer fault))
  no_text_drawn fault p = by_infer (λ f. DrawsOver asked ready (Err f)) fault (inl refl) (λ settled. inr (Err fault, p settled, refl))

-- ---- what is ready has no fault of a makefile

module _ (files : Told) (failing : Option (List ℕ)) (f : ReadFault) where
  not_of_book : (r : Result Book FootFault) → as_fault Foot r ≡ Err (Read f) → ⊥
  not_of_book (Ok book) h = absurd cc
  not_of_book (Err fault) h = absurd cc

  not_of_text : (goals : List (List ℕ)) (name : List ℕ) (b : Bool) (text : Option (List ℕ))
      → (cond b (Err (FileReadFailed name)) (ok_or text (NoFile name)) >>= λ bytes. as_fault Foot (book_from goals bytes)) ≡ Err (Read f) → ⊥
  not_of_text goals name true text h = absurd cc
  not_of_text goals name false None h = absurd cc
  not_of_text goals name false (Some bytes) h = not_of_book (book_from goals bytes) h

  not_of_name : (goals : List (List ℕ)) (name : Option (List ℕ)) → book_for files failing name goals ≡ Err (Read f) → ⊥
  not_of_name goals None h = absurd cc
  not_of_name goals (Some name) h = not_of_text goals name (option_map_or (bytes_eq name) failing false) (text_at files name) h

  not_after_book : (r : Result Book Fault) (made : Book → Ready) → (r ≡ Err (Read f) → ⊥) → (r >>= λ book. Ok (made book)) ≡ Err (Read f) → ⊥
  not_after_book (Ok book) made none h = absurd cc
  not_after_book (Err fault) made none h = none (fault_same fault (Read f) h)

  not_ready : (request : Request) (m : Makefile) → ready_over files failing request m ≡ Err (Read f) → ⊥
  not_ready request m h = by (goal_names m request.goals) h
    where
      by : (r : Result (List (List ℕ)) InferFault) → (as_fault Infer r >>= ready_with files failing request m) ≡ Err (Read f) → ⊥
      by (Err fault) k = absurd cc
      by (Ok goals) k =
          not_after_book (book_for files failing request.book goals) (λ book. made_with m goals book (is_none request.book)) (not_of_name goals request.book) k

not_drawn : {A : Type 0} (answers : Ready → Result A Fault → Type 0) (f : ReadFault) (r : Result Ready Fault) → ((ready : Ready) → answers ready (Err (Read f)) → ⊥) → (r ≡ Err (Read f) → ⊥)
    → Draws answers r (Err (Read f)) → ⊥
not_drawn answers f (Ok ready) not_read none d = not_read ready d
not_drawn answers f (Err fault) not_read none d = none (fault_same fault (Read f) (sym d))

-- ---- the whole request

module _ {A : Type 0} (files : Told) (request : Request) (answers : Ready → Result A Fault → Type 0) where
  abbrev made : Result Makefile ReadFault
  made = makefile_for request (following.reader_of files None)

  module _ (name : Option (List ℕ)) (operands : List (List ℕ)) (n : name ≡ request.makefile) (o : operands ≡ request.operands) where
    as_request : (r : Result Makefile ReadFault) → following.Answers files (λ reader. makefile reader name request.defaults operands) r → following.Answers files (makefile_for request) r
    as_request r h =
        subst (λ (ops : List (List ℕ)). following.Answers files (λ reader. makefile reader request.makefile request.defaults ops) r) o
        (subst (λ (x : Option (List ℕ)). following.Answers files (λ reader. makefile reader x request.defaults operands) r) n h)

    -- a makefile that is refused
    pub read_fails : (fault : ReadFault) → following.Answers files (λ reader. makefile reader name request.defaults operands) (Err fault) → Answers files request answers (Err (of_read fault))
    read_fails fault h = by_read (λ f. Answers files request answers (Err f)) fault tt (λ settled. (settled, as_request (Err fault) h))

    -- a makefile that is read
    pub read_well : (m : Makefile) → following.Answers files (λ reader. makefile reader name request.defaults operands) (Ok m) → made ≡ Ok m
    read_well m h = as_request (Ok m) h

  -- the answer over a makefile that is read
  module _ (m : Makefile) (is : made ≡ Ok m) (not_read : (ready : Ready) (f : ReadFault) → answers ready (Err (Read f)) → ⊥) where
    lifted : (answer : Result A Fault) → Draws answers (ready_over files (failing_of answer) request m) answer → Draws answers (ready_for files (failing_of answer) request) answer
    lifted answer d = subst (λ (r : Result Makefile ReadFault). Draws answers (as_fault Read r >>= ready_over files (failing_of answer) request) answer) (sym is) d

    pub over : (answer : Result A Fault) → AnswersOver files request m answers answer → Answers files request answers answer
    over (Ok x) (inl k) = absurd cc
    over (Ok x) (inr d) = lifted (Ok x) d
    over (Err Memory) a = tt
    over (Err (FileReadFailed n)) (inl k) = absurd cc
    over (Err (FileReadFailed n)) (inr d) = lifted (Err (FileReadFailed n)) d
    over (Err (NoFile n)) (inl k) = absurd cc
    over (Err (NoFile n)) (inr d) = lifted (Err (NoFile n)) d
    over (Err (Infer f)) (inl k) = absurd cc
    over (Err (Infer f)) (inr d) = lifted (Err (Infer f)) d
    over (Err (Foot f)) (inl k) = absurd cc
    over (Err (Foot f)) (inr d) = lifted (Err (Foot f)) d
    over (Err (Plan f)) (inl k) = absurd cc
    over (Err (Plan f)) (inr d) = lifted (Err (Plan f)) d
    over (Err (Certificate f)) (inl k) = absurd cc
    over (Err (Certificate f)) (inr d) = lifted (Err (Certificate f)) d
    over (Err (Verify f)) (inl k) = absurd cc
    over (Err (Verify f)) (inr d) = lifted (Err (Verify f)) d
    over (Err (Read f)) (inl k) = absurd cc
    over (Err (Read f)) (inr d) = absurd (not_drawn answers f (ready_over files None request m) (λ ready. not_read ready f) (not_ready files None f request m) d)
