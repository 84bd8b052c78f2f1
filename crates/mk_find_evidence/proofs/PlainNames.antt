-- The names of the world of a subject that was read are plain paths.
use Rattle.std.proofs.Common.{◌≡◌, ℕ, Bool, true, false, List, [], ◌∷◌, ◌++◌, get_or, Option, None, Some, inl, inr, refl, sym, subst, ◌∙◌}
use Rattle.std.specs.Prelude.{cond}
use Rattle.std.specs.List.{list_all, flat_map}
use Rattle.std.proofs.lemmas.Bool.{and_parts}
use Rattle.std.proofs.lemmas.List.Folds.{list_all-append}
use Rattle.std.specs.Str.{bytes_eq}
use Rattle.mk_lemmas.proofs.Members.{Has-get_or, find-Has, list_all-Has}
use Rattle.mk_foot.specs.Book.{Book, Record}
use Rattle.mk_foot.specs.Laws as foot
use Rattle.mk_foot.specs.Setting as recorded
use Rattle.mk_graph.specs.declared.node.Node.{Node}
use Rattle.mk_graph.specs.Graph.{Graph, node, no_node}
use Rattle.mk_graph.specs.Membership.{Has}
use Rattle.mk_build.specs.Setting.{FileName, name, reads, writes}
use Rattle.mk_build.specs.World.{IsOfWorld}
use Rattle.mk_infer.specs.NameLaws.{GoalsArePlain, HavePlainNames, NodesHavePlainNames}
use Rattle.mk_lines.specs.Paths.{is_plain_path}
use Rattle.mk_read.specs.RuleLaws.{RuleLinesAreWellNamed, TextsArePlain}
use Rattle.mk_subject.specs.Subject.{footprints}
use Rattle.mk_find_evidence.specs.PlanLaws.{IsBookFor, NamesOfSubjectArePlain}

abbrev pub ArePlain : List (List ℕ) → Type 0
ArePlain names = list_all is_plain_path names ≡ true

-- ---- lists

pub two_parts : (names others : List (List ℕ)) → ArePlain (names ++ others) → ArePlain names × ArePlain others
two_parts names others all = and_parts (list_all is_plain_path names) (list_all is_plain_path others) (sym (list_all-append is_plain_path names others) ∙ all)

one_part : (records : List Record) (r : Record) → ArePlain (flat_map foot.names_of_record records) → Has records r → ArePlain (foot.names_of_record r)
one_part [] r all h = absurd h
one_part (first ∷ records) r all (inl e) = subst (λ k. ArePlain (foot.names_of_record k)) e (two_parts (foot.names_of_record first) (flat_map foot.names_of_record records) all).0
one_part (first ∷ records) r all (inr h) = one_part records r (two_parts (foot.names_of_record first) (flat_map foot.names_of_record records) all).1 h

-- ---- what is recorded

read_there : (s : recorded.Setting) (f : FileName) (r : Record) → recorded.record_for s.records f ≡ Some r → recorded.reads s f ≡ r.reads
read_there s f r some = rw some refl

written_there : (s : recorded.Setting) (f : FileName) (r : Record) → recorded.record_for s.records f ≡ Some r → recorded.writes s f ≡ r.writes
written_there s f r some = rw some refl

read_nowhere : (s : recorded.Setting) (f : FileName) → recorded.record_for s.records f ≡ None → recorded.reads s f ≡ []
read_nowhere s f none = rw none refl

written_nowhere : (s : recorded.Setting) (f : FileName) → recorded.record_for s.records f ≡ None → recorded.writes s f ≡ []
written_nowhere s f none = rw none refl

module _ (s : recorded.Setting) (all : ArePlain (flat_map foot.names_of_record s.records)) where
  -- the reads and writes of the record of a name
  recorded_plain : (n : FileName) → ArePlain (recorded.reads s n) × ArePlain (recorded.writes s n)
  recorded_plain n = at (recorded.record_for s.records n) refl
    where
      at : (o : Option Record) → recorded.record_for s.records n ≡ o → ArePlain (recorded.reads s n) × ArePlain (recorded.writes s n)
      at None none = (subst ArePlain (sym (read_nowhere s n none)) refl, subst ArePlain (sym (written_nowhere s n none)) refl)
      at (Some r) some =
          let whole = one_part s.records r all ((find-Has (λ (k : Record). bytes_eq n k.target) s.records r some).0) in
          let parts = two_parts r.reads r.writes (and_parts (is_plain_path r.target) (list_all is_plain_path (r.reads ++ r.writes)) whole).1 in
          (subst ArePlain (sym (read_there s n r some)) parts.0, subst ArePlain (sym (written_there s n r some)) parts.1)

  -- the files of a node's recipe
  of_recipe : (g : Graph) (t : ℕ) (f : FileName) → Has (reads g (footprints s) t) f → is_plain_path f ≡ true
  of_recipe g t f h = at (node g t).recipe h
    where
      at : (b : Bool) → Has (cond b (recorded.reads s (name g t)) []) f → is_plain_path f ≡ true
      at true k = list_all-Has is_plain_path (recorded.reads s (name g t)) f (recorded_plain (name g t)).0 k
      at false k = absurd k

  by_recipe : (g : Graph) (t : ℕ) (f : FileName) → Has (writes g (footprints s) t) f → is_plain_path f ≡ true
  by_recipe g t f h = at (node g t).recipe h
    where
      at : (b : Bool) → Has (cond b (recorded.writes s (name g t)) []) f → is_plain_path f ≡ true
      at true k = list_all-Has is_plain_path (recorded.writes s (name g t)) f (recorded_plain (name g t)).1 k
      at false k = absurd k

  -- all names
  pub of_world : (g : Graph) → ArePlain s.sources → list_all (λ (n : Node). is_plain_path n.name) g.nodes ≡ true → (f : FileName) → IsOfWorld g (footprints s) f → is_plain_path f ≡ true
  of_world g sources nodes f (inl (n, (low, same))) = subst (λ k. is_plain_path k ≡ true) same (list_all-Has (λ (k : Node). is_plain_path k.name) g.nodes (get_or g.nodes n no_node) nodes (Has-get_or g.nodes n no_node low))
  of_world g sources nodes f (inr (inl h)) = list_all-Has is_plain_path s.sources f sources h
  of_world g sources nodes f (inr (inr (t, inl h))) = of_recipe g t f h
  of_world g sources nodes f (inr (inr (t, inr h))) = by_recipe g t f h

-- ---- a subject

book_plain : foot.NamesReadArePlain → (goals : List (List ℕ)) (book : Book) → IsBookFor goals book → ArePlain (foot.names_of book)
book_plain read goals book (inl none) = subst (λ b. ArePlain (foot.names_of b)) (sym none) refl
book_plain read goals book (inr (bytes, is)) = read goals bytes book is

pub names_of_subject_are_plain : RuleLinesAreWellNamed → TextsArePlain → GoalsArePlain → NodesHavePlainNames → foot.NamesReadArePlain → NamesOfSubjectArePlain
names_of_subject_are_plain rules_named texts_plain goals_plain nodes_plain names_read x was f of =
    let named = rules_named was.reader was.file was.defaults was.operands x.makefile was.is_read in
    let texts = texts_plain was.reader was.file was.defaults was.operands x.makefile was.is_read in
    let parts = two_parts was.book.sources (flat_map foot.names_of_record was.book.records) (book_plain names_read was.goals was.book was.is_book) in
    let there : HavePlainNames x.makefile x.there = record {
      rules = named;
      sources = subst ArePlain (sym was.present) parts.0;
      texts = subst ArePlain (sym was.texts) texts;
      more = subst ArePlain (sym was.nothing_more) refl;
    } in
    let chosen = goals_plain x.makefile was.words was.goals named was.are_goals in
    let nodes = nodes_plain x.makefile x.there was.goals x.graph there chosen was.selected in
    let records = subst (λ (rs : List Record). ArePlain (flat_map foot.names_of_record rs)) (sym was.records) parts.1 in
    of_world x.setting records x.graph (subst ArePlain (sym was.sources) parts.0) nodes f of
