-- Each node has the places of what its recipe writes and reads in its turn, and those before keep
-- theirs.
use Rattle.std.proofs.Common.{◌≡◌, ◌∙◌, ◌+◌, ◌≤◌, ◌++◌, ◌∷◌, [], ℕ, List, refl, ap, sym, subst, get_or, length, map, length-append, arith}
use Rattle.std.specs.Borrow.{Bor}
use Rattle.mk_lemmas.proofs.Texts.{texts}
use Rattle.mk_graph.specs.declared.node.Node.{Node}
use Rattle.mk_graph.specs.Graph.{Graph}
use Rattle.mk_build.specs.Setting as build
use Rattle.mk_foot.specs.Setting as foot
use Rattle.mk_read.specs.Reading.{Makefile}
use Rattle.mk_subject.specs.FileInfo.{AreKnown, FileInfo, StandAt, known_by}
use Rattle.mk_subject.specs.Subject.{footprints}
use Rattle.mk_subject.specs.Writers.{numbers_at}
use Rattle.mk_subject.proofs.KnownFiles.{keys_more}
use Rattle.mk_subject.proofs.Past.{nothing_read, nothing_written}
use Rattle.mk_subject.proofs.Rows.{RowsHold, rows_push, rows_all}
use Rattle.mk_subject.proofs.files.files_of.Goals as goal

-- what rows of places say is so too as more names come
grown_rows : (keys rest new : List (Bor (List ℕ))) (files : ℕ → List (List ℕ)) (rows : List (List ℕ)) → new ≡ keys ++ rest → RowsHold (λ (t : ℕ) (row : List ℕ). StandAt (texts keys) row (files t)) rows [] → RowsHold (λ (t : ℕ) (row : List ℕ). StandAt (texts new) row (files t)) rows []
grown_rows keys rest new files rows grown held t low = keys_more keys rest new (get_or rows t []) (files t) grown (held t low)

-- a row more
one_more : (names : List (List ℕ)) (files : ℕ → List (List ℕ)) (rows new : List (List ℕ)) (row : List ℕ)
    (listed : List (List ℕ)) (n : ℕ) → new ≡ rows ++ row ∷ [] → length rows ≡ n → listed ≡ files n
    → StandAt names row listed → RowsHold (λ (t : ℕ) (row : List ℕ). StandAt names row (files t)) rows []
    → RowsHold (λ (t : ℕ) (row : List ℕ). StandAt names row (files t)) new []
one_more names files rows new row listed n pushed many same here held = rows_push (λ (t : ℕ) (places : List ℕ). StandAt names places (files t)) rows new row [] n pushed (sym many) held (subst (λ (fs : List (List ℕ)). StandAt names row fs) same here)

longer : (rows new : List (List ℕ)) (row : List ℕ) (n m : ℕ) → new ≡ rows ++ row ∷ [] → length rows ≡ n → m ≡ n + 1 → length new ≡ m
longer rows new row n m pushed many next = omega (arith, ap (λ (l : List (List ℕ)). length l) pushed, length-append rows (row ∷ []))

-- what is known by a setting is known by one that is the same
turned : (makefile : Makefile) (writers : List ℕ → List ℕ) (names : List (List ℕ)) (s other : foot.Setting) (keys : List (Bor (List ℕ))) (known : List FileInfo) → s ≡ other → AreKnown (known_by makefile s writers names) keys known → AreKnown (known_by makefile other writers names) keys known
turned makefile writers names s other keys known same h =
    subst (λ (k : foot.Setting). AreKnown (known_by makefile k writers names) keys known) same h

pub loop-number-init : goal.loop-number-init
loop-number-init c =
    let keys = c.places_of_nodes.new.files.keys in
    record {
      all = turned c.args.table.now (numbers_at c.args.writers.now) c.args.names.now c.setting.result.now c.args.records.now.setting keys c.places_of_nodes.new.known.items c.setting.ensures c.in_ok-nodes.ensures.all;
      nodes = subst (λ (ns : List Node). StandAt (texts keys) c.in_ok-nodes.nodes.items (map (λ (k : Node). k.name) ns)) (c.nodes.ensures.value ∙ ap (λ (h : Graph). h.nodes) c.graph-graph.ensures) c.in_ok-nodes.ensures.here;
      many_written = ap (λ (l : List (List ℕ)). length l) c.in_ok-writes.ensures;
      many_read = ap (λ (l : List (List ℕ)). length l) c.in_ok-reads.ensures;
      written = λ t low. absurd (omega (arith, low, ap (λ (l : List (List ℕ)). length l) c.in_ok-writes.ensures));
      read = λ t low. absurd (omega (arith, low, ap (λ (l : List (List ℕ)). length l) c.in_ok-reads.ensures));
    }

pub push_row-requires : goal.push_row-requires
push_row-requires c =
    turned c.args.table.now (numbers_at c.args.writers.now) c.args.names.now c.args.records.now.setting c.setting.result.now c.loop-number.files.keys c.loop-number.known.items (sym c.setting.ensures) c.loop-number.invariant.all

pub loop-number-preserved : goal.loop-number-preserved
loop-number-preserved c =
    let g = c.args.records.now.graph in
    let s = footprints c.args.records.now.setting in
    let inv = c.loop-number.invariant in
    let n = c.loop-number.number in
    let keys = c.loop-number.files.keys in
    let middle = c.push_row.new.files.keys in
    let last = c.push_row-in-loop-number.new.files.keys in
    let (rest, grown) = c.in_ok-push_row.ensures.more in
    let (other, further) = c.in_ok-push_row-2.ensures.more in
    let (row, pushed, here) = c.in_ok-push_row.ensures.here in
    let (second, appended, there) = c.in_ok-push_row-2.ensures.here in
    let wrote = one_more (texts middle) (build.writes g s) c.loop-number.writes c.push_row.new.rows row _ n pushed inv.many_written c.writes_of-written.ensures here (grown_rows keys rest middle (build.writes g s) c.loop-number.writes grown inv.written) in
    let read = grown_rows middle other last (build.reads g s) c.loop-number.reads further (grown_rows keys rest middle (build.reads g s) c.loop-number.reads grown inv.read) in
    record {
      all = turned c.args.table.now (numbers_at c.args.writers.now) c.args.names.now c.setting.result.now c.args.records.now.setting last c.push_row-in-loop-number.new.known.items c.setting.ensures c.in_ok-push_row-2.ensures.all;
      nodes = keys_more middle other last c.in_ok-nodes.nodes.items (map (λ (k : Node). k.name) g.nodes) further (keys_more keys rest middle c.in_ok-nodes.nodes.items (map (λ (k : Node). k.name) g.nodes) grown inv.nodes);
      many_written = longer c.loop-number.writes c.push_row.new.rows row n _ pushed inv.many_written (omega arith);
      many_read = longer c.loop-number.reads c.push_row-in-loop-number.new.rows second n _ appended inv.many_read (omega arith);
      written = grown_rows middle other last (build.writes g s) c.push_row.new.rows further wrote;
      read = one_more (texts last) (build.reads g s) c.loop-number.reads c.push_row-in-loop-number.new.rows second _ n appended inv.many_read c.reads_of-read.ensures there read;
    }

pub returns : goal.returns
returns c =
    let g = c.args.records.now.graph in
    let s = footprints c.args.records.now.setting in
    let inv = c.loop-number.invariant in
    let keys = c.loop-number.files.keys in
    let by : List ℕ → FileInfo = known_by c.args.table.now c.args.records.now.setting (numbers_at c.args.writers.now) c.args.names.now in
    let many : length g.nodes ≤ c.loop-number.number = omega (arith, c.loop-number-test.false, ap (λ (l : List Node). length l) c.nodes-count.ensures.value, ap (λ (h : Graph). length h.nodes) c.graph-graph.ensures) in
    record {
      known_held = inv.all ∙ spelled_map by keys;
      nodes_held = inv.nodes;
      writes_held = rows_all (λ (t : ℕ) (places : List ℕ). StandAt (texts keys) places (build.writes g s t)) c.loop-number.writes [] inv.written (λ t high. subst (λ (fs : List (List ℕ)). StandAt (texts keys) [] fs) (sym (nothing_written g s t (omega (arith, inv.many_written)))) refl);
      reads_held = rows_all (λ (t : ℕ) (places : List ℕ). StandAt (texts keys) places (build.reads g s t)) c.loop-number.reads [] inv.read (λ t high. subst (λ (fs : List (List ℕ)). StandAt (texts keys) [] fs) (sym (nothing_read g s t (omega (arith, inv.many_read)))) refl);
    }
  where
    spelled_map : (by : List ℕ → FileInfo) (ks : List (Bor (List ℕ))) → map (λ (k : Bor (List ℕ)). by k.now) ks ≡ map by (texts ks)
    spelled_map by [] = refl
    spelled_map by (k ∷ ks) = ap (λ (l : List FileInfo). by k.now ∷ l) (spelled_map by ks)
