-- Two recipes that run at the same time: whatever the order of their steps, each next one is allowed.
use Rattle.std.proofs.Common.{◌≡◌, ℕ, ◌+◌, ◌<◌, ◌≤◌, List, [], ◌∷◌, ◌++◌, length, reverse, true, Option, Some, None, map, ◌⊎◌, inl, inr, ⊎_elim, refl, sym, ◌∙◌, ap, subst, arith}
use Rattle.std.specs.Prelude.{IfSome}
use Rattle.mk_graph.specs.Membership.{Has}
use Rattle.mk_graph.specs.Graph.{Graph, node}
use Rattle.mk_build.specs.Setting.{FileName, Setting, reads, writes, writings}
use Rattle.mk_build.specs.World.{Outcome, Disk, Making, World, Idle, Busy, IsStartDisk, HasStampsFor, content, changed, written, last_stamp, outcome}
use Rattle.mk_graph.specs.Schedules.{CanStart, IsSchedule, IsPart}
use Rattle.mk_build.specs.Steps.{Step, Look, Put, End, Allowed, after, MayEnd, begun, looked, has_put, finished, noted, seen_by, put_by, make_of, IsLegal, after_all}
use Rattle.mk_build.specs.SerialMake.{puts, rest_of_run}
use Rattle.mk_build.specs.NodeByNode.{MakesAll}
use Rattle.mk_build.specs.Overlap.{Interleaves, nothing, from_first, from_second, begin_both, RunTogether, overlapping}
use Rattle.mk_build.proofs.Changes.{cases_name, changed_here, changed_there, changed_at_here, changed_at_there}
use Rattle.mk_build.proofs.InOrder.{Has-from_without}
use Rattle.mk_build.proofs.Outcomes.{noted_unknown}
use Rattle.mk_build.proofs.WholeRuns.{legal_append, quiet}
use Rattle.mk_build.proofs.SerialHistory.{Arrives, skips}
use Rattle.mk_build.proofs.TurnLists.{turn_list_goes}

module _ (g : Graph) (s : Setting) where
  -- what a running recipe has still to do, with these files to look at, and these to put these contents into
  abbrev to_do : ℕ → (files puts_in : List FileName) → List ℕ → List Step
  to_do x files puts_in cs = map (λ f. Look x f) files ++ (puts x puts_in cs ++ End x ∷ [])

  -- It runs, and has seen and put all else.
  record Does (x : ℕ) (files puts_in : List FileName) (cs : List ℕ) (m : Making) : Type 0 where
    runs : Has m.running x
    looks : (f : FileName) → Has files f → Has (reads g s x) f
    seen : (f : FileName) → Has (reads g s x) f → Has files f ⊎ (¬ (m.seen x f ≡ None))
    writing : (f : FileName) → Has puts_in f → Has (writes g s x) f
    put : (f : FileName) → Has (writes g s x) f → Has puts_in f ⊎ (¬ (m.put x f ≡ None))
    many : length cs ≡ length puts_in

  -- nothing is known of the recipe
  abbrev IsUnknown : ℕ → Disk → Type 0
  IsUnknown x d = (saw : List (Option ℕ)) → outcome d.known x saw ≡ None

  -- These steps are left to a recipe, so many writings at most among them: none, or what it has still to do.
  record IsDoing (x : ℕ) (m : Making) (d : Disk) (left : List Step) (most : ℕ) : Type 0 where
    files : List FileName
    puts_in : List FileName
    cs : List ℕ
    is : left ≡ to_do x files puts_in cs
    few : length puts_in ≤ most
    does : Does x files puts_in cs m
    unknown : IsUnknown x d

  abbrev HasLeft : ℕ → Making → Disk → List Step → ℕ → Type 0
  HasLeft x m d left most = (left ≡ []) ⊎ IsDoing x m d left most

  -- a step of another recipe leaves it so
  stays : (x : ℕ) (m now : Making) (d later : Disk) (left : List Step) (most : ℕ) → (Has m.running x → Has now.running x) → now.seen x ≡ m.seen x → now.put x ≡ m.put x → (IsUnknown x d → IsUnknown x later) → HasLeft x m d left most → HasLeft x now later left most
  stays x m now d later left most runs seen put unknown (inl none) = inl none
  stays x m now d later left most runs seen put unknown (inr has) = inr (record {
    files = has.files;
    puts_in = has.puts_in;
    cs = has.cs;
    is = has.is;
    few = has.few;
    does = record {
      runs = runs has.does.runs;
      looks = has.does.looks;
      seen = λ f read. ⊎_elim (λ h. inl h) (λ some. inr (λ e. some (ap (λ (at : FileName → Option (Option ℕ)). at f) (sym seen) ∙ e))) (has.does.seen f read);
      writing = has.does.writing;
      put = λ f wrote. ⊎_elim (λ h. inl h) (λ some. inr (λ e. some (ap (λ (at : FileName → Option ℕ). at f) (sym put) ∙ e))) (has.does.put f wrote);
      many = has.does.many;
    };
    unknown = unknown has.unknown;
  })

  -- A step of one recipe is allowed beside another one, and leaves both so that they can go on.
  record Acts (x y : ℕ) (m : Making) (d : Disk) (step : Step) (left others : List Step) (most : ℕ) : Type 0 where
    may : Allowed g s (Busy m d) step
    making : Making
    disk : Disk
    leaves : after g s (Busy m d) step ≡ Busy making disk
    fewer : ℕ
    first : HasLeft x making disk left fewer
    second : HasLeft y making disk others most
    room : disk.clock + (fewer + most) ≤ last_stamp

  module _ (x y : ℕ) (differ : ¬ (x ≡ y)) (m : Making) (d : Disk) (step : Step) (left others : List Step) (own most : ℕ) (room : d.clock + (own + most) ≤ last_stamp) (other : HasLeft y m d others most) where
    -- a look
    look_acts : (f : FileName) (files puts_in : List FileName) (cs : List ℕ) → step ∷ left ≡ to_do x (f ∷ files) puts_in cs → length puts_in ≤ own → Does x (f ∷ files) puts_in cs m → IsUnknown x d → Acts x y m d step left others most
    look_acts f files puts_in cs e few does unknown =
        let here : step ≡ Look x f = cc in
        let rest : left ≡ to_do x files puts_in cs = cc in
        let now = looked m x f (content d f) in
        let own_seen = changed_at_here m.seen x x (changed (m.seen x) f (Some (content d f))) refl in
        subst (λ (k : Step). Acts x y m d k left others most) (sym here) (record {
          may = (does.runs, does.looks f (inl refl));
          making = now;
          disk = d;
          leaves = refl;
          fewer = own;
          first = inr (record {
            files = files;
            puts_in = puts_in;
            cs = cs;
            is = rest;
            few = few;
            does = record {
              runs = does.runs;
              looks = λ h among. does.looks h (inr among);
              seen = λ h read. ⊎_elim (λ same. inr (λ none. let both : Some (content d f)
                  ≡ None = sym (changed_here (m.seen x) f h (Some (content d f)) same)
                  ∙ (sym (ap (λ (at : FileName → Option (Option ℕ)). at h) own_seen) ∙ none) in cc))
                  (λ another. ⊎_elim (λ among. ⊎_elim (λ same. absurd (another same)) (λ there. inl there)
                  among) (λ some. inr (λ none. some (sym (changed_there (m.seen x) f h (Some (content d f))
                  another) ∙ (sym (ap (λ (at : FileName → Option (Option ℕ)). at h) own_seen) ∙ none))))
                  (does.seen h read)) (cases_name f h);
              writing = does.writing;
              put = does.put;
              many = does.many;
            };
            unknown = unknown;
          });
          second = stays y m now d d others most (λ h. h) (changed_at_there m.seen x y (changed (m.seen x) f (Some (content d f))) differ) refl (λ h. h) other;
          room = room;
        })

    -- a writing
    put_acts : (f : FileName) (puts_in : List FileName) (c : ℕ) (cs : List ℕ) → step ∷ left ≡ to_do x [] (f ∷ puts_in) (c ∷ cs) → length (f ∷ puts_in) ≤ own → Does x [] (f ∷ puts_in) (c ∷ cs) m → IsUnknown x d → Acts x y m d step left others most
    put_acts f puts_in c cs e few does unknown =
        let here : step ≡ Put x f c = cc in
        let rest : left ≡ to_do x [] puts_in cs = cc in
        let now = has_put m x f c in
        let own_put = changed_at_here m.put x x (changed (m.put x) f (Some c)) refl in
        subst (λ (k : Step). Acts x y m d k left others most) (sym here) (record {
          may = (does.runs, does.writing f (inl refl), omega arith);
          making = now;
          disk = written d f c;
          leaves = refl;
          fewer = length puts_in;
          first = inr (record {
            files = [];
            puts_in = puts_in;
            cs = cs;
            is = rest;
            few = omega arith;
            does = record {
              runs = does.runs;
              looks = λ h among. absurd among;
              seen = does.seen;
              writing = λ h among. does.writing h (inr among);
              put = λ h wrote. ⊎_elim (λ same. inr (λ none. let both : Some c
                  ≡ None = sym (changed_here (m.put x) f h (Some c) same)
                  ∙ (sym (ap (λ (at : FileName → Option ℕ). at h) own_put) ∙ none) in cc))
                  (λ another. ⊎_elim (λ among. ⊎_elim (λ same. absurd (another same)) (λ there. inl there)
                  among) (λ some. inr (λ none. some (sym (changed_there (m.put x) f h (Some c) another)
                  ∙ (sym (ap (λ (at : FileName → Option ℕ). at h) own_put) ∙ none)))) (does.put h wrote))
                  (cases_name f h);
              many = let more = does.many in omega arith;
            };
            unknown = unknown;
          });
          second = stays y m now d (written d f c) others most (λ h. h) refl (changed_at_there m.put x y (changed (m.put x) f (Some c)) differ) (λ h. h) other;
          room = omega arith;
        })

    -- the end
    end_acts : step ∷ left ≡ to_do x [] [] [] → Does x [] [] [] m → IsUnknown x d → Acts x y m d step left others most
    end_acts e does unknown =
        let here : step ≡ End x = cc in
        let rest : left ≡ [] = cc in
        let o : Outcome = record { recipe = x; seen = seen_by g s m x; written = put_by g s m x } in
        let may : MayEnd g s m d x = record {
          runs = does.runs;
          seen = λ f read. ⊎_elim (λ none. absurd none) (λ some. some) (does.seen f read);
          put = λ f wrote. ⊎_elim (λ none. absurd none) (λ some. some) (does.put f wrote);
          agrees = subst (λ (k : Option (List ℕ)). IfSome k (λ known. known ≡ put_by g s m x)) (sym (unknown (seen_by g s m x))) tt;
        } in
        subst (λ (k : Step). Acts x y m d k left others most) (sym here) (record {
          may = may;
          making = finished m x;
          disk = noted d o;
          leaves = refl;
          fewer = 0;
          first = inl rest;
          second = stays y m (finished m x) d (noted d o) others most
              (λ h. Has-from_without x y m.running h differ) (changed_at_there m.seen x y (λ h. None) differ)
              (changed_at_there m.put x y (λ h. None) differ) (λ none saw. subst
              (λ (l : List Outcome). outcome l y saw ≡ None) (sym
              (noted_unknown d o (unknown (seen_by g s m x)))) (skips o d.known y saw differ (none saw)))
              other;
          room = omega arith;
        })

    -- whichever of these is next
    next_acts : (files puts_in : List FileName) (cs : List ℕ) → step ∷ left ≡ to_do x files puts_in cs → length puts_in ≤ own → Does x files puts_in cs m → IsUnknown x d → Acts x y m d step left others most
    next_acts (f ∷ files) puts_in cs e few does unknown = look_acts f files puts_in cs e few does unknown
    next_acts [] (f ∷ puts_in) (c ∷ cs) e few does unknown = put_acts f puts_in c cs e few does unknown
    next_acts [] (f ∷ puts_in) [] e few does unknown = let many = does.many in absurd (omega arith)
    next_acts [] [] (c ∷ cs) e few does unknown = let many = does.many in absurd (omega arith)
    next_acts [] [] [] e few does unknown = end_acts e does unknown

    -- the next step of a recipe
    acts : HasLeft x m d (step ∷ left) own → Acts x y m d step left others most
    acts (inl none) = absurd (cc)
    acts (inr has) = next_acts has.files has.puts_in has.cs has.is has.few has.does has.unknown

  -- two recipes go on, step by step in any order
  module _ (a b : ℕ) (differ : ¬ (a ≡ b)) where
    goes_on : {left others between : List Step} → Interleaves left others between → (m : Making) (d : Disk) (own most : ℕ) → d.clock + (own + most) ≤ last_stamp → HasLeft a m d left own → HasLeft b m d others most → IsLegal g s (Busy m d) between
    goes_on nothing m d own most room first second = tt
    goes_on (from_first {x = step} {xs = left} {ys = others} {zs = between} more) m d own most room first second =
        let now = acts a b differ m d step left others own most room second first in
        (now.may, subst (λ (w : World). IsLegal g s w between) (sym now.leaves) (goes_on more now.making now.disk now.fewer most now.room now.first now.second))
    goes_on (from_second {y = step} {xs = left} {ys = others} {zs = between} more) m d own most room first second =
        let now = acts b a (λ same. differ (sym same)) m d step others left most own (omega arith) first second in
        (now.may, subst (λ (w : World). IsLegal g s w between) (sym now.leaves) (goes_on more now.making now.disk own now.fewer (let left_room = now.room in omega arith) now.second now.first))

    -- a recipe that has just begun has all to do
    begins : (x : ℕ) (cs : List ℕ) (m : Making) (d : Disk) → Has m.running x → length cs ≡ length (writes g s x) → IsUnknown x d → HasLeft x m d (rest_of_run g s x cs) (length (writes g s x))
    begins x cs m d runs many unknown = inr (record {
      files = reads g s x;
      puts_in = writes g s x;
      cs = cs;
      is = refl;
      few = omega arith;
      does = record { runs = runs; looks = λ f h. h; seen = λ f h. inl h; writing = λ f h. h; put = λ f h. inl h; many = many };
      unknown = unknown;
    })

module _ (g : Graph) (s : Setting) (d : Disk) (jobs : ℕ) (goals ns : List ℕ) (before : List Step)
    (start : IsStartDisk s d) (free : 1 < jobs) (part : IsPart goals g.goals) (turns : IsSchedule g goals ns)
    (makes : MakesAll g s (Busy (make_of jobs goals) d) (reverse ns) before) (a b : ℕ) (differ : ¬ (a ≡ b))
    (a_recipe : (node g a).recipe ≡ true) (b_recipe : (node g b).recipe ≡ true)
    (a_may : CanStart g goals ns a) (b_may : CanStart g goals ns b) (puts_a puts_b : List ℕ)
    (a_many : length puts_a ≡ length (writes g s a)) (b_many : length puts_b ≡ length (writes g s b))
    (room : HasStampsFor d (writings g s (reverse ns) + (length (writes g s a) + length (writes g s b))))
    (between : List Step) (together : RunTogether g s a puts_a b puts_b between) where
  -- both begin behind the turn list, and go on
  both_go : (end : FileName → Option ℕ) (w : World) → Arrives g s jobs goals ns end (d.clock + writings g s (reverse ns)) w → IsLegal g s w (begin_both a b ++ between)
  both_go end w arrived =
      let quiet_make = quiet g s jobs goals ns arrived.seen arrived.put in
      let now = begun (begun quiet_make a) b in
      let same = arrived.clock_is in
      let first = begins g s a b differ a puts_a now arrived.disk (inr (inl refl)) a_many (λ saw. arrived.unknown a saw a_may.not_done) in
      let second = begins g s a b differ b puts_b now arrived.disk (inl refl) b_many (λ saw. arrived.unknown b saw b_may.not_done) in
      let goes = goes_on g s a b differ together now arrived.disk (length (writes g s a)) (length (writes g s b)) (omega arith) first second in
      subst (λ (k : World). IsLegal g s k (begin_both a b ++ between)) (sym arrived.is) (((a_may, λ h. h, λ h. h), a_recipe, omega arith), (((b_may, λ h. ⊎_elim differ (λ none. none) h, λ h. h), b_recipe, omega arith), goes))

  -- the whole history is legal
  pub overlap_is_legal : IsLegal g s (Idle d) (overlapping jobs goals before a b between)
  overlap_is_legal =
      let begin = Busy (make_of jobs goals) d in
      let goes = turn_list_goes g s jobs (omega arith) goals d ns before start turns (omega arith) makes in
      ((omega arith, part), legal_append g s begin before (begin_both a b ++ between) goes.1 (both_go goes.0 (after_all g s begin before) goes.2))
