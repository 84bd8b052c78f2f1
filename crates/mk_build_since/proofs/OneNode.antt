-- Builds whose graph has one node, without prerequisites.
use Rattle.std.proofs.Common.{◌≡◌, ℕ, ◌+◌, ◌<◌, ◌≤◌, ◌⊎◌, zero, suc, List, [], ◌∷◌, Bool, true, false, Option, Some, None, inl, inr, ⊎_elim, refl, sym, ◌∙◌, ap, subst, arith}
use Rattle.std.specs.Option.{option_map}
use Rattle.std.proofs.lemmas.Bool.{true≢false, false≢true}
use Rattle.mk_graph.specs.Membership.{Has, IsWithin}
use Rattle.mk_graph.specs.Graph.{Graph, node, prerequisites, IsGraph, goal as reached_goal}
use Rattle.mk_graph.specs.Serial.{visit, visits, serial_from, order_from}
use Rattle.mk_graph.specs.Schedules.{CanStart, goal as wanted_goal, IsPart}
use Rattle.mk_build.specs.Setting.{FileName, Setting, is_given, name, reads, writes}
use Rattle.mk_build.specs.World.{File, Disk, Making, World, Idle, Busy, IsStartDisk, content, HasStamp, written, without}
use Rattle.mk_build.specs.Steps.{Make, Pass, MustRun, make_of}
use Rattle.mk_build.specs.Clean.{Contents, given_contents}
use Rattle.mk_build.specs.Ways.{CanChange}
use Rattle.mk_build.proofs.Changes.{cases_name, changed_there}
use Rattle.mk_build.proofs.Writing.{stamp_here}
use Rattle.mk_build.proofs.Removing.{gone_here, stays_there}
use Rattle.mk_build_behaviours.specs.Behaviours.{Behaviours, behaviour, path}
use Rattle.mk_build_behaviours.specs.CleanBy.{make_by, make_all_by, build_by, IsBuiltBy, ReadWithin, ArePresent}
use Rattle.mk_build_behaviours.specs.StepsBy.{IsLegalBy}
use Rattle.mk_build_since.specs.Named.{Commands}
use Rattle.mk_build_since.specs.Alike.{HoldAlike}
use Rattle.mk_build_since.specs.Next.{IsAccepted}

-- its name
abbrev pub target : FileName
target = 116 ∷ []

-- a goal with this name, with or without a recipe
abbrev pub one : Bool → Graph
one recipe = record { nodes = record { name = target; groups = []; recipe = recipe; phony = false } ∷ []; goals = 0 ∷ [] }

-- it needs nothing
pub needs_none : (r : Bool) (n p : ℕ) → ¬ (Has (prerequisites (one r) n) p)
needs_none r zero p h = h
needs_none r (suc n) p h = h

-- nothing is phony
not_phony : (r : Bool) (n : ℕ) → (node (one r) n).phony ≡ false
not_phony r zero = refl
not_phony r (suc n) = refl

-- only it may have a recipe
pub only_recipe : (r : Bool) (n : ℕ) → (node (one r) n).recipe ≡ true → (n ≡ 0) × (r ≡ true)
only_recipe r zero e = (refl, e)
only_recipe r (suc n) e = absurd (false≢true e)

-- it is a graph
is_graph : (r : Bool) → IsGraph (one r)
is_graph r = record {
  sound = record {
    names = (λ h. h, tt);
    goals = λ n h. ⊎_elim (λ e. omega arith) (λ none. absurd none) h;
    edges = λ n p h. absurd (needs_none r n p h);
    reached = λ n low. let first : 0 ≡ n = omega arith in reached_goal (inl first);
  };
  few = omega arith;
  no_cycle = record { height = λ n. 0; low = λ n low. omega arith; falls = λ n p h. absurd (needs_none r n p h) };
}

module _ (s : Setting) where
  -- only it writes
  pub only_writes : (r : Bool) (n : ℕ) (f : FileName) → Has (writes (one r) s n) f → (n ≡ 0) × (r ≡ true) × Has (s.writes target) f
  only_writes true zero f h = (refl, refl, h)
  only_writes false zero f h = absurd h
  only_writes r (suc n) f h = absurd h

  -- and reads
  pub only_reads : (r : Bool) (n : ℕ) (f : FileName) → Has (reads (one r) s n) f → (n ≡ 0) × (r ≡ true) × Has (s.reads target) f
  only_reads true zero f h = (refl, refl, h)
  only_reads false zero f h = absurd h
  only_reads r (suc n) f h = absurd h

  module _ (r : Bool) (own : r ≡ true → Has (s.writes target) target) (made : (f : FileName) → Has (s.writes target) f → is_given s f ≡ false) (given : (f : FileName) → Has (s.reads target) f → is_given s f ≡ true) (fixed : (f : FileName) → Has (s.reads target) f → ¬ (CanChange s f)) where
    writes_own : (n : ℕ) → (node (one r) n).recipe ≡ true → Has (writes (one r) s n) (name (one r) n)
    writes_own n recipe =
        let only = only_recipe r n recipe in
        subst (λ (k : ℕ). Has (writes (one r) s k) (name (one r) k)) (sym only.0) (subst (λ (q : Bool). Has (writes (one q) s 0) target) (sym only.1) (own only.1))

    none_loose : (n o : ℕ) → n < 1 → (node (one r) n).recipe ≡ false → Has (writes (one r) s o) (name (one r) n) → Has (prerequisites (one r) n) o
    none_loose zero o low none wrote = absurd (true≢false (sym (only_writes r o target wrote).1 ∙ none))
    none_loose (suc n) o low none wrote = absurd (omega arith)

    -- a build with given reads that can't change is accepted
    pub accepted : (commands : FileName → Commands) (behaviours : Behaviours) → IsAccepted (record { graph = one r; setting = s; commands = commands; behaviours = behaviours })
    accepted commands behaviours = record {
      graph = is_graph r;
      sound = record {
        target = λ n recipe no_phony. writes_own n recipe;
        one_writer = λ o n f one_wrote other_wrote. (only_writes r o f one_wrote).0 ∙ sym (only_writes r n f other_wrote).0;
        not_given = λ n f wrote. made f (only_writes r n f wrote).2;
        not_phony = λ n k wrote. not_phony r k;
        not_own = λ n f read wrote. true≢false (sym (given f (only_reads r n f read).2) ∙ made f (only_writes r n f wrote).2);
        known = λ n f read. inl (given f (only_reads r n f read).2);
        not_loose = none_loose;
      };
      no_race = λ n o f differ read wrote. absurd (differ ((only_writes r o f wrote).0 ∙ sym (only_reads r n f read).0));
      ways = λ n f read can. absurd (fixed f (only_reads r n f read).2 can);
    }

-- its order has it alone
pub order_one : (r : Bool) → order_from (one r) (0 ∷ []) ≡ 0 ∷ []
unfolding visit visits serial_from
order_one r = refl

module _ (r : Bool) (s : Setting) (b : Behaviours) (d : Disk) (end : Contents) (made : make_by (one r) s b (given_contents s d) 0 ≡ Some end) where
  -- footprints are present where it reads its own
  pub present : (r ≡ true → IsWithin (path (behaviour (one r) b 0) (given_contents s d)) (reads (one r) s 0)) → ArePresent (one r) s b d
  present within = subst (λ (ns : List ℕ). ReadWithin (one r) s b (given_contents s d) ns) (sym (order_one r)) (within, (end, made, tt))

  -- the clean build
  pub builds : build_by (one r) s b (given_contents s d) (0 ∷ []) ≡ Some end
  builds = ap (λ (ns : List ℕ). make_all_by (one r) s b (Some (given_contents s d)) ns) (order_one r) ∙ made

-- the goal can start
pub can_start : (r : Bool) → CanStart (one r) (0 ∷ []) [] 0
can_start r = record { wanted = wanted_goal (inl refl); not_done = λ h. h; prerequisites = tt }

-- its goals are a part
pub is_part : (r : Bool) → IsPart (0 ∷ []) (one r).goals
is_part r = record { not_empty = λ none. absurd (cc); within = (inl refl, tt) }

-- it need not run where it is there
pub need_not : (r : Bool) (d : Disk) (file : File) → d.files target ≡ Some file → ¬ (MustRun (one r) d 0)
need_not r d file there must =
    ⊎_elim (λ always. ⊎_elim (λ phony. false≢true phony) (λ need. needs_none r 0 need.0 need.1) always)
    (λ rest. ⊎_elim (λ none. let both : None ≡ Some file = sym none ∙ there in absurd (cc)) (λ later. needs_none r 0 later.0 later.3) rest)
    must

-- so a make may pass it
pub passes : (s : Setting) (b : Behaviours) (d : Disk) (file : File) → d.files target ≡ Some file → IsLegalBy (one true) s b (Idle d) (Make 1 (0 ∷ []) ∷ Pass 0 ∷ [])
passes s b d file there = ((omega arith, is_part true), (((can_start true, λ h. h, λ h. h), inr (need_not true d file there)), tt))

-- its goal isn't built where a file differs from the clean build
pub not_built : (s : Setting) (b : Behaviours) (d : Disk) (end : Contents) → make_by (one true) s b (given_contents s d) 0 ≡ Some end → (f : FileName) (c : ℕ) → Has (writes (one true) s 0) f → end f ≡ Some c → ¬ (content d f ≡ Some c) → ¬ (IsBuiltBy (one true) s b d (0 ∷ []))
not_built s b d end made f c wrote is differ built =
    let held = built.holds 0 f (reached_goal (inl refl)) wrote in
    let both : Some built.clean ≡ Some end = sym built.has_value ∙ builds true s b d end made in
    let same : built.clean ≡ end = cc in
    let value : Some held.0 ≡ Some c = sym held.1 ∙ (ap (λ (at : Contents). at f) same ∙ is) in
    differ (held.2 ∙ value)

-- the make in progress in a world
abbrev pub making_in : World → Making
making_in (Idle d) = make_of 1 []
making_in (Busy m d) = m

-- a name in a list of one
pub in_one : (f h : FileName) → Has (f ∷ []) h → f ≡ h
in_one f h among = ⊎_elim (λ e. e) (λ none. absurd none) among

-- no file is there at first
abbrev pub empty : Disk
empty = record { files = λ f. None; clock = 0; known = [] }

pub empty_start : (s : Setting) → IsStartDisk s empty
empty_start s = record { nothing_known = refl; given = λ f file e. absurd (cc); stamped = λ f file e. absurd (cc) }

-- no stamp is later than the clock
abbrev pub AreStamped : Disk → Type 0
AreStamped d = (f : FileName) (stamp : ℕ) → HasStamp d f stamp → stamp ≤ d.clock

pub empty_stamped : AreStamped empty
empty_stamped f stamp has = absurd (cc)

-- after a writing too
pub written_stamped : (d : Disk) (f : FileName) (c : ℕ) → AreStamped d → AreStamped (written d f c)
written_stamped d f c before h stamp has =
    ⊎_elim (λ same. let both : Some (d.clock + 1) ≡ Some stamp = sym (stamp_here d f c h same) ∙ has in let is : d.clock + 1 ≡ stamp = cc in omega arith)
    (λ differ. let was : HasStamp d h stamp = ap (λ (o : Option File). option_map (λ (file : File). file.stamp) o) (sym (changed_there d.files f h (Some (record { content = c; stamp = d.clock + 1 })) differ)) ∙ has in let early = before h stamp was in omega arith)
    (cases_name f h)

-- and after a removal
pub without_stamped : (d : Disk) (f : FileName) → AreStamped d → AreStamped (without d f)
without_stamped d f before h stamp has =
    ⊎_elim (λ same. let both : None ≡ Some stamp = sym (ap (λ (o : Option File). option_map (λ (file : File). file.stamp) o) (gone_here d f h same)) ∙ has in absurd (cc))
    (λ differ. before h stamp (ap (λ (o : Option File). option_map (λ (file : File). file.stamp) o) (sym (stays_there d f h differ)) ∙ has))
    (cases_name f h)

-- a name that a list of two has
pub in_two : (f g h : FileName) → Has (f ∷ g ∷ []) h → (f ≡ h) ⊎ (g ≡ h)
in_two f g h among = ⊎_elim (λ e. inl e) (λ rest. inr (in_one g h rest)) among

-- what is there isn't none
pub not_none : (c : ℕ) → ¬ (Some c ≡ None)
not_none c e = absurd (cc)

-- only it has the name of a recipe
pub only_named : (r : Bool) (o t : ℕ) → (node (one r) o).recipe ≡ true → name (one r) o ≡ name (one true) t → (o ≡ 0) × (t ≡ 0)
only_named r o zero recipe same = ((only_recipe r o recipe).0, refl)
only_named r o (suc t) recipe same =
    let first : o ≡ 0 = (only_recipe r o recipe).0 in
    let both : target ≡ [] = sym (ap (λ (k : ℕ). name (one r) k) first) ∙ same in
    absurd (cc)

-- what two such recipes hold
pub hold_at : (s other : Setting) (o t : ℕ) (v w : List ℕ) → (o ≡ 0) × (t ≡ 0) → HoldAlike (s.writes target) v (other.writes target) w → HoldAlike (writes (one true) s o) v (writes (one true) other t) w
hold_at s other o t v w are hold =
    subst (λ (k : ℕ). HoldAlike (writes (one true) s k) v (writes (one true) other t) w) (sym are.0) (subst (λ (k : ℕ). HoldAlike (writes (one true) s 0) v (writes (one true) other k) w) (sym are.1) hold)
