-- A point of Assigns and Combs for which nothing is in doubt is hit in each run that shows the dump, or in none.
use Rattle.std.proofs.Common.{◌≡◌, ◌≢◌, ◌⊎◌, inl, inr, ⊎_elim, ℕ, zero, suc, ◌<◌, ◌≤◌, ◌==◌, Bool, true, false, List, [], ◌∷◌, ◌++◌, length, nat_le, nat_lt, refl, sym, ap, subst, ◌∙◌, arith, if◌then◌else◌, ap₂, map, ◌+◌}
use Rattle.std.specs.Prelude.{slice_index_or}
use Rattle.std.specs.List.{list_all, range_with_len}
use Rattle.std.proofs.lemmas.Bool.{and_parts, both_ways, cases_Bool, cases_lt, false_from_ne_true, leb-true, lt-ltb, ltb-true}
use Rattle.event_machine.specs.Cell.{Cell, Values}
use Rattle.event_machine.specs.Machine.{IsWakeCell}
use Rattle.event_machine.specs.Habit.{Habit}
use Rattle.event_machine.specs.Laws.{EvaluatesSettled}
use Rattle.four_state.specs.Vector.{same_bit}
use Rattle.four_state.specs.declared.bit.Bit.{Bit}
use Rattle.design_model.specs.declared.design.Signal.{Signal}
use Rattle.design_model.specs.Tree.{Process, assign, clocked, comb}
use Rattle.design_model.specs.Design.{Design, In, IsClocked, IsComb, IsThing, Thing, a_signal, a_word, body_at, cell, is_assign, no_signal, owner, process_at, signal_at}
use Rattle.design_model.specs.Mentions.{body_assigns, body_mentions, may_write}
use Rattle.design_model.specs.Execution.{Visit, at_line, at_node, execution, execution_start, reads, writes_word}
use Rattle.design_model.specs.Paths.{reads_signal_before_writing}
use Rattle.design_model.specs.Reads.{Agrees, HasValue, PartialMap, UpToOutside}
use Rattle.design_model.specs.Machine.{machine}
use Rattle.design_model.specs.Run.{IsRun, Run, StepOf, evaluations_of, settled, start_of}
use Rattle.design_model.specs.Shows.{BoundDump, IsDumpOf, IsShown, IsWindow, Shows, ShowsUpTo}
use Rattle.design_model.specs.Scored.{ChangesOver, IsScored, IsScoredOf, VisitsIn}
use Rattle.design_model.specs.Points.{IsBlock, Point}
use Rattle.design_model.specs.MayMove.{MayMoveAt}
use Rattle.design_model.specs.Clear.{IsSignal, clear, clear_before}
use Rattle.design_model.specs.Open.{IsOpenFor, IsVisitOf, IsWakeBit, KnownAtEnd}
use Rattle.design_model.specs.Doubt.{BlockDoubt, IsInDoubt, IsUnclear, MayWakeUnlisted, of_block, own_target, unclear_signal}
use Rattle.design_model.specs.Lawful.{IsLawfulDesign, is_signal, span}
use Rattle.design_model.specs.DecidedLaw.{IsSignalBlock, SettledDecidedLaw}
use Rattle.design_model.proofs.Agree.{AllOuter}
use Rattle.design_model.proofs.AssignLaws.{assign_visits_law}
use Rattle.design_model.proofs.Assigns.{machine_lawful}
use Rattle.design_model.proofs.BlockVisits.{all_inside, hit_visit, same_visit, upto_thing, visit_hit}
use Rattle.design_model.proofs.Combs.{AllInnerOf, IsInnerOf, body_inner}
use Rattle.design_model.proofs.DecidedClocked.{no_time_hit, step_of}
use Rattle.design_model.proofs.DecidedSignals.{clear_end_bits, clear_start_bits, stays}
use Rattle.design_model.proofs.ForcedSound.{clear_at}
use Rattle.design_model.proofs.Hits.{step_here, upto_in}
use Rattle.design_model.proofs.Lawful.{any_gives, assigns_any, may_any, place_from, same_bit_is, same_bit_self}
use Rattle.design_model.proofs.MadeSound.{comb_blocks}
use Rattle.design_model.proofs.Mentions.{AllReads, IsReadOf, execute_reads}
use Rattle.design_model.proofs.ReadThings.{AllThings, execute_things}
use Rattle.design_model.proofs.Reached.{body_outer}
use Rattle.design_model.proofs.SettledHits.{settling_level}
use Rattle.design_model.proofs.Sound.{IsSeen, cells_eq, pick_cell, step_or}
use Rattle.design_model.proofs.StepLaws.{StepLaws}
use Rattle.design_model.proofs.Times.{StepTo}
use Rattle.design_model.proofs.Stretches.{no_window_at, window_shown_at}
use Rattle.design_model.proofs.Toggles.{end_values, split_steps, start_values}
use Rattle.design_model.proofs.WithinMap.{execution_same}
use Rattle.design_model.proofs.Untouched.{untouched}
use Rattle.design_model.proofs.VisitedOpen.{visited_open}

last_or : {A : Type 0} → A → List A → A
last_or a [] = a
last_or a (x ∷ xs) = last_or x xs

last_end : {A : Type 0} (a : A) (xs : List A) (y : A) → last_or a (xs ++ y ∷ []) ≡ y
unfolding last_or
last_end a [] y = refl
last_end a (x ∷ xs) y = last_end x xs y

last_same : {A : Type 0} (xs ys : List A) (x y : A) → xs ++ x ∷ [] ≡ ys ++ y ∷ [] → x ≡ y
last_same xs ys x y e = sym (last_end x xs x) ∙ ap (last_or x) e ∙ last_end x ys y

-- when an execution of an Assign or Comb counts
abbrev Settles : Design → (r : Run) → StepOf r → ℕ → Values Bit → Type 0
Settles d r k p v = ((earlier : List (Values Bit)) × (evaluations_of d r k p ≡ earlier ++ v ∷ [])) × ((c : Cell) × IsWakeCell (machine d) p c × ChangesOver d r k c)

to_scored : (x : Process) (d : Design) (r : Run) (k : StepOf r) (p : ℕ) (v : Values Bit) → (IsClocked x → ⊥) → Settles d r k p v → IsScoredOf x d r k p v
to_scored (assign i z t c) d r k p v is h = h
to_scored (comb i wakes s) d r k p v is h = h
to_scored (clocked i events s) d r k p v is h = absurd (is tt)

from_scored : (x : Process) (d : Design) (r : Run) (k : StepOf r) (p : ℕ) (v : Values Bit) → (IsClocked x → ⊥) → IsScoredOf x d r k p v → Settles d r k p v
from_scored (assign i z t c) d r k p v is h = h
from_scored (comb i wakes s) d r k p v is h = h
from_scored (clocked i events s) d r k p v is h = absurd (is tt)

kind_of : (x : Process) → (IsClocked x → ⊥) → IsComb x ⊎ (is_assign x ≡ true)
kind_of (assign i z t c) is = inr refl
kind_of (comb i wakes s) is = inl tt
kind_of (clocked i events s) is = absurd (is tt)

all_at : (f : Signal → Bool) (xs : List Signal) (s : ℕ) → list_all f xs ≡ true → s < length xs → f (slice_index_or xs s no_signal) ≡ true
all_at f [] s all below = absurd (omega (arith, below))
all_at f (x ∷ xs) zero all below = (and_parts (f x) (list_all f xs) all).0
all_at f (x ∷ xs) (suc s) all below = all_at f xs s (and_parts (f x) (list_all f xs) all).1 (omega (arith, below))

some_bits : (d : Design) → IsLawfulDesign d → (s : ℕ) → s < length d.signals → 0 < (signal_at d s).width
some_bits d lawful s below =
    let p4 = and_parts _ _ (all_at (is_signal d) d.signals s lawful.signals below) in
    let p3 = and_parts _ ((signal_at d s).width == span (signal_at d s).high (signal_at d s).low) p4.0 in
    let p2 = and_parts _ (nat_le (signal_at d s).width 128) p3.0 in
    let p1 = and_parts (nat_lt (signal_at d s).instance (length d.instances)) (nat_le 1 (signal_at d s).width) p2.0 in
    let some : 1 ≤ (signal_at d s).width = leb-true 1 (signal_at d s).width p1.1 in
    omega (arith, some)

read_of : (Q : ℕ → Type 0) (x : Thing) (inner : Bool) (xs : List Visit) → AllReads Q xs → In (reads x inner) xs → Q (owner x)
read_of Q x inner [] a h = absurd h
read_of Q x inner (y ∷ xs) a (inl e) = subst (IsReadOf Q) e a.0
read_of Q x inner (y ∷ xs) a (inr h) = read_of Q x inner xs a.1 h

no_outer : (s : ℕ) (xs : List Visit) → AllInnerOf s xs → In (reads (a_signal s) false) xs → ⊥
no_outer s [] a h = h
no_outer s (y ∷ xs) a (inl e) = both_ways false refl (subst (IsInnerOf s) e a.0 refl)
no_outer s (y ∷ xs) a (inr h) = no_outer s xs a.1 h

-- a where the body mentions it, w elsewhere
pub mixed : Design → ℕ → Values Bit → Values Bit → Values Bit
mixed d p a w c = if body_mentions c.thing (body_at d p) then a c else w c

mixed_entry : (d : Design) (p : ℕ) (a w : Values Bit) (c : Cell) → body_mentions c.thing (body_at d p) ≡ true → mixed d p a w c ≡ a c
unfolding mixed
mixed_entry d p a w c e = ap (λ b. if b then a c else w c) e

mixed_settled : (d : Design) (p : ℕ) (a w : Values Bit) (c : Cell) → (body_mentions c.thing (body_at d p) ≡ true → a c ≡ w c) → mixed d p a w c ≡ w c
unfolding mixed
mixed_settled d p a w c same = go (body_mentions c.thing (body_at d p)) refl
  where
    go : (b : Bool) → body_mentions c.thing (body_at d p) ≡ b → (if b then a c else w c) ≡ w c
    go true e = same e
    go false e = refl

-- u on the bits that signals have, w elsewhere
within : Design → Values Bit → Values Bit → Values Bit
within d u w c = if nat_lt c.place (signal_at d c.thing).width then u c else w c

within_here : (d : Design) (u w : Values Bit) (c : Cell) → c.place < (signal_at d c.thing).width → within d u w c ≡ u c
unfolding within
within_here d u w c below = ap (λ b. if b then u c else w c) (lt-ltb c.place (signal_at d c.thing).width below)

range_same : (f g : Values Bit) (s n k : ℕ) → ((j : ℕ) → j < n + k → f (cell s j) ≡ g (cell s j)) → map f (map (cell s) (range_with_len n k)) ≡ map g (map (cell s) (range_with_len n k))
range_same f g s n zero h = refl
range_same f g s n (suc k) h = ap₂ (λ b bs. b ∷ bs) (h n (omega arith)) (range_same f g s (n + 1) k (λ j below. h j (omega (arith, below))))

outer_within : (d : Design) (u w : Values Bit) (Q : ℕ → Type 0) → ((m i : ℕ) → Q m → IsThing d (a_word m i) → ⊥) → (xs : List Visit) → AllThings d xs → AllReads Q xs → AllOuter d u (within d u w) xs
outer_within d u w Q none [] a b = tt
outer_within d u w Q none (at_line n ∷ xs) a b = (tt, outer_within d u w Q none xs a.1 b.1)
outer_within d u w Q none (at_node n c ∷ xs) a b = (tt, outer_within d u w Q none xs a.1 b.1)
outer_within d u w Q none (writes_word m i ∷ xs) a b = (tt, outer_within d u w Q none xs a.1 b.1)
outer_within d u w Q none (reads x true ∷ xs) a b = (tt, outer_within d u w Q none xs a.1 b.1)
outer_within d u w Q none (reads (a_signal s) false ∷ xs) a b =
    (range_same u (within d u w) s 0 (signal_at d s).width (λ j below. sym (within_here d u w (cell s j) (omega (arith, below)))), outer_within d u w Q none xs a.1 b.1)
outer_within d u w Q none (reads (a_word m i) false ∷ xs) a b = absurd (none m i b.0 a.0)

-- a run that shows the dump, over a window time
module _ (d : Design) (lawful : IsLawfulDesign d) (h : Habit) (laws : StepLaws (machine d) h) (dump : BoundDump) (fits : IsDumpOf d dump) (t : ℕ) (window : IsWindow dump (suc t)) (r : Run) (is_run : IsRun d h r) (shows : Shows d dump r) where
  shown : IsShown dump t × IsShown dump (suc t)
  shown = window_shown_at dump.stretches t window

  up_to : ShowsUpTo d dump r (suc t)
  up_to = record { starts = shows.starts; shows = λ u seen before. shows.shows u seen }

  now : IsSeen dump (suc t) t
  now = (shown.0, omega arith)

  next : IsSeen dump (suc t) (suc t)
  next = (shown.1, omega arith)

  -- a bit that a signal does not have does not change
  beyond : (c : Cell) → IsSignal d c.thing → (signal_at d c.thing).width ≤ c.place → settled d r (suc t) c ≡ settled d r t c
  beyond c signal past = ⊎_elim (λ same. ap (λ f. f c) same) over (step_or d lawful h dump fits.signals r is_run (suc t) up_to laws.net laws.no_wake laws.write laws.edge t)
    where
      no_place : c.place < (signal_at d c.thing).width → ⊥
      no_place below = omega (arith, below, past)

      over : StepTo (machine d) h (settled d r t) (settled d r (suc t)) → settled d r (suc t) c ≡ settled d r t c
      over s =
          ap (λ f. f c) (sym s.ends)
          ∙ untouched (machine d) (machine_lawful d lawful) c (λ input. no_place (ltb-true _ _ (and_parts (signal_at d c.thing).input _ input).1)) (λ q target. no_place (any_gives (λ x y w. may_write d y c) _ (λ x y w e. place_from d y c signal e) (body_at d q) (may_any d (body_at d q) c target))) h s.start s.events s.is_step
          ∙ ap (λ f. f c) s.starts

  module _ (p : ℕ) (not_clocked : IsClocked (process_at d p) → ⊥) (k : StepOf r) (at : k.step.time ≡ suc t) (c : Cell) (wake : IsWakeCell (machine d) p c) (changes : settled d r t c ≢ settled d r (suc t) c) where
    over_step : ChangesOver d r k c
    over_step e = changes (ap (λ f. f c) (sym (start_values d h r is_run k t at)) ∙ e ∙ ap (λ f. f c) (end_values d h r is_run k (suc t) at))

    -- it acts last on settled values
    pub acts : EvaluatesSettled (machine d) p (start_of d r k) k.step.events
    acts = laws.settled h (start_of d r k) k.step.events (step_of d h r.begins r.start k.before k.step k.later (split_steps d h r is_run k)) p c wake (λ e. over_step (sym e))

    pub acts_scored : IsScored d r k p acts.entry
    acts_scored = to_scored (process_at d p) d r k p acts.entry not_clocked ((acts.earlier, acts.evaluated), (c, wake, over_step))

    pub on_wakes : (b : Cell) → IsWakeCell (machine d) p b → acts.entry b ≡ settled d r (suc t) b
    on_wakes b w = acts.settled b w ∙ ap (λ f. f b) (end_values d h r is_run k (suc t) at)

    abbrev pub state : Values Bit
    state = mixed d p acts.entry (settled d r (suc t))

    -- the same execution on a state that agrees with what is clear
    pub same_visits : (execution d (body_at d p) state).visits ≡ (execution d (body_at d p) acts.entry).visits
    same_visits =
        (execution_same d state acts.entry (body_at d p) (body_outer d (body_at d p) state acts.entry (λ b m. mixed_entry d p acts.entry (settled d r (suc t)) b m) _ (execute_reads (λ y. body_mentions y (body_at d p) ≡ true) d (body_at d p) (λ y m. m) (execution_start state) tt))).visits

    pub agrees : Agrees d (KnownAtEnd d h dump (suc t) p) state
    agrees y bits known =
        cells_eq d state (settled d r (suc t)) y
        (λ b is. mixed_settled d p acts.entry (settled d r (suc t)) b
        (λ m. on_wakes b (settling_level (process_at d p) b.thing not_clocked m, false_from_ne_true _ (λ e. both_ways (body_assigns (owner y) (body_at d p)) known.0 (subst (λ q. body_assigns q (body_at d p) ≡ true) is (assigns_any d (body_at d p) b (inl e)))))))
        ∙ clear_at d lawful h laws dump r fits.signals is_run (suc t) up_to (suc t) next y bits known.1

module _ (d : Design) (lawful : IsLawfulDesign d) (h : Habit) (laws : StepLaws (machine d) h) (x : Point) (dump : BoundDump) (fits : IsDumpOf d dump) (t : ℕ) (window : IsWindow dump (suc t)) (none : (s : ℕ) → IsInDoubt d h dump x (suc t) s → ⊥) (r q : Run) (r_run : IsRun d h r) (q_run : IsRun d h q) (r_shows : Shows d dump r) (q_shows : Shows d dump q) (p : ℕ) (plain : IsSignalBlock d p) (is_block : IsBlock d x p) (k : StepOf r) (at : k.step.time ≡ suc t) (y : Visit) (is : IsVisitOf x y) (visits : VisitsIn d r k p y) (other : (kq : StepOf q) → kq.step.time ≡ suc t → VisitsIn d q kq p y → ⊥) where
  counts : Settles d r k p visits.0
  counts = from_scored (process_at d p) d r k p visits.0 plain.not_clocked visits.1

  -- over a wake cell that changes
  module _ (c : Cell) (wake : IsWakeCell (machine d) p c) (changes : settled d r t c ≢ settled d r (suc t) c) where
    signal : IsSignal d c.thing
    signal = plain.signals c.thing wake.0

    abbrev v : Values Bit
    v = state d lawful h laws dump fits t window r r_run r_shows p plain.not_clocked k at c wake changes

    abbrev K : PartialMap
    K = KnownAtEnd d h dump (suc t) p

    av : Agrees d (KnownAtEnd d h dump (suc t) p) v
    av = agrees d lawful h laws dump fits t window r r_run r_shows p plain.not_clocked k at c wake changes

    seen : In y (execution d (body_at d p) v).visits
    seen =
        let e = acts d lawful h laws dump fits t window r r_run r_shows p plain.not_clocked k at c wake changes in
        let same : visits.0 ≡ e.entry = last_same counts.0.0 e.earlier visits.0 e.entry (sym counts.0.1 ∙ e.evaluated) in
        subst (In y) (sym (same_visits d lawful h laws dump fits t window r r_run r_shows p plain.not_clocked k at c wake changes)) (subst (λ u. In y (execution d (body_at d p) u).visits) same visits.2)

    open_for : IsOpenFor d h dump (suc t) p x
    open_for = inr (plain.not_clocked, visited_open d (KnownAtEnd d h dump (suc t) p) (body_at d p) v av x y is seen)

    doubt : (s : ℕ) → BlockDoubt d h dump (suc t) s p → ⊥
    doubt s why = none s (of_block p window is_block open_for why)

    module _ (moves : MayMoveAt d dump (suc t) c.thing) where
      may_wake : MayWakeUnlisted d dump (suc t) p
      may_wake = inr (c.thing, wake.0, moves)

      clear_signal : (s n : ℕ) → IsWakeBit d p (cell s n) → IsUnclear d h dump (suc t) (a_signal s) → ⊥
      clear_signal s n bit unclear = doubt s (unclear_signal (record { place = n; not_clocked = plain.not_clocked; may_wake = may_wake; wake_bit = bit; unclear = unclear }))

      -- no word is read
      no_word : (m i : ℕ) → body_mentions m (body_at d p) ≡ true → IsThing d (a_word m i) → ⊥
      no_word m i mentioned thing =
          let below : m < length d.signals = plain.signals m (settling_level (process_at d p) m plain.not_clocked mentioned) in
          let above : length d.signals ≤ m = leb-true (length d.signals) m (and_parts (nat_le (length d.signals) m) _ thing.0).0 in
          omega (arith, below, above)

      -- what a Comb reads from outside would be in doubt
      outside_signal : IsComb (process_at d p) → (s : ℕ) → IsSignal d s → UpToOutside K (reads (a_signal s) false) (execution d (body_at d p) v).visits → (HasValue K (a_signal s) → ⊥) → ⊥
      outside_signal is_comb s thing upto unknown = ⊎_elim owned free (cases_Bool (body_assigns s (body_at d p)))
        where
          mentioned : body_mentions s (body_at d p) ≡ true
          mentioned = read_of (λ z. body_mentions z (body_at d p) ≡ true) (a_signal s) false (execution d (body_at d p) v).visits (execute_reads (λ z. body_mentions z (body_at d p) ≡ true) d (body_at d p) (λ z m. m) (execution_start v) tt) (upto_in K (reads (a_signal s) false) (execution d (body_at d p) v).visits upto)

          owned : body_assigns s (body_at d p) ≡ true → ⊥
          owned mine =
              ⊎_elim
              (λ early. doubt s (own_target (record { is_comb = is_comb; may_wake = may_wake; target = mine; reads_first = early })))
              (λ late. no_outer s (execution d (body_at d p) v).visits (body_inner d (body_at d p) s v (comb_blocks d (process_at d p) is_comb (lawful.targets p)) late) (upto_in K (reads (a_signal s) false) (execution d (body_at d p) v).visits upto))
              (cases_Bool (reads_signal_before_writing d (body_at d p) s))

          free : body_assigns s (body_at d p) ≡ false → ⊥
          free not_mine =
              clear_signal s 0 (thing, some_bits d lawful s thing, (settling_level (process_at d p) s plain.not_clocked mentioned, false_from_ne_true _ (λ e. both_ways _ not_mine (assigns_any d (body_at d p) (cell s 0) (inl e)))))
              (inr (λ has. unknown (has.0, (not_mine, has.1))))

      outside : IsComb (process_at d p) → (z : Thing) → UpToOutside K (reads z false) (execution d (body_at d p) v).visits → (HasValue K z → ⊥) → ⊥
      outside is_comb (a_signal s) upto unknown = outside_signal is_comb s (upto_thing d K (a_signal s) (execution d (body_at d p) v).visits (execute_things d (body_at d p) (lawful.bodies p) (execution_start v) tt) upto) upto unknown
      outside is_comb (a_word m i) upto unknown =
          no_word m i
          (read_of (λ z. body_mentions z (body_at d p) ≡ true) (a_word m i) false (execution d (body_at d p) v).visits (execute_reads (λ z. body_mentions z (body_at d p) ≡ true) d (body_at d p) (λ z m. m) (execution_start v) tt) (upto_in K (reads (a_word m i) false) (execution d (body_at d p) v).visits upto))
          (upto_thing d K (a_word m i) (execution d (body_at d p) v).visits (execute_things d (body_at d p) (lawful.bodies p) (execution_start v) tt) upto)

      -- a wake cell that a signal has ends the step alike in both runs
      wake_same : (b : Cell) → IsWakeCell (machine d) p b → b.place < (signal_at d b.thing).width → settled d r (suc t) b ≡ settled d q (suc t) b
      wake_same b is_wake below = ⊎_elim (λ e. same_bit_is _ _ e) (λ e. absurd (apart e)) (cases_Bool (same_bit (settled d r (suc t) b) (settled d q (suc t) b)))
        where
          apart : same_bit (settled d r (suc t) b) (settled d q (suc t) b) ≡ false → ⊥
          apart e =
              clear_signal b.thing b.place (plain.signals b.thing is_wake.0, below, is_wake)
              (inr (λ last. both_ways _ e (subst (λ z. same_bit (settled d r (suc t) b) z ≡ true) (pick_cell d (settled d r (suc t)) (settled d q (suc t)) b (clear_end_bits d lawful h laws dump fits t window r r_run r_shows b.thing last ∙ sym (clear_end_bits d lawful h laws dump fits t window q q_run q_shows b.thing last)) below) (same_bit_self (settled d r (suc t) b)))))

      abbrev u : Values Bit
      u = (acts d lawful h laws dump fits t window r r_run r_shows p plain.not_clocked k at c wake changes).entry

      abbrev Mentioned : ℕ → Type 0
      Mentioned z = body_mentions z (body_at d p) ≡ true

      -- over a step of the other run in which the cell changes
      module _ (differs : settled d q t c ≢ settled d q (suc t) c) (kq : StepOf q) (atq : kq.step.time ≡ suc t) where
        of_comb : IsComb (process_at d p) → ⊥
        of_comb is_comb =
            let e = acts d lawful h laws dump fits t window q q_run q_shows p plain.not_clocked kq atq c wake differs in
            let w : Values Bit = state d lawful h laws dump fits t window q q_run q_shows p plain.not_clocked kq atq c wake differs in
            all_inside K (execution d (body_at d p) v).visits (outside is_comb)
            (λ inside. other kq atq (
              e.entry,
              acts_scored d lawful h laws dump fits t window q q_run q_shows p plain.not_clocked kq atq c wake differs,
              subst (In y) (same_visits d lawful h laws dump fits t window q q_run q_shows p plain.not_clocked kq atq c wake differs) (same_visit d K (body_at d p) v w av (agrees d lawful h laws dump fits t window q q_run q_shows p plain.not_clocked kq atq c wake differs) inside y seen),
            ))

        abbrev w : Values Bit
        w = (acts d lawful h laws dump fits t window q q_run q_shows p plain.not_clocked kq atq c wake differs).entry

        on_wakes_same : (b : Cell) → IsWakeCell (machine d) p b → u b ≡ within d w u b
        unfolding within
        on_wakes_same b is_wake = go (nat_lt b.place (signal_at d b.thing).width) refl
          where
            go : (below : Bool) → nat_lt b.place (signal_at d b.thing).width ≡ below → u b ≡ (if below then w b else u b)
            go true e =
                on_wakes d lawful h laws dump fits t window r r_run r_shows p plain.not_clocked k at c wake changes b is_wake
                ∙ wake_same b is_wake (ltb-true b.place (signal_at d b.thing).width e)
                ∙ sym (on_wakes d lawful h laws dump fits t window q q_run q_shows p plain.not_clocked kq atq c wake differs b is_wake)
            go false e = refl

        -- what an Assign visits depends on its wake cells
        of_assign : is_assign (process_at d p) ≡ true → ⊥
        of_assign is_an_assign =
            let e = acts d lawful h laws dump fits t window r r_run r_shows p plain.not_clocked k at c wake changes in
            let first : visits.0 ≡ e.entry = last_same counts.0.0 e.earlier visits.0 e.entry (sym counts.0.1 ∙ e.evaluated) in
            let here : In y (execution d (body_at d p) u).visits = subst (λ z. In y (execution d (body_at d p) z).visits) first visits.2 in
            let there : In y (execution d (body_at d p) (within d w u)).visits = subst (In y) (assign_visits_law d lawful p is_an_assign u (within d w u) on_wakes_same) here in
            let same : (execution d (body_at d p) w).visits ≡ (execution d (body_at d p) (within d w u)).visits = (execution_same d w (within d w u) (body_at d p) (outer_within d w u Mentioned no_word (execution d (body_at d p) w).visits (execute_things d (body_at d p) (lawful.bodies p) (execution_start w) tt) (execute_reads Mentioned d (body_at d p) (λ z m. m) (execution_start w) tt))).visits in
            other kq atq (w, acts_scored d lawful h laws dump fits t window q q_run q_shows p plain.not_clocked kq atq c wake differs, subst (In y) (sym same) there)

      -- the other run has the same change
      in_other : settled d q t c ≢ settled d q (suc t) c → ⊥
      in_other differs =
          ⊎_elim (λ same. differs (ap (λ f. f c) (sym same)))
          (λ s. ⊎_elim (of_comb differs s.step s.at) (of_assign differs s.step s.at) (kind_of (process_at d p) plain.not_clocked)) (step_here d h q q_run t)

      in_range : c.place < (signal_at d c.thing).width → ⊥
      in_range below =
          let unclear : IsUnclear d h dump (suc t) (a_signal c.thing) → ⊥ = clear_signal c.thing c.place (signal, below, wake) in
          unclear (inl (λ first. unclear (inr (λ last. in_other (λ e. changes (old first ∙ e ∙ new last))))))
        where
          old : HasValue (clear_before d h dump (suc t)) (a_signal c.thing) → settled d r t c ≡ settled d q t c
          old first =
              pick_cell d (settled d r t) (settled d q t) c (clear_start_bits d lawful h laws dump fits t window r r_run r_shows c.thing first ∙ sym (clear_start_bits d lawful h laws dump fits t window q q_run q_shows c.thing first)) below

          new : HasValue (clear d h dump (suc t)) (a_signal c.thing) → settled d q (suc t) c ≡ settled d r (suc t) c
          new last =
              pick_cell d (settled d q (suc t)) (settled d r (suc t)) c (clear_end_bits d lawful h laws dump fits t window q q_run q_shows c.thing last ∙ sym (clear_end_bits d lawful h laws dump fits t window r r_run r_shows c.thing last)) below

      pub differ_moving : ⊥
      differ_moving = ⊎_elim in_range (λ past. changes (sym (beyond d lawful h laws dump fits t window r r_run r_shows c signal past))) (cases_lt c.place (signal_at d c.thing).width)

    pub differ : ⊥
    differ = still (λ moves. differ_moving moves)
      where
        still : (MayMoveAt d dump (suc t) c.thing → ⊥) → ⊥
        still calm = changes (sym (stays d lawful h laws dump fits t window r r_run r_shows c calm))

  pub decided_block : ⊥
  decided_block = differ counts.1.0 counts.1.1 changes
    where
      changes : settled d r t counts.1.0 ≢ settled d r (suc t) counts.1.0
      changes e = counts.1.2 (ap (λ f. f counts.1.0) (start_values d h r r_run k t at) ∙ e ∙ ap (λ f. f counts.1.0) (sym (end_values d h r r_run k (suc t) at)))

pub settled_decided_law : (d : Design) (h : Habit) → IsLawfulDesign d → StepLaws (machine d) h → SettledDecidedLaw d h
settled_decided_law d h lawful laws x point blocks dump r q fits r_run q_run r_shows q_shows zero window none hit other = no_window_at dump.stretches window
settled_decided_law d h lawful laws x point blocks dump r q fits r_run q_run r_shows q_shows (suc t) window none (inr a) other = no_time_hit d x point r (suc t) a.1
settled_decided_law d h lawful laws x point blocks dump r q fits r_run q_run r_shows q_shows (suc t) window none (inl k) other =
    let o = hit_visit d r k.0 x point k.2 in
    decided_block d lawful h laws x dump fits t window none r q r_run q_run r_shows q_shows o.process (blocks o.process o.is_block) o.is_block k.0 k.1 o.visit o.is o.visits (λ kq at visits. other (inl (kq, at, visit_hit d q kq x o.process o.visit o.is_block o.is visits)))
