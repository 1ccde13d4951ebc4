-- A point of an Assign or Comb for which nothing is in doubt is hit in each run that shows the dump, or in none, also where a memory wakes it.
use Rattle.std.proofs.Common.{◌≡◌, ◌≢◌, ◌⊎◌, inl, inr, ⊎_elim, ℕ, suc, ◌<◌, ◌≤◌, ◌-◌, Bool, true, false, List, [], ◌∷◌, ◌++◌, length, nat_le, refl, sym, ap, subst, ◌∙◌, arith, if◌then◌else◌}
use Rattle.std.proofs.lemmas.Bool.{and_parts, both_ways, cases_Bool, cases_lt, false_from_ne_true, leb-true}
use Rattle.design_model.specs.event_machine.Cell.{Cell, Values, Write, WritesCell}
use Rattle.design_model.specs.event_machine.Machine.{IsTarget, IsWakeCell, output}
use Rattle.design_model.specs.event_machine.Habit.{Habit}
use Rattle.design_model.specs.event_machine.Laws.{EvaluatesSettled}
use Rattle.design_model.specs.event_machine.Step.{outputs}
use Rattle.design_model.specs.four_state.Vector.{same_bit}
use Rattle.design_model.specs.four_state.declared.bit.Bit.{Bit}
use Rattle.design_model.specs.Tree.{Process, assign, clocked, comb}
use Rattle.design_model.specs.Design.{Design, In, IsClocked, IsComb, IsThing, Thing, a_signal, a_word, body_at, cell, cells, is_assign, owner, process_at, signal_at, thing_bits}
use Rattle.design_model.specs.Mentions.{body_assigns, body_mentions}
use Rattle.design_model.specs.Execution.{Visit, execution, execution_start, reads}
use Rattle.design_model.specs.Paths.{reads_signal_before_writing}
use Rattle.design_model.specs.Reads.{Agrees, AllInside, HasValue, ReadsWithin, PartialMap, ReadsFrom, UpToOutside}
use Rattle.design_model.specs.Machine.{machine}
use Rattle.design_model.specs.Run.{IsRun, Run, StepOf, evaluations_of, settled, start_of}
use Rattle.design_model.specs.Shows.{BoundDump, IsDumpOf, IsShown, IsWindow, Shows, ShowsUpTo}
use Rattle.design_model.specs.Scored.{ChangesOver, IsScoredOf, VisitsIn}
use Rattle.design_model.specs.Points.{IsBlock}
use Rattle.design_model.specs.declared.point.Point.{Point}
use Rattle.design_model.specs.MayMove.{MayMoveAt}
use Rattle.design_model.specs.Clear.{clear, clear_before}
use Rattle.design_model.specs.Open.{IsOpenFor, IsVisitOf, IsWakeBit, KnownAtEnd}
use Rattle.design_model.specs.Doubt.{BlockDoubt, IsInDoubt, IsUnclear, MayWakeUnlisted, of_block, own_target, unclear_signal, unclear_word}
use Rattle.design_model.specs.Lawful.{IsLawfulDesign}
use Rattle.design_model.specs.StepLaws.{StepFacts}
use Rattle.design_model.specs.BodyLaws.{all_cells}
use Rattle.design_model.proofs.AssignLaws.{assign_visits_law, has_bit}
use Rattle.design_model.proofs.BlockVisits.{all_inside, same_visit, upto_thing}
use Rattle.design_model.proofs.BodyLaws.{listed_memory_law, settled_signals_law, written_cells_law}
use Rattle.design_model.proofs.Combs.{AllInnerOf, IsInnerOf, body_inner}
use Rattle.design_model.proofs.DecidedSettled.{acts, acts_scored, agrees, on_wakes, same_visits, state}
use Rattle.design_model.proofs.DecidedSignals.{stays}
use Rattle.design_model.proofs.ForcedSound.{clear_at}
use Rattle.design_model.proofs.Hits.{step_here, upto_in}
use Rattle.design_model.proofs.Lawful.{assigns_any, same_bit_is, same_bit_self}
use Rattle.design_model.proofs.MadeSound.{comb_blocks}
use Rattle.design_model.proofs.Mentions.{AllReads, IsReadOf, execute_reads}
use Rattle.design_model.proofs.Named.{WritesCell-halves}
use Rattle.design_model.proofs.ReadThings.{execute_things}
use Rattle.design_model.proofs.SettledHits.{settling_level}
use Rattle.design_model.proofs.Sound.{IsSeen}
use Rattle.design_model.proofs.StepFacts.{facts_law}
use Rattle.design_model.proofs.StepLaws.{StepLaws}
use Rattle.design_model.proofs.Stretches.{window_shown_at}
use Rattle.design_model.proofs.Toggles.{end_values, start_values}
use Rattle.design_model.proofs.WithinMap.{execution_same}
use Rattle.design_model.proofs.Untouched.{put_other}
use Rattle.design_model.proofs.VisitedOpen.{visited_open}
use Rattle.model_laws.proofs.Cells.{has, has_in, in_has, in_signal, input_cell, on_design, outer_on, pick_in, signal_place, word_of_cell}

last_or : {A : Type 0} → A → List A → A
last_or a [] = a
last_or a (x ∷ xs) = last_or x xs

last_end : {A : Type 0} (a : A) (xs : List A) (y : A) → last_or a (xs ++ y ∷ []) ≡ y
unfolding last_or
last_end a [] y = refl
last_end a (x ∷ xs) y = last_end x xs y

last_same : {A : Type 0} (xs ys : List A) (x y : A) → xs ++ x ∷ [] ≡ ys ++ y ∷ [] → x ≡ y
last_same xs ys x y e = sym (last_end x xs x) ∙ ap (last_or x) e ∙ last_end x ys y

-- when an execution of an Assign or Comb counts
abbrev Settles : Design → (r : Run) → StepOf r → ℕ → Values Bit → Type 0
Settles d r k p v = ((earlier : List (Values Bit)) × (evaluations_of d r k p ≡ earlier ++ v ∷ [])) × ((c : Cell) × IsWakeCell (machine d) p c × ChangesOver d r k c)

from_scored : (x : Process) (d : Design) (r : Run) (k : StepOf r) (p : ℕ) (v : Values Bit) → (IsClocked x → ⊥) → IsScoredOf x d r k p v → Settles d r k p v
from_scored (assign i z t c) d r k p v is h = h
from_scored (comb i wakes s) d r k p v is h = h
from_scored (clocked i events s) d r k p v is h = absurd (is tt)

kind_of : (x : Process) → (IsClocked x → ⊥) → IsComb x ⊎ (is_assign x ≡ true)
kind_of (assign i z t c) is = inr refl
kind_of (comb i wakes s) is = inl tt
kind_of (clocked i events s) is = absurd (is tt)

read_of : (Q : ℕ → Type 0) (x : Thing) (inner : Bool) (xs : List Visit) → AllReads Q xs → In (reads x inner) xs → Q (owner x)
read_of Q x inner [] a h = absurd h
read_of Q x inner (y ∷ xs) a (inl e) = subst (IsReadOf Q) e a.0
read_of Q x inner (y ∷ xs) a (inr h) = read_of Q x inner xs a.1 h

no_outer : (s : ℕ) (xs : List Visit) → AllInnerOf s xs → In (reads (a_signal s) false) xs → ⊥
no_outer s [] a h = h
no_outer s (y ∷ xs) a (inl e) = both_ways false refl (subst (IsInnerOf s) e a.0 refl)
no_outer s (y ∷ xs) a (inr h) = no_outer s xs a.1 h

-- a run that shows the dump, over a window time
module _ (d : Design) (lawful : IsLawfulDesign d) (h : Habit) (laws : StepLaws (machine d) h) (dump : BoundDump) (fits : IsDumpOf d dump) (t : ℕ) (window : IsWindow dump (suc t)) (r : Run) (is_run : IsRun d h r) (shows : Shows d dump r) where
  shown : IsShown dump t × IsShown dump (suc t)
  shown = window_shown_at dump.stretches t window

  up_to : ShowsUpTo d dump r (suc t)
  up_to = record { starts = shows.starts; shows = λ u seen before. shows.shows u seen }

  now : IsSeen dump (suc t) t
  now = (shown.0, omega arith)

  next : IsSeen dump (suc t) (suc t)
  next = (shown.1, omega arith)

  -- what is clear has its value at the start and at the end
  clear_start : (x : Thing) (value : HasValue (clear_before d h dump (suc t)) x) → thing_bits d (settled d r t) x ≡ value.0
  clear_start x value =
      let last : suc t - 1 ≡ t = omega arith in
      clear_at d lawful h laws dump r fits.signals is_run (suc t) up_to t now x value.0 (subst (λ u. clear d h dump u x value.0) last value.1)

  clear_end : (x : Thing) (value : HasValue (clear d h dump (suc t)) x) → thing_bits d (settled d r (suc t)) x ≡ value.0
  clear_end x value = clear_at d lawful h laws dump r fits.signals is_run (suc t) up_to (suc t) next x value.0 value.1

  -- a cell that is not of the design does not change
  beyond : (c : Cell) → has (all_cells d c.thing) c ≡ false → settled d r t c ≢ settled d r (suc t) c → ⊥
  beyond c outside changes = changes (sym (facts.unwritten c no_input no_target))
    where
      facts : StepFacts d h dump t (settled d r t) (settled d r (suc t))
      facts = facts_law d lawful h laws dump r t fits.signals (record { is_run = is_run; shows = up_to }) window

      away : (ws : List (Write Bit)) → (WritesCell ws c → In c (all_cells d c.thing)) → WritesCell ws c → ⊥
      away ws f w = both_ways _ outside (has_in (all_cells d c.thing) c (f w))

      outputs_away : (p : ℕ) (vs : List (Values Bit)) → WritesCell (outputs (machine d) p vs) c → ⊥
      outputs_away p [] w = w
      outputs_away p (v ∷ vs) w = ⊎_elim (away (output (machine d) p v) (written_cells_law d lawful p v c)) (outputs_away p vs) (WritesCell-halves (output (machine d) p v) (outputs (machine d) p vs) c w)

      no_target : (p : ℕ) → IsTarget (machine d) p c → ⊥
      no_target p target = changes (sym ((facts.evaluated p).1 c target ∙ put_other (settled d r t) (outputs (machine d) p (facts.evaluated p).0) c (outputs_away p (facts.evaluated p).0)))

      no_input : (machine d).is_input c ≡ true → ⊥
      no_input input = both_ways _ outside (has_in (all_cells d c.thing) c (input_cell d c input))

module _ (d : Design) (lawful : IsLawfulDesign d) (h : Habit) (laws : StepLaws (machine d) h) (x : Point) (dump : BoundDump) (fits : IsDumpOf d dump) (t : ℕ) (window : IsWindow dump (suc t)) (none : (s : ℕ) → IsInDoubt d h dump x (suc t) s → ⊥) (r q : Run) (r_run : IsRun d h r) (q_run : IsRun d h q) (r_shows : Shows d dump r) (q_shows : Shows d dump q) (p : ℕ) (not_clocked : IsClocked (process_at d p) → ⊥) (is_block : IsBlock d x p) (k : StepOf r) (at : k.step.time ≡ suc t) (y : Visit) (is : IsVisitOf x y) (visits : VisitsIn d r k p y) (other : (kq : StepOf q) → kq.step.time ≡ suc t → VisitsIn d q kq p y → ⊥) where
  counts : Settles d r k p visits.0
  counts = from_scored (process_at d p) d r k p visits.0 not_clocked visits.1

  abbrev K : PartialMap
  K = KnownAtEnd d h dump (suc t) p

  abbrev Mentioned : ℕ → Type 0
  Mentioned z = body_mentions z (body_at d p) ≡ true

  -- over a wake cell that changes
  module _ (c : Cell) (wake : IsWakeCell (machine d) p c) (changes : settled d r t c ≢ settled d r (suc t) c) where
    abbrev v : Values Bit
    v = state d lawful h laws dump fits t window r r_run r_shows p not_clocked k at c wake changes

    av : Agrees d (KnownAtEnd d h dump (suc t) p) v
    av = agrees d lawful h laws dump fits t window r r_run r_shows p not_clocked k at c wake changes

    abbrev e : EvaluatesSettled (machine d) p (start_of d r k) k.step.events
    e = acts d lawful h laws dump fits t window r r_run r_shows p not_clocked k at c wake changes

    first : visits.0 ≡ (acts d lawful h laws dump fits t window r r_run r_shows p not_clocked k at c wake changes).entry
    first = last_same counts.0.0 e.earlier visits.0 e.entry (sym counts.0.1 ∙ e.evaluated)

    seen : In y (execution d (body_at d p) v).visits
    seen = subst (In y) (sym (same_visits d lawful h laws dump fits t window r r_run r_shows p not_clocked k at c wake changes)) (subst (λ u. In y (execution d (body_at d p) u).visits) first visits.2)

    open_for : IsOpenFor d h dump (suc t) p x
    open_for = inr (not_clocked, visited_open d (KnownAtEnd d h dump (suc t) p) (body_at d p) v av x y is seen)

    doubt : (s : ℕ) → BlockDoubt d h dump (suc t) s p → ⊥
    doubt s why = none s (of_block p window is_block open_for why)

    module _ (moves : MayMoveAt d dump (suc t) c.thing) where
      may_wake : MayWakeUnlisted d dump (suc t) p
      may_wake = inr (c.thing, wake.0, moves)

      clear_signal : (s n : ℕ) → IsWakeBit d p (cell s n) → IsUnclear d h dump (suc t) (a_signal s) → ⊥
      clear_signal s n bit unclear = doubt s (unclear_signal (record { place = n; not_clocked = not_clocked; may_wake = may_wake; wake_bit = bit; unclear = unclear }))

      clear_word : (m i : ℕ) → body_mentions m (body_at d p) ≡ true → IsThing d (a_word m i) → ReadsFrom d (KnownAtEnd d h dump (suc t) p) (body_at d p) (a_word m i) ⊎ MayMoveAt d dump (suc t) m → IsUnclear d h dump (suc t) (a_word m i) → ⊥
      clear_word m i mentioned thing why unclear =
          doubt m (unclear_word (record { word = i; not_clocked = not_clocked; may_wake = may_wake; mentioned = mentioned; is_thing = thing; unclear = unclear; read_or_moves = why }))

      -- an Assign or Comb assigns no memory
      not_assigned : (m i : ℕ) → IsThing d (a_word m i) → body_assigns m (body_at d p) ≡ false
      not_assigned m i thing = false_from_ne_true _ (λ mine. apart (settled_signals_law d lawful p m not_clocked mine))
        where
          apart : m < length d.signals → ⊥
          apart below = let most = leb-true (length d.signals) m (and_parts (nat_le (length d.signals) m) _ thing.0).0 in omega (arith, below, most)

      all_read : (u : Values Bit) → AllReads (λ z. body_mentions z (body_at d p) ≡ true) (execution d (body_at d p) u).visits
      all_read u = execute_reads (λ z. body_mentions z (body_at d p) ≡ true) d (body_at d p) (λ z m. m) (execution_start u) tt

      mentioned_by : (z : Thing) → UpToOutside (KnownAtEnd d h dump (suc t) p) (reads z false) (execution d (body_at d p) v).visits → body_mentions (owner z) (body_at d p) ≡ true
      mentioned_by z upto = read_of (λ n. body_mentions n (body_at d p) ≡ true) z false (execution d (body_at d p) v).visits (all_read v) (upto_in K (reads z false) (execution d (body_at d p) v).visits upto)

      -- what a Comb reads from outside would be in doubt
      outside_signal : IsComb (process_at d p) → (s : ℕ) → s < length d.signals → UpToOutside (KnownAtEnd d h dump (suc t) p) (reads (a_signal s) false) (execution d (body_at d p) v).visits → (HasValue (KnownAtEnd d h dump (suc t) p) (a_signal s) → ⊥) → ⊥
      outside_signal is_comb s thing upto unknown = ⊎_elim owned free (cases_Bool (body_assigns s (body_at d p)))
        where
          owned : body_assigns s (body_at d p) ≡ true → ⊥
          owned mine =
              ⊎_elim
              (λ early. doubt s (own_target (record { is_comb = is_comb; may_wake = may_wake; target = mine; reads_first = early })))
              (λ late. no_outer s (execution d (body_at d p) v).visits (body_inner d (body_at d p) s v (comb_blocks d (process_at d p) is_comb (lawful.targets p)) late) (upto_in K (reads (a_signal s) false) (execution d (body_at d p) v).visits upto))
              (cases_Bool (reads_signal_before_writing d (body_at d p) s))

          some : 0 < (signal_at d s).width
          some = let one = has_bit d lawful s thing in omega (arith, one)

          free : body_assigns s (body_at d p) ≡ false → ⊥
          free not_mine =
              clear_signal s 0 (thing, some, (settling_level (process_at d p) s not_clocked (mentioned_by (a_signal s) upto), false_from_ne_true _ (λ b. both_ways _ not_mine (assigns_any d (body_at d p) (cell s 0) (inl b)))))
              (inr (λ value. unknown (value.0, (not_mine, value.1))))

      outside : IsComb (process_at d p) → (z : Thing) → UpToOutside (KnownAtEnd d h dump (suc t) p) (reads z false) (execution d (body_at d p) v).visits → (HasValue (KnownAtEnd d h dump (suc t) p) z → ⊥) → ⊥
      outside is_comb (a_signal s) upto unknown = outside_signal is_comb s (upto_thing d K (a_signal s) (execution d (body_at d p) v).visits (execute_things d (body_at d p) (lawful.bodies p) (execution_start v) tt) upto) upto unknown
      outside is_comb (a_word m i) upto unknown = clear_word m i (mentioned_by (a_word m i) upto) thing (inl (inl (v, av, upto))) (inr (λ value. unknown (value.0, (not_assigned m i thing, value.1))))
        where
          thing : IsThing d (a_word m i)
          thing = upto_thing d K (a_word m i) (execution d (body_at d p) v).visits (execute_things d (body_at d p) (lawful.bodies p) (execution_start v) tt) upto

      -- over a step of the other run in which the cell changes
      module _ (differs : settled d q t c ≢ settled d q (suc t) c) (kq : StepOf q) (atq : kq.step.time ≡ suc t) where
        abbrev f : EvaluatesSettled (machine d) p (start_of d q kq) kq.step.events
        f = acts d lawful h laws dump fits t window q q_run q_shows p not_clocked kq atq c wake differs

        -- a body that reads only what is known visits the same in both
        if_inside : AllInside (KnownAtEnd d h dump (suc t) p) (execution d (body_at d p) v).visits → ⊥
        if_inside inside =
            other kq atq (
              f.entry,
              acts_scored d lawful h laws dump fits t window q q_run q_shows p not_clocked kq atq c wake differs,
              subst (In y) (same_visits d lawful h laws dump fits t window q q_run q_shows p not_clocked kq atq c wake differs) (same_visit d K (body_at d p) v (state d lawful h laws dump fits t window q q_run q_shows p not_clocked kq atq c wake differs) av (agrees d lawful h laws dump fits t window q q_run q_shows p not_clocked kq atq c wake differs) inside y seen),
            )

        of_comb : IsComb (process_at d p) → ⊥
        of_comb is_comb = all_inside K (execution d (body_at d p) v).visits (outside is_comb) if_inside

        abbrev u : Values Bit
        u = e.entry

        abbrev w : Values Bit
        w = f.entry

        -- where an Assign reads more than what is known, each word that it mentions may be read
        module _ (is_an_assign : is_assign (process_at d p) ≡ true) (not_told : ReadsWithin d (KnownAtEnd d h dump (suc t) p) (body_at d p) → ⊥) where
          -- so a wake cell of the design ends the step alike in both runs
          end_same : (z : Thing) (b : Cell) → In b (cells d z) → (IsUnclear d h dump (suc t) z → ⊥) → settled d r (suc t) b ≡ settled d q (suc t) b
          end_same z b inside known = ⊎_elim (λ a. same_bit_is _ _ a) (λ a. absurd (apart a)) (cases_Bool (same_bit (settled d r (suc t) b) (settled d q (suc t) b)))
            where
              apart : same_bit (settled d r (suc t) b) (settled d q (suc t) b) ≡ false → ⊥
              apart a =
                  known
                  (inr (λ last. both_ways _ a (subst (λ o. same_bit (settled d r (suc t) b) o ≡ true) (pick_in (settled d r (suc t)) (settled d q (suc t)) (cells d z) b (clear_end d lawful h laws dump fits t window r r_run r_shows z last ∙ sym (clear_end d lawful h laws dump fits t window q q_run q_shows z last)) inside) (same_bit_self (settled d r (suc t) b)))))

          wake_same : (b : Cell) → IsWakeCell (machine d) p b → In b (all_cells d b.thing) → settled d r (suc t) b ≡ settled d q (suc t) b
          wake_same b is_wake inside = ⊎_elim of_signal of_word (cases_lt b.thing (length d.signals))
            where
              of_signal : b.thing < length d.signals → settled d r (suc t) b ≡ settled d q (suc t) b
              of_signal less = let below = signal_place d b less inside in end_same (a_signal b.thing) b (in_signal d b below) (clear_signal b.thing b.place (less, below, is_wake))

              of_word : length d.signals ≤ b.thing → settled d r (suc t) b ≡ settled d q (suc t) b
              of_word most =
                  let found = word_of_cell d b most inside in
                  let mentioned = listed_memory_law d lawful p b.thing is_wake.0 found.1.0 in
                  end_same (a_word b.thing found.0) b found.2 (clear_word b.thing found.0 mentioned found.1 (inl (inr (not_told, mentioned, found.1))))

          on_wakes_same : (b : Cell) → IsWakeCell (machine d) p b → u b ≡ on_design d w u b
          on_wakes_same b is_wake = go (has (all_cells d b.thing) b) refl
            where
              go : (a : Bool) → has (all_cells d b.thing) b ≡ a → u b ≡ (if a then w b else u b)
              go true here =
                  on_wakes d lawful h laws dump fits t window r r_run r_shows p not_clocked k at c wake changes b is_wake
                  ∙ wake_same b is_wake (in_has (all_cells d b.thing) b here)
                  ∙ sym (on_wakes d lawful h laws dump fits t window q q_run q_shows p not_clocked kq atq c wake differs b is_wake)
              go false here = refl

          if_outside : ⊥
          if_outside =
              let here : In y (execution d (body_at d p) u).visits = subst (λ z. In y (execution d (body_at d p) z).visits) first visits.2 in
              let there : In y (execution d (body_at d p) (on_design d w u)).visits = subst (In y) (assign_visits_law d lawful p is_an_assign u (on_design d w u) on_wakes_same) here in
              let same : (execution d (body_at d p) w).visits ≡ (execution d (body_at d p) (on_design d w u)).visits = (execution_same d w (on_design d w u) (body_at d p) (outer_on d w u (execution d (body_at d p) w).visits (execute_things d (body_at d p) (lawful.bodies p) (execution_start w) tt))).visits in
              other kq atq (w, acts_scored d lawful h laws dump fits t window q q_run q_shows p not_clocked kq atq c wake differs, subst (In y) (sym same) there)

        of_assign : is_assign (process_at d p) ≡ true → ⊥
        of_assign is_an_assign = if_outside is_an_assign (λ told. if_inside (told v av))

      -- the other run has the same change
      in_other : settled d q t c ≢ settled d q (suc t) c → ⊥
      in_other differs =
          ⊎_elim (λ same. differs (ap (λ z. z c) (sym same)))
          (λ s. ⊎_elim (of_comb differs s.step s.at) (of_assign differs s.step s.at) (kind_of (process_at d p) not_clocked)) (step_here d h q q_run t)

      -- where the thing of the cell is clear at both ends
      if_clear : (z : Thing) → In c (cells d z) → (IsUnclear d h dump (suc t) z → ⊥) → ⊥
      if_clear z inside known = known (inl (λ start. known (inr (λ last. in_other (λ a. changes (old start ∙ a ∙ new last))))))
        where
          old : HasValue (clear_before d h dump (suc t)) z → settled d r t c ≡ settled d q t c
          old start = pick_in (settled d r t) (settled d q t) (cells d z) c (clear_start d lawful h laws dump fits t window r r_run r_shows z start ∙ sym (clear_start d lawful h laws dump fits t window q q_run q_shows z start)) inside

          new : HasValue (clear d h dump (suc t)) z → settled d q (suc t) c ≡ settled d r (suc t) c
          new last = pick_in (settled d q (suc t)) (settled d r (suc t)) (cells d z) c (clear_end d lawful h laws dump fits t window q q_run q_shows z last ∙ sym (clear_end d lawful h laws dump fits t window r r_run r_shows z last)) inside

      differ_inside : In c (all_cells d c.thing) → ⊥
      differ_inside inside = ⊎_elim of_signal of_word (cases_lt c.thing (length d.signals))
        where
          of_signal : c.thing < length d.signals → ⊥
          of_signal less = let below = signal_place d c less inside in if_clear (a_signal c.thing) (in_signal d c below) (clear_signal c.thing c.place (less, below, wake))

          of_word : length d.signals ≤ c.thing → ⊥
          of_word most =
              let found = word_of_cell d c most inside in
              if_clear (a_word c.thing found.0) found.2 (clear_word c.thing found.0 (listed_memory_law d lawful p c.thing wake.0 found.1.0) found.1 (inr moves))

      pub differ_moving : ⊥
      differ_moving = ⊎_elim (λ here. differ_inside (in_has (all_cells d c.thing) c here)) (λ away. beyond d lawful h laws dump fits t window r r_run r_shows c away changes) (cases_Bool (has (all_cells d c.thing) c))

    pub differ : ⊥
    differ = still (λ moves. differ_moving moves)
      where
        still : (MayMoveAt d dump (suc t) c.thing → ⊥) → ⊥
        still calm = changes (sym (stays d lawful h laws dump fits t window r r_run r_shows c calm))

  pub settled_block : ⊥
  settled_block = differ counts.1.0 counts.1.1 changes
    where
      changes : settled d r t counts.1.0 ≢ settled d r (suc t) counts.1.0
      changes a = counts.1.2 (ap (λ z. z counts.1.0) (start_values d h r r_run k t at) ∙ a ∙ ap (λ z. z counts.1.0) (sym (end_values d h r r_run k (suc t) at)))
