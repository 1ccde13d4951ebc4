-- In every run that shows the dump the settled values are those that are clear: from the laws of the machine.
use Rattle.std.proofs.Common.{◌≡◌, ◌≢◌, ◌⊎◌, inl, inr, ⊎_elim, ℕ, zero, suc, ◌+◌, ◌-◌, ◌*◌, ◌<◌, ◌≤◌, Bool, true, false, List, [], ◌∷◌, ◌++◌, map, length, append-nil, refl, sym, ap, ap₂, subst, ◌∙◌, arith, if◌then◌else◌}
use Rattle.event_machine.specs.Machine.{Edge as MachineEdge}
use Rattle.std.specs.Prelude.{nat_le}
use Rattle.std.proofs.lemmas.Bool.{and_parts, ltb-true, leb-true, cases_Bool, false≢true, both_ways}
use Rattle.std.specs.List.{range_with_len}
use Rattle.std.specs.Prelude.{slice_index_or}
use Rattle.event_machine.specs.Cell.{Cell, Update, UpdatesCell, Values, Write, WritesCell, join, put_all}
use Rattle.event_machine.specs.Machine.{IsTarget, output}
use Rattle.event_machine.specs.State.{State}
use Rattle.event_machine.specs.Event.{Event, end_state}
use Rattle.event_machine.specs.Habit.{Habit}
use Rattle.event_machine.specs.Step.{IsStep, evaluations, outputs}
use Rattle.event_machine.specs.Told.{IsAsTold, IsToldCell}
use Rattle.event_machine.specs.ToldStep.{ToldStep}
use Rattle.event_machine.specs.Laws.{EdgeLaw, EvaluatesOnce, NetLaw, NoWakeLaw, WriteLaw}
use Rattle.four_state.specs.declared.bit.Bit.{Bit}
use Rattle.design_model.specs.Tree.{Process, assign, clocked, comb}
use Rattle.design_model.specs.Design.{Design, IsAssign, IsClocked, IsThing, Thing, a_signal, a_word, body, body_at, cell, is_assign, memory_at, no_process, owner, process_at, signal_at, signal_bits, thing_bits}
use Rattle.design_model.specs.Mentions.{body_assigns, may_write}
use Rattle.design_model.specs.Execution.{execution}
use Rattle.design_model.specs.Reads.{Agrees, PartialMap, nothing_known}
use Rattle.design_model.specs.Machine.{is_level, machine}
use Rattle.design_model.specs.Run.{IsRun, Run, settled}
use Rattle.design_model.specs.Shows.{BindsSignals, BoundDump, IsShown, IsWindow, ShowsUpTo}
use Rattle.design_model.specs.MayMove.{CanWakeSome, IsCleanAt, IsSingleAt, told_at}
use Rattle.design_model.specs.Early.{IsEarlyAt}
use Rattle.design_model.specs.Clear.{EntryFrom, IsClearBy, IsClockedTarget, IsCombValue, IsNetValue, IsWrittenValue, LeavesValue, all_writes, clear, clear_in, driven_writes, drives, of_assigns, of_clean, of_comb, of_dump, of_unwoken}
use Rattle.design_model.specs.Lawful.{IsLawfulDesign, is_signal}
use Rattle.design_model.proofs.Assigns.{machine_lawful}
use Rattle.design_model.proofs.Bound.{clear-thing}
use Rattle.design_model.proofs.Lawful.{any_gives, assign_or, assigns_any, edge_one, may_any, place_from}
use Rattle.design_model.proofs.Named.{WritesCell-halves}
use Rattle.event_machine.proofs.Rounds.{single_told}  -- #keep
use Rattle.design_model.proofs.Times.{StepTo, next_time}
use Rattle.design_model.proofs.WithinMap.{put_append, put_same}
use Rattle.design_model.proofs.Untouched.{put_other, untouched}
use Rattle.design_model.proofs.Stretches.{no_window_at, window_shown_at}

abbrev head_or : Bit → List Bit → Bit
head_or b [] = b
head_or b (c ∷ cs) = c

abbrev tail_of : List Bit → List Bit
tail_of [] = []
tail_of (c ∷ cs) = cs

-- equal bits of a signal are equal at each place
pick : (u v : Values Bit) (s n k j : ℕ) → map u (map (cell s) (range_with_len n k)) ≡ map v (map (cell s) (range_with_len n k)) → j < k → u (cell s (n + j)) ≡ v (cell s (n + j))
pick u v s n zero j e h = absurd (omega (arith, h))
pick u v s n (suc k) zero e h =
    let same : n ≡ n + 0 = omega arith in
    subst (λ y. u (cell s y) ≡ v (cell s y)) same (ap (head_or (u (cell s n))) e)
pick u v s n (suc k) (suc j) e h =
    let same : (n + 1) + j ≡ n + suc j = omega arith in
    subst (λ y. u (cell s y) ≡ v (cell s y)) same (pick u v s (n + 1) k j (ap tail_of e) (omega arith))

pub pick_cell : (d : Design) (u v : Values Bit) (c : Cell) → signal_bits d u c.thing ≡ signal_bits d v c.thing → c.place < (signal_at d c.thing).width → u c ≡ v c
pick_cell d u v c e h =
    let same : 0 + c.place ≡ c.place = omega arith in
    subst (λ y. u (cell c.thing y) ≡ v (cell c.thing y)) same (pick u v c.thing 0 (signal_at d c.thing).width c.place e h)

-- states that agree on each cell of a thing's number agree on the thing
cells_at : (u v : Values Bit) (s : ℕ) (ks : List ℕ) → ((c : Cell) → c.thing ≡ s → u c ≡ v c) → map u (map (cell s) ks) ≡ map v (map (cell s) ks)
cells_at u v s [] h = refl
cells_at u v s (k ∷ ks) h = ap₂ (λ b bs. b ∷ bs) (h (cell s k) refl) (cells_at u v s ks h)

words_at : (u v : Values Bit) (m i w : ℕ) (ks : List ℕ) → ((c : Cell) → c.thing ≡ m → u c ≡ v c) → map u (map (λ k. cell m (i * w + k)) ks) ≡ map v (map (λ k. cell m (i * w + k)) ks)
words_at u v m i w [] h = refl
words_at u v m i w (k ∷ ks) h = ap₂ (λ b bs. b ∷ bs) (h (cell m (i * w + k)) refl) (words_at u v m i w ks h)

pub cells_eq : (d : Design) (u v : Values Bit) (x : Thing) → ((c : Cell) → c.thing ≡ owner x → u c ≡ v c) → thing_bits d u x ≡ thing_bits d v x
cells_eq d u v (a_signal s) h = cells_at u v s (range_with_len 0 (signal_at d s).width) h
cells_eq d u v (a_word m i) h = words_at u v m i (memory_at d m).width (range_with_len 0 (memory_at d m).width) h

-- a Clocked is not level-sensitive, an Assign queues nothing
pub no_level : (x : Process) → IsClocked x → (y : ℕ) → is_level x y ≡ false
no_level (assign i t v c) h y = absurd h
no_level (comb i wakes s) h y = absurd h
no_level (clocked i events s) h y = refl

pub no_queue : (d : Design) (x : Process) (v : Values Bit) → is_assign x ≡ true → (execution d (body x) v).nonblocking ≡ []
no_queue d (assign i t y c) v e = refl
no_queue d (comb i wakes s) v e = absurd (false≢true e)
no_queue d (clocked i events s) v e = absurd (false≢true e)

not_assign : (x : Process) → IsClocked x → IsAssign x → ⊥
not_assign (assign i t v c) h a = h
not_assign (comb i wakes s) h a = h
not_assign (clocked i events s) h a = a

UpdatesCell-join : (us : List (Update Bit)) (c : Cell) → WritesCell (join us) c → UpdatesCell us c
UpdatesCell-join [] c h = h
UpdatesCell-join (u ∷ us) c h = ⊎_elim (λ a. inl a) (λ b. inr (UpdatesCell-join us c b)) (halves u (join us) c h)
  where
    halves : (us ws : List (Write Bit)) (c : Cell) → WritesCell (us ++ ws) c → WritesCell us c ⊎ WritesCell ws c
    halves us ws c h = WritesCell-halves us ws c h

-- the dump shows the time, up to which it is looked at
abbrev pub IsSeen : BoundDump → ℕ → ℕ → Type 0
IsSeen dump end t = IsShown dump t × (t ≤ end)

module _ (d : Design) (lawful : IsLawfulDesign d) (h : Habit) (dump : BoundDump) (binds : BindsSignals d dump) (r : Run) (is_run : IsRun d h r) (end : ℕ) (shows : ShowsUpTo d dump r end) (net_law : NetLaw (machine d)) (no_wake_law : NoWakeLaw (machine d)) (write_law : WriteLaw (machine d)) (edge_law : EdgeLaw (machine d) h) where
  abbrev pub values_at : ℕ → Values Bit
  values_at t = settled d r t

  abbrev pub StepAt : ℕ → Type 0
  StepAt t = StepTo (machine d) h (values_at t) (values_at (suc t))

  pub step_or : (t : ℕ) → (values_at (suc t) ≡ values_at t) ⊎ StepAt t
  step_or t = next_time (machine d) h r.begins t r.start r.steps is_run.steps

  told_range : (t : ℕ) (c : Cell) → IsToldCell (machine d) (told_at dump t) c → c.place < (signal_at d c.thing).width
  told_range t c told =
      ⊎_elim (λ input. ltb-true _ _ (and_parts (signal_at d c.thing).input _ input).1)
      (λ target. any_gives (λ x y w. may_write d y c) _ (λ x y w e. place_from d y c (binds c.thing told.0) e) (body_at d target.0) (may_any d (body_at d target.0) c target.1)) told.1

  pub at_time : (t : ℕ) → IsSeen dump end t → (c : Cell) → dump.bound c.thing ≡ true → c.place < (signal_at d c.thing).width → values_at t c ≡ dump.values t c
  at_time t is_shown c bound range = pick_cell d (values_at t) (dump.values t) c (shows.shows t is_shown.0 is_shown.1 c.thing bound) range

  pub back : (t : ℕ) → suc t - 1 ≡ t
  back t = omega arith

  pub as_told : (t : ℕ) → IsSeen dump end t → IsSeen dump end (suc t) → (s : StepAt t) → IsAsTold (machine d) (told_at dump (suc t)) s.start s.events
  as_told t now next s c told =
      (ap (λ f. f c) s.starts ∙ at_time t now c told.0 (told_range (suc t) c told) ∙ ap (λ y. dump.values y c) (sym (back t)), ap (λ f. f c) s.ends ∙ at_time (suc t) next c told.0 (told_range (suc t) c told))

  abbrev pub told_step : (t : ℕ) → IsSeen dump end t → IsSeen dump end (suc t) → StepAt t → ToldStep (machine d) h (told_at dump (suc t))
  told_step t now next s = record { start = s.start; events = s.events; is_step = s.is_step; as_told = as_told t now next s }

  -- a cell of what Clocked p writes that p does not write itself stays
  other_stays : (p : ℕ) (x : Thing) (c : Cell) → IsClockedTarget d p x → c.thing ≡ owner x → (IsTarget (machine d) p c → ⊥) → (s : State Bit) (es : List (Event Bit)) → IsStep (machine d) h s es → (end_state (machine d) s es).values c ≡ s.values c
  other_stays p x c target is none s es step =
      untouched (machine d) (machine_lawful d lawful) c
      (λ input. both_ways _ (lawful.no_input p c.thing mine) (and_parts (signal_at d c.thing).input _ input).0)
      (λ q at. none (subst (λ y. IsTarget (machine d) y c) (same q (assigns_any d (body_at d q) c at)) at)) h s es step
    where
      mine : body_assigns c.thing (body_at d p) ≡ true
      mine = subst (λ y. body_assigns y (body_at d p) ≡ true) (sym is) target.target

      same : (q : ℕ) → body_assigns c.thing (body_at d q) ≡ true → q ≡ p
      same q theirs =
          ⊎_elim (λ a. absurd (not_assign (process_at d p) target.is_clocked (lawful.apart q p c.thing a theirs mine)))
          (λ n. lawful.one_writer q p c.thing n (not_assign (process_at d p) target.is_clocked) theirs mine) (assign_or (process_at d q))

  target_or : (p : ℕ) (c : Cell) → IsTarget (machine d) p c ⊎ (IsTarget (machine d) p c → ⊥)
  target_or p c = go (cases_Bool ((machine d).blocking p c)) (cases_Bool ((machine d).nonblocking p c))
    where
      go : ((machine d).blocking p c ≡ true) ⊎ ((machine d).blocking p c ≡ false) → ((machine d).nonblocking p c ≡ true) ⊎ ((machine d).nonblocking p c ≡ false) → IsTarget (machine d) p c ⊎ (IsTarget (machine d) p c → ⊥)
      go (inl e) f = inl (inl e)
      go (inr e) (inl f) = inl (inr f)
      go (inr e) (inr f) = inr (λ x. ⊎_elim (λ y. both_ways _ e y) (λ y. both_ways _ f y) x)

  -- what Clocked p writes stays over a time at which p cannot wake
  kept_sound : (t p : ℕ) (x : Thing) → IsSeen dump end t → IsSeen dump end (suc t) → IsClockedTarget d p x → (CanWakeSome d dump (suc t) p → ⊥) → thing_bits d (values_at (suc t)) x ≡ thing_bits d (values_at t) x
  kept_sound t p x now next target cannot_wake = cells_eq d (values_at (suc t)) (values_at t) x (λ c is. ⊎_elim (λ same. ap (λ f. f c) same) (λ s. sym (ap (λ f. f c) s.ends) ∙ over s c is ∙ ap (λ f. f c) s.starts) (step_or t))
    where
      over : (s : StepAt t) (c : Cell) → c.thing ≡ owner x → (end_state (machine d) s.start s.events).values c ≡ s.start.values c
      over s c is =
          let none : evaluations (machine d) p s.start s.events ≡ [] = no_wake_law (dump.round (suc t)) h (told_at dump (suc t)) (told_step t now next s) p (no_level (process_at d p) target.is_clocked) (λ b wakes. cannot_wake (b, wakes)) in
          ⊎_elim (λ at. write_law h s.start s.events s.is_step p c at ∙ ap (λ vs. put_all s.start.values (outputs (machine d) p vs) c) none) (λ n. other_stays p x c target is n s.start s.events s.is_step) (target_or p c)

  -- over a time at which a block is clean the settled values change
  pub clean_moves : (t p : ℕ) (c : Cell) → IsSeen dump end t → IsSeen dump end (suc t) → IsCleanAt d dump (suc t) p c → values_at (suc t) ≡ values_at t → ⊥
  clean_moves t p c now next clean same =
      let is_told : IsToldCell (machine d) (told_at dump (suc t)) c = single_told (machine d) (told_at dump (suc t)) (dump.round (suc t)) c clean.is_single in
      let range : c.place < (signal_at d c.thing).width = told_range (suc t) c is_told in
      let e : MachineEdge = clean.can_wake.0.0 in
      let same_bits : (told_at dump (suc t)).old c ≡ (told_at dump (suc t)).new c = ap (λ y. dump.values y c) (back t) ∙ sym (at_time t now c is_told.0 range) ∙ ap (λ f. f c) (sym same) ∙ at_time (suc t) next c is_told.0 range in
      let goes : (machine d).is_edge e ((told_at dump (suc t)).old c) ((told_at dump (suc t)).new c) ≡ true = clean.can_wake.0.2 clean.is_single in
      both_ways _ ((machine_lawful d lawful).edge_changes e ((told_at dump (suc t)).new c)) (subst (λ b. (machine d).is_edge e b ((told_at dump (suc t)).new c) ≡ true) same_bits goes)

  -- so a clean block has a step
  pub clean_step : (t p : ℕ) (c : Cell) → IsSeen dump end t → IsSeen dump end (suc t) → IsCleanAt d dump (suc t) p c → StepAt t
  clean_step t p c now next clean = ⊎_elim (λ same. absurd (clean_moves t p c now next clean same)) (λ s. s) (step_or t)

  -- on entry a clean block has the values that it is said to know
  pub entry_agrees : (t p : ℕ) (c : Cell) (s : StepAt t) → Agrees d (clear d h dump t) (values_at t) → IsCleanAt d dump (suc t) p c → (evaluated : EvaluatesOnce (machine d) (told_at dump (suc t)) (IsSingleAt d dump (suc t)) h p c s.start s.events) → Agrees d (EntryFrom d h dump (suc t) (clear d h dump t) p c) evaluated.entry
  entry_agrees t p c s agrees clean evaluated x bits (inl new) = subst (λ y. thing_bits d evaluated.entry y ≡ bits) (sym new.0) (at_trigger ∙ ap (λ y. thing_bits d (dump.values (suc t)) y) (sym new.0) ∙ sym new.1)
    where
      one : (c.place ≡ 0) × (c.thing < length d.signals) × ((signal_at d c.thing).width ≡ 1)
      one = edge_one d (process_at d p) clean.can_wake.0.0 c clean.can_wake.0.1 (lawful.events p)

      the_cell : cell c.thing 0 ≡ c
      the_cell = λ i. record { thing = c.thing; place = sym one.0 i }

      at_trigger : signal_bits d evaluated.entry c.thing ≡ signal_bits d (dump.values (suc t)) c.thing
      at_trigger = subst (λ w. map evaluated.entry (map (cell c.thing) (range_with_len 0 w)) ≡ map (dump.values (suc t)) (map (cell c.thing) (range_with_len 0 w))) (sym one.2) (ap (λ b. b ∷ []) (ap evaluated.entry the_cell ∙ evaluated.trigger ∙ ap (dump.values (suc t)) (sym the_cell)))
  entry_agrees t p c s agrees clean evaluated x bits (inr old) = cells_eq d evaluated.entry (values_at t) x (λ b is. evaluated.others b (apart b is) (λ e. old.1 (subst (IsEarlyAt d h dump (suc t) p c) is e)) ∙ ap (λ f. f b) s.starts) ∙ agrees x bits old.2
    where
      one : (c.place ≡ 0) × (c.thing < length d.signals) × ((signal_at d c.thing).width ≡ 1)
      one = edge_one d (process_at d p) clean.can_wake.0.0 c clean.can_wake.0.1 (lawful.events p)

      owner_apart : (y : Thing) → y ≢ a_signal c.thing → IsThing d y → owner y ≢ c.thing
      owner_apart (a_signal q) ne is_thing e = ne (ap a_signal e)
      owner_apart (a_word m i) ne is_thing e = omega (arith, e, one.1, leb-true (length d.signals) m (and_parts (nat_le (length d.signals) m) _ is_thing.0).0)

      apart : (b : Cell) → b.thing ≡ owner x → b.thing ≢ c.thing
      apart b is e = owner_apart x old.0 (clear-thing d h dump t x bits old.2) (sym is ∙ e)

  -- what a clean block writes has the value that its writes leave
  pub written_sound : (t p : ℕ) (c : Cell) (x : Thing) (bits : List Bit) → IsSeen dump end t → IsSeen dump end (suc t) → Agrees d (clear d h dump t) (values_at t) → IsWrittenValue d h dump (suc t) (clear d h dump t) p c x bits → thing_bits d (values_at (suc t)) x ≡ bits
  written_sound t p c x bits now next agrees is = go (clean_step t p c now next is.is_clean)
    where
      go : StepAt t → thing_bits d (values_at (suc t)) x ≡ bits
      go s =
          let evaluated = edge_law (dump.round (suc t)) (told_at dump (suc t)) (told_step t now next s) p c is.is_clean in
          let ws : List (Write Bit) = all_writes (execution d (body_at d p) evaluated.entry) in
          let left : LeavesValue d (clear d h dump t) evaluated.entry ws x bits = is.gives evaluated.entry (entry_agrees t p c s agrees is.is_clean evaluated) in
          let away : (b : Cell) → (IsTarget (machine d) p b → ⊥) → WritesCell ws b → ⊥ = λ b none has.
          ⊎_elim (λ a. none (inl ((machine_lawful d lawful).blocking_kept p evaluated.entry b a))) (λ a. none (inr ((machine_lawful d lawful).nonblocking_kept p evaluated.entry b (UpdatesCell-join _ b a)))) (WritesCell-halves (execution d (body_at d p) evaluated.entry).blocking (join (execution d (body_at d p) evaluated.entry).nonblocking) b has) in
          cells_eq d (values_at (suc t)) (put_all s.start.values ws) x
          (λ b at. sym (ap (λ f. f b) s.ends) ∙ ⊎_elim (λ target. evaluated.leaves b target) (λ none. other_stays p x b is.writer at none s.start s.events s.is_step ∙ sym (put_other s.start.values ws b (away b none))) (target_or p b))
          ∙ left.is s.start.values (λ w k. ap (λ f. thing_bits d f x) s.starts ∙ agrees x w k)

  -- a net has the value of its Assigns
  assign_holds : (t p : ℕ) → is_assign (process_at d p) ≡ true → (c : Cell) → put_all (values_at t) (execution d (body_at d p) (values_at t)).blocking c ≡ values_at t c
  assign_holds t p a c = ⊎_elim drives_it (λ no. put_other (values_at t) (execution d (body_at d p) (values_at t)).blocking c (λ has. both_ways _ no ((machine_lawful d lawful).blocking_kept p (values_at t) c has))) (cases_Bool ((machine d).blocking p c))
    where
      drives_it : (machine d).blocking p c ≡ true → put_all (values_at t) (execution d (body_at d p) (values_at t)).blocking c ≡ values_at t c
      drives_it e =
          let follows : values_at t c ≡ put_all (values_at t) (output (machine d) p (values_at t)) c = net_law h r.begins r.start r.steps is_run t p c a e in
          let plain : output (machine d) p (values_at t) ≡ (execution d (body_at d p) (values_at t)).blocking = ap (λ us. (execution d (body_at d p) (values_at t)).blocking ++ join us) (no_queue d (process_at d p) (values_at t) a) ∙ append-nil _ in
          sym (follows ∙ ap (λ ws. put_all (values_at t) ws c) plain)

  driven_hold : (t s : ℕ) (ps : List Process) → ((j : ℕ) → is_assign (slice_index_or ps j no_process) ≡ true → (c : Cell) → put_all (values_at t) (execution d (body (slice_index_or ps j no_process)) (values_at t)).blocking c ≡ values_at t c) → (c : Cell) → put_all (values_at t) (driven_writes d (values_at t) s ps) c ≡ values_at t c
  driven_hold t s [] holds c = refl
  driven_hold t s (p ∷ ps) holds c =
      ap (λ f. f c) (put_append (values_at t) (if drives s p then (execution d (body p) (values_at t)).blocking else []) (driven_writes d (values_at t) s ps))
      ∙ put_same (put_all (values_at t) (if drives s p then (execution d (body p) (values_at t)).blocking else [])) (values_at t) (driven_writes d (values_at t) s ps) c (one (drives s p) refl)
      ∙ driven_hold t s ps (λ j. holds (suc j)) c
    where
      one : (b : Bool) → drives s p ≡ b → put_all (values_at t) (if b then (execution d (body p) (values_at t)).blocking else []) c ≡ values_at t c
      one false e = refl
      one true e = holds 0 (and_parts (is_assign p) _ e).0 c

  pub net_sound : (t s : ℕ) (K : PartialMap) (bits : List Bit) → Agrees d K (values_at t) → IsNetValue d K s bits → signal_bits d (values_at t) s ≡ bits
  net_sound t s K bits agrees is = cells_eq d (values_at t) (put_all (values_at t) (driven_writes d (values_at t) s d.processes)) (a_signal s) (λ c at. sym (driven_hold t s d.processes (λ j a. assign_holds t j a) c)) ∙ is.gives (values_at t) agrees

  -- the window begins after a shown time
  pub window_shown : (t : ℕ) → IsWindow dump (suc t) → suc t ≤ end → IsSeen dump end t × IsSeen dump end (suc t)
  window_shown t w le = ((shown.0, omega (arith, le)), (shown.1, le))
    where
      shown : IsShown dump t × IsShown dump (suc t)
      shown = window_shown_at dump.stretches t w

  pub no_window : IsWindow dump 0 → ⊥
  no_window w = no_window_at dump.stretches w

  -- what the rule for Combs still owes
  module _ (comb_sound : (t p s : ℕ) (K : PartialMap) (bits : List Bit) → IsSeen dump end t → Agrees d K (values_at t) → IsCombValue d dump t K p s bits → signal_bits d (values_at t) s ≡ bits) where
    by_rule : (t : ℕ) (start K : PartialMap) → IsSeen dump end t → Agrees d K (values_at t) → ((p : ℕ) (x : Thing) (bits : List Bit) → IsWindow dump t → IsClockedTarget d p x → (CanWakeSome d dump t p → ⊥) → start x bits → thing_bits d (values_at t) x ≡ bits) → ((p : ℕ) (c : Cell) (x : Thing) (bits : List Bit) → IsWindow dump t → IsWrittenValue d h dump t start p c x bits → thing_bits d (values_at t) x ≡ bits) → (x : Thing) (bits : List Bit) → IsClearBy d h dump t start K x bits → thing_bits d (values_at t) x ≡ bits
    by_rule t start K now agrees k w x bits (of_dump s w0 is_shown bound is_signal is) = shows.shows t is_shown now.1 s bound ∙ sym is
    by_rule t start K now agrees k w x bits (of_assigns s w0 unbound is) = net_sound t s K w0 agrees is
    by_rule t start K now agrees k w x bits (of_comb p s w0 unbound is) = comb_sound t p s K w0 now agrees is
    by_rule t start K now agrees k w x bits (of_unwoken p x0 w0 window unbound target cannot_wake old) = k p x0 w0 window target cannot_wake old
    by_rule t start K now agrees k w x bits (of_clean p c x0 w0 window unbound is) = w p c x0 w0 window is

    rounds_sound : (t : ℕ) (start : PartialMap) → IsSeen dump end t → ((p : ℕ) (x : Thing) (bits : List Bit) → IsWindow dump t → IsClockedTarget d p x → (CanWakeSome d dump t p → ⊥) → start x bits → thing_bits d (values_at t) x ≡ bits) → ((p : ℕ) (c : Cell) (x : Thing) (bits : List Bit) → IsWindow dump t → IsWrittenValue d h dump t start p c x bits → thing_bits d (values_at t) x ≡ bits) → (n : ℕ) → Agrees d (clear_in d h dump t start n) (values_at t)
    rounds_sound t start now k w zero x bits is = absurd is
    rounds_sound t start now k w (suc n) x bits is = by_rule t start (clear_in d h dump t start n) now (rounds_sound t start now k w n) k w x bits is

    -- at each time that the dump shows, the settled values are those that are clear
    pub clear_sound : (t : ℕ) → IsSeen dump end t → Agrees d (clear d h dump t) (values_at t)
    clear_sound zero now x bits is = rounds_sound zero nothing_known now (λ p y w window. absurd (no_window window)) (λ p c y w window. absurd (no_window window)) is.0 x bits is.1
    clear_sound (suc t) now x bits is =
        rounds_sound (suc t) (clear d h dump t) now
        (λ p y w window target cannot_wake old. kept_sound t p y (window_shown t window now.1).0 now target cannot_wake ∙ clear_sound t (window_shown t window now.1).0 y w old)
        (λ p c y w window value. written_sound t p c y w (window_shown t window now.1).0 now (clear_sound t (window_shown t window now.1).0) value) is.0 x bits is.1
