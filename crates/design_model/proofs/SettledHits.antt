-- What an Assign or Comb visits, from what is clear, up to its first read outside, is hit where a wake bit surely changes.
use Rattle.std.proofs.Common.{◌≡◌, ◌≢◌, ◌⊎◌, inl, inr, ℕ, zero, suc, ◌-◌, ◌≤◌, true, false, List, [], ◌∷◌, ◌++◌, refl, sym, ap, subst, ◌∙◌, arith}
use Rattle.std.proofs.lemmas.Bool.{or_left, both_ways, false_from_ne_true}
use Rattle.event_machine.specs.Cell.{Cell, Values}
use Rattle.event_machine.specs.Machine.{IsWakeCell}
use Rattle.event_machine.specs.Event.{end_state}
use Rattle.event_machine.specs.Habit.{Habit}
use Rattle.event_machine.specs.Step.{evaluations}
use Rattle.event_machine.specs.Laws.{EvaluatesSettled, SettledLaw}
use Rattle.four_state.specs.declared.bit.Bit.{Bit}
use Rattle.design_model.specs.Tree.{Process, assign, clocked, comb}
use Rattle.design_model.specs.Design.{Design, IsClocked, Thing, body, body_at, owner, process_at, thing_bits}
use Rattle.design_model.specs.Mentions.{body_assigns, body_mentions}
use Rattle.design_model.specs.Execution.{Visit, at_line, at_node, execution, execution_start, reads, writes_word}
use Rattle.design_model.specs.Reads.{Agrees, HasValue, PartialMap, UpToOutside, VisitsFrom}
use Rattle.design_model.specs.Machine.{is_level, machine}
use Rattle.design_model.specs.Run.{IsRun, Run, StepOf, evaluations_of, settled, start_of}
use Rattle.design_model.specs.Shows.{BindsSignals, BoundDump, InWindow, IsWindow, ShowsUpTo}
use Rattle.design_model.specs.Scored.{ChangesOver, IsScoredOf, VisitsIn}
use Rattle.design_model.specs.Points.{IsBlock, IsHit, Point}
use Rattle.design_model.specs.Open.{KnownAtEnd, HasChangedWakeBit, IsNotClocked, IsVisitOf}
use Rattle.design_model.specs.Lawful.{IsLawfulDesign}
use Rattle.design_model.proofs.ForcedSound.{clear_at}
use Rattle.design_model.proofs.Hits.{StepHere, hit_of, step_here, upto_in}
use Rattle.design_model.proofs.Lawful.{assigns_any}
use Rattle.design_model.proofs.Mentions.{AllReads, execute_reads}
use Rattle.design_model.proofs.Prefix.{execution_up, up_visits, visits_on_all}
use Rattle.design_model.proofs.Sound.{IsSeen, at_time, cells_eq, no_window, window_shown}
use Rattle.design_model.proofs.StepLaws.{StepLaws}

pub settling_level : (x : Process) (y : ℕ) → (IsClocked x → ⊥) → body_mentions y (body x) ≡ true → is_level x y ≡ true
settling_level (assign i z t c) y is m = m
settling_level (comb i wakes s) y is m = or_left (body_mentions y s) _ m
settling_level (clocked i events s) y is m = absurd (is tt)

settling_scored : (x : Process) (d : Design) (r : Run) (k : StepOf r) (p : ℕ) (v : Values Bit) → (IsClocked x → ⊥) → ((earlier : List (Values Bit)) × (evaluations_of d r k p ≡ earlier ++ v ∷ [])) → ((c : Cell) × IsWakeCell (machine d) p c × ChangesOver d r k c) → IsScoredOf x d r k p v
settling_scored (assign i z t c) d r k p v is a b = (a, b)
settling_scored (comb i wakes s) d r k p v is a b = (a, b)
settling_scored (clocked i events s) d r k p v is a b = absurd (is tt)

-- the values of what the body mentions and does not assign
abbrev Wakes : Design → ℕ → Values Bit → PartialMap
Wakes d p v x bits = (body_mentions (owner x) (body_at d p) ≡ true) × (body_assigns (owner x) (body_at d p) ≡ false) × (bits ≡ thing_bits d v x)

-- what is inside a map of settled things is inside the map of wake things
widen : (d : Design) (p : ℕ) (v : Values Bit) (K : PartialMap) (y : Visit) → ((x : Thing) → HasValue K x → body_assigns (owner x) (body_at d p) ≡ false) → (xs : List Visit) → AllReads (λ q. body_mentions q (body_at d p) ≡ true) xs → UpToOutside K y xs → UpToOutside (Wakes d p v) y xs
widen d p v K y not_own [] a h = h
widen d p v K y not_own (x ∷ xs) a (inl e) = inl e
widen d p v K y not_own (at_line n ∷ xs) a (inr h) = inr (tt, widen d p v K y not_own xs a.1 h.1)
widen d p v K y not_own (at_node n c ∷ xs) a (inr h) = inr (tt, widen d p v K y not_own xs a.1 h.1)
widen d p v K y not_own (writes_word m i ∷ xs) a (inr h) = inr (tt, widen d p v K y not_own xs a.1 h.1)
widen d p v K y not_own (reads x true ∷ xs) a (inr h) = inr (tt, widen d p v K y not_own xs a.1 h.1)
widen d p v K y not_own (reads x false ∷ xs) a (inr h) = inr ((thing_bits d v x, (a.0, not_own x h.0, refl)), widen d p v K y not_own xs a.1 h.1)

module _ (d : Design) (lawful : IsLawfulDesign d) (h : Habit) (laws : StepLaws (machine d) h) (settled_law : SettledLaw (machine d)) (dump : BoundDump) (r : Run) (binds : BindsSignals d dump) (is_run : IsRun d h r) (end : ℕ) (shows : ShowsUpTo d dump r end) where
  settled_visits : (t p : ℕ) (y : Visit) → IsWindow dump (suc t) → suc t ≤ end → IsNotClocked d p → HasChangedWakeBit d dump (suc t) p → VisitsFrom d (KnownAtEnd d h dump (suc t) p) (body_at d p) y → (k : StepOf r) × InWindow dump r k × VisitsIn d r k p y
  settled_visits t p y window le not_clocked changed_bit from = go (step_here d h r is_run t)
    where
      c : Cell
      c = changed_bit.0

      both : IsSeen dump end t × IsSeen dump end (suc t)
      both = window_shown d lawful h dump binds r is_run end shows laws.net laws.no_wake laws.write laws.edge t window le

      value : (u : ℕ) → IsSeen dump end u → settled d r u c ≡ dump.values u c
      value u now = at_time d lawful h dump binds r is_run end shows laws.net laws.no_wake laws.write laws.edge u now c changed_bit.2 changed_bit.1.1

      last : suc t - 1 ≡ t
      last = omega arith

      changes : settled d r (suc t) c ≢ settled d r t c
      changes e = changed_bit.3 (ap (λ u. dump.values u c) last ∙ sym (value t both.0) ∙ sym e ∙ value (suc t) both.1)

      wake : IsWakeCell (machine d) p c
      wake = changed_bit.1.2

      -- visits on the settled values
      seen : UpToOutside (KnownAtEnd d h dump (suc t) p) y (execution d (body_at d p) (settled d r (suc t))).visits
      seen = visits_on_all d (KnownAtEnd d h dump (suc t) p) (body_at d p) y from (settled d r (suc t)) (λ x bits k. clear_at d lawful h laws dump r binds is_run end shows (suc t) both.1 x bits k.1)

      wide : UpToOutside (Wakes d p (settled d r (suc t))) y (execution d (body_at d p) (settled d r (suc t))).visits
      wide = widen d p (settled d r (suc t)) (KnownAtEnd d h dump (suc t) p) y (λ x k. k.1.0) _ (execute_reads (λ q. body_mentions q (body_at d p) ≡ true) d (body_at d p) (λ q e. e) (execution_start (settled d r (suc t))) tt) seen

      same_wakes : (entry : Values Bit) → ((b : Cell) → IsWakeCell (machine d) p b → entry b ≡ settled d r (suc t) b) → Agrees d (Wakes d p (settled d r (suc t))) entry
      same_wakes entry same x bits k =
          cells_eq d entry (settled d r (suc t)) x
          (λ b at. same b
          (settling_level (process_at d p) b.thing not_clocked (subst (λ q. body_mentions q (body_at d p) ≡ true) (sym at) k.0), false_from_ne_true _ (λ e. both_ways (body_assigns (owner x) (body_at d p)) k.1 (subst (λ q. body_assigns q (body_at d p) ≡ true) at (assigns_any d (body_at d p) b (inl e))))))
          ∙ sym k.2

      go : (settled d r (suc t) ≡ settled d r t) ⊎ StepHere d h r t → (k : StepOf r) × InWindow dump r k × VisitsIn d r k p y
      go (inl same) = absurd (changes (ap (λ f. f c) same))
      go (inr s) =
          let evaluated : EvaluatesSettled (machine d) p s.to.start s.to.events = settled_law h s.to.start s.to.events s.to.is_step p c wake (λ e. changes (sym (ap (λ f. f c) s.to.ends) ∙ e ∙ ap (λ f. f c) s.to.starts)) in
          let listed : evaluations (machine d) p (start_of d r s.step) s.step.step.events ≡ evaluated.earlier ++ evaluated.entry ∷ [] = ap (λ es. evaluations (machine d) p (start_of d r s.step) es) (sym s.events) ∙ ap (λ u. evaluations (machine d) p u s.to.events) (sym s.start) ∙ evaluated.evaluated in
          let over : ChangesOver d r s.step c = λ e. changes (sym (ap (λ f. f c) s.to.ends) ∙ ap (λ es. (end_state (machine d) s.to.start es).values c) s.events ∙ ap (λ u. (end_state (machine d) u s.step.step.events).values c) s.start ∙ sym e ∙ ap (λ u. u.values c) (sym s.start) ∙ ap (λ f. f c) s.to.starts) in
          let agree : Agrees d (Wakes d p (settled d r (suc t))) evaluated.entry = same_wakes evaluated.entry (λ b w. evaluated.settled b w ∙ ap (λ f. f b) s.to.ends) in
          (s.step, subst (IsWindow dump) (sym s.at) window, (evaluated.entry, settling_scored (process_at d p) d r s.step p evaluated.entry not_clocked (evaluated.earlier, listed) (c, wake, over), upto_in (Wakes d p (settled d r (suc t))) y _ (up_visits (Wakes d p (settled d r (suc t))) y _ _ (execution_up d (Wakes d p (settled d r (suc t))) (settled d r (suc t)) evaluated.entry (λ x bits k. sym k.2) agree (body_at d p)) wide)))

  -- it acts last in the step, on values with the settled values of its wake cells
  pub settled_acts : (t p : ℕ) → IsWindow dump (suc t) → suc t ≤ end → IsNotClocked d p → HasChangedWakeBit d dump (suc t) p → (k : StepOf r) × InWindow dump r k × (entry : Values Bit) × IsScoredOf (process_at d p) d r k p entry × ((b : Cell) → IsWakeCell (machine d) p b → entry b ≡ settled d r (suc t) b)
  settled_acts t p window le not_clocked changed_bit = go (step_here d h r is_run t)
    where
      c : Cell
      c = changed_bit.0

      both : IsSeen dump end t × IsSeen dump end (suc t)
      both = window_shown d lawful h dump binds r is_run end shows laws.net laws.no_wake laws.write laws.edge t window le

      value : (u : ℕ) → IsSeen dump end u → settled d r u c ≡ dump.values u c
      value u now = at_time d lawful h dump binds r is_run end shows laws.net laws.no_wake laws.write laws.edge u now c changed_bit.2 changed_bit.1.1

      last : suc t - 1 ≡ t
      last = omega arith

      changes : settled d r (suc t) c ≢ settled d r t c
      changes e = changed_bit.3 (ap (λ u. dump.values u c) last ∙ sym (value t both.0) ∙ sym e ∙ value (suc t) both.1)

      wake : IsWakeCell (machine d) p c
      wake = changed_bit.1.2

      go : (settled d r (suc t) ≡ settled d r t) ⊎ StepHere d h r t → (k : StepOf r) × InWindow dump r k × (entry : Values Bit) × IsScoredOf (process_at d p) d r k p entry × ((b : Cell) → IsWakeCell (machine d) p b → entry b ≡ settled d r (suc t) b)
      go (inl same) = absurd (changes (ap (λ f. f c) same))
      go (inr s) =
          let evaluated : EvaluatesSettled (machine d) p s.to.start s.to.events = settled_law h s.to.start s.to.events s.to.is_step p c wake (λ e. changes (sym (ap (λ f. f c) s.to.ends) ∙ e ∙ ap (λ f. f c) s.to.starts)) in
          let listed : evaluations (machine d) p (start_of d r s.step) s.step.step.events ≡ evaluated.earlier ++ evaluated.entry ∷ [] = ap (λ es. evaluations (machine d) p (start_of d r s.step) es) (sym s.events) ∙ ap (λ u. evaluations (machine d) p u s.to.events) (sym s.start) ∙ evaluated.evaluated in
          let over : ChangesOver d r s.step c = λ e. changes (sym (ap (λ f. f c) s.to.ends) ∙ ap (λ es. (end_state (machine d) s.to.start es).values c) s.events ∙ ap (λ u. (end_state (machine d) u s.step.step.events).values c) s.start ∙ sym e ∙ ap (λ u. u.values c) (sym s.start) ∙ ap (λ f. f c) s.to.starts) in
          (s.step, subst (IsWindow dump) (sym s.at) window, evaluated.entry, settling_scored (process_at d p) d r s.step p evaluated.entry not_clocked (evaluated.earlier, listed) (c, wake, over), (λ b w. evaluated.settled b w ∙ ap (λ f. f b) s.to.ends))

  -- so the points that it visits up to its first read outside are hit
  pub settled_hits : (t p : ℕ) (x : Point) (y : Visit) → IsWindow dump t → t ≤ end → IsBlock d x p → IsNotClocked d p → HasChangedWakeBit d dump t p → IsVisitOf x y → VisitsFrom d (KnownAtEnd d h dump t p) (body_at d p) y → IsHit d dump r x
  settled_hits zero p x y window le is_block not_clocked changed_bit is from = absurd (no_window d lawful h dump binds r is_run end shows laws.net laws.no_wake laws.write laws.edge window)
  settled_hits (suc t) p x y window le is_block not_clocked changed_bit is from = let v = settled_visits t p y window le not_clocked changed_bit from in hit_of d dump r x p y v.0 v.1 is_block is v.2
