-- Nothing is in doubt for a clean block of which all is bound and nothing but the trigger is early.
use Rattle.std.specs.Prelude.{nat_le}
use Rattle.std.proofs.Common.{◌≡◌, ◌≢◌, inl, inr, ℕ, zero, suc, ◌-◌, ◌<◌, ◌≤◌, true, false, List, [], ◌∷◌, length, refl, sym, subst, ◌∙◌, arith}
use Rattle.std.proofs.lemmas.Bool.{and_parts, leb-true}
use Rattle.event_machine.specs.Cell.{Cell}
use Rattle.event_machine.specs.Machine.{Machine, wakes}
use Rattle.event_machine.specs.Habit.{Habit}
use Rattle.event_machine.specs.Told.{Told}
use Rattle.event_machine.specs.Early.{IsEarly}
use Rattle.design_model.specs.Tree.{Process, Stmt, assign, clocked, comb}
use Rattle.design_model.specs.Design.{Design, IsClocked, IsComb, IsThing, Thing, a_signal, a_word, body_at, owner, process_at, signal_bits}
use Rattle.design_model.specs.Value.{value}
use Rattle.design_model.specs.Mentions.{body_mentions}
use Rattle.design_model.specs.Execution.{Visit, execution, execution_start, reads}
use Rattle.design_model.specs.Reads.{HasValue, PartialMap, ReadsFrom, UpToOutside}
use Rattle.design_model.specs.Machine.{machine}
use Rattle.design_model.specs.Shows.{BindsSignals, BoundDump, IsShown, IsWindow}
use Rattle.design_model.specs.Points.{IsBlock, Point, arc_point, line_point, logic_point, state_point, toggle_point, word_point}
use Rattle.design_model.specs.MayMove.{IsSingleAt, told_at}
use Rattle.design_model.specs.Clear.{clear, clear_before, of_dump}
use Rattle.design_model.specs.Open.{KnownOnEntry}
use Rattle.design_model.specs.Doubt.{BlockDoubt, IsInDoubt, IsPointOn, IsUnclear, read_early, not_clean, of_block, of_signal, own_target, unclear_at_start, unclear_signal, unclear_word}
use Rattle.design_model.specs.Lawful.{is_signal}
use Rattle.design_model.specs.Laws.{BoundClearLaw, BoundPointLaw, DefinitenessLaw, IsDefinite, IsLineOrLogic}
use Rattle.design_model.specs.ExampleParts.{at, counted}
use Rattle.design_model.proofs.Mentions.{AllReads, IsReadOf, execute_reads}
use Rattle.design_model.proofs.Stretches.{shown_before, shown_then}

-- what is visited as a read, before the first read outside or as it, is mentioned
read_owner : (Q : ℕ → Type 0) (K : PartialMap) (x : Thing) (xs : List Visit) → AllReads Q xs → UpToOutside K (reads x false) xs → Q (owner x)
read_owner Q K x [] all up = absurd up
read_owner Q K x (y ∷ xs) all (inl is) = subst (IsReadOf Q) is all.0
read_owner Q K x (y ∷ xs) all (inr later) = read_owner Q K x xs all.1 later.1

-- what a body reads from a map it mentions
reads_mentioned : (d : Design) (K : PartialMap) (b : Stmt) (x : Thing) → ReadsFrom d K b x → body_mentions (owner x) b ≡ true
reads_mentioned d K b x (inl from) =
    read_owner (λ y. body_mentions y b ≡ true) K x (execution d b from.0).visits
    (execute_reads (λ y. body_mentions y b ≡ true) d b (λ y m. m) (execution_start from.0) tt)
    from.2
reads_mentioned d K b x (inr from) = from.1

-- a bound signal is clear at each shown time
pub bound_is_clear : (d : Design) (h : Habit) (dump : BoundDump) (t s : ℕ) → IsShown dump t → dump.bound s ≡ true → s < length d.signals → HasValue (clear d h dump t) (a_signal s)
bound_is_clear d h dump zero s shown bound is_signal = (signal_bits d (dump.values zero) s, (1, of_dump s (signal_bits d (dump.values zero) s) shown bound is_signal refl))
bound_is_clear d h dump (suc t) s shown bound is_signal = (signal_bits d (dump.values (suc t)) s, (1, of_dump s (signal_bits d (dump.values (suc t)) s) shown bound is_signal refl))

early_apart : {V : Type 0} (m : Machine V) (t : Told V) (single : Cell → Type 0) (h : Habit) (b : ℕ) (c : Cell) (x : ℕ) → IsEarly m t single h b c x → x ≢ c.thing
early_apart m t single h b c x (IsEarly.of_input d moving free other) = other
early_apart m t single h b c x (IsEarly.of_trigger p d may_wake not_b writes other) = other
early_apart m t single h b c x (IsEarly.of_blocking y p d is may_wake not_b writes other) = other
early_apart m t single h b c x (IsEarly.of_nonblocking y p d is may_wake writes other) = other

not_comb : (x : Process) → IsClocked x → IsComb x → ⊥
not_comb (assign i y t counted) is_clocked is_comb = is_comb
not_comb (comb i wakes s) is_clocked is_comb = is_clocked
not_comb (clocked i events s) is_clocked is_comb = is_comb

module _ (d : Design) (h : Habit) (dump : BoundDump) (binds : BindsSignals d dump) (p : ℕ) (definite : IsDefinite d h dump p) where
  -- a thing of the design that is mentioned is clear at the start of a window time
  mentioned_clear : (t : ℕ) → IsWindow dump t → (x : Thing) → IsThing d x → body_mentions (owner x) (body_at d p) ≡ true → HasValue (clear_before d h dump t) x
  mentioned_clear t window (a_signal s) thing mentioned =
      bound_is_clear d h dump (t - 1) s (shown_before dump.stretches t window) (definite.all_bound s mentioned) thing
  mentioned_clear t window (a_word m i) thing mentioned =
      let below : m < length d.signals = binds m (definite.all_bound m mentioned) in
      let above : length d.signals ≤ m = leb-true (length d.signals) m (and_parts (nat_le (length d.signals) m) _ thing.0).0 in
      absurd (omega (arith, below, above))

  no_block_doubt : (t s : ℕ) → IsWindow dump t → BlockDoubt d h dump t s p → ⊥
  no_block_doubt t s window (unclear_at_start why) =
      why.unclear (mentioned_clear t window why.thing why.is_thing (reads_mentioned d (KnownOnEntry d h dump t p) (body_at d p) why.thing why.is_read))
  no_block_doubt t s window (read_early why) =
      let mentioned : body_mentions s (body_at d p) ≡ true = subst (λ y. body_mentions y (body_at d p) ≡ true) why.of_owner (reads_mentioned d (KnownOnEntry d h dump t p) (body_at d p) why.thing why.is_read) in
      definite.none_early t why.trigger window why.is_clean s mentioned (early_apart (machine d) (told_at dump t) (IsSingleAt d dump t) h p why.trigger s why.is_early) why.is_early
  no_block_doubt t s window (not_clean why) = let clean = definite.clean t window (why.event, why.can_wake) in why.not_clean clean.0 clean.1
  no_block_doubt t s window (unclear_signal why) = why.not_clocked definite.clocked
  no_block_doubt t s window (unclear_word why) = why.not_clocked definite.clocked
  no_block_doubt t s window (own_target why) = not_comb (process_at d p) definite.clocked why.is_comb

  no_doubt : (x : Point) → IsLineOrLogic x → IsBlock d x p → (t s : ℕ) → IsInDoubt d h dump x t s → ⊥
  no_doubt (line_point q n at w) is block_is t s (of_block r window block_of is_open doubt) = no_block_doubt t s window (subst (BlockDoubt d h dump t s) (block_of ∙ sym block_is) doubt)
  no_doubt (line_point q n at w) is block_is t s (of_signal window on may_move unclear) = on
  no_doubt (logic_point q n at op c) is block_is t s (of_block r window block_of is_open doubt) = no_block_doubt t s window (subst (BlockDoubt d h dump t s) (block_of ∙ sym block_is) doubt)
  no_doubt (logic_point q n at op c) is block_is t s (of_signal window on may_move unclear) = on
  no_doubt (toggle_point q i rise) is block_is t s doubt = is
  no_doubt (state_point i name q state value) is block_is t s doubt = is
  no_doubt (arc_point i name q from to old new) is block_is t s doubt = is
  no_doubt (word_point m i write) is block_is t s doubt = is

pub definiteness_law : (d : Design) (h : Habit) → DefinitenessLaw d h
definiteness_law d h dump binds p definite x is block_is t s doubt = no_doubt d h dump binds p definite x is block_is t s doubt

-- a point of a signal has no block
no_block : (d : Design) (x : Point) (s p : ℕ) → IsPointOn x s → IsBlock d x p → ⊥
no_block d (line_point q n at w) s p on block_is = on
no_block d (logic_point q n at op c) s p on block_is = on
no_block d (toggle_point q i rise) s p on block_is = block_is
no_block d (state_point i name q state value) s p on block_is = block_is
no_block d (arc_point i name q from to old new) s p on block_is = block_is
no_block d (word_point m i write) s p on block_is = on

-- a point is on one signal
one_signal : (x : Point) (s q : ℕ) → IsPointOn x s → IsPointOn x q → s ≡ q
one_signal (line_point p n at w) s q on other = absurd on
one_signal (logic_point p n at op c) s q on other = absurd on
one_signal (toggle_point r i rise) s q on other = sym on ∙ other
one_signal (state_point i name r state value) s q on other = sym on ∙ other
one_signal (arc_point i name r from to old new) s q on other = sym on ∙ other
one_signal (word_point m i write) s q on other = absurd on

-- a bound signal is clear at the start and the end of a window time
bound_not_unclear : (d : Design) (h : Habit) (dump : BoundDump) (t s : ℕ) → IsWindow dump t → dump.bound s ≡ true → s < length d.signals → IsUnclear d h dump t (a_signal s) → ⊥
bound_not_unclear d h dump t s window bound is_signal (inl at_start) = at_start (bound_is_clear d h dump (t - 1) s (shown_before dump.stretches t window) bound is_signal)
bound_not_unclear d h dump t s window bound is_signal (inr at_end) = at_end (bound_is_clear d h dump t s (shown_then dump.stretches t window) bound is_signal)

pub bound_point_law : (d : Design) (h : Habit) → BoundPointLaw d h
bound_point_law d h dump x s on is_signal bound t q (of_block p window block_is is_open doubt) = no_block d x s p on block_is
bound_point_law d h dump x s on is_signal bound t q (of_signal window on_q may_move unclear) =
    bound_not_unclear d h dump t s window bound is_signal (subst (λ y. IsUnclear d h dump t (a_signal y)) (sym (one_signal x s q on on_q)) unclear)

-- a bound signal is clear, with the dump's value
pub bound_clear_law : (d : Design) (h : Habit) → BoundClearLaw d h
bound_clear_law d h dump zero s shown bound is_signal = (1, of_dump s (signal_bits d (dump.values zero) s) shown bound is_signal refl)
bound_clear_law d h dump (suc t) s shown bound is_signal = (1, of_dump s (signal_bits d (dump.values (suc t)) s) shown bound is_signal refl)
