-- What is in doubt at a hidden time leaves something in doubt at each hidden time after it.
use Rattle.std.proofs.Common.{◌≡◌, ◌⊎◌, inl, inr, ⊎_elim, ℕ, zero, suc, ◌-◌, ◌≤◌, false, List, [], ◌∷◌, refl, sym, subst, arith}
use Rattle.event_machine.specs.Habit.{Habit}
use Rattle.design_model.specs.four_state.declared.bit.Bit.{Bit}
use Rattle.design_model.specs.Design.{Design, Thing, a_signal, a_word, body_at}
use Rattle.design_model.specs.Execution.{Visit, execution, reads}
use Rattle.design_model.specs.Reads.{Agrees, AllInside, PartialMap, ReadsFrom, ReadsWithin, UpToOutside}
use Rattle.design_model.specs.Lawful.{IsLawfulDesign}
use Rattle.design_model.specs.Machine.{machine}
use Rattle.design_model.specs.MayMove.{AreLastRounds, CanWakeSome, MayMoveAt}
use Rattle.design_model.specs.MoreKnown.{DoesNoLess}
use Rattle.design_model.specs.Run.{Run, settled}
use Rattle.design_model.specs.Shows.{BoundDump, IsListed, IsShowing, IsWindow}
use Rattle.design_model.specs.Points.{IsBlock}
use Rattle.design_model.specs.declared.point.Point.{Point}
use Rattle.design_model.specs.Clear.{clear, clear_before}
use Rattle.design_model.specs.Open.{IsNotClean, IsNotClocked, IsOpen, IsOpenFor, KnownAtEnd}
use Rattle.design_model.specs.Doubt.{BlockDoubt, IsInDoubt, IsUnclear, MayMoveUnlisted, MayWakeUnlisted, not_clean, of_block, of_signal, own_target, read_early, unclear_at_start, unclear_signal, unclear_word}
use Rattle.design_model.proofs.Assigns.{machine_lawful}
use Rattle.design_model.proofs.ForcedSound.{clear_law}
use Rattle.design_model.proofs.MoreKnown.{more_known_law}
use Rattle.design_model.proofs.StepLaws.{step_laws}
use Rattle.design_model.proofs.Stretches.{no_window_at, shown_then, window_shown_at}
use Rattle.hidden_times.specs.Hidden.{IsAnyDumpOf, IsHiddenOn}
use Rattle.hidden_times.specs.Laws.{AreSameSets, SameDoubtLaw}
use Rattle.hidden_times.proofs.Clear.{same_clear_law, shrink_law}
use Rattle.hidden_times.proofs.Jump.{shows_before}
use Rattle.hidden_times.proofs.Quiet.{no_clean_law}
use Rattle.hidden_times.proofs.Sets.{same_sets}

-- where all is inside, what is visited up to an outside by another map is so by this one
up_to_end : (K L : PartialMap) (y : Visit) (xs : List Visit) → AllInside K xs → UpToOutside L y xs → UpToOutside K y xs
up_to_end K L y [] all h = absurd h
up_to_end K L y (x ∷ xs) all (inl e) = inl e
up_to_end K L y (x ∷ xs) all (inr h) = inr (all.0, up_to_end K L y xs all.1 h.1)

module _ (d : Design) (h : Habit) (lawful : IsLawfulDesign d) (dump : BoundDump) (any : IsAnyDumpOf d dump) (rounds : AreLastRounds d dump) (r : Run) (t v : ℕ) (hidden : IsHiddenOn dump t v) (showing : IsShowing d h dump v r) (x : Point) (none : (q : ℕ) → IsInDoubt d h dump x v q → ⊥) where
  sets : AreSameSets d dump t v
  sets = same_sets d dump any rounds t v hidden

  unlisted : IsListed dump t → ⊥
  unlisted = hidden.none t (omega arith) hidden.later

  quiet : (p : ℕ) → IsNotClean d dump v p
  quiet p c clean = no_clean_law d lawful dump any v hidden.last (hidden.none v hidden.later (omega arith)) p c clean

  quiet_before : (p : ℕ) → IsNotClean d dump t p
  quiet_before p c clean = no_clean_law d lawful dump any t hidden.first unlisted p c clean

  -- the settled values at t are those that are clear
  agrees : Agrees d (clear d h dump t) (settled d r t)
  agrees = clear_law d lawful h (step_laws (machine d) (machine_lawful d lawful) h) dump r t any.signals (shows_before d h dump t v r hidden.later showing) (shown_then dump.stretches t hidden.first)

  -- what is clear at v is clear at t
  earlier : (y : Thing) (bits : List Bit) → clear d h dump v y bits → clear d h dump t y bits
  earlier y bits k = (same_clear_law d h lawful dump any rounds t v hidden (settled d r t) agrees y bits).0 k

  -- and so the moment before
  before_at : (u : ℕ) → u ≡ t → (y : Thing) (bits : List Bit) → clear d h dump t y bits → clear_before d h dump t y bits
  before_at zero e = absurd (no_window_at dump.stretches (subst (IsWindow dump) (sym e) hidden.first))
  before_at (suc u) e = subst (λ w. (y : Thing) (bits : List Bit) → clear d h dump w y bits → clear_before d h dump w y bits) e step
    where
      window : IsWindow dump (suc u)
      window = subst (IsWindow dump) (sym e) hidden.first

      started : Agrees d (clear d h dump u) (settled d r u)
      started =
          let le : u ≤ v = omega (arith, e, hidden.later) in
          clear_law d lawful h (step_laws (machine d) (machine_lawful d lawful) h) dump r u any.signals (shows_before d h dump u v r le showing) (window_shown_at dump.stretches u window).0

      step : (y : Thing) (bits : List Bit) → clear d h dump (suc u) y bits → clear_before d h dump (suc u) y bits
      step y bits k =
          let back : suc u - 1 ≡ u = omega arith in
          subst (λ w. clear d h dump w y bits) (sym back) (shrink_law d h lawful dump any u window (subst (λ w. IsListed dump w → ⊥) (sym e) unlisted) (settled d r u) started y bits k)

  -- what is not clear at an end of t is not clear at the end of v
  unclear : (y : Thing) → IsUnclear d h dump t y → IsUnclear d h dump v y
  unclear y (inl was) = inr (λ has. was (has.0, before_at t refl y has.0 (earlier y has.0 has.1)))
  unclear y (inr is) = inr (λ has. is (has.0, earlier y has.0 has.1))

  may_move : (s : ℕ) → MayMoveUnlisted d dump t s → MayMoveUnlisted d dump v s
  may_move s (inl listed) = absurd (unlisted listed)
  may_move s (inr moves) = inr ((sets.may_move s).1 moves)

  may_wake : (p : ℕ) → MayWakeUnlisted d dump t p → MayWakeUnlisted d dump v p
  may_wake p (inl listed) = absurd (unlisted listed)
  may_wake p (inr k) = inr (k.0, k.1, (sets.may_move k.0).1 k.2)

  -- a Clocked that can wake
  by_waker : (p : ℕ) → IsBlock d x p → CanWakeSome d dump t p → ⊥
  by_waker p block wakes =
      let now = (sets.can_wake wakes.0 p).1 wakes.1 in
      none wakes.0.thing
      (of_block p hidden.last block (inl ((wakes.0, now), inl (quiet p))) (not_clean (record { event = wakes.0; of_signal = refl; can_wake = now; not_clean = quiet p })))

  -- an Assign or Comb
  module _ (p : ℕ) (block : IsBlock d x p) (settles : IsNotClocked d p) (is_open : IsOpen d (KnownAtEnd d h dump t p) (body_at d p) x) where
    less : DoesNoLess d (KnownAtEnd d h dump v p) (KnownAtEnd d h dump t p) (body_at d p)
    less =
        more_known_law d (KnownAtEnd d h dump v p) (KnownAtEnd d h dump t p) (settled d r t) (λ y bits k. agrees y bits k.1) (λ y bits k. (k.0, earlier y bits k.1)) (body_at d p)

    opens : IsOpenFor d h dump v p x
    opens = inr (settles, less.no_more_open x is_open)

    refuses : (s : ℕ) → BlockDoubt d h dump v s p → ⊥
    refuses s doubt = none s (of_block p hidden.last block opens doubt)

    -- a word that the body reads at t, or that may move
    by_word : (s word : ℕ) → ReadsFrom d (KnownAtEnd d h dump t p) (body_at d p) (a_word s word) → (ReadsFrom d (KnownAtEnd d h dump v p) (body_at d p) (a_word s word) → ⊥) → ((ReadsWithin d (KnownAtEnd d h dump v p) (body_at d p) → ⊥) → ⊥) → ⊥
    by_word s word (inl visits) other untold =
        untold
        (λ within. other (inl (visits.0, λ y bits k. visits.1 y bits (k.0, earlier y bits k.1), up_to_end (KnownAtEnd d h dump v p) (KnownAtEnd d h dump t p) (reads (a_word s word) false) (execution d (body_at d p) visits.0).visits (within visits.0 (λ y bits k. visits.1 y bits (k.0, earlier y bits k.1))) visits.2)))
    by_word s word (inr k) other untold = untold (λ within. k.0 (less.reads_within within))

    by_doubt : (s : ℕ) → BlockDoubt d h dump t s p → ⊥
    by_doubt s (unclear_at_start k) = by_waker p block k.can_wake
    by_doubt s (read_early k) = quiet_before p k.trigger k.is_clean
    by_doubt s (not_clean k) = by_waker p block (k.event, k.can_wake)
    by_doubt s (unclear_signal k) =
        refuses s (unclear_signal (record { place = k.place; not_clocked = k.not_clocked; may_wake = may_wake p k.may_wake; wake_bit = k.wake_bit; unclear = unclear (a_signal s) k.unclear }))
    by_doubt s (unclear_word k) = ⊎_elim read (λ moves. refused (inr ((sets.may_move s).1 moves))) k.read_or_moves
      where
        refused : (ReadsFrom d (KnownAtEnd d h dump v p) (body_at d p) (a_word s k.word) ⊎ MayMoveAt d dump v s) → ⊥
        refused why =
            refuses s
            (unclear_word (record { word = k.word; not_clocked = k.not_clocked; may_wake = may_wake p k.may_wake; mentioned = k.mentioned; is_thing = k.is_thing; unclear = unclear (a_word s k.word) k.unclear; read_or_moves = why }))

        read : ReadsFrom d (KnownAtEnd d h dump t p) (body_at d p) (a_word s k.word) → ⊥
        read reads_it = by_word s k.word reads_it (λ now. refused (inl now)) (λ outside. refused (inl (inr (outside, k.mentioned, k.is_thing))))
    by_doubt s (own_target k) = refuses s (own_target (record { is_comb = k.is_comb; may_wake = may_wake p k.may_wake; target = k.target; reads_first = k.reads_first }))

  same_doubt : (s : ℕ) → IsInDoubt d h dump x t s → ⊥
  same_doubt s (of_block p window block (inl wakes) doubt) = by_waker p block wakes.0
  same_doubt s (of_block p window block (inr settles) doubt) = by_doubt p block settles.0 settles.1 s doubt
  same_doubt s (of_signal window on may k) = none s (of_signal hidden.last on (may_move s may) (unclear (a_signal s) k))

pub same_doubt_law : (d : Design) (h : Habit) → IsLawfulDesign d → SameDoubtLaw d h
same_doubt_law d h lawful dump any rounds r t v hidden showing x s doubt none = same_doubt d h lawful dump any rounds r t v hidden showing x none s doubt
