-- The rounds in which triggers become single: what is early for a clean block, and the order in which clean blocks run.
use Rattle.std.proofs.Common.{◌≡◌, ◌≢◌, ◌⊎◌, inl, inr, ⊎_elim, ℕ, zero, suc, ◌+◌, ◌-◌, ◌<◌, ◌≤◌, Bool, true, false, List, [], ◌∷◌, refl, sym, ap, subst, ◌∙◌, arith, if◌then◌else◌}
use Rattle.std.specs.Prelude.{nat_le, ⊤}
use Rattle.std.proofs.lemmas.Bool.{and_parts, both_ways, cases_eq, cases_lt, le-leb, leb-true}
use Rattle.event_machine.specs.Cell.{Cell}
use Rattle.event_machine.specs.Machine.{Edge, IsLawful, IsTarget}
use Rattle.event_machine.specs.Habit.{Habit, Free, Late, is_free_input}
use Rattle.event_machine.specs.MayMove.{CanWake, IsClean, MayMove, MayWake}
use Rattle.event_machine.specs.Early.{of_blocking, of_input, of_nonblocking, of_trigger}
use Rattle.event_machine.specs.Told.{IsToldCell, IsToldInput}
use Rattle.event_machine.specs.Single.{IsSingle, IsWrittenOnce}
use Rattle.event_machine.specs.Laws.{RoundGrows}
use Rattle.event_machine.proofs.Rounds.{single_told}
use Rattle.design_model.specs.Design.{AreDistinct, Design, In, body_at, process_at, signal_at}
use Rattle.design_model.specs.Mentions.{body_assigns}
use Rattle.design_model.specs.Machine.{machine}
use Rattle.design_model.specs.Shows.{BoundDump}
use Rattle.design_model.specs.MayMove.{CanWakeAt, IsCleanAt, IsSingleAt, MayMoveAt, told_at}
use Rattle.design_model.specs.Early.{IsEarlyAt}
use Rattle.design_model.specs.Lawful.{IsLawfulDesign}
use Rattle.design_model.proofs.Assigns.{machine_lawful}
use Rattle.design_model.proofs.FiniteRounds.{growing_law}
use Rattle.replay_model.specs.Sets.{IsFirstRound}
use Rattle.replay_model.specs.Step.{in_rounds, put_in_round, put_in_rounds}
use Rattle.replay_model.proofs.Hits.{edge_clocked}
use Rattle.replay_model.proofs.Targets.{input_unassigned, one_assigner, target_assigns}

module _ (d : Design) (lawful : IsLawfulDesign d) (dump : BoundDump) (t : ℕ) where
  abbrev Single : ℕ → Cell → Type 0
  Single n = IsSingle (machine d) (told_at dump t) n

  abbrev WakesIn : ℕ → Cell → ℕ → Type 0
  WakesIn n c p = CanWake (machine d) (told_at dump t) (Single n) c p

  abbrev CleanIn : ℕ → ℕ → Cell → Type 0
  CleanIn n p c = IsClean (machine d) (told_at dump t) (Single n) p c

  grows : (n : ℕ) → RoundGrows (machine d) (told_at dump t) n
  grows n = growing_law d lawful dump t n

  -- ---- from a round to a later one

  -- what can wake in a later round can in an earlier one
  wakes_before : (j n : ℕ) (c : Cell) (p : ℕ) → WakesIn (n + j) c p → WakesIn n c p
  wakes_before zero n c p can = let is : n + 0 ≡ n = omega arith in subst (λ k. WakesIn k c p) is can
  wakes_before (suc j) n c p can =
      let is : n + suc j ≡ suc n + j = omega arith in
      (grows n).can_wake c p (wakes_before j (suc n) c p (subst (λ k. WakesIn k c p) is can))

  wakes_earlier : (n k : ℕ) → n ≤ k → (c : Cell) (p : ℕ) → WakesIn k c p → WakesIn n c p
  wakes_earlier n k at_most c p can =
      let is : k ≡ n + (k - n) = omega (arith, at_most) in
      wakes_before (k - n) n c p (subst (λ i. WakesIn i c p) is can)

  -- a clean block that can wake in a later round is clean in it, with the same trigger
  clean_after : (j n p : ℕ) (c b : Cell) → CleanIn n p c → WakesIn (n + j) b p → CleanIn (n + j) p c
  clean_after zero n p c b clean can = let is : n ≡ n + 0 = omega arith in subst (λ k. CleanIn k p c) is clean
  clean_after (suc j) n p c b clean can =
      let is : suc n + j ≡ n + suc j = omega arith in
      let later : WakesIn (suc n + j) b p = subst (λ k. WakesIn k b p) (sym is) can in
      subst (λ k. CleanIn k p c) is
      (⊎_elim (λ never. absurd (never b (wakes_before j (suc n) b p later)))
      (λ next. clean_after j (suc n) p c b (subst (λ x. CleanIn (suc n) p x) (clean.alone next.0 ((grows n).can_wake next.0 p next.1.can_wake)) next.1) later)
      ((grows n).clean p c clean))

  clean_later : (n k : ℕ) → n ≤ k → (p : ℕ) (c b : Cell) → CleanIn n p c → WakesIn k b p → CleanIn k p c
  clean_later n k at_most p c b clean can =
      let is : k ≡ n + (k - n) = omega (arith, at_most) in
      subst (λ i. CleanIn i p c) (sym is) (clean_after (k - n) n p c b clean (subst (λ i. WakesIn i b p) is can))

  -- ---- event signals

  law : IsLawful (machine d)
  law = machine_lawful d lawful

  -- an event signal has one cell
  same_event : (q : ℕ) (e : Edge) (b c : Cell) → (machine d).edge q e b ≡ true → IsToldCell (machine d) (told_at dump t) c → c.thing ≡ b.thing → c ≡ b
  same_event q e b c lists told same = ⊎_elim (λ input. law.input_has_one_bit q e b c lists input same) (λ by. law.target_has_one_bit q by.0 e b c lists by.1 same) told.1

  -- what is single is bound
  pub single_bound : (c : Cell) → IsSingleAt d dump t c → dump.bound c.thing ≡ true
  single_bound c single = (single_told (machine d) (told_at dump t) (dump.round t) c single).0

  is_input : (b : Cell) → (machine d).is_input b ≡ true → (signal_at d b.thing).input ≡ true
  is_input b input = (and_parts (signal_at d b.thing).input _ input).0

  module _ (h : Habit) (p : ℕ) (c : Cell) (clean : IsCleanAt d dump t p c) (n : ℕ) (first : IsFirstRound d dump t c n) where
    within : n ≤ dump.round t
    within = ⊎_elim (λ less. absurd (first.not_before (dump.round t) less clean.is_single)) (λ most. most) (cases_lt (dump.round t) n)

    -- an event signal that is single in a round before is not the trigger
    earlier_apart : (k q : ℕ) (e : Edge) (b : Cell) → (machine d).edge q e b ≡ true → Single k b → k < n → b.thing ≢ c.thing
    earlier_apart k q e b lists single less same =
        first.not_before k less (subst (λ x. Single k x) (sym (same_event q e b c lists (single_told (machine d) (told_at dump t) (dump.round t) c clean.is_single) (sym same))) single)

    -- of the event signals that are single in this round each that may move is early, except the trigger
    abbrev AreEarly : ℕ → Type 0
    AreEarly r = (b : Cell) (q : ℕ) (e : Edge) → (machine d).edge q e b ≡ true → Single r b → MayMoveAt d dump t b.thing → b.thing ≢ c.thing → IsEarlyAt d h dump t p c b.thing

    -- an input that moves
    input_early : (b : Cell) (q : ℕ) (e : Edge) → (machine d).edge q e b ≡ true → IsToldInput (machine d) (told_at dump t) b → MayMoveAt d dump t b.thing → b.thing ≢ c.thing → IsEarlyAt d h dump t p c b.thing
    input_early b q e lists told moves apart = go b.thing refl moves
      where
        free : (k : Habit) → is_free_input (machine d) k b.thing ≡ true
        free Free = refl
        free Late = (law.event_signals b.thing).1 (q, e, b, refl, lists)

        go : (x : ℕ) → x ≡ b.thing → MayMoveAt d dump t x → IsEarlyAt d h dump t p c x
        go x same (MayMove.of_input a moving) = of_input a moving (λ input. subst (λ z. is_free_input (machine d) h z ≡ true) (sym same) (free h)) (λ z. apart (sym same ∙ z))
        go x same (MayMove.of_target y w a may wakes target) = absurd (input_unassigned d lawful w b.thing (is_input b told.0) (subst (λ z. body_assigns z (body_at d w) ≡ true) same (target_assigns d lawful w a target)))

    -- what is written once
    module _ (r : ℕ) (less : r < n) (before : AreEarly r) (b : Cell) (q : ℕ) (e : Edge) (lists : (machine d).edge q e b ≡ true) (made : IsWrittenOnce (machine d) (told_at dump t) (Single r) b) (apart : b.thing ≢ c.thing) where
      earlier : r ≤ dump.round t
      earlier = let a = within in omega (arith, less, a)

      by_writer : (y w : ℕ) (a : Cell) → a.thing ≡ b.thing → MayMoveAt d dump t y → MayWake (machine d) (told_at dump t) (IsSingleAt d dump t) y w → IsTarget (machine d) w a → (x : Cell) × CanWakeAt d dump t x made.writer
      by_writer y w a same may wakes target = go (subst (λ z. MayWake (machine d) (told_at dump t) (IsSingleAt d dump t) y z) writer wakes)
        where
          writer : w ≡ made.writer
          writer = law.one_writer w made.writer b (subst (λ x. IsTarget (machine d) w x) (law.target_has_one_bit q w e b a lists target same) target) made.writes

          go : MayWake (machine d) (told_at dump t) (IsSingleAt d dump t) y made.writer → (x : Cell) × CanWakeAt d dump t x made.writer
          go (inl level) = absurd (both_ways _ (made.clocked y) level)
          go (inr k) = (k.0, (k.2, subst (λ z. MayMoveAt d dump t z) (sym k.1) may))

      -- its writer can wake
      woken : (x : ℕ) → x ≡ b.thing → MayMoveAt d dump t x → (x : Cell) × CanWakeAt d dump t x made.writer
      woken x same (MayMove.of_input a moving) =
          absurd (input_unassigned d lawful made.writer b.thing (subst (λ z. (signal_at d z).input ≡ true) same (is_input a moving.0)) (target_assigns d lawful made.writer b made.writes))
      woken x same (MayMove.of_target y w a may wakes target) = by_writer y w a same may wakes target

      -- by a trigger that is early
      by_early : (a : Cell) → CanWakeAt d dump t a made.writer → (k : Cell) → CleanIn r made.writer k → IsEarlyAt d h dump t p c b.thing
      by_early a can k clean_before = ⊎_elim (λ blocks. of_blocking k.thing made.writer b early wakes other blocks apart) (λ queues. of_nonblocking k.thing made.writer b early wakes queues apart) made.writes
        where
          now : IsCleanAt d dump t made.writer k
          now = clean_later r (dump.round t) earlier made.writer k a clean_before can

          differs : k.thing ≢ c.thing
          differs = earlier_apart r made.writer now.can_wake.0.0 k now.can_wake.0.1 clean_before.is_single less

          early : IsEarlyAt d h dump t p c k.thing
          early = before k made.writer now.can_wake.0.0 now.can_wake.0.1 clean_before.is_single now.can_wake.1 differs

          wakes : MayWake (machine d) (told_at dump t) (IsSingleAt d dump t) k.thing made.writer
          wakes = inr (k, refl, now.can_wake.0)

          other : made.writer ≢ p
          other same = differs (ap (λ z. z.thing) (clean.alone k (subst (λ z. CanWakeAt d dump t k z) same now.can_wake)))

      pub written_early : MayMoveAt d dump t b.thing → IsEarlyAt d h dump t p c b.thing
      written_early moves =
          let can = woken b.thing refl moves in
          ⊎_elim (λ never. absurd (never can.0 (wakes_earlier r (dump.round t) earlier can.0 made.writer can.1))) (λ k. by_early can.0 can.1 k.0 k.1) made.cannot_wake_or_clean

    -- each of no later round than the trigger
    pub events_early : (r : ℕ) → r ≤ n → AreEarly r
    events_early zero at_most b q e lists told moves apart = input_early b q e lists told moves apart
    events_early (suc r) at_most b q e lists (inl told) moves apart = input_early b q e lists told moves apart
    events_early (suc r) at_most b q e lists (inr made) moves apart = written_early r (omega (arith, at_most)) (events_early r (omega (arith, at_most))) b q e lists made apart moves

  -- ---- clean blocks

  -- what a clean block of no later round writes by blocking assignments is early, or the trigger
  pub others_early : (h : Habit) (p q : ℕ) (c e : Cell) → IsCleanAt d dump t p c → IsCleanAt d dump t q e → (n r : ℕ) → IsFirstRound d dump t c n → IsFirstRound d dump t e r → r ≤ n → q ≢ p → (b : Cell) → (machine d).blocking q b ≡ true → b.thing ≢ c.thing → IsEarlyAt d h dump t p c b.thing
  others_early h p q c e clean other n r first second at_most apart b writes away = go (cases_eq e.thing c.thing)
    where
      wakes : MayWake (machine d) (told_at dump t) (IsSingleAt d dump t) e.thing q
      wakes = inr (e, refl, other.can_wake.0)

      go : (e.thing ≡ c.thing) ⊎ (e.thing ≡ c.thing → ⊥) → IsEarlyAt d h dump t p c b.thing
      go (inl same) = of_trigger q b (subst (λ z. MayWake (machine d) (told_at dump t) (IsSingleAt d dump t) z q) same wakes) apart writes away
      go (inr differ) = of_blocking e.thing q b (events_early h p c clean n first r at_most e q other.can_wake.0.0 other.can_wake.0.1 second.single other.can_wake.1 differ) wakes apart writes away

  -- a clean block does not assign its trigger
  pub own_not_trigger : (p : ℕ) (c : Cell) → IsCleanAt d dump t p c → (n : ℕ) → IsFirstRound d dump t c n → body_assigns c.thing (body_at d p) ≡ true → ⊥
  own_not_trigger p c clean zero first mine = input_unassigned d lawful p c.thing (is_input c first.single.0) mine
  own_not_trigger p c clean (suc k) first mine = ⊎_elim (λ told. input_unassigned d lawful p c.thing (is_input c told.0) mine) by_itself first.single
    where
      by_itself : IsWrittenOnce (machine d) (told_at dump t) (Single k) c → ⊥
      by_itself made =
          let same : made.writer ≡ p = one_assigner d lawful p made.writer c.thing (edge_clocked (process_at d p) clean.can_wake.0.0 c clean.can_wake.0.1) mine (target_assigns d lawful made.writer c made.writes) in
          let most = within Free p c clean (suc k) first in
          let can : WakesIn k c made.writer = subst (λ z. WakesIn k c z) (sym same) (wakes_earlier k (dump.round t) (omega (arith, most)) c p clean.can_wake) in
          ⊎_elim (λ never. never c can) (λ b. first.not_before k (omega arith) (subst (λ x. Single k x) (sym (b.1.alone c can)) b.1.is_single)) made.cannot_wake_or_clean

-- ---- the order of rounds

-- each is of no later round than those after it
abbrev pub AreSorted : (ℕ → ℕ) → List ℕ → Type 0
AreSorted round [] = ⊤
AreSorted round (p ∷ ps) = ((q : ℕ) → In q ps → round p ≤ round q) × AreSorted round ps

module _ (round : ℕ → ℕ) where
  -- one more among those before
  pub in_put : (p q : ℕ) (xs : List ℕ) → In q (put_in_round round p xs) → In q (p ∷ xs)
  in_put p q [] i = i
  in_put p q (x ∷ xs) i = go (nat_le (round x) (round p)) (in_put p q xs) i
    where
      go : (b : Bool) → (In q (put_in_round round p xs) → In q (p ∷ xs)) → In q (if b then x ∷ put_in_round round p xs else p ∷ x ∷ xs) → In q (p ∷ x ∷ xs)
      go true rest (inl e) = inr (inl e)
      go true rest (inr j) = ⊎_elim (λ e. inl e) (λ k. inr (inr k)) (rest j)
      go false rest j = j

  put_in : (p q : ℕ) (xs : List ℕ) → In q (p ∷ xs) → In q (put_in_round round p xs)
  put_in p q [] i = i
  put_in p q (x ∷ xs) i = go (nat_le (round x) (round p)) (put_in p q xs) i
    where
      go : (b : Bool) → (In q (p ∷ xs) → In q (put_in_round round p xs)) → In q (p ∷ x ∷ xs) → In q (if b then x ∷ put_in_round round p xs else p ∷ x ∷ xs)
      go true rest (inl e) = inr (rest (inl e))
      go true rest (inr (inl e)) = inl e
      go true rest (inr (inr j)) = inr (rest (inr j))
      go false rest j = j

  put_distinct : (p : ℕ) (xs : List ℕ) → (In p xs → ⊥) → AreDistinct xs → AreDistinct (put_in_round round p xs)
  put_distinct p [] new once = (λ i. i, tt)
  put_distinct p (x ∷ xs) new once = go (nat_le (round x) (round p)) (put_distinct p xs (λ i. new (inr i)) once.1)
    where
      go : (b : Bool) → AreDistinct (put_in_round round p xs) → AreDistinct (if b then x ∷ put_in_round round p xs else p ∷ x ∷ xs)
      go true rest = (λ i. ⊎_elim (λ e. new (inl (sym e))) once.0 (in_put p x xs i), rest)
      go false rest = (new, once)

  pub put_sorted : (p : ℕ) (xs : List ℕ) → AreSorted round xs → AreSorted round (put_in_round round p xs)
  put_sorted p [] sorted = (λ q i. absurd i, tt)
  put_sorted p (x ∷ xs) sorted = go (nat_le (round x) (round p)) refl (put_sorted p xs sorted.1)
    where
      go : (b : Bool) → nat_le (round x) (round p) ≡ b → AreSorted round (put_in_round round p xs) → AreSorted round (if b then x ∷ put_in_round round p xs else p ∷ x ∷ xs)
      go true e rest = (
        λ q i. ⊎_elim (λ same. subst (λ z. round x ≤ round z) same (leb-true (round x) (round p) e)) (λ j. sorted.0 q j) (in_put p q xs i),
        rest,
      )
      go false e rest = (
        λ q i. ⊎_elim (λ same. subst (λ z. round p ≤ round z) same later) (λ j. let a = sorted.0 q j in let b = later in omega (arith, a, b)) i,
        sorted,
      )
        where
          later : round p ≤ round x
          later = ⊎_elim (λ less. omega (arith, less)) (λ most. absurd (both_ways _ e (le-leb (round x) (round p) most))) (cases_lt (round p) (round x))

  -- all of a list
  in_puts : (q : ℕ) (ps done : List ℕ) → In q (put_in_rounds round ps done) → In q ps ⊎ In q done
  in_puts q [] done i = inr i
  in_puts q (p ∷ ps) done i =
      ⊎_elim (λ j. inl (inr j)) (λ j. ⊎_elim (λ e. inl (inl e)) (λ k. inr k) (in_put p q done j)) (in_puts q ps (put_in_round round p done) i)

  puts_in : (q : ℕ) (ps done : List ℕ) → In q ps ⊎ In q done → In q (put_in_rounds round ps done)
  puts_in q [] done (inl i) = absurd i
  puts_in q [] done (inr i) = i
  puts_in q (p ∷ ps) done (inl (inl e)) = puts_in q ps (put_in_round round p done) (inr (put_in p q done (inl e)))
  puts_in q (p ∷ ps) done (inl (inr i)) = puts_in q ps (put_in_round round p done) (inl i)
  puts_in q (p ∷ ps) done (inr i) = puts_in q ps (put_in_round round p done) (inr (put_in p q done (inr i)))

  puts_distinct : (ps done : List ℕ) → AreDistinct ps → AreDistinct done → ((q : ℕ) → In q ps → In q done → ⊥) → AreDistinct (put_in_rounds round ps done)
  puts_distinct [] done once before apart = before
  puts_distinct (p ∷ ps) done once before apart =
      puts_distinct ps (put_in_round round p done) once.1 (put_distinct p done (apart p (inl refl)) before)
      (λ q i j. ⊎_elim (λ e. once.0 (subst (λ z. In z ps) (sym e) i)) (λ k. apart q (inr i) k) (in_put p q done j))

  puts_sorted : (ps done : List ℕ) → AreSorted round done → AreSorted round (put_in_rounds round ps done)
  puts_sorted [] done sorted = sorted
  puts_sorted (p ∷ ps) done sorted = puts_sorted ps (put_in_round round p done) (put_sorted p done sorted)

  -- in order of rounds there are the same processes
  pub in_order : (q : ℕ) (ps : List ℕ) → In q (in_rounds round ps) → In q ps
  in_order q ps i = ⊎_elim (λ j. j) (λ j. absurd j) (in_puts q ps [] i)

  pub order_in : (q : ℕ) (ps : List ℕ) → In q ps → In q (in_rounds round ps)
  order_in q ps i = puts_in q ps [] (inl i)

  -- each once
  pub order_distinct : (ps : List ℕ) → AreDistinct ps → AreDistinct (in_rounds round ps)
  order_distinct ps once = puts_distinct ps [] once tt (λ q i j. j)

  pub order_sorted : (ps : List ℕ) → AreSorted round (in_rounds round ps)
  order_sorted ps = puts_sorted ps [] tt
