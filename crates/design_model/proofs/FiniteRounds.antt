-- In each round of a lawful design it is decided which process can wake.
use Rattle.std.proofs.Common.{◌≡◌, ◌⊎◌, inl, inr, ⊎_elim, ℕ, zero, suc, ◌+◌, ◌<◌, ◌≤◌, Bool, true, false, ◌&&◌, ◌||◌, ◌==◌, not, List, [], ◌∷◌, length, refl, sym, ap, subst, ◌∙◌, arith, eq-eqb}
use Rattle.std.specs.Prelude.{nat_le, nat_lt}
use Rattle.std.specs.List.{list_any}
use Rattle.std.proofs.lemmas.Bool.{and_from, and_parts, cases_lt, eqb-true, false≢true, ltb-true, or_cases, or_left, or_right, both_ways}
use Rattle.std.proofs.lemmas.List.{get_or_past}
use Rattle.event_machine.specs.Cell.{Cell}
use Rattle.event_machine.specs.Machine.{Edge as MachineEdge, IsTarget, Negedge, Posedge}
use Rattle.event_machine.specs.Told.{IsMovingInput, IsToldInput}
use Rattle.event_machine.specs.MayMove.{CanBeEdge, CanWake, IsClean, MayMove, MayWake}
use Rattle.event_machine.specs.Single.{IsLastRound, IsSameNext, IsSingle, IsWrittenOnce}
use Rattle.event_machine.specs.Laws.{IsDecided}
use Rattle.event_machine.proofs.Grow.{rounds_law}  -- #keep
use Rattle.event_machine.proofs.Rounds.{told_single}  -- #keep
use Rattle.event_machine.proofs.Writes.{cases_cell}  -- #keep
use Rattle.four_state.specs.Vector.{same_bit}
use Rattle.four_state.specs.declared.bit.Bit.{Bit}
use Rattle.design_model.specs.Tree.{Arms, Process, Stmt, Stmts, Target, Targets, Term, Terms, a_stmt, a_target, a_term, all_of, arm, assign, binary, bit, bits_of, block, branch, choice, clocked, comb, concat, empty, no_arms, no_stmts, no_targets, no_terms, number, part, repeat, select, set, several, sign, signal, slide, turns, unary, word, word_of}
use Rattle.design_model.specs.Design.{Design, body, body_at, cell, is_memory, no_process, no_signal, process_at, signal_at}
use Rattle.design_model.specs.Mentions.{any_set, any_set_in, any_set_of, arms_mention, body_mentions, body_mentions_all, index_mentions, indexes_mention, may_write, mentions, mentions_any, some_may_write}
use Rattle.design_model.specs.Machine.{is_level, machine}
use Rattle.design_model.specs.Shape.{are_bodies, are_targets, is_arms, is_body, is_target}
use Rattle.design_model.specs.Shows.{BoundDump}
use Rattle.design_model.specs.MayMove.{told_at}
use Rattle.design_model.specs.Lawful.{IsLawfulDesign}
use Rattle.design_model.specs.RoundLaws.{DecidedRoundsLaw, EndingRoundsLaw, FirstRoundsLaw, GrowingRoundsLaw, LastRoundsLaw}
use Rattle.design_model.proofs.Assigns.{machine_lawful}
use Rattle.design_model.proofs.Finite.{Dec, any_below_from, base_reached, below_next, closed_turn, count, count_less, count_most, dec_and, dec_bool, dec_each, dec_if, dec_map, dec_not, dec_or, dec_some, from_any_below, from_holds, holds, holds_from, same_or_more, turns_reach}
use Rattle.design_model.proofs.Lawful.{any_gives, any_weaker, edge_one, may_any, place_from, same_bit_is, same_bit_self}

-- what some number mentions, or none does
abbrev Mentioned : (ℕ → Bool) → Type 0
Mentioned f = ((x : ℕ) × (f x ≡ true)) ⊎ ((x : ℕ) → f x ≡ false)

or_mentioned : (f g : ℕ → Bool) → Mentioned f → Mentioned g → Mentioned (λ x. f x || g x)
or_mentioned f g (inl a) b = inl (a.0, or_left (f a.0) _ a.1)
or_mentioned f g (inr a) (inl b) = inl (b.0, or_right (f b.0) _ b.1)
or_mentioned f g (inr a) (inr b) = inr (λ x. ap (λ y. y || g x) (a x) ∙ b x)

this_one : (s : ℕ) → Mentioned (λ x. s == x)
this_one s = inl (s, eq-eqb s s refl)

mutual
  term_mentions : (t : Term) → Mentioned (λ x. mentions x t)
  term_mentions (number h n) = inr (λ x. refl)
  term_mentions (signal h s) = this_one s
  term_mentions (word h m i) = or_mentioned (λ x. m == x) (λ x. mentions x i) (this_one m) (term_mentions i)
  term_mentions (bit h t i) = or_mentioned (λ x. mentions x t) (λ x. mentions x i) (term_mentions t) (term_mentions i)
  term_mentions (part h t i j) = or_mentioned (λ x. mentions x t) (λ x. mentions x i || mentions x j) (term_mentions t) (or_mentioned (λ x. mentions x i) (λ x. mentions x j) (term_mentions i) (term_mentions j))
  term_mentions (slide h t b w up) = or_mentioned (λ x. mentions x t) (λ x. mentions x b || mentions x w) (term_mentions t) (or_mentioned (λ x. mentions x b) (λ x. mentions x w) (term_mentions b) (term_mentions w))
  term_mentions (unary h op t) = term_mentions t
  term_mentions (binary h op t u) = or_mentioned (λ x. mentions x t) (λ x. mentions x u) (term_mentions t) (term_mentions u)
  term_mentions (choice h c t u) = or_mentioned (λ x. mentions x c) (λ x. mentions x t || mentions x u) (term_mentions c) (or_mentioned (λ x. mentions x t) (λ x. mentions x u) (term_mentions t) (term_mentions u))
  term_mentions (concat h ts) = terms_mention ts
  term_mentions (repeat h n ts) = or_mentioned (λ x. mentions x n) (λ x. mentions_any x ts) (term_mentions n) (terms_mention ts)
  term_mentions (sign h s t) = term_mentions t

  terms_mention : (ts : Terms) → Mentioned (λ x. mentions_any x ts)
  terms_mention no_terms = inr (λ x. refl)
  terms_mention (a_term t ts) = or_mentioned (λ x. mentions x t) (λ x. mentions_any x ts) (term_mentions t) (terms_mention ts)

mutual
  target_mentions : (y : Target) → Mentioned (λ x. index_mentions x y)
  target_mentions (all_of s) = inr (λ x. refl)
  target_mentions (bits_of s low w) = term_mentions low
  target_mentions (word_of m i) = term_mentions i
  target_mentions (several ts) = targets_mention ts

  targets_mention : (ts : Targets) → Mentioned (λ x. indexes_mention x ts)
  targets_mention no_targets = inr (λ x. refl)
  targets_mention (a_target t ts) = or_mentioned (λ x. index_mentions x t) (λ x. indexes_mention x ts) (target_mentions t) (targets_mention ts)

mutual
  stmt_mentions : (s : Stmt) → Mentioned (λ x. body_mentions x s)
  stmt_mentions (block p ss) = stmts_mention ss
  stmt_mentions (branch p n t s other) = or_mentioned (λ x. mentions x t) (λ x. body_mentions x s || body_mentions_all x other) (term_mentions t) (or_mentioned (λ x. body_mentions x s) (λ x. body_mentions_all x other) (stmt_mentions s) (stmts_mention other))
  stmt_mentions (select p n kind t arms) = or_mentioned (λ x. mentions x t) (λ x. arms_mention x arms) (term_mentions t) (each_arm_mentions arms)
  stmt_mentions (turns p n ss) = stmts_mention ss
  stmt_mentions (set p n b y t) = or_mentioned (λ x. index_mentions x y) (λ x. mentions x t) (target_mentions y) (term_mentions t)
  stmt_mentions (empty p) = inr (λ x. refl)

  stmts_mention : (ss : Stmts) → Mentioned (λ x. body_mentions_all x ss)
  stmts_mention no_stmts = inr (λ x. refl)
  stmts_mention (a_stmt s ss) = or_mentioned (λ x. body_mentions x s) (λ x. body_mentions_all x ss) (stmt_mentions s) (stmts_mention ss)

  each_arm_mentions : (arms : Arms) → Mentioned (λ x. arms_mention x arms)
  each_arm_mentions no_arms = inr (λ x. refl)
  each_arm_mentions (arm labels s arms) = or_mentioned (λ x. mentions_any x labels) (λ x. body_mentions x s || arms_mention x arms) (terms_mention labels) (or_mentioned (λ x. body_mentions x s) (λ x. arms_mention x arms) (stmt_mentions s) (each_arm_mentions arms))

listed_or : (ws : List ℕ) → Mentioned (λ x. list_any (λ z. z == x) ws)
listed_or [] = inr (λ x. refl)
listed_or (w ∷ ws) = inl (w, or_left (w == w) _ (eq-eqb w w refl))

-- some thing wakes the process at each change, or none does
level_or : (p : Process) → Mentioned (is_level p)
level_or (assign i x t c) = stmt_mentions (body (assign i x t c))
level_or (comb i wakes s) = or_mentioned (λ x. body_mentions x s) (λ x. list_any (λ z. z == x) wakes) (stmt_mentions s) (listed_or wakes)
level_or (clocked i events s) = inr (λ x. refl)

dec_level : (p : Process) → Dec ((x : ℕ) → is_level p x ≡ false)
dec_level p = ⊎_elim (λ some. inr (λ none. both_ways _ (none some.0) some.1)) (λ none. inl none) (level_or p)

-- a target of a body names a thing of the design
mutual
  number_of : (d : Design) (x : Target) (c : Cell) → is_target d x ≡ true → may_write d x c ≡ true → c.thing < length d.signals + length d.memories
  number_of d (all_of s) c h e = omega (arith, ltb-true s (length d.signals) h, eqb-true c.thing s (and_parts (c.thing == s) _ e).0)
  number_of d (bits_of s low w) c h e = omega (arith, ltb-true s (length d.signals) (and_parts (nat_lt s (length d.signals)) _ (and_parts (nat_lt s (length d.signals) && _) _ h).0).0, eqb-true c.thing s (and_parts (c.thing == s) _ e).0)
  number_of d (word_of m i) c h e = omega (arith, ltb-true m (length d.signals + length d.memories) (and_parts (nat_le (length d.signals) m) _ (and_parts (is_memory d m) _ h).0).1, eqb-true c.thing m (and_parts (c.thing == m) _ e).0)
  number_of d (several ts) c h e = numbers_of d ts c h e

  numbers_of : (d : Design) (ts : Targets) (c : Cell) → are_targets d ts ≡ true → some_may_write d ts c ≡ true → c.thing < length d.signals + length d.memories
  numbers_of d no_targets c h e = absurd (false≢true e)
  numbers_of d (a_target t ts) c h e =
      let p = and_parts (is_target d t) _ h in
      ⊎_elim (number_of d t c p.0) (numbers_of d ts c p.1) (or_cases (may_write d t c) _ e)

mutual
  body_number : (d : Design) (s : Stmt) (c : Cell) → is_body d s ≡ true → any_set (λ b x t. may_write d x c) s ≡ true → c.thing < length d.signals + length d.memories
  body_number d (block p ss) c h e = bodies_number d ss c h e
  body_number d (branch p n t s other) c h e =
      let a = and_parts (_ && is_body d s) (are_bodies d other) h in
      ⊎_elim (body_number d s c (and_parts _ (is_body d s) a.0).1) (bodies_number d other c a.1) (or_cases (any_set (λ b x t. may_write d x c) s) _ e)
  body_number d (select p n kind t arms) c h e = arms_number d _ _ arms c (and_parts _ (is_arms d _ _ arms) h).1 e
  body_number d (turns p n ss) c h e = bodies_number d ss c h e
  body_number d (set p n b x t) c h e = number_of d x c (and_parts (is_target d x) _ h).0 e
  body_number d (empty p) c h e = absurd (false≢true e)

  bodies_number : (d : Design) (ss : Stmts) (c : Cell) → are_bodies d ss ≡ true → any_set_of (λ b x t. may_write d x c) ss ≡ true → c.thing < length d.signals + length d.memories
  bodies_number d no_stmts c h e = absurd (false≢true e)
  bodies_number d (a_stmt s ss) c h e =
      let a = and_parts (is_body d s) _ h in
      ⊎_elim (body_number d s c a.0) (bodies_number d ss c a.1) (or_cases (any_set (λ b x t. may_write d x c) s) _ e)

  arms_number : (d : Design) (w : ℕ) (signed : Bool) (arms : Arms) (c : Cell) → is_arms d w signed arms ≡ true → any_set_in (λ b x t. may_write d x c) arms ≡ true → c.thing < length d.signals + length d.memories
  arms_number d w signed no_arms c h e = absurd (false≢true e)
  arms_number d w signed (arm labels s arms) c h e =
      let a = and_parts (_ && is_body d s) (is_arms d w signed arms) h in
      ⊎_elim (body_number d s c (and_parts _ (is_body d s) a.0).1) (arms_number d w signed arms c a.1) (or_cases (any_set (λ b x t. may_write d x c) s) _ e)

-- of what is no signal the place does not matter
mutual
  any_place : (d : Design) (x : Target) (c : Cell) → length d.signals ≤ c.thing → may_write d x c ≡ true → may_write d x (cell c.thing 0) ≡ true
  any_place d (all_of s) c above e =
      let p = and_parts (c.thing == s) _ e in
      let none : (signal_at d s).width ≡ 0 = ap (λ y. y.width) (get_or_past d.signals s no_signal (subst (λ y. length d.signals ≤ y) (eqb-true c.thing s p.0) above)) in
      absurd (omega (arith, none, ltb-true c.place (signal_at d s).width p.1))
  any_place d (bits_of s low w) c above e =
      let p = and_parts (c.thing == s) _ e in
      let none : (signal_at d s).width ≡ 0 = ap (λ y. y.width) (get_or_past d.signals s no_signal (subst (λ y. length d.signals ≤ y) (eqb-true c.thing s p.0) above)) in
      absurd (omega (arith, none, ltb-true c.place (signal_at d s).width (and_parts (nat_lt c.place (signal_at d s).width) _ p.1).0))
  any_place d (word_of m i) c above e = e
  any_place d (several ts) c above e = some_place d ts c above e

  some_place : (d : Design) (ts : Targets) (c : Cell) → length d.signals ≤ c.thing → some_may_write d ts c ≡ true → some_may_write d ts (cell c.thing 0) ≡ true
  some_place d no_targets c above e = e
  some_place d (a_target t ts) c above e =
      ⊎_elim (λ a. or_left (may_write d t (cell c.thing 0)) _ (any_place d t c above a)) (λ a. or_right (may_write d t (cell c.thing 0)) _ (some_place d ts c above a)) (or_cases (may_write d t c) _ e)

same_place : (c : Cell) (x k : ℕ) → c.thing ≡ x → c.place ≡ k → c ≡ cell x k
same_place c x k a b = λ i. record { thing = a i; place = b i }

module _ (d : Design) (lawful : IsLawfulDesign d) (dump : BoundDump) (t : ℕ) where
  abbrev numbers : ℕ
  numbers = length d.signals + length d.memories

  abbrev processes : ℕ
  processes = length d.processes

  target_number : (p : ℕ) (c : Cell) → IsTarget (machine d) p c → c.thing < numbers
  target_number p c target = body_number d (body_at d p) c (lawful.bodies p) (may_any d (body_at d p) c target)

  target_process : (p : ℕ) (c : Cell) → IsTarget (machine d) p c → p < processes
  target_process p c target = ⊎_elim (λ below. below) (λ past. absurd (none past)) (cases_lt p processes)
    where
      none : processes ≤ p → ⊥
      none past = false≢true (subst (λ y. any_set (λ b x u. may_write d x c) (body y) ≡ true) (get_or_past d.processes p no_process past) (may_any d (body_at d p) c target))

  edge_place : (p : ℕ) (e : MachineEdge) (c : Cell) → (machine d).edge p e c ≡ true → (c.place ≡ 0) × (c.thing < length d.signals)
  edge_place p e c edge = let one = edge_one d (process_at d p) e c edge (lawful.events p) in (one.0, one.1)

  input_signal : (c : Cell) → (machine d).is_input c ≡ true → (c.thing < length d.signals) × (c.place < (signal_at d c.thing).width)
  input_signal c input = (⊎_elim (λ below. below) (λ past. absurd (none past)) (cases_lt c.thing (length d.signals)), ltb-true _ _ (and_parts (signal_at d c.thing).input _ input).1)
    where
      none : length d.signals ≤ c.thing → ⊥
      none past = both_ways _ (ap (λ y. y.input) (get_or_past d.signals c.thing no_signal past)) (and_parts (signal_at d c.thing).input _ input).0

  dec_bit : (x y : Bit) → Dec (x ≡ y)
  dec_bit x y = dec_map (same_bit_is x y) (λ e. subst (λ z. same_bit x z ≡ true) e (same_bit_self x)) (dec_bool (same_bit x y))

  dec_moving : (c : Cell) → Dec (IsMovingInput (machine d) (told_at dump t) c)
  dec_moving c = dec_and (dec_bool ((machine d).is_input c)) (dec_if (dec_bool (dump.bound c.thing)) (dec_not (dec_bit ((told_at dump t).old c) ((told_at dump t).new c))))

  -- thing x is an input that moves
  abbrev Moving : ℕ → Type 0
  Moving x = (c : Cell) × (c.thing ≡ x) × IsMovingInput (machine d) (told_at dump t) c

  moving : (x : ℕ) → Dec (Moving x)
  moving x =
      dec_map
      (λ h. (cell x h.0, refl, h.2))
      (λ h. (h.0.place, subst (λ y. h.0.place < (signal_at d y).width) h.1 (input_signal h.0 h.2.0).1, subst (IsMovingInput (machine d) (told_at dump t)) (same_place h.0 x h.0.place h.1 refl) h.2))
      (dec_some (signal_at d x).width (λ k. IsMovingInput (machine d) (told_at dump t) (cell x k)) (λ k. dec_moving (cell x k)))

  dec_target : (p : ℕ) (c : Cell) → Dec (IsTarget (machine d) p c)
  dec_target p c = dec_or (dec_bool ((machine d).blocking p c)) (dec_bool ((machine d).nonblocking p c))

  -- process p may write thing x
  abbrev Writes : ℕ → ℕ → Type 0
  Writes p x = (c : Cell) × (c.thing ≡ x) × IsTarget (machine d) p c

  moved_target : (p : ℕ) (c : Cell) → length d.signals ≤ c.thing → IsTarget (machine d) p c → IsTarget (machine d) p (cell c.thing 0)
  moved_target p c above (inl e) =
      inl (any_weaker (λ b x u. b && may_write d x c) (λ b x u. b && may_write d x (cell c.thing 0)) (λ b x u h. let r = and_parts b _ h in and_from b _ r.0 (any_place d x c above r.1)) (body_at d p) e)
  moved_target p c above (inr e) =
      inr (any_weaker (λ b x u. not b && may_write d x c) (λ b x u. not b && may_write d x (cell c.thing 0)) (λ b x u h. let r = and_parts (not b) _ h in and_from (not b) _ r.0 (any_place d x c above r.1)) (body_at d p) e)

  writes : (p x : ℕ) → Dec (Writes p x)
  writes p x =
      dec_map
      (λ h. (cell x h.0, refl, h.2))
      back
      (dec_some (suc (signal_at d x).width) (λ k. IsTarget (machine d) p (cell x k)) (λ k. dec_target p (cell x k)))
    where
      back : Writes p x → (k : ℕ) × (k < suc (signal_at d x).width) × IsTarget (machine d) p (cell x k)
      back (c, is, target) =
          ⊎_elim
          (λ below. (
            c.place,
            omega (arith, subst (λ y. c.place < (signal_at d y).width) is (any_gives (λ b y u. may_write d y c) _ (λ b y u e. place_from d y c below e) (body_at d p) (may_any d (body_at d p) c target))),
            subst (IsTarget (machine d) p) (same_place c x c.place is refl) target,
          ))
          (λ above. (0, omega arith, subst (IsTarget (machine d) p) (same_place (cell c.thing 0) x 0 is refl) (moved_target p c above target)))
          (cases_lt c.thing (length d.signals))

  -- with it decided which cells are single
  module _ (single : Cell → Type 0) (one : (c : Cell) → Dec (single c)) where
    dec_edge : (c : Cell) (p : ℕ) → Dec (CanBeEdge (machine d) (told_at dump t) single c p)
    dec_edge c p =
        dec_map
        (λ h. ⊎_elim (λ a. (Posedge, a.0, a.1)) (λ a. (Negedge, a.0, a.1)) h)
        (λ h. kinds h.0 h.1 h.2)
        (dec_or (by Posedge) (by Negedge))
      where
        by : (e : MachineEdge) → Dec (((machine d).edge p e c ≡ true) × (single c → (machine d).is_edge e ((told_at dump t).old c) ((told_at dump t).new c) ≡ true))
        by e = dec_and (dec_bool ((machine d).edge p e c)) (dec_if (one c) (dec_bool ((machine d).is_edge e ((told_at dump t).old c) ((told_at dump t).new c))))

        kinds : (e : MachineEdge) → (machine d).edge p e c ≡ true → (single c → (machine d).is_edge e ((told_at dump t).old c) ((told_at dump t).new c) ≡ true) → (((machine d).edge p Posedge c ≡ true) × (single c → (machine d).is_edge Posedge ((told_at dump t).old c) ((told_at dump t).new c) ≡ true)) ⊎ (((machine d).edge p Negedge c ≡ true) × (single c → (machine d).is_edge Negedge ((told_at dump t).old c) ((told_at dump t).new c) ≡ true))
        kinds Posedge a b = inl (a, b)
        kinds Negedge a b = inr (a, b)

    may_wake : (x p : ℕ) → Dec (MayWake (machine d) (told_at dump t) single x p)
    may_wake x p =
        dec_or
        (dec_bool ((machine d).level p x))
        (dec_map (λ h. (cell x 0, refl, h)) (λ h. subst (λ c. CanBeEdge (machine d) (told_at dump t) single c p) (same_place h.0 x 0 h.1 (edge_place p h.2.0 h.0 h.2.1).0) h.2) (dec_edge (cell x 0) p))

    -- a change of y may wake a process that may write x
    abbrev Passes : ℕ → ℕ → Type 0
    Passes y x = (p : ℕ) × (p < processes) × (MayWake (machine d) (told_at dump t) single y p × Writes p x)

    passes : (y x : ℕ) → Dec (Passes y x)
    passes y x = dec_some processes (λ p. MayWake (machine d) (told_at dump t) single y p × Writes p x) (λ p. dec_and (may_wake y p) (writes p x))

    abbrev reach : ℕ → ℕ → Bool
    reach = turns_reach numbers (λ x. holds (moving x)) (λ y x. holds (passes y x))

    reach_moves : (k x : ℕ) → reach k x ≡ true → MayMove (machine d) (told_at dump t) single x
    reach_moves zero x e = let h = from_holds (moving x) e in subst (MayMove (machine d) (told_at dump t) single) h.1 (MayMove.of_input h.0 h.2)
    reach_moves (suc k) x e = ⊎_elim (reach_moves k x) (λ later. through (from_any_below numbers (λ y. reach k y && holds (passes y x)) later) (reach_moves k)) (or_cases (reach k x) _ e)
      where
        through : (y : ℕ) × ((reach k y && holds (passes y x)) ≡ true) → ((z : ℕ) → reach k z ≡ true → MayMove (machine d) (told_at dump t) single z) → MayMove (machine d) (told_at dump t) single x
        through (y, both) moves =
            let r = and_parts (reach k y) _ both in
            let h = from_holds (passes y x) r.1 in
            subst (MayMove (machine d) (told_at dump t) single) h.2.1.1 (MayMove.of_target y h.0 h.2.1.0 (moves y r.0) h.2.0 h.2.1.2)

    may_number : (x : ℕ) → MayMove (machine d) (told_at dump t) single x → x < numbers
    may_number x (MayMove.of_input c is) = omega (arith, (input_signal c is.0).0)
    may_number x (MayMove.of_target y p c may wakes_it target) = target_number p c target

    last : ℕ
    last = (closed_turn numbers (λ x. holds (moving x)) (λ y x. holds (passes y x))).0

    closed : (x : ℕ) → x < numbers → reach (suc last) x ≡ true → reach last x ≡ true
    unfolding last
    closed = (closed_turn numbers (λ x. holds (moving x)) (λ y x. holds (passes y x))).1

    moves_reach : (x : ℕ) → MayMove (machine d) (told_at dump t) single x → reach last x ≡ true
    moves_reach x (MayMove.of_input c is) = base_reached numbers (λ x. holds (moving x)) (λ y x. holds (passes y x)) last c.thing (holds_from (moving c.thing) (c, refl, is))
    moves_reach x (MayMove.of_target y p c may wakes_it target) =
        closed c.thing (target_number p c target)
        (or_right (reach last c.thing) _
        (any_below_from numbers (λ z. reach last z && holds (passes z c.thing)) y (may_number y may)
        (and_from (reach last y) _ (moves_reach y may) (holds_from (passes y c.thing) (p, target_process p c target, (wakes_it, (c, refl, target)))))))

    dec_move : (x : ℕ) → Dec (MayMove (machine d) (told_at dump t) single x)
    dec_move x = dec_map (reach_moves last x) (moves_reach x) (dec_bool (reach last x))

    pub dec_wake : (c : Cell) (p : ℕ) → Dec (CanWake (machine d) (told_at dump t) single c p)
    dec_wake c p = dec_and (dec_edge c p) (dec_move c.thing)

    -- what can wake is an event signal
    wake_cell : (c : Cell) (p : ℕ) → CanWake (machine d) (told_at dump t) single c p → (c ≡ cell c.thing 0) × (c.thing < length d.signals)
    wake_cell c p can = let at = edge_place p can.0.0 c can.0.1 in (same_place c c.thing 0 refl at.0, at.1)

    dec_clean : (p : ℕ) (c : Cell) → Dec (IsClean (machine d) (told_at dump t) single p c)
    dec_clean p c =
        dec_map
        (λ h. record { clocked = h.0; can_wake = h.1.0; alone = λ b can. let w = wake_cell b p can in w.0 ∙ h.1.1.0 b.thing w.1 (subst (λ y. CanWake (machine d) (told_at dump t) single y p) w.0 can); is_single = h.1.1.1 })
        (λ clean. (clean.clocked, (clean.can_wake, (λ y lt can. clean.alone (cell y 0) can, clean.is_single))))
        (dec_and (dec_level (process_at d p)) (dec_and (dec_wake c p) (dec_and (dec_each (length d.signals) (λ y. CanWake (machine d) (told_at dump t) single (cell y 0) p → cell y 0 ≡ c) (λ y. dec_if (dec_wake (cell y 0) p) (cases_cell (cell y 0) c))) (one c))))

    dec_quiet : (p : ℕ) → Dec (((c : Cell) → CanWake (machine d) (told_at dump t) single c p → ⊥) ⊎ ((c : Cell) × IsClean (machine d) (told_at dump t) single p c))
    dec_quiet p =
        dec_or
        (dec_map
        (λ none c can. let w = wake_cell c p can in none c.thing w.1 (subst (λ y. CanWake (machine d) (told_at dump t) single y p) w.0 can))
        (λ none y lt can. none (cell y 0) can)
        (dec_each (length d.signals) (λ y. CanWake (machine d) (told_at dump t) single (cell y 0) p → ⊥) (λ y. dec_not (dec_wake (cell y 0) p))))
        (dec_map
        (λ h. (cell h.0 0, h.2))
        (λ h. let w = wake_cell h.0 p h.1.can_wake in (h.0.thing, w.1, subst (IsClean (machine d) (told_at dump t) single p) w.0 h.1))
        (dec_some (length d.signals) (λ y. IsClean (machine d) (told_at dump t) single p (cell y 0)) (λ y. dec_clean p (cell y 0))))

    pub dec_written : (c : Cell) → Dec (IsWrittenOnce (machine d) (told_at dump t) single c)
    dec_written c =
        dec_map
        (λ h. record { told = h.0; is_event = h.1.0; writer = h.1.1.0; writes = h.1.1.2.0; clocked = h.1.1.2.1.0; once = h.1.1.2.1.1.0; cannot_wake_or_clean = h.1.1.2.1.1.1 })
        (λ made. (made.told, (made.is_event, (made.writer, target_process made.writer c made.writes, (made.writes, (made.clocked, (made.once, made.cannot_wake_or_clean)))))))
        (dec_and (dec_bool (dump.bound c.thing)) (dec_and (dec_bool ((machine d).is_event_signal c.thing)) (dec_some processes (λ p. IsTarget (machine d) p c × (((x : ℕ) → (machine d).level p x ≡ false) × (((machine d).writes_once p c ≡ true) × (((b : Cell) → CanWake (machine d) (told_at dump t) single b p → ⊥) ⊎ ((b : Cell) × IsClean (machine d) (told_at dump t) single p b))))) (λ p. dec_and (dec_target p c) (dec_and (dec_level (process_at d p)) (dec_and (dec_bool ((machine d).writes_once p c)) (dec_quiet p)))))))

  dec_input : (c : Cell) → Dec (IsToldInput (machine d) (told_at dump t) c)
  dec_input c = dec_and (dec_bool ((machine d).is_input c)) (dec_bool (dump.bound c.thing))

  pub dec_single : (n : ℕ) (c : Cell) → Dec (IsSingle (machine d) (told_at dump t) n c)
  dec_single zero c = dec_input c
  dec_single (suc n) c = dec_or (dec_input c) (dec_written (IsSingle (machine d) (told_at dump t) n) (dec_single n) c)

  pub decided : IsDecided (machine d) (told_at dump t)
  decided n c p = dec_wake (IsSingle (machine d) (told_at dump t) n) (dec_single n) c p

-- the rounds end, since each that changes something has more single event signals than the one before
module _ (d : Design) (lawful : IsLawfulDesign d) (dump : BoundDump) (t : ℕ) where
  abbrev Single : ℕ → Cell → Type 0
  Single n c = IsSingle (machine d) (told_at dump t) n c

  abbrev is_single_in : ℕ → ℕ → Bool
  is_single_in n y = holds (dec_single d lawful dump t n (cell y 0))

  more_single : (n : ℕ) (c : Cell) → Single n c → Single (suc n) c
  more_single n = (rounds_law (machine d) (told_at dump t) (decided d lawful dump t) n).single

  more_in : (n y : ℕ) → is_single_in n y ≡ true → is_single_in (suc n) y ≡ true
  more_in n y e = holds_from (dec_single d lawful dump t (suc n) (cell y 0)) (more_single n (cell y 0) (from_holds (dec_single d lawful dump t n (cell y 0)) e))

  -- the cell of an event signal that a process writes is its only one
  one_cell : (p : ℕ) (c : Cell) → (machine d).is_event_signal c.thing ≡ true → IsTarget (machine d) p c → (c ≡ cell c.thing 0) × (c.thing < length d.signals)
  one_cell p c event target =
      let m = machine_lawful d lawful in
      let listed = (m.event_signals c.thing).0 event in
      let at = edge_place d lawful dump t listed.0 listed.1 listed.2 listed.4 in
      let is : c ≡ listed.2 = m.target_has_one_bit listed.0 p listed.1 listed.2 c listed.4 target (sym listed.3) in
      (same_place c c.thing 0 refl (ap (λ b. b.place) is ∙ at.0), subst (λ y. y < length d.signals) listed.3 at.1)

  same_next : (n : ℕ) → ((y : ℕ) → y < length d.signals → is_single_in (suc n) y ≡ true → is_single_in n y ≡ true) → IsSameNext (machine d) (told_at dump t) n
  same_next n same c = (more_single n c, λ one. ⊎_elim (λ told. told_single (machine d) (told_at dump t) n c told) back one)
    where
      back : IsWrittenOnce (machine d) (told_at dump t) (Single n) c → Single n c
      back made =
          let at = one_cell made.writer c made.is_event made.writes in
          let later : Single (suc n) (cell c.thing 0) = subst (Single (suc n)) at.0 (inr made) in
          subst (Single n) (sym at.0) (from_holds (dec_single d lawful dump t n (cell c.thing 0)) (same c.thing at.1 (holds_from (dec_single d lawful dump t (suc n) (cell c.thing 0)) later)))

  not_same : (n : ℕ) → count (is_single_in n) (length d.signals) < count (is_single_in (suc n)) (length d.signals) → IsSameNext (machine d) (told_at dump t) n → ⊥
  not_same n more same =
      omega (arith, more, count_less (is_single_in (suc n)) (is_single_in n) (λ y e. holds_from (dec_single d lawful dump t n (cell y 0)) ((same (cell y 0)).1 (from_holds (dec_single d lawful dump t (suc n) (cell y 0)) e))) (length d.signals))

  find_last : (fuel n : ℕ) → length d.signals < fuel + count (is_single_in n) (length d.signals) → ((k : ℕ) → k < n → IsSameNext (machine d) (told_at dump t) k → ⊥) → (k : ℕ) × IsLastRound (machine d) (told_at dump t) k
  find_last zero n lt none = absurd (omega (arith, lt, count_most (is_single_in n) (length d.signals)))
  find_last (suc fuel) n lt none = go (same_or_more (is_single_in n) (is_single_in (suc n)) (more_in n) (length d.signals)) (find_last fuel (suc n))
    where
      go : ((y : ℕ) → y < length d.signals → is_single_in (suc n) y ≡ true → is_single_in n y ≡ true) ⊎ (count (is_single_in n) (length d.signals) < count (is_single_in (suc n)) (length d.signals)) → (length d.signals < fuel + count (is_single_in (suc n)) (length d.signals) → ((k : ℕ) → k < suc n → IsSameNext (machine d) (told_at dump t) k → ⊥) → (k : ℕ) × IsLastRound (machine d) (told_at dump t) k) → (k : ℕ) × IsLastRound (machine d) (told_at dump t) k
      go (inl same) later = (n, record { same_next = same_next n same; is_first = none })
      go (inr more) later =
          later (omega (arith, lt, more))
          (λ k less. ⊎_elim (λ is. subst (λ j. IsSameNext (machine d) (told_at dump t) j → ⊥) (sym is) (not_same n more)) (none k) (below_next k n less))

  pub last_round : (n : ℕ) × IsLastRound (machine d) (told_at dump t) n
  last_round = find_last (suc (length d.signals)) 0 (omega arith) (λ k less. absurd (omega (arith, less)))

pub ending_law : (d : Design) → IsLawfulDesign d → EndingRoundsLaw d
ending_law d lawful dump t = last_round d lawful dump t

pub decided_law : (d : Design) → IsLawfulDesign d → DecidedRoundsLaw d
decided_law d lawful dump t = decided d lawful dump t

pub growing_law : (d : Design) → IsLawfulDesign d → GrowingRoundsLaw d
growing_law d lawful dump t n = rounds_law (machine d) (told_at dump t) (decided d lawful dump t) n

-- in round 0 the reported inputs are single
pub first_rounds_law : (d : Design) → FirstRoundsLaw d
first_rounds_law d dump first t c =
    (λ one. subst (λ n. IsSingle (machine d) (told_at dump t) n c) (first t) one, λ told. told_single (machine d) (told_at dump t) (dump.round t) c told)

pub last_rounds_law : (d : Design) → IsLawfulDesign d → LastRoundsLaw d
last_rounds_law d lawful dump = (λ t. (last_round d lawful dump t).0, λ t. (last_round d lawful dump t).1)
