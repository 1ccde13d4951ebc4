-- When the block can wake: at the second time of each step, where it is clean and nothing is early for it.
use Rattle.std.proofs.Common.{◌≡◌, ◌≢◌, inl, inr, ⊎_elim, ℕ, zero, suc, ◌+◌, ◌-◌, ◌*◌, ◌/◌, ◌%◌, ◌<◌, ◌≤◌, ◌∷◌, [], List, true, map, refl, sym, ap, subst, ◌∙◌, arith}
use Rattle.std.specs.List.{range_with_len}
use Rattle.std.proofs.lemmas.Bool.{cases_eq, cases_lt, false≢true, ltb-true}
use Rattle.event_machine.specs.Cell.{Cell, Values}
use Rattle.event_machine.specs.Early.{IsEarly}
use Rattle.event_machine.specs.Habit.{Free}
use Rattle.event_machine.specs.Machine.{Edge as MachineEdge, Posedge}
use Rattle.event_machine.specs.MayMove.{MayMove}
use Rattle.event_machine.specs.Single.{IsSingle}
use Rattle.four_state.specs.Edges.{rises}
use Rattle.four_state.specs.declared.bit.Bit.{Bit}
use Rattle.four_state.specs.declared.bit.Bit.TheVariants.{One, Zero}
use Rattle.design_model.specs.Design.{In, cell, signal_cells}
use Rattle.design_model.specs.Early.{IsEarlyAt}
use Rattle.design_model.specs.Machine.{is_edge, is_input_cell, machine}
use Rattle.design_model.specs.MayMove.{CanWakeSome, IsCleanAt, IsSingleAt, told_at}
use Rattle.design_model.specs.Shows.{BoundDump, IsWindow}
use Rattle.selfrun_design.specs.Selfrun.{selfrun}
use Rattle.selfrun_runs.specs.Says.{SaysSelfrun}
use Rattle.selfrun_runs.specs.Signals.{IsAt}
use Rattle.selfrun_runs.proofs.Quiet.{edge_clk, rises_zero}

-- lists of values that are the same have the same value at each cell
same_at : (u v : Values Bit) (cs : List Cell) → map u cs ≡ map v cs → (c : Cell) → In c cs → u c ≡ v c
same_at u v [] e c h = absurd h
same_at u v (d ∷ cs) e c (inl is) = subst (λ x. u x ≡ v x) is (let first : u d ≡ v d = cc in first)
same_at u v (d ∷ cs) e c (inr h) = same_at u v cs (let rest : map u cs ≡ map v cs = cc in rest) c h

-- a place of a signal is that of one of its cells
in_places : (s n k place : ℕ) → n ≤ place → place < n + k → In (cell s place) (map (cell s) (range_with_len n k))
in_places s n zero place from until = absurd (omega (arith, from, until))
in_places s n (suc k) place from until =
    ⊎_elim (λ here. inl (ap (cell s) (sym here))) (λ apart. inr (in_places s (n + 1) k place (omega (arith, from, apart)) (omega (arith, until)))) (cases_eq place n)

rises_up : (a b : Bit) → a ≡ Zero → b ≡ One → rises a b ≡ true
rises_up a b old new = ap (λ x. rises x b) old ∙ ap (rises Zero) new

rises_down : (a b : Bit) → b ≡ Zero → rises a b ≡ true → ⊥
rises_down a b new up = false≢true (sym (rises_zero a) ∙ sym (ap (rises a) new) ∙ up)

rises_still : (a b : Bit) → a ≡ One → b ≡ One → rises a b ≡ true → ⊥
rises_still a b old new up = false≢true (sym (ap (λ x. rises x b) old ∙ ap (rises One) new) ∙ up)

pub no_blocking : (p : ℕ) (c : Cell) → (machine selfrun).blocking p c ≡ true → ⊥
no_blocking zero c h = false≢true h
no_blocking (suc p) c h = false≢true h

module _ (number steps : ℕ) (dump : BoundDump) (says : SaysSelfrun number steps dump) where
  -- the clock is single in each round
  pub single : (t n : ℕ) → IsSingle (machine selfrun) (told_at dump t) n (cell 0 0)
  single t zero = (refl, says.bound 0)
  single t (suc n) = inl (refl, says.bound 0)

  -- the block can wake by a rise of the clock alone
  rise : (t : ℕ) → CanWakeSome selfrun dump t 0 → rises (dump.values (t - 1) (cell 0 0)) (dump.values t (cell 0 0)) ≡ true
  rise t w = go w.1.0.0 w.0 (edge_clk w.1.0.0 w.0.thing w.0.place w.1.0.1) w.1.0.2
    where
      go : (e : MachineEdge) (c : Cell) → (e ≡ Posedge) × (c ≡ cell 0 0) → (IsSingleAt selfrun dump t c → is_edge e (dump.values (t - 1) c) (dump.values t c) ≡ true) → rises (dump.values (t - 1) (cell 0 0)) (dump.values t (cell 0 0)) ≡ true
      go e c both change =
          let at : IsSingleAt selfrun dump t (cell 0 0) → is_edge e (dump.values (t - 1) (cell 0 0)) (dump.values t (cell 0 0)) ≡ true = subst (λ x. IsSingleAt selfrun dump t x → is_edge e (dump.values (t - 1) x) (dump.values t x) ≡ true) both.1 change in
          subst (λ f. is_edge f (dump.values (t - 1) (cell 0 0)) (dump.values t (cell 0 0)) ≡ true) both.0 (at (single t (dump.round t)))

  low_clk : (k j : ℕ) → k < steps → j < 5 → dump.values (10 * k + j) (cell 0 0) ≡ Zero
  low_clk k j inside below = let e = (says.low k j inside below).is_clk in cc

  high_clk : (k j : ℕ) → k < steps → j < 5 → dump.values (10 * k + 5 + j) (cell 0 0) ≡ One
  high_clk k j inside below = let e = (says.high k j inside below).is_clk in cc

  -- where the clock is 0 it does not wake
  pub asleep_low : (t k j : ℕ) → t ≡ 10 * k + j → k < steps → j < 5 → CanWakeSome selfrun dump t 0 → ⊥
  asleep_low t k j at inside below w = rises_down _ _ (subst (λ x. dump.values x (cell 0 0) ≡ Zero) (sym at) (low_clk k j inside below)) (rise t w)

  -- where it was 1 and is 1 neither
  pub asleep_high : (t k j : ℕ) → t ≡ 10 * k + 5 + suc j → k < steps → suc j < 5 → CanWakeSome selfrun dump t 0 → ⊥
  asleep_high t k j at inside below w =
      let before : 10 * k + 5 + j ≡ t - 1 = omega (arith, at) in
      rises_still _ _ (subst (λ x. dump.values x (cell 0 0) ≡ One) before (high_clk k j inside (omega (arith, below))))
      (subst (λ x. dump.values x (cell 0 0) ≡ One) (sym at) (high_clk k (suc j) inside below)) (rise t w)

  -- at t the clock rises in step k
  pub record IsEdge (t k : ℕ) : Type 0 where
    pub is : t ≡ 10 * k + 5
    pub inside : k < steps
    pub old : IsAt number (dump.values (t - 1)) Zero k k
    pub new : IsAt number (dump.values t) One k (suc k)

  pub edge_at : (t k : ℕ) → t ≡ 10 * k + 5 → k < steps → IsEdge t k
  edge_at t k at inside =
      let before : 10 * k + 4 ≡ t - 1 = omega (arith, at) in
      let now : 10 * k + 5 + 0 ≡ t = omega (arith, at) in
      record {
        is = at;
        inside = inside;
        old = subst (λ x. IsAt number (dump.values x) Zero k k) before (says.low k 4 inside (omega arith));
        new = subst (λ x. IsAt number (dump.values x) One k (suc k)) now (says.high k 0 inside (omega arith));
      }

  -- where the block can wake at a window time the clock rises
  pub edge_of : (t : ℕ) → IsWindow dump t → CanWakeSome selfrun dump t 0 → (k : ℕ) × IsEdge t k
  edge_of t window w = ⊎_elim early late (cases_lt (t % 10) 5)
    where
      until : t < 10 * steps
      until = ((says.window t).0 window).1

      inside : t / 10 < steps
      inside = omega (arith, until)

      early : t % 10 < 5 → (k : ℕ) × IsEdge t k
      early less = absurd (asleep_low t (t / 10) (t % 10) (omega arith) inside less w)

      late : 5 ≤ t % 10 → (k : ℕ) × IsEdge t k
      late more = ⊎_elim here after (cases_eq (t % 10) 5)
        where
          here : t % 10 ≡ 5 → (k : ℕ) × IsEdge t k
          here same = (t / 10, edge_at t (t / 10) (omega (arith, same)) inside)

          after : (t % 10 ≡ 5 → ⊥) → (k : ℕ) × IsEdge t k
          after apart = absurd (asleep_high t (t / 10) (t % 10 - 6) (omega (arith, more, apart)) inside (omega (arith, more, apart)) w)

  module _ (t k : ℕ) (edge : IsEdge t k) where
    old_clk : dump.values (t - 1) (cell 0 0) ≡ Zero
    old_clk = let e = edge.old.is_clk in cc

    new_clk : dump.values t (cell 0 0) ≡ One
    new_clk = let e = edge.new.is_clk in cc

    zero_one : Zero ≡ One → ⊥
    zero_one e = cc

    -- there the block is clean
    pub clean : IsCleanAt selfrun dump t 0 (cell 0 0)
    clean = record {
      clocked = λ x. refl;
      can_wake = ((Posedge, refl, λ s. rises_up _ _ old_clk new_clk), MayMove.of_input (cell 0 0) (refl, λ told e. zero_one (sym old_clk ∙ e ∙ new_clk)));
      alone = λ c wakes. (edge_clk wakes.0.0 c.thing c.place wakes.0.1).1;
      is_single = single t (dump.round t);
    }

    -- the other inputs do not move
    input_stays : (s place : ℕ) → is_input_cell selfrun (cell s place) ≡ true → s ≢ 0 → (dump.bound s ≡ true) × (dump.values (t - 1) (cell s place) ≡ dump.values t (cell s place))
    input_stays zero place is other = absurd (other refl)
    input_stays (suc zero) place is other = (says.bound 1, same_at (dump.values (t - 1)) (dump.values t) (signal_cells selfrun 1) (edge.old.is_we ∙ sym edge.new.is_we) (cell 1 place) (in_places 1 0 1 place (omega arith) (omega (arith, ltb-true place 1 is))))
    input_stays (suc (suc zero)) place is other = (says.bound 2, same_at (dump.values (t - 1)) (dump.values t) (signal_cells selfrun 2) (edge.old.is_a ∙ sym edge.new.is_a) (cell 2 place) (in_places 2 0 4 place (omega arith) (omega (arith, ltb-true place 4 is))))
    input_stays (suc (suc (suc zero))) place is other = (says.bound 3, same_at (dump.values (t - 1)) (dump.values t) (signal_cells selfrun 3) (edge.old.is_d ∙ sym edge.new.is_d) (cell 3 place) (in_places 3 0 8 place (omega arith) (omega (arith, ltb-true place 8 is))))
    input_stays (suc (suc (suc (suc zero)))) place is other = absurd (false≢true is)
    input_stays (suc (suc (suc (suc (suc zero))))) place is other = absurd (false≢true is)
    input_stays (suc (suc (suc (suc (suc (suc s)))))) place is other = absurd (false≢true is)

    -- nothing is early for it
    pub none_early : (x : ℕ) → IsEarlyAt selfrun Free dump t 0 (cell 0 0) x → ⊥
    none_early x (IsEarly.of_input c moving free other) = let stays = input_stays c.thing c.place moving.0 other in moving.1 stays.0 stays.1
    none_early x (IsEarly.of_trigger p c stirs other blocks away) = no_blocking p c blocks
    none_early x (IsEarly.of_blocking y p c is stirs other blocks away) = no_blocking p c blocks
    none_early x (IsEarly.of_nonblocking y p c is stirs queues away) = none_early y is

  -- the only trigger is the clock
  pub only_clk : (t : ℕ) (c : Cell) → IsCleanAt selfrun dump t 0 c → c ≡ cell 0 0
  only_clk t c is = (edge_clk is.can_wake.0.0 c.thing c.place is.can_wake.0.1).1
