-- The machines of a list of points of a lawful design.
use Rattle.std.proofs.Common.{◌≡◌, ◌∙◌, ◌≤◌, ◌<◌, ◌^◌, ℕ, ◌==◌, ◌&&◌, nat_lt, Bool, true, false, List, length, get_or, map, Option, refl, sym, ap, subst, arith}
use Rattle.std.specs.List.{All}
use Rattle.std.proofs.lemmas.Bool.{eqb-true, lt-ltb}
use Rattle.std.proofs.lemmas.List.{get_or_read, length-map}
use Rattle.std.proofs.lemmas.List.FromFn.{length-map-range_with_len}
use Rattle.body_replay.specs.Store.{Kept}
use Rattle.cover_points.specs.Listed.{IsPlaced, IsPointList}
use Rattle.cover_points.specs.MachinePoints.{machine_of}
use Rattle.cover_points.specs.Visits.{IsMachinePointAt}
use Rattle.cover_points.specs.declared.listing.Points.{Points}
use Rattle.cover_points.specs.declared.machine_point.MachinePoint.{MachinePoint}
use Rattle.cover_points.specs.declared.machine_point.MachinePoint.TheVariants.{Arc, State}
use Rattle.cover_points.specs.design_machines.Drawn.{IsWhole}
use Rattle.cover_points.specs.design_machines.Machines.{machine_at, no_machine}
use Rattle.cover_points.specs.design_machines.declared.machine.Machine.{Machine}
use Rattle.cover_points.proofs.Members.{in_at}
use Rattle.cover_points.proofs.Places.{no_state}
use Rattle.design_model.specs.Design.{Design, In, cell, signal_at, signal_cells}
use Rattle.cover_points.specs.design_machines.state_machines.Machines.{StateMachines}
use Rattle.design_model.specs.four_state.Vector.{Vector}
use Rattle.design_model.specs.four_state.declared.bit.Bit.{Bit}
use Rattle.machine_marks.specs.Marked.{is_of_machine, is_state_of}
use Rattle.machine_laws.specs.Followed.{is_state}

-- what is known of a signal has its width
pub known_width : (d : Design) (k : Kept) (s : ℕ) (bits : List (Option Bit)) → bits ≡ map k (signal_cells d s) → length bits ≡ (signal_at d s).width
known_width d k s bits is = ap length is ∙ length-map (signal_cells d s) k ∙ length-map-range_with_len (cell s) 0 (signal_at d s).width

module _ (d : Design) (ms : StateMachines) (ps : Points) (list : IsPointList d ms ps) where
  module _ (k : ℕ) (inside : k < length ps.machines.items) where
    abbrev x : Machine
    x = machine_at ps.machines.items k

    machine : IsWhole d x
    machine = list.machines.whole x (in_at ps.machines.items k no_machine inside)

    pub signal_inside : x.signal < length d.signals
    signal_inside = machine.signal.0

    pub value_count : length x.names ≡ length x.values
    value_count = machine.count

    pub few_values : length x.values ≤ 2 ^ 32
    few_values = omega (arith, machine.most, value_count)

    pub wide_values : All (λ (v : Vector). length v.bits ≡ (signal_at d x.signal).width) x.values
    wide_values = machine.widths

  -- one that is found at a place
  module _ (k : ℕ) (x : Machine) (xs : List Machine) (same : xs ≡ ps.machines.items) (within : k < length xs) (is : x ≡ get_or xs k x) where
    pub found_inside : k < length ps.machines.items
    found_inside = subst (λ (ys : List Machine). k < length ys) same within

    pub found_at : x ≡ machine_at ps.machines.items k
    found_at = get_or_read xs k x within is no_machine ∙ ap (λ (ys : List Machine). get_or ys k no_machine) same

    pub found_signal : x.signal < length d.signals
    found_signal = subst (λ (y : Machine). y.signal < length d.signals) (sym found_at) (signal_inside k found_inside)

    pub found_few : length x.values ≤ 2 ^ 32
    found_few = subst (λ (y : Machine). length y.values ≤ 2 ^ 32) (sym found_at) (few_values k found_inside)

    pub found_wide : (n : ℕ) → n ≡ (signal_at d x.signal).width → All (λ (v : Vector). length v.bits ≡ n) x.values
    found_wide n size =
        let wide : All (λ (v : Vector). length v.bits ≡ (signal_at d x.signal).width) x.values = subst (λ (y : Machine). All (λ (v : Vector). length v.bits ≡ (signal_at d y.signal).width) y.values) (sym found_at) (wide_values k found_inside) in
        subst (λ m. All (λ (v : Vector). length v.bits ≡ m) x.values) (sym size) wide

  -- a listed state or arc is of its machine
  pub placed_at : (n : ℕ) (p : MachinePoint) → IsMachinePointAt ps n p → IsPlaced ps.machines.items p
  placed_at n p (j, l, is, at) = list.placed p (subst (λ (q : MachinePoint). In q ps.states.items) is (in_at ps.states.items j no_state l))

  below : (k m i : ℕ) → (m ≡ k → i < length (machine_at ps.machines.items m).values) → ((k == m) && nat_lt i (length (machine_at ps.machines.items k).values)) ≡ (k == m)
  below k m i placed = go (k == m) refl
    where
      go : (b : Bool) → (k == m) ≡ b → ((k == m) && nat_lt i (length (machine_at ps.machines.items k).values)) ≡ (k == m)
      go true e =
          let same = eqb-true k m e in
          ap (λ b. b && nat_lt i (length (machine_at ps.machines.items k).values)) e ∙ lt-ltb i _ (subst (λ z. i < length (machine_at ps.machines.items z).values) (sym same) (placed (sym same))) ∙ sym e
      go false e = ap (λ b. b && nat_lt i (length (machine_at ps.machines.items k).values)) e ∙ sym e

  named_values : (m i : ℕ) → m < length ps.machines.items → i < length (machine_at ps.machines.items m).names → i < length (machine_at ps.machines.items m).values
  named_values m i inside l = omega (arith, l, value_count m inside)

  pub is_of : (k n : ℕ) (p : MachinePoint) → IsMachinePointAt ps n p → is_of_machine k (length (machine_at ps.machines.items k).values) p ≡ (k == machine_of p)
  is_of k n (State m i) at = let placed = placed_at n (State m i) at in below k m i (λ e. named_values m i placed.0 placed.1)
  is_of k n (Arc m i j) at =
      let placed = placed_at n (Arc m i j) at in
      both (k == m) (nat_lt i (length (machine_at ps.machines.items k).values)) (nat_lt j (length (machine_at ps.machines.items k).values)) (below k m i (λ e. named_values m i placed.0 placed.1)) (below k m j (λ e. named_values m j placed.0 placed.2))
    where
      both : (a b c : Bool) → (a && b) ≡ a → (a && c) ≡ a → (a && (b && c)) ≡ a
      both true b c e f = ap (λ z. z && c) e ∙ f
      both false b c e f = refl

  pub is_state_in : (k n : ℕ) (p : MachinePoint) → IsMachinePointAt ps n p → is_state_of k (length (machine_at ps.machines.items k).values) p ≡ (is_state p && (k == machine_of p))
  is_state_in k n (State m i) at = let placed = placed_at n (State m i) at in below k m i (λ e. named_values m i placed.0 placed.1)
  is_state_in k n (Arc m i j) at = refl
