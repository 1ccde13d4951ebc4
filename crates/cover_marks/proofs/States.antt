-- The table of the slots of states and arcs has the numbers of their points.
use Rattle.std.proofs.Common.{◌≡◌, ◌≢◌, ◌<◌, ◌≤◌, ◌+◌, ◌*◌, ℕ, zero, suc, List, length, map, get_or, refl, sym, ap, subst, ◌∙◌, arith, suc-mul}
use Rattle.std.proofs.lemmas.Bool.{cases_order}
use Rattle.std.proofs.lemmas.List.{get_or-map, length-map}
use Rattle.number_tables.specs.Tables.{AreApart as SlotsApart, IsNumberOf, no_slot}
use Rattle.number_tables.specs.declared.slot.Slot.{Slot}
use Rattle.number_tables.specs.declared.table.NumberTable.{NumberTable}
use Rattle.cover_points.specs.design_machines.declared.machine.Machine.{Machine}
use Rattle.cover_points.specs.Listed.{IsPlaced}
use Rattle.cover_points.specs.MachinePoints.{machine_view}
use Rattle.cover_points.specs.Visits.{AreOnce, ArePlaced, IsMachinePointAt, point_at}
use Rattle.cover_points.specs.declared.listing.Points.{Points}
use Rattle.cover_points.specs.declared.machine_point.MachinePoint.{MachinePoint}
use Rattle.cover_points.specs.declared.machine_point.MachinePoint.TheVariants.{Arc, State}
use Rattle.cover_points.proofs.Members.{in_at}
use Rattle.cover_points.proofs.Places.{length_is, no_state, state_place, states_end, toggles_end}
use Rattle.cover_points.specs.design_machines.Machines.{machine_at, no_machine}
use Rattle.cover_marks.specs.Index.{FindsStates}
use Rattle.cover_marks.specs.Slots.{machine_slot, machine_slots, state_counts}
use Rattle.cover_marks.proofs.Numbers.{Numbers}

-- the count of a machine
count_is : (xs : List Machine) (k : ℕ) → k < length xs → get_or (state_counts xs) k 0 ≡ length (machine_at xs k).names
count_is xs k l = get_or-map (λ (x : Machine). length x.names) xs k no_machine 0 l

-- a product and a rest below its second factor have one pair of numbers
one_pair : (i j m t n : ℕ) → j < n → t < n → i * n + j ≡ m * n + t → (i ≡ m) × (j ≡ t)
one_pair zero j zero t n a b e = (refl, omega arith)
one_pair zero j (suc m) t n a b e = let s = suc-mul m n in absurd (omega arith)
one_pair (suc i) j zero t n a b e = let s = suc-mul i n in absurd (omega arith)
one_pair (suc i) j (suc m) t n a b e =
    let s = suc-mul i n in
    let u = suc-mul m n in
    let r = one_pair i j m t n a b (omega arith) in
    (ap suc r.0, r.1)

-- the column of an arc is past those of the states
past_states : (i j n : ℕ) → n ≤ (i + 1) * n + j
past_states i j n = let e : i + 1 ≡ suc i = omega arith in let s = suc-mul i n in rw e (omega arith)

-- the slots of machine points are apart
one_slot : (xs : List Machine) (p q : MachinePoint) → IsPlaced xs p → IsPlaced xs q → machine_slot (state_counts xs) p ≡ machine_slot (state_counts xs) q → p ≡ q
one_slot xs (State k s) (State l t) a b e =
    let row : k ≡ l = ap (λ (s : Slot). s.row) e in
    let column : s ≡ t = ap (λ (s : Slot). s.column) e in
    ap (λ k. State k s) row ∙ ap (State l) column
one_slot xs (State k s) (Arc l m t) a b e =
    let row : k ≡ l = ap (λ (s : Slot). s.row) e in
    let column : s ≡ (m + 1) * get_or (state_counts xs) l 0 + t = ap (λ (s : Slot). s.column) e in
    let past = past_states m t (get_or (state_counts xs) l 0) in
    let here : get_or (state_counts xs) l 0 ≡ length (machine_at xs k).names = ap (λ k. get_or (state_counts xs) k 0) (sym row) ∙ count_is xs k a.0 in
    absurd (omega (arith, a.1))
one_slot xs (Arc k i j) (State l t) a b e =
    let row : k ≡ l = ap (λ (s : Slot). s.row) e in
    let column : (i + 1) * get_or (state_counts xs) k 0 + j ≡ t = ap (λ (s : Slot). s.column) e in
    let past = past_states i j (get_or (state_counts xs) k 0) in
    let here : get_or (state_counts xs) k 0 ≡ length (machine_at xs l).names = ap (λ k. get_or (state_counts xs) k 0) row ∙ count_is xs l b.0 in
    absurd (omega (arith, b.1))
one_slot xs (Arc k i j) (Arc l m t) a b e =
    let row : k ≡ l = ap (λ (s : Slot). s.row) e in
    let n = length (machine_at xs l).names in
    let here : get_or (state_counts xs) k 0 ≡ n = ap (λ k. get_or (state_counts xs) k 0) row ∙ count_is xs l b.0 in
    let there : get_or (state_counts xs) l 0 ≡ n = count_is xs l b.0 in
    let column : (i + 1) * get_or (state_counts xs) k 0 + j ≡ (m + 1) * get_or (state_counts xs) l 0 + t = ap (λ (s : Slot). s.column) e in
    let own : j < n = subst (λ k. j < length (machine_at xs k).names) row a.2 in
    let pair = one_pair (i + 1) j (m + 1) t n own b.2 (rw (here, there) at column) in
    let from : i ≡ m = omega (arith, pair.0) in
    ap (λ k. Arc k i j) row ∙ ap (λ i. Arc l i j) from ∙ ap (Arc l m) pair.1

module _ (ps : Points) (once : AreOnce ps) (placed : ArePlaced ps) where
  abbrev xs : List Machine
  xs = ps.machines.items

  abbrev slots : List Slot
  slots = machine_slots (state_counts xs) ps.states.items

  slot_at : (j : ℕ) → j < length ps.states.items → get_or slots j no_slot ≡ machine_slot (state_counts xs) (get_or ps.states.items j no_state)
  slot_at j l = get_or-map (machine_slot (state_counts xs)) ps.states.items j no_state no_slot l

  long : length slots ≡ length ps.states.items
  long = length-map ps.states.items (machine_slot (state_counts xs))

  pub state_slots_apart : SlotsApart slots
  state_slots_apart j k l m e =
      let a : j < length ps.states.items = omega (arith, long) in
      let b : k < length ps.states.items = omega (arith, long) in
      let p = get_or ps.states.items j no_state in
      let q = get_or ps.states.items k no_state in
      let same : p ≡ q = one_slot xs p q (placed.placed p (in_at ps.states.items j no_state a)) (placed.placed q (in_at ps.states.items k no_state b)) (sym (slot_at j a) ∙ e ∙ slot_at k b) in
      let view : point_at ps (toggles_end ps + j) ≡ point_at ps (toggles_end ps + k) = state_place ps j a ∙ ap (machine_view xs) same ∙ sym (state_place ps k b) in
      let both = once (toggles_end ps + j) (toggles_end ps + k) (omega (arith, length_is ps)) (omega (arith, length_is ps)) view in
      omega (arith, both)

  pub states_found : (t : NumberTable) → Numbers t slots (toggles_end ps) → FindsStates ps (state_counts xs) t
  states_found t h k p at =
      let j = at.0 in
      let here = h j (omega (arith, long, at.1)) in
      rw (slot_at j at.1, at.2, ← at.3) at here
