-- The signals of machines.
use Rattle.std.proofs.Common.{◌≡◌, ◌↔◌, ◌<◌, ◌≤◌, ◌∷◌, [], ℕ, zero, suc, inl, inr, List, length, map, get_or, subst, sym, arith}
use Rattle.std.specs.List.{Contains}
use Rattle.std.proofs.lemmas.Bool.{cases_lt}
use Rattle.std.proofs.lemmas.List.{get_or-map, get_or_past, length-map}
use Rattle.index_sets.specs.Rows.{row_at}
use Rattle.design_machines.specs.Machines.{machine_at, no_machine}
use Rattle.design_machines.specs.declared.machine.Machine.{Machine}
use Rattle.machine_index.specs.Index.{HasSignal}

-- a list with the signal of a machine alone
abbrev pub signal_list : Machine → List ℕ
signal_list x = x.signal ∷ []

one_item : (x s j : ℕ) → j < length (x ∷ []) → get_or (x ∷ []) j s ≡ s → x ≡ s
one_item x s zero l e = e
one_item x s (suc j) l e = absurd (omega (arith, l))

pub of_machine : (xs : List Machine) (k s : ℕ) → Contains (row_at (map signal_list xs) k) s ↔ HasSignal xs k s
of_machine xs k s = elim (cases_lt k (length xs)) [ inl l ↦ listed l | inr m ↦ past (omega arith) ]
  where
    listed : k < length xs → Contains (row_at (map signal_list xs) k) s ↔ HasSignal xs k s
    listed l =
        let row : row_at (map signal_list xs) k ≡ (machine_at xs k).signal ∷ [] = get_or-map signal_list xs k no_machine [] l in
        let signal = (machine_at xs k).signal in
        let from : Contains (signal ∷ []) s → HasSignal xs k s = λ h. (l, one_item signal s h.0 h.1 h.2) in
        let to : HasSignal xs k s → Contains (signal ∷ []) s = λ h. (0, omega arith, h.1) in
        subst (λ (ys : List ℕ). Contains ys s ↔ HasSignal xs k s) (sym row) (from, to)

    past : length xs ≤ k → Contains (row_at (map signal_list xs) k) s ↔ HasSignal xs k s
    past m =
        let row : row_at (map signal_list xs) k ≡ [] = get_or_past (map signal_list xs) k [] (omega (arith, length-map xs signal_list)) in
        let from : Contains [] s → HasSignal xs k s = λ h. absurd (omega (arith, h.1)) in
        let to : HasSignal xs k s → Contains [] s = λ h. absurd (omega (arith, h.0)) in
        subst (λ (ys : List ℕ). Contains ys s ↔ HasSignal xs k s) (sym row) (from, to)
