-- What each process needs before it, where a gate for each signal or memory needs all that drive it.
use Rattle.std.specs.Prelude.{◌≡◌, ◌<◌, ◌⊎◌, ◌+◌, ℕ, Bool, false, List, length, slice_index_or}
use Rattle.std.specs.List.{Contains}
use Rattle.index_sets.specs.Rows.{row_at}
use Rattle.process_order.specs.Owners.{HasOther, IsAlone}
use Rattle.process_order.specs.declared.needs.Links.{Links}

-- the signal or memory is bound
abbrev pub is_bound : List Bool → ℕ → Bool
is_bound bound x = slice_index_or bound x false

-- w is another driver of x where p alone both watches and drives x, or else the gate of x
abbrev pub IsNeed : Links → ℕ → ℕ → ℕ → ℕ → Type 0
IsNeed l gates p x w =
    (IsAlone p (row_at l.owners x) × Contains (row_at l.drivers x) w × (w ≡ p → ⊥)) ⊎ ((Contains (row_at l.owners x) p → HasOther p (row_at l.owners x)) × (w ≡ gates + x))

-- the drivers other than p are added
pub record AddsOthers (p : ℕ) (drivers before after : List ℕ) : Type 0 where
  pub kept : (w : ℕ) → Contains before w → Contains after w
  pub others : (w : ℕ) → Contains drivers w → (w ≡ p → ⊥) → Contains after w
  pub from : (w : ℕ) → Contains after w → Contains before w ⊎ (Contains drivers w × (w ≡ p → ⊥))

-- the list has all that p needs for x, and all that it gains p needs
pub record AddsNeeds (l : Links) (bound : ℕ → Bool) (gates p x : ℕ) (before after : List ℕ) : Type 0 where
  pub kept : (w : ℕ) → Contains before w → Contains after w
  pub covers : (q : ℕ) → bound x ≡ false → Contains (row_at l.drivers x) q → (q ≡ p → ⊥) → Contains after q ⊎ Contains after (gates + x)
  pub from : (w : ℕ) → Contains after w → Contains before w ⊎ ((bound x ≡ false) × IsNeed l gates p x w)

-- the list has what p needs, which watches these: for each unbound one all other drivers, or its gate
pub record HasNeeds (l : Links) (bound : ℕ → Bool) (gates p : ℕ) (watched list : List ℕ) : Type 0 where
  pub covers : (x q : ℕ) → Contains watched x → bound x ≡ false → Contains (row_at l.drivers x) q → (q ≡ p → ⊥) → Contains list q ⊎ Contains list (gates + x)
  pub from : (w : ℕ) → Contains list w → (x : ℕ) × Contains watched x × (bound x ≡ false) × IsNeed l gates p x w

-- the needs of all processes, and then those of the gates
pub record AreNeeds (l : Links) (bound : ℕ → Bool) (watched needs : List (List ℕ)) : Type 0 where
  pub count : length needs ≡ length watched + length l.drivers
  pub processes : (p : ℕ) → p < length watched → HasNeeds l bound (length watched) p (row_at watched p) (row_at needs p)
  pub gates : (x : ℕ) → x < length l.drivers → row_at needs (length watched + x) ≡ row_at l.drivers x
