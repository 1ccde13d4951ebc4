-- An order of processes by what they watch and drive.
use Rattle.std.specs.Prelude.{◌≡◌, ◌<◌, ◌↔◌, ℕ, Bool, false, List, length}
use Rattle.std.specs.List.{Contains}
use Rattle.index_sets.specs.Rows.{row_at}
use Rattle.rank_order.specs.Order.{ComesBefore, IsOnce}
use Rattle.process_order.specs.declared.needs.Links.{Links}

-- the lists by process are turned round: who drives each number below the count, and who both watches and drives it
pub record AreLinks (watched driven : List (List ℕ)) (count : ℕ) (l : Links) : Type 0 where
  pub drivers_size : length l.drivers ≡ count
  pub owners_size : length l.owners ≡ count
  pub drives : (x q : ℕ) → x < count → Contains (row_at l.drivers x) q ↔ Contains (row_at driven q) x
  pub owns : (x q : ℕ) → x < count → Contains (row_at l.owners x) q ↔ (Contains (row_at watched q) x × Contains (row_at driven q) x)

-- each process of the order comes after the others that drive an unbound number which it watches, and each that is not
-- in it watches one that another process drives which is not in it either
pub record IsRunOrder (watched driven : List (List ℕ)) (bound : ℕ → Bool) (order : List ℕ) : Type 0 where
  pub once : IsOnce order
  pub after : (p q x : ℕ) → p < length watched → Contains order p → Contains (row_at watched p) x → bound x ≡ false
      → Contains (row_at driven q) x → (q ≡ p → ⊥) → ComesBefore q order p
  pub left : (p : ℕ) → p < length watched → (Contains order p → ⊥)
      → (x q : ℕ) × Contains (row_at watched p) x × (bound x ≡ false) × Contains (row_at driven q) x × (q ≡ p → ⊥) × (Contains order q → ⊥)
