-- Which point has an address.
use Rattle.std.specs.Prelude.{◌≡◌, ◌≢◌, ◌<◌, ℕ, Bool, bytes_eq, List, length, Option, Some, None, slice_index_or}
use Rattle.std.specs.declared.cmp.Ordering.TheVariants.{Equal}
use Rattle.std.specs.List.{position}
use Rattle.coverage_db.specs.declared.address.Address.{Address}
use Rattle.coverage_db.specs.declared.db.Db.{Db}
use Rattle.coverage_db.specs.declared.db.DbInstance.{DbInstance}
use Rattle.coverage_db.specs.declared.db.DbPoint.{DbPoint}
use Rattle.coverage_db.specs.Order.{address_cmp}
use Rattle.coverage_db.specs.Text.{address_text}

-- the point has this address
abbrev pub has_address : List DbInstance → List ℕ → DbPoint → Bool
has_address instances address p = bytes_eq (address_text instances p.address) address

-- the place of the point with this address
abbrev pub place_of : Db → List ℕ → Option ℕ
place_of db address = position (has_address db.instances address) db.points

-- the place of a point that is equal to the key in the order, if there is one
abbrev pub IsSearch : List DbPoint → Address → Option ℕ → Type 0
IsSearch points key (Some place) = (place < length points) × ((d : DbPoint) → address_cmp (slice_index_or points place d).address key ≡ Equal)
IsSearch points key None = (place : ℕ) (d : DbPoint) → place < length points → address_cmp (slice_index_or points place d).address key ≢ Equal

-- whether the point at a place has this address
abbrev pub HasAddressAt : Db → ℕ → List ℕ → Bool → Type 0
HasAddressAt db place address has = (d : DbPoint) → has_address db.instances address (slice_index_or db.points place d) ≡ has
