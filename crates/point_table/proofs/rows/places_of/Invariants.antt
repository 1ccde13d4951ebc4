use Rattle.std.proofs.Common.{◌≡◌, ◌<◌, ℕ, get_or, length}
use Rattle.point_table.specs.Rows.{place_at}
use Rattle.point_table.proofs.rows.places_of.Given as goal

-- as many places as numbers; each number so far has its place
abbrev pub invariant-loop-place : goal.invariant-loop-place
invariant-loop-place l = record {
  count : length l.places.items ≡ length l.order;
  placed : (j : ℕ) → j < l.place → (place_at l.places.items (get_or l.order j 0) < length l.order) × (get_or l.order (place_at l.places.items (get_or l.order j 0)) 0 ≡ get_or l.order j 0);
}
