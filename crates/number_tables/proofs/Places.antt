-- Slots that differ have different places.
use Rattle.std.proofs.Common.{◌≡◌, ◌≢◌, ◌⊎◌, ◌<◌, ◌≤◌, ◌+◌, ◌++◌, ℕ, zero, suc, List, [], ◌∷◌, length, get_or, set, take, refl, ap, ◌∙◌, inl, inr, arith, length-set, get_or-set_same, get_or-set_other}
use Rattle.std.specs.List.{All}
use Rattle.std.proofs.lemmas.Bool.{cases_eq}
use Rattle.std.proofs.lemmas.List.Elements.{All-more, All-push, All-weaker}
use Rattle.number_tables.specs.Tables.{AreApart, HasRoom, IsWithin, laid_out, no_range, no_row, no_slot, place_in, place_of, whole_width, wider, width_of}
use Rattle.number_tables.specs.declared.ranges.Range.{Range}
use Rattle.number_tables.specs.declared.rows.Row.{Row}
use Rattle.number_tables.specs.declared.slot.Slot.{Slot}

-- room stays where a range becomes wider
still_within : (r : Range) (c e : ℕ) → IsWithin r c → IsWithin (wider r e) c
still_within r c e w = (omega (arith, w.0), omega (arith, w.1))

now_within : (r : Range) (e : ℕ) → IsWithin (wider r e) e
now_within r e = (omega arith, omega arith)

still_room : (rs : List Range) (s t : Slot) → s.row < length rs → HasRoom rs t → HasRoom (set rs s.row (wider (get_or rs s.row no_range) s.column)) t
still_room rs s t l h = (omega (arith, h.0, length-set rs s.row (wider (get_or rs s.row no_range) s.column)), by_row (cases_eq t.row s.row))
  where
    by_row : (t.row ≡ s.row) ⊎ (t.row ≡ s.row → ⊥) → IsWithin (get_or (set rs s.row (wider (get_or rs s.row no_range) s.column)) t.row no_range) t.column
    by_row (inl e) = rw (e, get_or-set_same rs s.row (wider (get_or rs s.row no_range) s.column) no_range l) (still_within (get_or rs s.row no_range) t.column s.column (rw e at h.1))
    by_row (inr ne) = rw (get_or-set_other rs s.row t.row (wider (get_or rs s.row no_range) s.column) no_range ne) h.1

-- and there is room for one slot more
pub room_more : (rs : List Range) (s : Slot) (ss : List Slot) → s.row < length rs → All (HasRoom rs) ss → All (HasRoom (set rs s.row (wider (get_or rs s.row no_range) s.column))) (ss ++ s ∷ [])
room_more rs s ss l h =
    let ws = set rs s.row (wider (get_or rs s.row no_range) s.column) in
    let here : HasRoom ws s = (omega (arith, length-set rs s.row (wider (get_or rs s.row no_range) s.column)), rw (get_or-set_same rs s.row (wider (get_or rs s.row no_range) s.column) no_range l) (now_within (get_or rs s.row no_range) s.column)) in
    All-push (HasRoom ws) ss s (All-weaker (HasRoom rs) (HasRoom ws) (λ t r. still_room rs s t l r) ss h) here

pub length-laid_out : (n : ℕ) (rs : List Range) → length (laid_out n rs) ≡ length rs
length-laid_out n [] = refl
length-laid_out n (r ∷ rs) = ap suc (length-laid_out (n + width_of r) rs)

-- the place of a column of row i, where the rows begin at place n
abbrev place_from : ℕ → List Range → ℕ → ℕ → ℕ
place_from n rs i c = place_in (get_or (laid_out n rs) i no_row) c

bounds : (n : ℕ) (rs : List Range) (i c : ℕ) → i < length rs → IsWithin (get_or rs i no_range) c → (n ≤ place_from n rs i c) × (place_from n rs i c < n + whole_width rs)
bounds n [] i c l w = absurd (omega arith)
bounds n (r ∷ rs) zero c l w = (omega arith, omega (arith, w.0, w.1))
bounds n (r ∷ rs) (suc i) c l w = let b = bounds (n + width_of r) rs i c (omega arith) w in (omega (arith, b.0), omega (arith, b.1))

one_place : (n : ℕ) (rs : List Range) (i c j e : ℕ) → i < length rs → IsWithin (get_or rs i no_range) c → j < length rs → IsWithin (get_or rs j no_range) e → place_from n rs i c ≡ place_from n rs j e → (i ≡ j) × (c ≡ e)
one_place n [] i c j e l w m v h = absurd (omega arith)
one_place n (r ∷ rs) zero c zero e l w m v h = (refl, omega (arith, w.0, v.0, h))
one_place n (r ∷ rs) zero c (suc j) e l w m v h = let b = bounds (n + width_of r) rs j e (omega arith) v in absurd (omega (arith, w.0, w.1, b.0, h))
one_place n (r ∷ rs) (suc i) c zero e l w m v h = let b = bounds (n + width_of r) rs i c (omega arith) w in absurd (omega (arith, v.0, v.1, b.0, h))
one_place n (r ∷ rs) (suc i) c (suc j) e l w m v h = let k = one_place (n + width_of r) rs i c j e (omega arith) w (omega arith) v h in (ap suc k.0, k.1)

module _ (rs : List Range) where
  -- the place is one of the table
  pub place_inside : (s : Slot) → HasRoom rs s → place_of (laid_out 0 rs) s < whole_width rs
  place_inside s h = let b = bounds 0 rs s.row s.column h.0 h.1 in omega (arith, b.1)

  -- slots with one place are one slot
  pub same_slot : (s t : Slot) → HasRoom rs s → HasRoom rs t → place_of (laid_out 0 rs) s ≡ place_of (laid_out 0 rs) t → s ≡ t
  same_slot s t h k e =
      let both = one_place 0 rs s.row s.column t.row t.column h.0 h.1 k.0 k.1 e in
      let make : ℕ → ℕ → Slot = λ (r : ℕ). λ (c : ℕ). record { row = r; column = c } in
      ap (λ r. make r s.column) both.0 ∙ ap (make t.row) both.1

-- the first slots have their numbers
abbrev pub HaveNumbers : List ℕ → List Row → List Slot → ℕ → ℕ → Type 0
HaveNumbers ns rows ss first count = (k : ℕ) → k < count → get_or ns (place_of rows (get_or ss k no_slot)) 0 ≡ first + k

-- and so has one slot more
module _ (ns : List ℕ) (rows : List Row) (ss : List Slot) (first i : ℕ) (apart : (j k : ℕ) → j < length ss → k < length ss → place_of rows (get_or ss j no_slot) ≡ place_of rows (get_or ss k no_slot) → j ≡ k) (l : i < length ss) (inside : place_of rows (get_or ss i no_slot) < length ns) (h : HaveNumbers ns rows ss first i) where
  abbrev place : ℕ → ℕ
  place k = place_of rows (get_or ss k no_slot)

  pub numbers_more : HaveNumbers (set ns (place i) (first + i)) rows ss first (i + 1)
  numbers_more k m = by_place (cases_eq k i)
    where
      by_place : (k ≡ i) ⊎ (k ≡ i → ⊥) → get_or (set ns (place i) (first + i)) (place k) 0 ≡ first + k
      by_place (inl e) = rw e (get_or-set_same ns (place i) (first + i) 0 inside)
      by_place (inr ne) =
          let other : place k ≢ place i = λ e. ne (apart k i (omega arith) l e) in
          get_or-set_other ns (place i) (place k) (first + i) 0 other ∙ h k (omega arith)

-- a count that is greater than the rows of the first slots, and of one more
pub counted : (ss : List Slot) (i count new : ℕ) → i < length ss → count ≤ new → (get_or ss i no_slot).row < new → All (λ (t : Slot). t.row < count) (take i ss) → All (λ (t : Slot). t.row < new) (take (i + 1) ss)
counted ss i count new l a b h = All-more (λ (t : Slot). t.row < new) ss i no_slot l (All-weaker (λ (t : Slot). t.row < count) (λ (t : Slot). t.row < new) (λ t k. omega (arith, k)) (take i ss) h) b

-- rows that are laid out with room for slots that differ
module _ (rs : List Range) (rows : List Row) (ss : List Slot) (is : rows ≡ laid_out 0 rs) (room : All (HasRoom rs) ss) where
  pub rows_there : All (λ (s : Slot). s.row < length rows) ss
  rows_there k d l = let r = room k d l in omega (arith, r.0, ap length is, length-laid_out 0 rs)

  pub all_inside : (n : ℕ) → n ≡ whole_width rs → All (λ s. place_of rows s < n) ss
  all_inside n e k d l = rw (e, is) (place_inside rs (get_or ss k d) (room k d l))

  pub places_apart : AreApart ss → (j k : ℕ) → j < length ss → k < length ss → place_of rows (get_or ss j no_slot) ≡ place_of rows (get_or ss k no_slot) → j ≡ k
  places_apart apart j k l m e = apart j k l m (same_slot rs (get_or ss j no_slot) (get_or ss k no_slot) (room j no_slot l) (room k no_slot m) (rw is at e))
