-- The processes of an order, each once.
use Rattle.std.proofs.Common.{◌≡◌, ℕ, ◌<◌, Bool, true, false, ◌++◌, List, [], ◌∷◌, length, map, refl, sym, subst, inl, inr}
use Rattle.std.specs.List.{All}
use Rattle.std.proofs.lemmas.List.Elements.{All-cons, All-nil}
use Rattle.std.specs.Prelude.{filter, if◌then◌else◌, nat_eq}
use Rattle.std.proofs.lemmas.Bool.{eqb-true, false_from_ne_true}
use Rattle.cover_points.proofs.Members.{in_append}
use Rattle.design_model.specs.Design.{AreDistinct, Design, In, IsClocked, process_at}
use Rattle.process_order.proofs.Distinct.{in_filter}
use Rattle.replay_model.proofs.Bits.{any_in}
use Rattle.replay_model.proofs.Clocked.{distinct_left}
use Rattle.replay_model.proofs.Order.{distinct_right}
use Rattle.replay_model.specs.Tables.{AreTables, Tables}
use Rattle.wake_list.specs.Members.{IsOnce, has}

has_in : (p : ℕ) (ps : List ℕ) → has p ps ≡ true → In p ps
has_in p ps h = let x = any_in (nat_eq p) ps h in subst (λ q. In q ps) (sym (eqb-true p x.0 x.2)) x.1

once_of : (ps : List ℕ) → AreDistinct ps → IsOnce ps
once_of [] h = tt
once_of (p ∷ ps) h = (false_from_ne_true _ (λ e. h.0 (has_in p ps e)), once_of ps h.1)

module _ (d : Design) (bound : ℕ → Bool) (t : Tables) (are : AreTables d bound t) where
  pub order_distinct : AreDistinct (t.order ++ t.last)
  order_distinct = distinct_right t.clocked (t.order ++ t.last) are.once

  pub order_once : IsOnce (t.order ++ t.last)
  order_once = once_of (t.order ++ t.last) order_distinct

  -- none of them is a Clocked
  pub settles_in : (p : ℕ) → In p (t.order ++ t.last) → IsClocked (process_at d p) → ⊥
  settles_in p i = ((are.others p).0 (in_append p t.order t.last i)).1

  pub order_below : (p : ℕ) → has p (t.order ++ t.last) ≡ true → p < length d.processes
  order_below p h = ((are.others p).0 (in_append p t.order t.last (has_in p (t.order ++ t.last) h))).0

  pub clocked_once : IsOnce t.clocked
  clocked_once = once_of t.clocked (distinct_left t.clocked (t.order ++ t.last) are.once)

  pub clocked_below : (p : ℕ) → has p t.clocked ≡ true → p < length d.processes
  clocked_below p h = ((are.clocked p).0 (has_in p t.clocked h)).0

-- a filter leaves each once
pub distinct_filter : (test : ℕ → Bool) (xs : List ℕ) → AreDistinct xs → AreDistinct (filter test xs)
distinct_filter test [] h = h
distinct_filter test (x ∷ xs) h = chosen (test x) (filter test xs) (λ i. h.0 (in_filter test x xs i).0) (distinct_filter test xs h.1)
  where
    chosen : (b : Bool) (ys : List ℕ) → (In x ys → ⊥) → AreDistinct ys → AreDistinct (if b then x ∷ ys else ys)
    chosen true ys out rest = (out, rest)
    chosen false ys out rest = rest

-- what holds of each process of a list holds of it with its place
pub all_named : (P : ℕ → Type 0) (pairs : List (ℕ × ℕ)) → ((p : ℕ) → In p (map (λ (q : ℕ × ℕ). q.0) pairs) → P p) → All (λ (q : ℕ × ℕ). P q.0) pairs
all_named P [] holds = All-nil (λ (q : ℕ × ℕ). P q.0)
all_named P (q ∷ qs) holds = All-cons (λ (o : ℕ × ℕ). P o.0) q qs (holds q.0 (inl refl)) (all_named P qs (λ p i. holds p (inr i)))
