-- A work list of things and of the processes that they may wake.
use Rattle.std.proofs.Common.{◌≡◌, ◌↔◌, ⊎_elim, ℕ, ◌+◌, ◌-◌, ◌<◌, ◌≤◌, List, [], length, get_or, refl, sym, subst, arith}
use Rattle.std.specs.List.{Contains}
use Rattle.std.proofs.lemmas.Bool.{cases_lt}
use Rattle.wake_tables.specs.declared.tables.WakeTables.{WakeTables}
use Rattle.early_sets.specs.declared.edges.Edges.{Edges}
use Rattle.early_sets.specs.declared.rule.Rule.{Rule}
use Rattle.early_sets.specs.Adds.{Adds, Extends}
use Rattle.early_sets.specs.Reached.{IsTargetBy, IsTargetFrom, IsWoken, MayWakeBy, Reached, of_seed, of_target}
use Rattle.early_sets.proofs.Adding.{extends_at, extends_chain, extends_has, extends_none, member_at, place_of}

-- so many things were taken from the list: what they may wake is among the processes, and what those may write among the things
pub record IsClosing (t : WakeTables) (edges : ℕ → Edges) (r : Rule) (seeds things processes : List ℕ) (taken : ℕ) : Type 0 where
  pub extends : Extends seeds things
  pub reached : (x : ℕ) → Contains things x → Reached t edges r (Contains seeds) x
  pub woken : (p : ℕ) → Contains processes p → IsWoken t edges r (Contains seeds) p
  pub wakes : (k p : ℕ) → k < taken → MayWakeBy t edges (get_or things k 0) p → Contains processes p
  pub writes : (k y : ℕ) → k < length processes → IsTargetBy t r (get_or processes k 0) y → Contains things y

module _ (t : WakeTables) (edges : ℕ → Edges) (r : Rule) (seeds : List ℕ) where
  -- nothing was taken yet
  pub closing_none : IsClosing t edges r seeds seeds [] 0
  closing_none =
      record {
        extends = extends_none seeds;
        reached = λ x c. of_seed x c;
        woken = λ p c. absurd (omega (arith, c.1));
        wakes = λ k p l. absurd (omega arith);
        writes = λ k y l. absurd (omega arith);
      }

  -- what one of the new processes may write is reached
  written : (things processes more : List ℕ) (taken : ℕ) → IsClosing t edges r seeds things processes taken → taken < length things → Adds (MayWakeBy t edges (get_or things taken 0)) processes more → (y : ℕ) → IsTargetFrom t r more (length processes) (length more) y → Reached t edges r (Contains seeds) y
  written things processes more taken h l a y q =
      let p = get_or more q.0 0 in
      ⊎_elim
      (λ c. let w = h.woken p c in of_target w.0 p y w.1 w.2 q.3)
      (λ m. of_target (get_or things taken 0) p y (h.reached (get_or things taken 0) (member_at things taken _ l refl)) m q.3)
      (a.only p (member_at more q.0 p q.2 refl))

  -- one thing more
  pub closing_more : (things processes more_things more : List ℕ) (taken : ℕ) → IsClosing t edges r seeds things processes taken → taken < length things → Adds (MayWakeBy t edges (get_or things taken 0)) processes more → Adds (IsTargetFrom t r more (length processes) (length more)) things more_things → IsClosing t edges r seeds more_things more (taken + 1)
  closing_more things processes more_things more taken h l a b =
      record {
        extends = extends_chain seeds things more_things h.extends b.extends;
        reached = λ x c. ⊎_elim (h.reached x) (written things processes more taken h l a x) (b.only x c);
        woken = λ p c. ⊎_elim (h.woken p) (λ m. (get_or things taken 0, h.reached (get_or things taken 0) (member_at things taken _ l refl), m)) (a.only p c);
        wakes = λ k p below m.
            let inside : k < length things = omega arith in
            let m' : MayWakeBy t edges (get_or things k 0) p = subst (λ x. MayWakeBy t edges x p) (extends_at things more_things k b.extends inside) m in
            ⊎_elim
            (λ earlier. extends_has processes more p a.extends (h.wakes k p earlier m'))
            (λ late. let same : k ≡ taken = omega arith in a.all p (subst (λ j. MayWakeBy t edges (get_or things j 0) p) same m'))
            (cases_lt k taken);
        writes = λ k y below w.
            ⊎_elim
            (λ earlier. extends_has things more_things y b.extends (h.writes k y earlier (subst (λ p. IsTargetBy t r p y) (extends_at processes more k a.extends earlier) w)))
            (λ late. b.all y (k, late, below, w))
            (cases_lt k (length processes));
      }

  -- all things were taken: the list has what is reached
  pub has_reached : (things processes : List ℕ) (taken : ℕ) → IsClosing t edges r seeds things processes taken → length things ≤ taken → (x : ℕ) → Reached t edges r (Contains seeds) x → Contains things x
  has_reached things processes taken h l x (of_seed _ c) = extends_has seeds things x h.extends c
  has_reached things processes taken h l y (of_target x p _ m w target) =
      let at = place_of things x (has_reached things processes taken h l x m) in
      let woken = h.wakes at.0 p (omega (arith, at.1)) (subst (λ z. MayWakeBy t edges z p) (sym at.2) w) in
      let of = place_of processes p woken in
      h.writes of.0 y of.1 (subst (λ q. IsTargetBy t r q y) (sym of.2) target)

  pub closed_things : (things processes : List ℕ) (taken : ℕ) → IsClosing t edges r seeds things processes taken → length things ≤ taken → (x : ℕ) → Contains things x ↔ Reached t edges r (Contains seeds) x
  closed_things things processes taken h l x = (h.reached x, has_reached things processes taken h l x)

  pub closed_processes : (things processes : List ℕ) (taken : ℕ) → IsClosing t edges r seeds things processes taken → length things ≤ taken → (p : ℕ) → Contains processes p ↔ IsWoken t edges r (Contains seeds) p
  closed_processes things processes taken h l p = (
    h.woken p,
    λ w.
        let at = place_of things w.0 (has_reached things processes taken h l w.0 w.1) in
        h.wakes at.0 p (omega (arith, at.1)) (subst (λ z. MayWakeBy t edges z p) (sym at.2) w.2),
  )

-- from other seeds
pub reached_from : (t : WakeTables) (edges : ℕ → Edges) (r : Rule) (P Q : ℕ → Type 0) → ((x : ℕ) → P x → Q x) → (x : ℕ) → Reached t edges r P x → Reached t edges r Q x
reached_from t edges r P Q f x (of_seed _ h) = of_seed x (f x h)
reached_from t edges r P Q f y (of_target x p _ m wakes target) = of_target x p y (reached_from t edges r P Q f x m) wakes target

-- with one thing more taken, fewer are left of the size, which stays
pub fewer_left : (taken members size size_after : ℕ) → taken < members → members ≤ size → size_after ≡ size → size_after - (taken + 1) < size - taken
fewer_left taken members size size_after l m e = omega arith
