-- One insertion after another.
use Rattle.std.proofs.Common.{◌≡◌, ◌⊎◌, ◌↔◌, inl, inr, ⊎_elim, ◌∙◌, ℕ, ◌+◌, ◌<◌, ◌≤◌, Bool, true, false, cond, List, [], ◌∷◌, ◌++◌, Option, None, length, get_or, take, refl, sym, ap, subst, arith, append_assoc, append-nil, length-append}
use Rattle.std.specs.List.{Contains}
use Rattle.std.proofs.lemmas.Bool.{both_ways, cases_lt}
use Rattle.std.proofs.lemmas.List.{get_or_append_left, get_or_default, take_more}
use Rattle.std.proofs.lemmas.List.Elements.{Contains-append_left, Contains-push, Contains-push_cases}
use Rattle.index_sets.specs.Rows.{row_at}
use Rattle.wake_tables.specs.declared.tables.WakeTables.{WakeTables}
use Rattle.early_sets.specs.declared.edges.Edges.{Edges}
use Rattle.early_sets.specs.declared.rule.Rule.{Rule}
use Rattle.early_sets.specs.Adds.{Adds, Extends}
use Rattle.early_sets.specs.Once.{IsOnce}
use Rattle.early_sets.specs.Reached.{IsItem, IsItemWhere, IsRowItem, IsTargetBy, IsTargetFrom, MayWakeBy, is_apart}
use Rattle.early_sets.proofs.Counting.{once_push}

pub extends_none : (xs : List ℕ) → Extends xs xs
extends_none xs = record { more = []; is = sym (append-nil xs) }

pub extends_chain : (xs ys zs : List ℕ) → Extends xs ys → Extends ys zs → Extends xs zs
extends_chain xs ys zs h k = record { more = h.more ++ k.more; is = k.is ∙ ap (λ ws. ws ++ k.more) h.is ∙ append_assoc xs h.more k.more }

-- a member stays one
pub extends_has : (xs ys : List ℕ) (x : ℕ) → Extends xs ys → Contains xs x → Contains ys x
extends_has xs ys x h c = subst (λ zs. Contains zs x) (sym h.is) (Contains-append_left xs h.more x c)

-- at its place
pub extends_at : (xs ys : List ℕ) (k : ℕ) → Extends xs ys → k < length xs → get_or ys k 0 ≡ get_or xs k 0
extends_at xs ys k h l = ap (λ zs. get_or zs k 0) h.is ∙ get_or_append_left xs h.more 0 k l

-- there are no fewer than before
pub extends_longer : (xs ys : List ℕ) → Extends xs ys → length xs ≤ length ys
extends_longer xs ys h = omega (arith, ap length h.is, length-append xs h.more)

-- the member at a place
pub member_at : (xs : List ℕ) (k x : ℕ) → k < length xs → get_or xs k 0 ≡ x → Contains xs x
member_at xs k x l e = (k, l, get_or_default xs k x 0 l ∙ e)

pub place_of : (xs : List ℕ) (x : ℕ) → Contains xs x → (k : ℕ) × (k < length xs) × (get_or xs k 0 ≡ x)
place_of xs x c = (c.0, c.1, get_or_default xs c.0 0 x c.1 ∙ c.2)

-- nothing is put in
pub none_added : (P : ℕ → Type 0) (xs : List ℕ) → ((x : ℕ) → P x → ⊥) → Adds P xs xs
none_added P xs none = record { extends = extends_none xs; only = λ x c. inl c; all = λ x p. absurd (none x p); once = λ o. o }

-- one after the other
pub both_added : (P Q : ℕ → Type 0) (xs ys zs : List ℕ) → Adds P xs ys → Adds Q ys zs → Adds (λ x. P x ⊎ Q x) xs zs
both_added P Q xs ys zs h k =
    record {
      extends = extends_chain xs ys zs h.extends k.extends;
      only = λ x c. ⊎_elim (λ b. ⊎_elim (λ a. inl a) (λ p. inr (inl p)) (h.only x b)) (λ q. inr (inr q)) (k.only x c);
      all = λ x. ⊎_elim (λ p. extends_has ys zs x k.extends (h.all x p)) (λ q. k.all x q);
      once = λ o. k.once (h.once o);
    }

-- the same, said otherwise
pub same_added : (P Q : ℕ → Type 0) (xs ys : List ℕ) → ((x : ℕ) → P x → Q x) → ((x : ℕ) → Q x → P x) → Adds P xs ys → Adds Q xs ys
same_added P Q xs ys to from h = record { extends = h.extends; only = λ x c. ⊎_elim (λ a. inl a) (λ p. inr (to x p)) (h.only x c); all = λ x q. h.all x (from x q); once = h.once }

-- one number
pub one_added : (xs ys : List ℕ) (n : ℕ) (r : Bool) → (r ≡ false) ↔ Contains xs n → ys ≡ cond r (xs ++ n ∷ []) xs → Adds (λ x. n ≡ x) xs ys
one_added xs ys n true there is =
    record {
      extends = record { more = n ∷ []; is = is };
      only = λ x c. Contains-push_cases xs n x (subst (λ zs. Contains zs x) is c);
      all = λ x e. subst (λ zs. Contains zs x) (sym is) (subst (λ y. Contains (xs ++ n ∷ []) y) e (Contains-push xs n));
      once = λ o. subst IsOnce (sym is) (once_push n xs o (λ c. both_ways true (there.1 c) refl));
    }
one_added xs ys n false there is =
    subst (λ zs. Adds (λ x. n ≡ x) xs zs) (sym is) (record { extends = extends_none xs; only = λ x c. inl c; all = λ x e. subst (λ y. Contains xs y) e (there.0 refl); once = λ o. o })

-- a number that is not left out
pub item_added : (n : ℕ) (except : Option ℕ) (xs ys : List ℕ) → is_apart except n ≡ true → Adds (λ x. n ≡ x) xs ys → Adds (IsItem n except) xs ys
item_added n except xs ys apart h = same_added (λ x. n ≡ x) (IsItem n except) xs ys (λ x e. (e, subst (λ y. is_apart except y ≡ true) e apart)) (λ x p. p.0) h

-- a number that is left out
pub item_left : (n : ℕ) (except : Option ℕ) (xs : List ℕ) → is_apart except n ≡ false → Adds (IsItem n except) xs xs
item_left n except xs out = none_added (IsItem n except) xs (λ x p. both_ways _ out (subst (λ y. is_apart except y ≡ true) (sym p.0) p.1))

-- no items of a row
pub row_none : (except : Option ℕ) (row xs : List ℕ) → Adds (IsRowItem true (take 0 row) except) xs xs
row_none except row xs = none_added (IsRowItem true (take 0 row) except) xs (λ x p. absurd (omega (arith, p.1.0.1)))

-- one item of a row more
pub row_more : (except : Option ℕ) (row xs ys zs : List ℕ) (i : ℕ) → i < length row → Adds (IsRowItem true (take i row) except) xs ys → Adds (IsItem (get_or row i 0) except) ys zs → Adds (IsRowItem true (take (i + 1) row) except) xs zs
row_more except row xs ys zs i l h k =
    let y = get_or row i 0 in
    let more : take (i + 1) row ≡ take i row ++ y ∷ [] = take_more row i 0 l in
    same_added (λ x. IsRowItem true (take i row) except x ⊎ IsItem y except x) (IsRowItem true (take (i + 1) row) except) xs zs
    (λ x. ⊎_elim (λ p. (refl, (subst (λ ws. Contains ws x) (sym more) (Contains-append_left (take i row) (y ∷ []) x p.1.0), p.1.1))) (λ p. (refl, (subst (λ ws. Contains ws x) (sym more) (subst (λ z. Contains (take i row ++ y ∷ []) z) p.0 (Contains-push (take i row) y)), p.1))))
    (λ x p. ⊎_elim (λ c. inl (refl, (c, p.1.1))) (λ e. inr (e, p.1.1)) (Contains-push_cases (take i row) y x (subst (λ ws. Contains ws x) more p.1.0)))
    (both_added (IsRowItem true (take i row) except) (IsItem y except) xs ys zs h k)

-- a row where the condition holds, and where it does not
pub row_taken : (condition : Bool) (row : List ℕ) (except : Option ℕ) (xs ys : List ℕ) → condition ≡ true → Adds (IsRowItem true row except) xs ys → Adds (IsRowItem condition row except) xs ys
row_taken condition row except xs ys is h = same_added (IsRowItem true row except) (IsRowItem condition row except) xs ys (λ x p. (is, p.1)) (λ x p. (refl, p.1)) h

pub row_passed : (condition : Bool) (row : List ℕ) (except : Option ℕ) (xs : List ℕ) → condition ≡ false → Adds (IsRowItem condition row except) xs xs
row_passed condition row except xs is = none_added (IsRowItem condition row except) xs (λ x p. both_ways condition is p.0)

-- the processes that a change of a thing may wake
pub wake_added : (t : WakeTables) (edges : ℕ → Edges) (thing : ℕ) (xs ys zs ws : List ℕ) → Adds (IsRowItem true (row_at t.level thing) None) xs ys → Adds (IsRowItem (edges thing).rise (row_at t.rising thing) None) ys zs → Adds (IsRowItem (edges thing).fall (row_at t.falling thing) None) zs ws → Adds (MayWakeBy t edges thing) xs ws
wake_added t edges thing xs ys zs ws a b c =
    let A = IsRowItem true (row_at t.level thing) None in
    let B = IsRowItem (edges thing).rise (row_at t.rising thing) None in
    let C = IsRowItem (edges thing).fall (row_at t.falling thing) None in
    same_added (λ p. (A p ⊎ B p) ⊎ C p) (MayWakeBy t edges thing) xs ws
    (λ p. ⊎_elim (λ ab. ⊎_elim (λ q. inl q.1.0) (λ q. inr (inl (q.0, q.1.0))) ab) (λ q. inr (inr (q.0, q.1.0))))
    (λ p. ⊎_elim (λ q. inl (inl (refl, (q, refl)))) (λ bc. ⊎_elim (λ q. inl (inr (q.0, (q.1, refl)))) (λ q. inr (q.0, (q.1, refl))) bc))
    (both_added (λ p. A p ⊎ B p) C xs zs ws (both_added A B xs ys zs a b) c)

-- what a process may write
pub write_added : (t : WakeTables) (r : Rule) (process : ℕ) (xs ys zs : List ℕ) → Adds (IsRowItem true (row_at t.nonblocking process) r.trigger) xs ys → Adds (IsRowItem (is_apart r.block process) (row_at t.blocking process) r.trigger) ys zs → Adds (IsTargetBy t r process) xs zs
write_added t r process xs ys zs a b =
    let A = IsRowItem true (row_at t.nonblocking process) r.trigger in
    let B = IsRowItem (is_apart r.block process) (row_at t.blocking process) r.trigger in
    same_added (λ y. A y ⊎ B y) (IsTargetBy t r process) xs zs
    (λ y. ⊎_elim (λ q. (inl q.1.0, q.1.1)) (λ q. (inr (q.0, q.1.0), q.1.1)))
    (λ y q. ⊎_elim (λ c. inl (refl, (c, q.1))) (λ c. inr (c.0, (c.1, q.1))) q.0)
    (both_added A B xs ys zs a b)

-- what the processes at these places may write: none yet, and one more
pub from_none : (t : WakeTables) (r : Rule) (processes : List ℕ) (from : ℕ) (xs : List ℕ) → Adds (IsTargetFrom t r processes from from) xs xs
from_none t r processes from xs = none_added (IsTargetFrom t r processes from from) xs (λ x p. absurd (omega (arith, p.1, p.2)))

pub from_more : (t : WakeTables) (r : Rule) (processes : List ℕ) (from at : ℕ) (xs ys zs : List ℕ) → from ≤ at → Adds (IsTargetFrom t r processes from at) xs ys → Adds (IsTargetBy t r (get_or processes at 0)) ys zs → Adds (IsTargetFrom t r processes from (at + 1)) xs zs
from_more t r processes from at xs ys zs l h k =
    let A = IsTargetFrom t r processes from at in
    let B = IsTargetBy t r (get_or processes at 0) in
    same_added (λ y. A y ⊎ B y) (IsTargetFrom t r processes from (at + 1)) xs zs
    (λ y. ⊎_elim (λ q. (q.0, q.1, omega (arith, q.2), q.3)) (λ q. (at, l, omega arith, q)))
    (λ y q. ⊎_elim (λ below. inl (q.0, q.1, below, q.3)) (λ above. let same : q.0 ≡ at = omega (arith, q.2, above) in inr (subst (λ j. IsTargetBy t r (get_or processes j 0) y) same q.3)) (cases_lt q.0 at))
    (both_added A B xs ys zs h k)

-- the members of a list: none, and one more
pub members_none : (ms xs : List ℕ) → Adds (Contains (take 0 ms)) xs xs
members_none ms xs = none_added (Contains (take 0 ms)) xs (λ x c. absurd (omega (arith, c.1)))

pub members_more : (ms xs ys zs : List ℕ) (i : ℕ) → i < length ms → Adds (Contains (take i ms)) xs ys → Adds (λ x. get_or ms i 0 ≡ x) ys zs → Adds (Contains (take (i + 1) ms)) xs zs
members_more ms xs ys zs i l h k =
    let y = get_or ms i 0 in
    let more : take (i + 1) ms ≡ take i ms ++ y ∷ [] = take_more ms i 0 l in
    same_added (λ x. Contains (take i ms) x ⊎ (y ≡ x)) (Contains (take (i + 1) ms)) xs zs
    (λ x. ⊎_elim (λ c. subst (λ ws. Contains ws x) (sym more) (Contains-append_left (take i ms) (y ∷ []) x c)) (λ e. subst (λ ws. Contains ws x) (sym more) (subst (λ z. Contains (take i ms ++ y ∷ []) z) e (Contains-push (take i ms) y))))
    (λ x c. Contains-push_cases (take i ms) y x (subst (λ ws. Contains ws x) more c))
    (both_added (Contains (take i ms)) (λ x. y ≡ x) xs ys zs h k)

-- a number that is not left out, where the condition holds, and where it does not
pub where_taken : (condition : Bool) (n : ℕ) (except : Option ℕ) (xs ys : List ℕ) → condition ≡ true → Adds (IsItem n except) xs ys → Adds (IsItemWhere condition n except) xs ys
where_taken condition n except xs ys is h = same_added (IsItem n except) (IsItemWhere condition n except) xs ys (λ x p. (is, p)) (λ x p. p.1) h

pub where_passed : (condition : Bool) (n : ℕ) (except : Option ℕ) (xs : List ℕ) → condition ≡ false → Adds (IsItemWhere condition n except) xs xs
where_passed condition n except xs is = none_added (IsItemWhere condition n except) xs (λ x p. both_ways condition is p.0)

-- a row alone is put in
pub row_alone : (row ys : List ℕ) → Adds (IsRowItem true row None) [] ys → (x : ℕ) → Contains ys x ↔ Contains row x
row_alone row ys h x = (
  λ c. ⊎_elim (λ n. absurd (omega (arith, n.1))) (λ p. p.1.0) (h.only x c),
  λ c. h.all x (refl, (c, refl)),
)
