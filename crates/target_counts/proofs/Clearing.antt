-- What is counted of one process, and cleared again.
use Rattle.std.proofs.Common.{◌≡◌, ◌∙◌, ◌⊎◌, ⊎_elim, ℕ, suc, ◌+◌, ◌<◌, Bool, true, false, cond, ◌&&◌, List, [], ◌∷◌, ◌++◌, length, get_or, refl, sym, ap, arith}
use Rattle.std.specs.Prelude.{min, nat_le}
use Rattle.std.specs.List.{All, filter}
use Rattle.std.proofs.lemmas.Bool.{cases_lt, leb-false}
use Rattle.std.proofs.lemmas.List.{get_or_past}
use Rattle.design_model.specs.Once.{names_once}
use Rattle.design_model.specs.Tree.{Stmt}
use Rattle.process_names.specs.Laws.{has}
use Rattle.target_counts.specs.Counts.{Counts, IsClear, Replaces, count_at, count_in}
use Rattle.target_counts.specs.Most.{most}
use Rattle.target_counts.specs.declared.counts.TargetCounts.{TargetCounts}
use Rattle.target_counts.proofs.Highest.{once_is}

filter_same : (p q : ℕ → Bool) (xs : List ℕ) → All (λ x. p x ≡ q x) xs → filter p xs ≡ filter q xs
filter_same p q [] h = refl
filter_same p q (x ∷ xs) h =
    ap (λ b. cond b (x ∷ filter p xs) (filter p xs)) (h 0 x (omega arith)) ∙ ap (λ ys. cond (q x) (x ∷ ys) ys) (filter_same p q xs (λ k d l. h (suc k) d (omega (arith, l))))

once_same : (a b : ℕ) → min 2 a ≡ min 2 b → nat_le a 1 ≡ nat_le b 1
once_same a b e = grind (arith, e)

from_zero : (old new n : ℕ) → old ≡ 0 → min 2 new ≡ min 2 (old + n) → min 2 new ≡ min 2 n
from_zero old new n z e = omega (arith, z, e)

-- from nothing, what is counted at most once is what the body names at most once
pub once_counted : (s : Stmt) (before after : TargetCounts) (things : List ℕ) → IsClear before → All (λ x. x < length before.counts.items) things → Counts (λ x. most x s) before after → filter (λ x. nat_le (count_at after x) 1) things ≡ filter (names_once s) things
once_counted s before after things clear within h =
    filter_same (λ x. nat_le (count_at after x) 1) (names_once s) things
    (λ k d l. let x = get_or things k d in once_same (count_at after x) (most x s) (from_zero (count_at before x) (count_at after x) (most x s) (clear.none x) (h.is x (within k d l))) ∙ sym (once_is s x))

-- what was not named is not counted
pub uncounted : (n : ℕ → ℕ) (before after : TargetCounts) → IsClear before → Counts n before after → (x : ℕ) → x < length after.counts.items → has x after.order.items ≡ false → count_at after x ≡ 0
uncounted n before after clear h x l none =
    let p : x < length before.counts.items = omega (arith, l, h.adds.size) in
    let order : after.order.items ≡ h.adds.more = h.adds.order ∙ ap (λ xs. xs ++ h.adds.more) clear.order in
    let zero : n x < 1 = leb-false 1 (n x) (sym (h.adds.has_more x p) ∙ ap (has x) (sym order) ∙ none) in
    omega (arith, zero, h.is x p, clear.none x)

-- all that was counted becomes 0
pub cleared : (order before after : List ℕ) → ((x : ℕ) → x < length before → has x order ≡ false → count_in before x ≡ 0) → Replaces (λ n. true) 0 order before after → (x : ℕ) → count_in after x ≡ 0
cleared order before after none r x = ⊎_elim (λ l. r.is x l ∙ go l (has x order) refl) (λ past. get_or_past after x 0 (omega (arith, past, r.size))) (cases_lt x (length before))
  where
    go : x < length before → (t : Bool) → has x order ≡ t → cond (has x order && true) 0 (count_in before x) ≡ 0
    go l true e = ap (λ b. cond (b && true) 0 (count_in before x)) e
    go l false e = ap (λ b. cond (b && true) 0 (count_in before x)) e ∙ none x l e
