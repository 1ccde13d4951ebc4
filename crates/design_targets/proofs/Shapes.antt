-- What holds of each part of the targets of a body that has its shapes.
use Rattle.std.proofs.Common.{◌≡◌, ◌∙◌, ⊎_elim, Bool, ℕ, true, false, ◌&&◌, ◌+◌, ◌<◌, ◌==◌, cond, List, [], ◌∷◌, ◌++◌, Some, None, length, sym, subst, arith}
use Rattle.std.specs.Prelude.{nat_le, nat_lt}
use Rattle.std.specs.List.{All, flat_map, list_any}
use Rattle.std.proofs.lemmas.Bool.{and_parts, eqb-true, false≢true, ltb-true, or_cases}
use Rattle.std.proofs.lemmas.List.Elements.{All-append, All-cons, All-head, All-nil, All-tail}
use Rattle.design_model.specs.Design.{Design, is_memory}
use Rattle.design_model.specs.Shape.{all_signed_of, are_bodies, are_shaped, are_targets, is_alone, is_arms, is_body, is_shaped, is_target, own_sign, own_width, same_bool, widest_of}
use Rattle.design_model.specs.Tree.{Arms, Stmt, Stmts, Target, Targets, Term, a_stmt, a_target, all_of, arm, bits_of, block, branch, empty, no_arms, no_stmts, no_targets, select, set, several, turns, word_of}
use Rattle.process_names.proofs.NamesLaw.{has-append, or_right_false}
use Rattle.design_targets.specs.Leaves.{Leaf, all_leaves, all_target_leaves, arms_leaves, leaves, target_leaves}
use Rattle.design_targets.specs.Written.{IsShapedLeaf, has_place, leaf_names}

module _ (d : Design) (P : Leaf → Type 0) (whole : (s : ℕ) → nat_lt s (length d.signals) ≡ true → P (s, None)) (part : (s : ℕ) (low : Term) (w : ℕ) → nat_lt s (length d.signals) ≡ true → is_alone d low ≡ true → P (s, Some (low, w))) (word : (m : ℕ) → is_memory d m ≡ true → P (m, None)) where
  both : (xs ys : List Leaf) → All P xs → All P ys → All P (xs ++ ys)
  both xs ys a b = All-append P xs ys a b

  one : (l : Leaf) → P l → All P (l ∷ [])
  one l h = All-cons P l [] h (All-nil P)

  where_same : (k : Bool) (ls : List Leaf) → All P ls → All P (cond k ls [])
  where_same true ls h = h
  where_same false ls h = All-nil P

  mutual
    each_part : (x : Target) → is_target d x ≡ true → All P (target_leaves x)
    each_part (all_of s) h = one (s, None) (whole s h)
    each_part (bits_of s low w) h =
        let p = and_parts (nat_lt s (length d.signals) && is_alone d low) (nat_le 1 w) h in
        let q = and_parts (nat_lt s (length d.signals)) (is_alone d low) p.0 in
        one (s, Some (low, w)) (part s low w q.0 q.1)
    each_part (word_of m i) h = one (m, None) (word m (and_parts (is_memory d m) _ h).0)
    each_part (several ts) h = each_parts ts h

    each_parts : (ts : Targets) → are_targets d ts ≡ true → All P (all_target_leaves ts)
    each_parts no_targets h = All-nil P
    each_parts (a_target t ts) h =
        let p = and_parts (is_target d t) (are_targets d ts) h in
        both (target_leaves t) (all_target_leaves ts) (each_part t p.0) (each_parts ts p.1)

  mutual
    pub each_leaf : (b : Bool) (s : Stmt) → is_body d s ≡ true → All P (leaves b s)
    each_leaf b (block p ss) h = each_leaf_of b ss h
    each_leaf b (branch p n t s other) h =
        let q = and_parts (is_alone d t && is_body d s) (are_bodies d other) h in
        both (leaves b s) (all_leaves b other) (each_leaf b s (and_parts (is_alone d t) (is_body d s) q.0).1) (each_leaf_of b other q.1)
    each_leaf b (select p n kind t arms) h = each_leaf_in b _ _ arms (and_parts (is_shaped d (widest_of d (own_width d t) arms) (all_signed_of d (own_sign d t) arms) t) _ h).1
    each_leaf b (turns p n ss) h = each_leaf_of b ss h
    each_leaf b (set p n k x t) h = where_same (same_bool k b) (target_leaves x) (each_part x (and_parts (is_target d x) _ h).0)
    each_leaf b (empty p) h = All-nil P

    each_leaf_of : (b : Bool) (ss : Stmts) → are_bodies d ss ≡ true → All P (all_leaves b ss)
    each_leaf_of b no_stmts h = All-nil P
    each_leaf_of b (a_stmt s ss) h =
        let q = and_parts (is_body d s) (are_bodies d ss) h in
        both (leaves b s) (all_leaves b ss) (each_leaf b s q.0) (each_leaf_of b ss q.1)

    each_leaf_in : (b : Bool) (w : ℕ) (signed : Bool) (arms : Arms) → is_arms d w signed arms ≡ true → All P (arms_leaves b arms)
    each_leaf_in b w signed no_arms h = All-nil P
    each_leaf_in b w signed (arm labels s arms) h =
        let q = and_parts (are_shaped d w signed labels && is_body d s) (is_arms d w signed arms) h in
        both (leaves b s) (arms_leaves b arms) (each_leaf b s (and_parts (are_shaped d w signed labels) (is_body d s) q.0).1) (each_leaf_in b w signed arms q.1)

-- the indexes of the parts have their shapes
pub leaves_shaped : (d : Design) (b : Bool) (s : Stmt) → is_body d s ≡ true → All IsShapedLeaf (leaves b s)
leaves_shaped d b s h = each_leaf d IsShapedLeaf (λ s l. tt) (λ s low w l a. (d, a)) (λ m l. tt) b s h

-- the signal or memory is one of the design
abbrev IsOf : Design → Leaf → Type 0
IsOf d l = l.0 < length d.signals + length d.memories

memory_below : (d : Design) (m : ℕ) → is_memory d m ≡ true → m < length d.signals + length d.memories
memory_below d m h = ltb-true m _ (and_parts (nat_le (length d.signals) m) _ h).1

signal_below : (d : Design) (s : ℕ) → nat_lt s (length d.signals) ≡ true → s < length d.signals + length d.memories
signal_below d s h = let l : s < length d.signals = ltb-true s (length d.signals) h in omega (arith, l)

leaf_named : (l : Leaf) (y : ℕ) → list_any (λ z. z == y) (leaf_names l) ≡ true → l.0 ≡ y
leaf_named (x, None) y h = eqb-true x y (sym (or_right_false (x == y)) ∙ h)
leaf_named (x, Some (low, w)) y h = go (has_place low) h
  where
    go : (b : Bool) → list_any (λ z. z == y) (cond b (x ∷ []) []) ≡ true → x ≡ y
    go true e = eqb-true x y (sym (or_right_false (x == y)) ∙ e)
    go false e = absurd (false≢true e)

named_below : (d : Design) (ls : List Leaf) (y : ℕ) → All (IsOf d) ls → list_any (λ z. z == y) (flat_map leaf_names ls) ≡ true → y < length d.signals + length d.memories
named_below d [] y a h = absurd (false≢true h)
named_below d (l ∷ ls) y a h =
    ⊎_elim
    (λ e. subst (λ z. z < length d.signals + length d.memories) (leaf_named l y e) (All-head (IsOf d) l ls a))
    (λ e. named_below d ls y (All-tail (IsOf d) l ls a) e)
    (or_cases (list_any (λ z. z == y) (leaf_names l)) _ (sym (has-append y (leaf_names l) (flat_map leaf_names ls)) ∙ h))

-- what a body may write is of the design
pub written_below : (d : Design) (b : Bool) (s : Stmt) (y : ℕ) → is_body d s ≡ true → list_any (λ z. z == y) (flat_map leaf_names (leaves b s)) ≡ true → y < length d.signals + length d.memories
written_below d b s y h n = named_below d (leaves b s) y (each_leaf d (IsOf d) (λ s l. signal_below d s l) (λ s low w l k. signal_below d s l) (λ m l. memory_below d m l) b s h) n
