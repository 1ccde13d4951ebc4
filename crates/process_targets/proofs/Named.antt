-- What the parts of the targets of a body name, and the rows that are made of them.
use Rattle.std.proofs.Common.{◌≡◌, ◌∙◌, ⊎_elim, ℕ, ◌<◌, ◌==◌, ◌&&◌, ◌||◌, Bool, true, false, not, cond, List, [], ◌∷◌, ◌++◌, Some, None, Ok, Err, map, length, get_or, refl, sym, ap, ap₂, subst, arith, eq-eqb}
use Rattle.std.specs.List.{All, list_any}
use Rattle.std.specs.Prelude.{OnOk, Result, nat_lt}
use Rattle.std.proofs.lemmas.Bool.{and_parts, eqb-true, false≢true, lt-ltb, ltb-true, or_cases}
use Rattle.std.proofs.lemmas.List.{map-append}
use Rattle.std.proofs.lemmas.List.Elements.{All-from_get_or}
use Rattle.std.proofs.lemmas.List.Folds.{list_any-append, list_any_at}
use Rattle.std.proofs.lemmas.Bool.Decides.{nat_tests}
use Rattle.design_model.specs.event_machine.Cell.{Cell}
use Rattle.four_state.specs.Masks.{is_set}
use Rattle.design_model.specs.Design.{Design, body_at, cell, signal_at}
use Rattle.design_model.specs.Lawful.{IsLawfulDesign}
use Rattle.design_model.specs.Mentions.{body_blocks, has_cell, is_constant, static_writes}
use Rattle.design_model.specs.Shape.{same_bool}
use Rattle.design_model.specs.Tree.{Arms, Stmt, Stmts, Target, Targets, a_stmt, a_target, all_of, arm, bits_of, block, branch, empty, no_arms, no_stmts, no_targets, select, set, several, turns, word_of}
use Rattle.design_targets.specs.process_names.Assigned.{all_assigned, all_target_names, arms_assigned, assigned, target_names}
use Rattle.design_targets.proofs.process_names.AssignedLaw.{blocks_is}
use Rattle.design_targets.proofs.process_names.NamesLaw.{or_right_false}
use Rattle.design_targets.specs.Leaves.{Leaf, all_leaves, all_target_leaves, arms_leaves, leaves, target_leaves}
use Rattle.process_targets.specs.Placed.{no_bits}
use Rattle.process_targets.specs.Rows.{AddsLeaf, AreTargets, HasLeaves, IsInside}
use Rattle.process_targets.specs.Targets.{IsOnce, has_bit, leaf_has, names, row_has}
use Rattle.process_targets.specs.declared.bits.Bits.{Bits}
use Rattle.process_targets.proofs.Leaves.{leaves_law}
use Rattle.process_targets.proofs.Masks.{mask_inside}
use Rattle.process_targets.proofs.Offsets.{and_none}

abbrev thing_of : Leaf → ℕ
thing_of l = l.0

joined : (xs ys : List Leaf) (ms ns : List ℕ) → map thing_of xs ≡ ms → map thing_of ys ≡ ns → map thing_of (xs ++ ys) ≡ ms ++ ns
joined xs ys ms ns e f = map-append thing_of xs ys ∙ ap₂ (λ a b. a ++ b) e f

mutual
  target_things : (x : Target) → map thing_of (target_leaves x) ≡ target_names x
  target_things (all_of s) = refl
  target_things (bits_of s low w) = refl
  target_things (word_of m i) = refl
  target_things (several ts) = targets_things ts

  targets_things : (ts : Targets) → map thing_of (all_target_leaves ts) ≡ all_target_names ts
  targets_things no_targets = refl
  targets_things (a_target t ts) = joined (target_leaves t) (all_target_leaves ts) _ _ (target_things t) (targets_things ts)

where_same : (k : Bool) (ls : List Leaf) (ns : List ℕ) → map thing_of ls ≡ ns → map thing_of (cond k ls []) ≡ cond k ns []
where_same true ls ns e = e
where_same false ls ns e = refl

mutual
  body_things : (s : Stmt) → map thing_of (leaves true s) ≡ assigned true s
  body_things (block p ss) = bodies_things ss
  body_things (branch p n t s other) = joined (leaves true s) (all_leaves true other) _ _ (body_things s) (bodies_things other)
  body_things (select p n kind t arms) = arms_things arms
  body_things (turns p n ss) = bodies_things ss
  body_things (set p n k x t) = where_same (same_bool k true) (target_leaves x) _ (target_things x)
  body_things (empty p) = refl

  bodies_things : (ss : Stmts) → map thing_of (all_leaves true ss) ≡ all_assigned true ss
  bodies_things no_stmts = refl
  bodies_things (a_stmt s ss) = joined (leaves true s) (all_leaves true ss) _ _ (body_things s) (bodies_things ss)

  arms_things : (arms : Arms) → map thing_of (arms_leaves true arms) ≡ arms_assigned true arms
  arms_things no_arms = refl
  arms_things (arm labels s arms) = joined (leaves true s) (arms_leaves true arms) _ _ (body_things s) (arms_things arms)

any_thing : (s : ℕ) (ls : List Leaf) → list_any (λ l. l.0 == s) ls ≡ list_any (λ n. n == s) (map thing_of ls)
any_thing s [] = refl
any_thing s (l ∷ ls) = ap (λ b. (l.0 == s) || b) (any_thing s ls)

-- the parts name what the body assigns
leaves_named : (b : Stmt) (s : ℕ) → list_any (λ l. l.0 == s) (leaves true b) ≡ body_blocks s b
leaves_named b s = any_thing s (leaves true b) ∙ ap (list_any (λ n. n == s)) (body_things b) ∙ blocks_is s b

-- a row without parts
pub no_leaves : (d : Design) → HasLeaves d [] []
no_leaves d = record { has = λ c l. refl; named = λ s. sym (and_none (nat_lt s (length d.signals))) }

or_spread : (a b n : Bool) → ((n && a) || (n && b)) ≡ (n && (a || (b || false)))
or_spread a b false = refl
or_spread a true true = refl
or_spread a false true = refl

-- one part more
pub leaf_more : (d : Design) (ls : List Leaf) (l : Leaf) (before after : List Bits) → HasLeaves d ls before → AddsLeaf d l before after → HasLeaves d (ls ++ l ∷ []) after
leaf_more d ls l before after h a =
    record {
      has = λ c m. a.has c m ∙ ap (λ b. b || leaf_has d l c) (h.has c m) ∙ ap (λ b. list_any (λ k. leaf_has d k c) ls || b) (sym (or_right_false (leaf_has d l c))) ∙ sym (list_any-append (λ k. leaf_has d k c) ls (l ∷ []));
      named = λ s. a.named s ∙ ap (λ b. b || (nat_lt s (length d.signals) && l.0 == s)) (h.named s) ∙ or_spread (list_any (λ k. k.0 == s) ls) (l.0 == s) (nat_lt s (length d.signals)) ∙ ap (λ b. nat_lt s (length d.signals) && b) (sym (list_any-append (λ k. k.0 == s) ls (l ∷ [])));
    }

-- what a part may write is inside of its signal
leaf_within : (d : Design) (l : Leaf) (c : Cell) → leaf_has d l c ≡ true → c.place < (signal_at d c.thing).width
leaf_within d (x, None) c h =
    let p = and_parts (c.thing == x) (nat_lt c.place (signal_at d x).width) h in
    subst (λ y. c.place < (signal_at d y).width) (sym (eqb-true c.thing x p.0)) (ltb-true c.place (signal_at d x).width p.1)
leaf_within d (x, Some (low, w)) c h =
    let p = and_parts (c.thing == x) _ h in
    subst (λ y. c.place < (signal_at d y).width) (sym (eqb-true c.thing x p.0)) (ltb-true c.place (signal_at d x).width (and_parts (nat_lt c.place (signal_at d x).width) _ p.1).0)

leaves_within : (d : Design) (ls : List Leaf) (c : Cell) → list_any (λ l. leaf_has d l c) ls ≡ true → c.place < (signal_at d c.thing).width
leaves_within d [] c h = absurd (false≢true h)
leaves_within d (l ∷ ls) c h = ⊎_elim (λ e. leaf_within d l c e) (λ e. leaves_within d ls c e) (or_cases (leaf_has d l c) _ h)

-- so the bits of a row are inside of the design
row_inside : (d : Design) (ls : List Leaf) (row : List Bits) → HasLeaves d ls row → All (IsInside d) row
row_inside d ls row h = All-from_get_or (IsInside d) row no_bits each
  where
    each : (k : ℕ) → k < length row → IsInside d (get_or row k no_bits)
    each k l =
        let s = (get_or row k no_bits).signal in
        let below : s < length d.signals = ltb-true s (length d.signals) (and_parts (nat_lt s (length d.signals)) _ (sym (h.named s) ∙ list_any_at (λ b. b.signal == s) row k no_bits l (eq-eqb s s refl))).0 in
        (below, mask_inside (get_or row k no_bits).mask (signal_at d s).width (λ i e. leaves_within d ls (cell s i) (sym (h.has (cell s i) below) ∙ list_any_at (λ b. has_bit b (cell s i)) row k no_bits l (ap₂ (λ p q. p && q) (eq-eqb s s refl) e))))

-- the row of a process
pub targets_of_leaves : (d : Design) (p : ℕ) (row : List Bits) → IsLawfulDesign d → IsOnce row → HasLeaves d (leaves true (body_at d p)) row → AreTargets d p row
targets_of_leaves d p row lawful once h =
    record {
      bits = record { once = once; inside = row_inside d (leaves true (body_at d p)) row h; has = λ c l. h.has c l ∙ leaves_law d lawful p c l };
      named = λ s l. h.named s ∙ ap₂ (λ a b. a && b) (lt-ltb s (length d.signals) l) (leaves_named (body_at d p) s);
    }

-- a part of another signal may not write the cell
pub leaf_apart : (d : Design) (l : Leaf) (c : Cell) → (c.thing == l.0) ≡ false → leaf_has d l c ≡ false
leaf_apart d (x, None) c e = ap (λ b. b && nat_lt c.place (signal_at d x).width) e
leaf_apart d (x, Some (low, w)) c e = ap (λ b. b && (nat_lt c.place (signal_at d x).width && (not (is_constant low) || has_cell (static_writes d (bits_of x low w)) c))) e

unequal : (a b : ℕ) → a < b → (a == b) ≡ false
unequal a b l = grind (arith, nat_tests, l)

swapped : (a b : ℕ) → (a == b) ≡ (b == a)
swapped a b = grind (arith, nat_tests)

-- the bits of a part, as a mask
pub bit_leaf : (d : Design) (l : Leaf) (m : ℕ) → ((i : ℕ) → is_set m i ≡ leaf_has d l (cell l.0 i)) → (c : Cell) → has_bit (record { signal = l.0; mask = m }) c ≡ leaf_has d l c
bit_leaf d l m h c = go (l.0 == c.thing) refl
  where
    go : (b : Bool) → (l.0 == c.thing) ≡ b → ((l.0 == c.thing) && is_set m c.place) ≡ leaf_has d l c
    go true e = ap (λ b. b && is_set m c.place) e ∙ h c.place ∙ ap (λ x. leaf_has d l (cell x c.place)) (eqb-true l.0 c.thing e)
    go false e = ap (λ b. b && is_set m c.place) e ∙ sym (leaf_apart d l c (swapped c.thing l.0 ∙ e))

one_name : (s t n : ℕ) → t < n → (t == s) ≡ (nat_lt s n && t == s)
one_name s t n l = grind (arith, nat_tests, l)

-- one of a signal adds its bits
pub one_leaf : (d : Design) (l : Leaf) (m : ℕ) (before after : List Bits) → l.0 < length d.signals → ((i : ℕ) → is_set m i ≡ leaf_has d l (cell l.0 i))
    → ((c : Cell) → row_has after c ≡ (row_has before c || has_bit (record { signal = l.0; mask = m }) c)) → ((s : ℕ) → names after s ≡ (names before s || l.0 == s)) → AddsLeaf d l before after
one_leaf d l m before after below h has named =
    record {
      has = λ c k. has c ∙ ap (λ b. row_has before c || b) (bit_leaf d l m h c);
      named = λ s. named s ∙ ap (λ b. names before s || b) (one_name s l.0 (length d.signals) below);
    }

-- two facts that hold where there is a value
pub on_both : {T E P Q R : Type 0} (r : Result T E) → (P → Q → R) → OnOk r P → OnOk r Q → OnOk r R
on_both (Ok value) f p q = f p q
on_both (Err fault) f p q = tt
