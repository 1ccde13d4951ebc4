-- What the parts of the targets of a body may write.
use Rattle.std.proofs.Common.{◌≡◌, ◌∙◌, ℕ, ◌<◌, ◌==◌, ◌&&◌, ◌||◌, Bool, true, false, cond, List, [], ◌∷◌, ◌++◌, Some, None, length, refl, sym, ap₂, arith}
use Rattle.std.specs.Prelude.{nat_le, nat_lt}
use Rattle.std.specs.List.{All, list_any}
use Rattle.std.proofs.lemmas.Bool.{and_parts, eqb-true, leb-true}
use Rattle.std.proofs.lemmas.List.Elements.{All-append, All-cons, All-nil}
use Rattle.std.proofs.lemmas.List.Folds.{list_any-append}
use Rattle.design_model.specs.event_machine.Cell.{Cell}
use Rattle.design_model.specs.Tree.{Arms, Stmt, Stmts, Target, Targets, Term, a_stmt, a_target, all_of, arm, bits_of, block, branch, empty, no_arms, no_stmts, no_targets, select, set, several, turns, word_of}
use Rattle.design_model.specs.Design.{Design, body_at, is_memory, signal_at}
use Rattle.design_model.specs.Mentions.{any_set, any_set_in, any_set_of, may_write, some_may_write}
use Rattle.design_model.specs.Shape.{all_signed_of, are_bodies, are_shaped, are_targets, is_alone, is_arms, is_body, is_shaped, is_target, own_sign, own_width, same_bool, widest_of}
use Rattle.design_model.specs.WellFormed.{are_well_formed, are_well_formed_arms, are_well_formed_bodies, are_well_formed_targets, is_well_formed, is_well_formed_body, is_well_formed_target}
use Rattle.design_model.specs.Lawful.{IsLawfulDesign}
use Rattle.design_targets.proofs.process_names.NamesLaw.{or_right_false}
use Rattle.design_targets.specs.Leaves.{Leaf, all_leaves, all_target_leaves, arms_leaves, leaves, target_leaves}
use Rattle.process_targets.specs.Laws.{LeavesLaw, RightLaw}
use Rattle.process_targets.specs.Targets.{IsRightLeaf, leaf_has}

not_memory : (d : Design) (m : ℕ) (c : Cell) → c.thing < length d.signals → (b : Bool) → nat_le (length d.signals) m ≡ b → ((c.thing == m) && b) ≡ false
not_memory d m c l false e = and_false (c.thing == m)
  where
    and_false : (a : Bool) → (a && false) ≡ false
    and_false false = refl
    and_false true = refl
not_memory d m c l true e = go (c.thing == m) refl
  where
    go : (b : Bool) → (c.thing == m) ≡ b → (b && true) ≡ false
    go false e2 = refl
    go true e2 = absurd (omega (arith, l, eqb-true c.thing m e2, leb-true (length d.signals) m e))

module _ (d : Design) (c : Cell) (less : c.thing < length d.signals) where
  abbrev hits : List Leaf → Bool
  hits ls = list_any (λ l. leaf_has d l c) ls

  joins : (xs ys : List Leaf) (a b : Bool) → hits xs ≡ a → hits ys ≡ b → hits (xs ++ ys) ≡ (a || b)
  joins xs ys a b e f = list_any-append (λ l. leaf_has d l c) xs ys ∙ ap₂ (λ p q. p || q) e f

  no_width : (m : ℕ) → is_memory d m ≡ true → ((c.thing == m) && nat_lt c.place (signal_at d m).width) ≡ false
  no_width m h = go (c.thing == m) refl
    where
      go : (b : Bool) → (c.thing == m) ≡ b → (b && nat_lt c.place (signal_at d m).width) ≡ false
      go false e = refl
      go true e = absurd (omega (arith, less, eqb-true c.thing m e, leb-true (length d.signals) m (and_parts (nat_le (length d.signals) m) _ h).0))

  mutual
    target_hits : (x : Target) → is_target d x ≡ true → hits (target_leaves x) ≡ may_write d x c
    target_hits (all_of s) is = or_right_false _
    target_hits (bits_of s low w) is = or_right_false _
    target_hits (word_of m i) is =
        or_right_false _ ∙ no_width m (and_parts (is_memory d m) _ is).0 ∙ sym (not_memory d m c less (nat_le (length d.signals) m) refl)
    target_hits (several ts) is = targets_hits ts is

    targets_hits : (ts : Targets) → are_targets d ts ≡ true → hits (all_target_leaves ts) ≡ some_may_write d ts c
    targets_hits no_targets is = refl
    targets_hits (a_target t ts) is =
        let p = and_parts (is_target d t) (are_targets d ts) is in
        joins (target_leaves t) (all_target_leaves ts) _ _ (target_hits t p.0) (targets_hits ts p.1)

  set_hits : (k : Bool) (x : Target) → is_target d x ≡ true → hits (cond (same_bool k true) (target_leaves x) []) ≡ (k && may_write d x c)
  set_hits true x is = target_hits x is
  set_hits false x is = refl

  abbrev test : Bool → Target → Term → Bool
  test k x t = k && may_write d x c

  mutual
    pub body_hits : (s : Stmt) → is_body d s ≡ true → hits (leaves true s) ≡ any_set test s
    body_hits (block p ss) is = bodies_hits ss is
    body_hits (branch p n t s other) is =
        let q = and_parts (is_alone d t && is_body d s) (are_bodies d other) is in
        joins (leaves true s) (all_leaves true other) _ _ (body_hits s (and_parts (is_alone d t) (is_body d s) q.0).1) (bodies_hits other q.1)
    body_hits (select p n kind t arms) is = arms_hits _ _ arms (and_parts (is_shaped d (widest_of d (own_width d t) arms) (all_signed_of d (own_sign d t) arms) t) _ is).1
    body_hits (turns p n ss) is = bodies_hits ss is
    body_hits (set p n k x t) is = set_hits k x (and_parts (is_target d x) _ is).0
    body_hits (empty p) is = refl

    bodies_hits : (ss : Stmts) → are_bodies d ss ≡ true → hits (all_leaves true ss) ≡ any_set_of test ss
    bodies_hits no_stmts is = refl
    bodies_hits (a_stmt s ss) is =
        let q = and_parts (is_body d s) (are_bodies d ss) is in
        joins (leaves true s) (all_leaves true ss) _ _ (body_hits s q.0) (bodies_hits ss q.1)

    arms_hits : (w : ℕ) (signed : Bool) (arms : Arms) → is_arms d w signed arms ≡ true → hits (arms_leaves true arms) ≡ any_set_in test arms
    arms_hits w signed no_arms is = refl
    arms_hits w signed (arm labels s arms) is =
        let q = and_parts (are_shaped d w signed labels && is_body d s) (is_arms d w signed arms) is in
        joins (leaves true s) (arms_leaves true arms) _ _ (body_hits s (and_parts (are_shaped d w signed labels) (is_body d s) q.0).1) (arms_hits w signed arms q.1)

module _ (d : Design) where
  abbrev Right : List Leaf → Type 0
  Right ls = All (IsRightLeaf d) ls

  both : (xs ys : List Leaf) → Right xs → Right ys → Right (xs ++ ys)
  both xs ys a b = All-append (IsRightLeaf d) xs ys a b

  one : (l : Leaf) → IsRightLeaf d l → Right (l ∷ [])
  one l h = All-cons (IsRightLeaf d) l [] h (All-nil (IsRightLeaf d))

  where_same : (k : Bool) (ls : List Leaf) → Right ls → Right (cond k ls [])
  where_same true ls h = h
  where_same false ls h = All-nil (IsRightLeaf d)

  mutual
    target_right : (x : Target) → is_target d x ≡ true → is_well_formed_target d x ≡ true → Right (target_leaves x)
    target_right (all_of s) is well = one (s, None) tt
    target_right (bits_of s low w) is well =
        let p = and_parts (nat_lt s (length d.signals) && is_alone d low) (nat_le 1 w) is in
        one (s, Some (low, w)) ((and_parts (nat_lt s (length d.signals)) (is_alone d low) p.0).1, leb-true 1 w p.1, (and_parts _ (is_well_formed d false low) well).0)
    target_right (word_of m i) is well = one (m, None) tt
    target_right (several ts) is well = targets_right ts is well

    targets_right : (ts : Targets) → are_targets d ts ≡ true → are_well_formed_targets d ts ≡ true → Right (all_target_leaves ts)
    targets_right no_targets is well = All-nil (IsRightLeaf d)
    targets_right (a_target t ts) is well =
        let p = and_parts (is_target d t) (are_targets d ts) is in
        let q = and_parts (is_well_formed_target d t) (are_well_formed_targets d ts) well in
        both (target_leaves t) (all_target_leaves ts) (target_right t p.0 q.0) (targets_right ts p.1 q.1)

  mutual
    pub body_right : (s : Stmt) → is_body d s ≡ true → is_well_formed_body d s ≡ true → Right (leaves true s)
    body_right (block p ss) is well = bodies_right ss is well
    body_right (branch p n t s other) is well =
        let i = and_parts (is_alone d t && is_body d s) (are_bodies d other) is in
        let w = and_parts (is_well_formed_body d s) _ (and_parts (is_well_formed d true t) _ well).1 in
        both (leaves true s) (all_leaves true other) (body_right s (and_parts (is_alone d t) (is_body d s) i.0).1 w.0) (bodies_right other i.1 w.1)
    body_right (select p n kind t arms) is well = arms_right _ _ arms (and_parts (is_shaped d (widest_of d (own_width d t) arms) (all_signed_of d (own_sign d t) arms) t) _ is).1 (and_parts (is_well_formed d false t) _ well).1
    body_right (turns p n ss) is well = bodies_right ss is well
    body_right (set p n k x t) is well = where_same (same_bool k true) (target_leaves x) (target_right x (and_parts (is_target d x) _ is).0 (and_parts (is_well_formed_target d x) _ well).0)
    body_right (empty p) is well = All-nil (IsRightLeaf d)

    bodies_right : (ss : Stmts) → are_bodies d ss ≡ true → are_well_formed_bodies d ss ≡ true → Right (all_leaves true ss)
    bodies_right no_stmts is well = All-nil (IsRightLeaf d)
    bodies_right (a_stmt s ss) is well =
        let i = and_parts (is_body d s) (are_bodies d ss) is in
        let w = and_parts (is_well_formed_body d s) (are_well_formed_bodies d ss) well in
        both (leaves true s) (all_leaves true ss) (body_right s i.0 w.0) (bodies_right ss i.1 w.1)

    arms_right : (w : ℕ) (signed : Bool) (arms : Arms) → is_arms d w signed arms ≡ true → are_well_formed_arms d arms ≡ true → Right (arms_leaves true arms)
    arms_right w signed no_arms is well = All-nil (IsRightLeaf d)
    arms_right w signed (arm labels s arms) is well =
        let i = and_parts (are_shaped d w signed labels && is_body d s) (is_arms d w signed arms) is in
        let v = and_parts (is_well_formed_body d s) (are_well_formed_arms d arms) (and_parts (are_well_formed d labels) _ well).1 in
        both (leaves true s) (arms_leaves true arms) (body_right s (and_parts (are_shaped d w signed labels) (is_body d s) i.0).1 v.0) (arms_right w signed arms i.1 v.1)

pub leaves_law : (d : Design) → IsLawfulDesign d → LeavesLaw d
leaves_law d lawful p c l = body_hits d c l (body_at d p) (lawful.bodies p)

pub right_law : (d : Design) → IsLawfulDesign d → RightLaw d
right_law d lawful p = body_right d (body_at d p) (lawful.bodies p) (lawful.well_formed p)
