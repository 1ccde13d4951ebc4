-- Each term that the run of a body evaluates is in its context.
use Rattle.std.proofs.Common.{Bool, List, [], ap, arith, inl, inr, max, refl, sym, subst, true, ℕ, ⊎_elim, ◌&&◌, ◌++◌, ◌∙◌, ◌∷◌, ◌≡◌, ◌≤◌, ◌⊎◌, nat_le, nat_lt, length}
use Rattle.std.proofs.lemmas.Bool.{and_parts}
use Rattle.body_calls.specs.design_model.Design.{Design, In, is_memory}
use Rattle.body_calls.specs.design_model.Tree.{Arms, Stmt, Stmts, Target, Targets, Term, Terms, a_stmt, a_target, a_term, all_of, arm, bits_of, block, branch, empty, no_arms, no_stmts, no_targets, no_terms, select, set, several, turns, word_of}
use Rattle.body_calls.specs.design_model.Assignment.{target_width}
use Rattle.body_calls.specs.design_model.Shape.{all_signed_of, are_bodies, are_shaped, are_targets, is_alone, is_arms, is_body, is_shaped, is_target, own_sign, own_width, widest, widest_of}
use Rattle.body_calls.specs.term_replay.Stands.{IsInContext}
use Rattle.body_calls.proofs.term_replay.Contexts.{alone}
use Rattle.scene_laws.specs.Contexts.{AreArms, AreLabels}
use Rattle.scene_laws.specs.Laws.{InContexts, all_indexes_of, all_run_terms, arms_run_terms, each_of, indexes_of, run_terms}

in_append : {A : Type 0} (x : A) (xs ys : List A) → In x (xs ++ ys) → In x xs ⊎ In x ys
in_append x [] ys h = inr h
in_append x (y ∷ xs) ys (inl e) = inl (inl e)
in_append x (y ∷ xs) ys (inr h) = ⊎_elim (λ z. inl (inr z)) (λ z. inr z) (in_append x xs ys h)

-- the widest of some terms is at least as wide as what it is compared with, and as each of them
pub widest_least : (d : Design) (w : ℕ) (ts : Terms) → w ≤ widest d w ts
widest_least d w no_terms = omega arith
widest_least d w (a_term t ts) =
    let rest : max w (own_width d t) ≤ widest d (max w (own_width d t)) ts = widest_least d (max w (own_width d t)) ts in
    omega (arith, rest)

pub widest_of_least : (d : Design) (w : ℕ) (arms : Arms) → w ≤ widest_of d w arms
widest_of_least d w no_arms = omega arith
widest_of_least d w (arm labels s arms) =
    let here : w ≤ widest d w labels = widest_least d w labels in
    let rest : widest d w labels ≤ widest_of d (widest d w labels) arms = widest_of_least d (widest d w labels) arms in
    omega (arith, here, rest)

module _ (d : Design) (w : ℕ) (s : Bool) where
  pub first_label : (t : Term) (ts : Terms) → AreLabels d w s (a_term t ts) → IsInContext d t
  first_label t ts h =
      let p = and_parts (is_shaped d w s t) (are_shaped d w s ts) h.shaped in
      let rest : max h.from (own_width d t) ≤ widest d (max h.from (own_width d t)) ts = widest_least d (max h.from (own_width d t)) ts in
      let all : widest d (max h.from (own_width d t)) ts ≤ w = h.narrow in
      record { width = w; signed = s; shaped = p.0; narrow = omega (arith, rest, all) }

  pub later_labels : (t : Term) (ts : Terms) → AreLabels d w s (a_term t ts) → AreLabels d w s ts
  later_labels t ts h =
      record { shaped = (and_parts (is_shaped d w s t) (are_shaped d w s ts) h.shaped).1; from = max h.from (own_width d t); narrow = h.narrow }

  labels_context : (ts : Terms) → AreLabels d w s ts → (t : Term) → In t (each_of ts) → IsInContext d t
  labels_context no_terms h t i = absurd i
  labels_context (a_term x ts) h t (inl e) = subst (IsInContext d) e (first_label x ts h)
  labels_context (a_term x ts) h t (inr i) = labels_context ts (later_labels x ts h) t i

module _ (d : Design) (w : ℕ) (s : Bool) where
  pub first_labels : (labels : Terms) (x : Stmt) (arms : Arms) → AreArms d w s (arm labels x arms) → AreLabels d w s labels
  first_labels labels x arms h =
      let p = and_parts (are_shaped d w s labels && is_body d x) (is_arms d w s arms) h.shaped in
      let rest : widest d h.from labels ≤ widest_of d (widest d h.from labels) arms = widest_of_least d (widest d h.from labels) arms in
      let all : widest_of d (widest d h.from labels) arms ≤ w = h.narrow in
      record { shaped = (and_parts (are_shaped d w s labels) (is_body d x) p.0).0; from = h.from; narrow = omega (arith, rest, all) }

  pub first_body : (labels : Terms) (x : Stmt) (arms : Arms) → is_arms d w s (arm labels x arms) ≡ true → is_body d x ≡ true
  first_body labels x arms h =
      let p = and_parts (are_shaped d w s labels && is_body d x) (is_arms d w s arms) h in
      (and_parts (are_shaped d w s labels) (is_body d x) p.0).1

  pub later_arms : (labels : Terms) (x : Stmt) (arms : Arms) → AreArms d w s (arm labels x arms) → AreArms d w s arms
  later_arms labels x arms h =
      record { shaped = (and_parts (are_shaped d w s labels && is_body d x) (is_arms d w s arms) h.shaped).1; from = widest d h.from labels; narrow = h.narrow }

module _ (d : Design) where
  -- the selector of a case
  pub in_select : (t : Term) (arms : Arms) → (is_shaped d (widest_of d (own_width d t) arms) (all_signed_of d (own_sign d t) arms) t && is_arms d (widest_of d (own_width d t) arms) (all_signed_of d (own_sign d t) arms) arms) ≡ true → IsInContext d t
  in_select t arms e =
      record {
        width = widest_of d (own_width d t) arms;
        signed = all_signed_of d (own_sign d t) arms;
        shaped = (and_parts (is_shaped d (widest_of d (own_width d t) arms) (all_signed_of d (own_sign d t) arms) t) _ e).0;
        narrow = widest_of_least d (own_width d t) arms;
      }

  -- its arms
  pub in_arms : (t : Term) (arms : Arms) → (is_shaped d (widest_of d (own_width d t) arms) (all_signed_of d (own_sign d t) arms) t && is_arms d (widest_of d (own_width d t) arms) (all_signed_of d (own_sign d t) arms) arms) ≡ true → AreArms d (widest_of d (own_width d t) arms) (all_signed_of d (own_sign d t) arms) arms
  in_arms t arms e =
      record {
        shaped = (and_parts (is_shaped d (widest_of d (own_width d t) arms) (all_signed_of d (own_sign d t) arms) t) _ e).1;
        from = own_width d t;
        narrow = omega arith;
      }

  -- the value of an assignment
  pub in_set : (x : Target) (t : Term) → (is_target d x && is_shaped d (max (target_width d x) (own_width d t)) (own_sign d t) t) ≡ true → IsInContext d t
  in_set x t e =
      record {
        width = max (target_width d x) (own_width d t);
        signed = own_sign d t;
        shaped = (and_parts (is_target d x) _ e).1;
        narrow = omega arith;
      }

  -- the indexes of a target
  mutual
    indexes_context : (x : Target) → is_target d x ≡ true → (t : Term) → In t (indexes_of x) → IsInContext d t
    indexes_context (all_of s) e t i = absurd i
    indexes_context (bits_of s low w) e t (inl q) =
        let p = and_parts (nat_lt s (length d.signals) && is_alone d low) (nat_le 1 w) e in
        subst (IsInContext d) q (alone d low (and_parts (nat_lt s (length d.signals)) (is_alone d low) p.0).1)
    indexes_context (bits_of s low w) e t (inr i) = absurd i
    indexes_context (word_of m i) e t (inl q) = subst (IsInContext d) q (alone d i (and_parts (is_memory d m) (is_alone d i) e).1)
    indexes_context (word_of m i) e t (inr j) = absurd j
    indexes_context (several ts) e t i = all_indexes_context ts e t i

    all_indexes_context : (ts : Targets) → are_targets d ts ≡ true → (t : Term) → In t (all_indexes_of ts) → IsInContext d t
    all_indexes_context no_targets e t i = absurd i
    all_indexes_context (a_target x ts) e t i =
        let p = and_parts (is_target d x) (are_targets d ts) e in
        ⊎_elim (indexes_context x p.0 t) (all_indexes_context ts p.1 t) (in_append t (indexes_of x) (all_indexes_of ts) i)

  mutual
    run_context : (s : Stmt) → is_body d s ≡ true → (t : Term) → In t (run_terms s) → IsInContext d t
    run_context (block p ss) e t i = all_run_context ss e t i
    run_context (branch p n c s other) e t (inl q) =
        let a = and_parts (is_alone d c && is_body d s) (are_bodies d other) e in
        subst (IsInContext d) q (alone d c (and_parts (is_alone d c) (is_body d s) a.0).0)
    run_context (branch p n c s other) e t (inr i) =
        let a = and_parts (is_alone d c && is_body d s) (are_bodies d other) e in
        ⊎_elim (run_context s (and_parts (is_alone d c) (is_body d s) a.0).1 t) (all_run_context other a.1 t) (in_append t (run_terms s) (all_run_terms other) i)
    run_context (select p n kind c arms) e t (inl q) = subst (IsInContext d) q (in_select c arms e)
    run_context (select p n kind c arms) e t (inr i) = arms_run_context arms (widest_of d (own_width d c) arms) (all_signed_of d (own_sign d c) arms) (in_arms c arms e) t i
    run_context (turns p n ss) e t i = all_run_context ss e t i
    run_context (set p n b x c) e t (inl q) = subst (IsInContext d) q (in_set x c e)
    run_context (set p n b x c) e t (inr i) = indexes_context x (and_parts (is_target d x) _ e).0 t i
    run_context (empty p) e t i = absurd i

    all_run_context : (ss : Stmts) → are_bodies d ss ≡ true → (t : Term) → In t (all_run_terms ss) → IsInContext d t
    all_run_context no_stmts e t i = absurd i
    all_run_context (a_stmt s ss) e t i =
        let a = and_parts (is_body d s) (are_bodies d ss) e in
        ⊎_elim (run_context s a.0 t) (all_run_context ss a.1 t) (in_append t (run_terms s) (all_run_terms ss) i)

    arms_run_context : (arms : Arms) (w : ℕ) (g : Bool) → AreArms d w g arms → (t : Term) → In t (arms_run_terms arms) → IsInContext d t
    arms_run_context no_arms w g e t i = absurd i
    arms_run_context (arm labels s arms) w g e t i =
        ⊎_elim (λ j. ⊎_elim (labels_context d w g labels (first_labels d w g labels s arms e) t) (run_context s (first_body d w g labels s arms e.shaped) t) (in_append t (each_of labels) (run_terms s) j))
        (arms_run_context arms w g (later_arms d w g labels s arms e) t)
        (in_append t (each_of labels ++ run_terms s) (arms_run_terms arms) i)

pub in_contexts : InContexts
in_contexts d s e t i = run_context d s e t i
