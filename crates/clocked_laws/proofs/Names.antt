-- What a body assigns is of the design.
use Rattle.std.proofs.Common.{◌≡◌, ℕ, true, length, subst, arith, ⊎_elim}
use Rattle.std.specs.Prelude.{◌==◌, Bool, nat_le, nat_lt}
use Rattle.std.proofs.lemmas.Bool.{and_parts, eqb-true, false≢true, or_cases}
use Rattle.std.proofs.lemmas.Bool.Decides.{nat_tests}
use Rattle.design_model.specs.Design.{Design, body_at, is_memory, is_number}
use Rattle.design_model.specs.Mentions.{any_set, any_set_in, any_set_of, some_target_names, target_names}
use Rattle.design_model.specs.Shape.{are_bodies, are_targets, is_arms, is_body, is_target}
use Rattle.design_model.specs.Tree.{Arms, Stmt, Stmts, Target, Targets, a_stmt, a_target, all_of, arm, bits_of, block, branch, empty, no_arms, no_stmts, no_targets, select, set, several, turns, word_of}
use Rattle.clocked_laws.specs.Laws.{NumbersLaw}

module _ (d : Design) (y : ℕ) where
  a_signal : (s : ℕ) → nat_lt s (length d.signals) ≡ true → (s == y) ≡ true → is_number d y ≡ true
  a_signal s is e = subst (λ z. is_number d z ≡ true) (eqb-true s y e) (grind (arith, nat_tests, is))

  a_memory : (m : ℕ) → is_memory d m ≡ true → (m == y) ≡ true → is_number d y ≡ true
  a_memory m is e = subst (λ z. is_number d z ≡ true) (eqb-true m y e) (and_parts (nat_le (length d.signals) m) _ is).1

  mutual
    named : (t : Target) → is_target d t ≡ true → target_names y t ≡ true → is_number d y ≡ true
    named (all_of s) is e = a_signal s is e
    named (bits_of s low w) is e = a_signal s (and_parts (nat_lt s (length d.signals)) _ (and_parts _ (nat_le 1 w) is).0).0 e
    named (word_of m i) is e = a_memory m (and_parts (is_memory d m) _ is).0 e
    named (several ts) is e = some_named ts is e

    some_named : (ts : Targets) → are_targets d ts ≡ true → some_target_names y ts ≡ true → is_number d y ≡ true
    some_named no_targets is e = absurd (false≢true e)
    some_named (a_target t ts) is e =
        let both = and_parts (is_target d t) (are_targets d ts) is in
        ⊎_elim (named t both.0) (some_named ts both.1) (or_cases (target_names y t) _ e)

  mutual
    assigned : (s : Stmt) → is_body d s ≡ true → any_set (λ k x t. target_names y x) s ≡ true → is_number d y ≡ true
    assigned (block p ss) is e = all_assigned ss is e
    assigned (branch p n t s other) is e =
        let all = and_parts _ (are_bodies d other) is in
        ⊎_elim (assigned s (and_parts _ (is_body d s) all.0).1) (all_assigned other all.1) (or_cases (any_set (λ k x v. target_names y x) s) _ e)
    assigned (select p n kind t arms) is e = arms_assigned _ _ arms (and_parts _ _ is).1 e
    assigned (turns p n ss) is e = all_assigned ss is e
    assigned (set p n blocking x t) is e = named x (and_parts (is_target d x) _ is).0 e
    assigned (empty p) is e = absurd (false≢true e)

    all_assigned : (ss : Stmts) → are_bodies d ss ≡ true → any_set_of (λ k x t. target_names y x) ss ≡ true → is_number d y ≡ true
    all_assigned no_stmts is e = absurd (false≢true e)
    all_assigned (a_stmt s ss) is e =
        let both = and_parts (is_body d s) (are_bodies d ss) is in
        ⊎_elim (assigned s both.0) (all_assigned ss both.1) (or_cases (any_set (λ k x t. target_names y x) s) _ e)

    arms_assigned : (w : ℕ) (signed : Bool) (arms : Arms) → is_arms d w signed arms ≡ true → any_set_in (λ k x t. target_names y x) arms ≡ true → is_number d y ≡ true
    arms_assigned w signed no_arms is e = absurd (false≢true e)
    arms_assigned w signed (arm labels s arms) is e =
        let all = and_parts _ (is_arms d w signed arms) is in
        ⊎_elim (assigned s (and_parts _ (is_body d s) all.0).1) (arms_assigned w signed arms all.1) (or_cases (any_set (λ k x t. target_names y x) s) _ e)

pub numbers_law : NumbersLaw
numbers_law d lawful p x e = assigned d x (body_at d p) (lawful.bodies p) e
