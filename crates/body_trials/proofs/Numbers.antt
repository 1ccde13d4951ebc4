-- What a body of a design assigns are signals and memories of the design.
use Rattle.std.proofs.Common.{◌≡◌, ◌<◌, ⊎_elim, ℕ, ◌+◌, Bool, true, ◌&&◌, length, arith}
use Rattle.std.specs.Prelude.{nat_le, nat_lt}
use Rattle.std.proofs.lemmas.Bool.{and_parts, eqb-true, false≢true, ltb-true, or_cases}
use Rattle.std.proofs.lemmas.Bool.Decides.{nat_tests}
use Rattle.design_model.specs.Tree.{Arms, Stmt, Stmts, Target, Targets, Term, a_stmt, a_target, all_of, arm, bits_of, block, branch, empty, no_arms, no_stmts, no_targets, select, set, several, turns, word_of}
use Rattle.design_model.specs.Design.{Design, is_memory, is_number}
use Rattle.design_model.specs.Mentions.{any_set, any_set_in, any_set_of, body_assigns, some_target_names, target_names}
use Rattle.design_model.specs.Shape.{are_bodies, are_targets, is_alone, is_arms, is_body, is_target}

-- a test of the number of the design's things
pub counts : (d : Design) (x : ℕ) → x < length d.signals + length d.memories → is_number d x ≡ true
counts d x l = grind (arith, nat_tests, l)

module _ (d : Design) (x : ℕ) where
  mutual
    named : (t : Target) → is_target d t ≡ true → target_names x t ≡ true → is_number d x ≡ true
    named (all_of s) h e = counts d x (omega (arith, ltb-true s (length d.signals) h, eqb-true s x e))
    named (bits_of s low w) h e = counts d x (omega (arith, ltb-true s (length d.signals) (and_parts (nat_lt s (length d.signals)) _ (and_parts (nat_lt s (length d.signals) && is_alone d low) _ h).0).0, eqb-true s x e))
    named (word_of m i) h e = counts d x (omega (arith, ltb-true m (length d.signals + length d.memories) (and_parts (nat_le (length d.signals) m) _ (and_parts (is_memory d m) _ h).0).1, eqb-true m x e))
    named (several ts) h e = some_named ts h e

    some_named : (ts : Targets) → are_targets d ts ≡ true → some_target_names x ts ≡ true → is_number d x ≡ true
    some_named no_targets h e = absurd (false≢true e)
    some_named (a_target t ts) h e =
        let p = and_parts (is_target d t) _ h in
        ⊎_elim (named t p.0) (some_named ts p.1) (or_cases (target_names x t) _ e)

  mutual
    assigned : (s : Stmt) → is_body d s ≡ true → any_set (λ b y t. target_names x y) s ≡ true → is_number d x ≡ true
    assigned (block p ss) h e = all_assigned ss h e
    assigned (branch p n t s other) h e =
        let a = and_parts (is_alone d t && is_body d s) (are_bodies d other) h in
        ⊎_elim (assigned s (and_parts _ (is_body d s) a.0).1) (all_assigned other a.1) (or_cases (any_set (λ b y t. target_names x y) s) _ e)
    assigned (select p n kind t arms) h e = arms_assigned _ _ arms (and_parts _ (is_arms d _ _ arms) h).1 e
    assigned (turns p n ss) h e = all_assigned ss h e
    assigned (set p n b y t) h e = named y (and_parts (is_target d y) _ h).0 e
    assigned (empty p) h e = absurd (false≢true e)

    all_assigned : (ss : Stmts) → are_bodies d ss ≡ true → any_set_of (λ b y t. target_names x y) ss ≡ true → is_number d x ≡ true
    all_assigned no_stmts h e = absurd (false≢true e)
    all_assigned (a_stmt s ss) h e =
        let a = and_parts (is_body d s) _ h in
        ⊎_elim (assigned s a.0) (all_assigned ss a.1) (or_cases (any_set (λ b y t. target_names x y) s) _ e)

    arms_assigned : (w : ℕ) (signed : Bool) (arms : Arms) → is_arms d w signed arms ≡ true → any_set_in (λ b y t. target_names x y) arms ≡ true → is_number d x ≡ true
    arms_assigned w signed no_arms h e = absurd (false≢true e)
    arms_assigned w signed (arm labels s arms) h e =
        let a = and_parts (_ && is_body d s) (is_arms d w signed arms) h in
        ⊎_elim (assigned s (and_parts _ (is_body d s) a.0).1) (arms_assigned w signed arms a.1) (or_cases (any_set (λ b y t. target_names x y) s) _ e)

-- what the body of a design assigns is a signal or memory of it
pub assigned_number : (d : Design) (s : Stmt) (x : ℕ) → is_body d s ≡ true → body_assigns x s ≡ true → is_number d x ≡ true
assigned_number d s x h e = assigned d x s h e
