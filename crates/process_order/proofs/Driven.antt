-- What an Assign or Comb assigns, as a list and as a test.
use Rattle.std.proofs.Common.{◌≡◌, ◌∙◌, ℕ, Bool, true, false, not, ◌==◌, ◌&&◌, ◌||◌, List, [], ◌++◌, refl, sym, ap, ap₂}
use Rattle.std.specs.List.{list_any}
use Rattle.design_model.specs.Design.{IsClocked, body}
use Rattle.design_model.specs.Mentions.{any_set, any_set_in, any_set_of, body_assigns, target_names as names}
use Rattle.design_model.specs.Tree.{Arms, Process, Stmt, Stmts, Target, Term, a_stmt, arm, assign, block, branch, clocked, comb, empty, no_arms, no_stmts, select, set, turns}
use Rattle.design_wakes.specs.process_names.Assigned.{assigned}
use Rattle.design_wakes.proofs.process_names.AssignedLaw.{blocks_is, queues_is}
use Rattle.design_wakes.proofs.process_names.NamesLaw.{has-append}
use Rattle.process_order.specs.Names.{driven_names, is_clocked}

abbrev has : ℕ → List ℕ → Bool
has x xs = list_any (λ y. y == x) xs

exchange : (a b c d : Bool) → ((a || b) || (c || d)) ≡ ((a || c) || (b || d))
exchange true b c d = refl
exchange false true true d = refl
exchange false true false d = refl
exchange false false true d = refl
exchange false false false d = refl

either_kind : (k n : Bool) → ((k && n) || (not k && n)) ≡ n
either_kind true true = refl
either_kind true false = refl
either_kind false true = refl
either_kind false false = refl

module _ (x : ℕ) where
  abbrev of_kind : Bool → Bool → Target → Term → Bool
  of_kind true k y t = k && names x y
  of_kind false k y t = not k && names x y

  abbrev of_any : Bool → Target → Term → Bool
  of_any k y t = names x y

  mutual
    kinds : (s : Stmt) → (any_set (of_kind true) s || any_set (of_kind false) s) ≡ any_set of_any s
    kinds (block p ss) = kinds_all ss
    kinds (branch p n t s other) =
        exchange (any_set (of_kind true) s) (any_set_of (of_kind true) other) (any_set (of_kind false) s) (any_set_of (of_kind false) other) ∙ ap₂ (λ a b. a || b) (kinds s) (kinds_all other)
    kinds (select p n kind t arms) = kinds_in arms
    kinds (turns p n ss) = kinds_all ss
    kinds (set p n k y t) = either_kind k (names x y)
    kinds (empty p) = refl

    kinds_all : (ss : Stmts) → (any_set_of (of_kind true) ss || any_set_of (of_kind false) ss) ≡ any_set_of of_any ss
    kinds_all no_stmts = refl
    kinds_all (a_stmt s ss) =
        exchange (any_set (of_kind true) s) (any_set_of (of_kind true) ss) (any_set (of_kind false) s) (any_set_of (of_kind false) ss) ∙ ap₂ (λ a b. a || b) (kinds s) (kinds_all ss)

    kinds_in : (arms : Arms) → (any_set_in (of_kind true) arms || any_set_in (of_kind false) arms) ≡ any_set_in of_any arms
    kinds_in no_arms = refl
    kinds_in (arm labels s arms) =
        exchange (any_set (of_kind true) s) (any_set_in (of_kind true) arms) (any_set (of_kind false) s) (any_set_in (of_kind false) arms) ∙ ap₂ (λ a b. a || b) (kinds s) (kinds_in arms)

  assigns : (s : Stmt) → has x (assigned true s ++ assigned false s) ≡ body_assigns x s
  assigns s = has-append x (assigned true s) (assigned false s) ∙ ap₂ (λ a b. a || b) (blocks_is x s) (queues_is x s) ∙ kinds s

  -- the list of a process that is no Clocked
  pub driven_is : (p : Process) → is_clocked p ≡ false → has x (driven_names p) ≡ body_assigns x (body p)
  driven_is (assign i y t counted) e = assigns (body (assign i y t counted))
  driven_is (comb i wakes s) e = assigns s
  driven_is (clocked i events s) e = cc

-- a Clocked drives no names
pub clocked_drives_none : (p : Process) → is_clocked p ≡ true → driven_names p ≡ []
clocked_drives_none (assign i y t counted) e = cc
clocked_drives_none (comb i wakes s) e = cc
clocked_drives_none (clocked i events s) e = refl

-- the test and the fact
pub clocked_is : (p : Process) → is_clocked p ≡ true → IsClocked p
clocked_is (assign i y t counted) e = cc
clocked_is (comb i wakes s) e = cc
clocked_is (clocked i events s) e = tt

pub is_clocked_from : (p : Process) → IsClocked p → is_clocked p ≡ true
is_clocked_from (assign i y t counted) h = absurd h
is_clocked_from (comb i wakes s) h = absurd h
is_clocked_from (clocked i events s) h = refl

pub not_clocked_from : (p : Process) → (IsClocked p → ⊥) → is_clocked p ≡ false
not_clocked_from (assign i y t counted) h = refl
not_clocked_from (comb i wakes s) h = refl
not_clocked_from (clocked i events s) h = absurd (h tt)

pub not_clocked : (p : Process) → is_clocked p ≡ false → IsClocked p → ⊥
not_clocked (assign i y t counted) e h = h
not_clocked (comb i wakes s) e h = h
not_clocked (clocked i events s) e h = cc
