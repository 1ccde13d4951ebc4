-- What a text names is what it mentions.
use Rattle.std.proofs.Common.{◌≡◌, ◌∙◌, ℕ, Bool, true, false, ◌==◌, ◌||◌, if◌then◌else◌, List, [], ◌∷◌, ◌++◌, refl, sym, ap, ap₂}
use Rattle.std.specs.List.{list_any}
use Rattle.design_model.specs.Execution.{is_default}
use Rattle.design_model.specs.Mentions.{arms_mention, body_mentions, body_mentions_all, index_mentions, indexes_mention, mentions, mentions_any}
use Rattle.design_model.specs.Tree.{Arms, Process, Stmt, Stmts, Target, Targets, Term, Terms, a_stmt, a_target, a_term, all_of, arm, assign, binary, bit, bits_of, block, branch, choice, clocked, comb, concat, empty, no_arms, no_stmts, no_targets, no_terms, number, part, repeat, select, set, several, sign, signal, slide, turns, unary, word, word_of}
use Rattle.design_model.specs.Machine.{is_level}
use Rattle.process_names.specs.Names.{all_body_names, all_index_names, all_term_names, arm_names, body_names, default_names, index_names, level_names, term_names}

-- the number is in the list
abbrev has : ℕ → List ℕ → Bool
has x xs = list_any (λ y. y == x) xs

pub or_right_false : (b : Bool) → (b || false) ≡ b
or_right_false true = refl
or_right_false false = refl

or_assoc : (a b c : Bool) → ((a || b) || c) ≡ (a || (b || c))
or_assoc true b c = refl
or_assoc false b c = refl

or_swaps : (a b : Bool) → (b || a) ≡ (a || b)
or_swaps true true = refl
or_swaps true false = refl
or_swaps false true = refl
or_swaps false false = refl

-- of three, the last of which was named first
or_turns : (a b c : Bool) → ((b || c) || a) ≡ (a || (b || c))
or_turns a b c = or_swaps a (b || c)

pub has-append : (x : ℕ) (xs ys : List ℕ) → has x (xs ++ ys) ≡ (has x xs || has x ys)
has-append x [] ys = refl
has-append x (z ∷ xs) ys = ap (λ b. (z == x) || b) (has-append x xs ys) ∙ sym (or_assoc (z == x) (has x xs) (has x ys))

-- what two lists have, and what three have
two : (x : ℕ) (xs ys : List ℕ) (a b : Bool) → has x xs ≡ a → has x ys ≡ b → has x (xs ++ ys) ≡ (a || b)
two x xs ys a b p q = has-append x xs ys ∙ ap₂ (λ m n. m || n) p q

three : (x : ℕ) (xs ys zs : List ℕ) (a b c : Bool) → has x xs ≡ a → has x ys ≡ b → has x zs ≡ c → has x (xs ++ ys ++ zs) ≡ (a || (b || c))
three x xs ys zs a b c p q r = two x (xs ++ ys) zs (a || b) c (two x xs ys a b p q) r ∙ or_assoc a b c

-- the statement of an arm is with its labels, or after all arms
either_place : (x : ℕ) (d : Bool) (labels here arms later : List ℕ) (a b c : Bool) → has x labels ≡ a → has x here ≡ b → (has x arms || has x later) ≡ c
    → (has x (labels ++ (if d then [] else here) ++ arms) || has x ((if d then here else []) ++ later)) ≡ (a || (b || c))
either_place x true labels here arms later a b c p q r =
    ap₂ (λ m n. m || n) (three x labels [] arms a false (has x arms) p refl refl) (two x here later b (has x later) q refl) ∙ default_last a b (has x arms) (has x later) ∙ ap (λ m. a || (b || m)) r
  where
    default_last : (a b m n : Bool) → ((a || (false || m)) || (b || n)) ≡ (a || (b || (m || n)))
    default_last true b m n = refl
    default_last false true true n = refl
    default_last false true false n = refl
    default_last false false m n = refl
either_place x false labels here arms later a b c p q r =
    ap₂ (λ m n. m || n) (three x labels here arms a b (has x arms) p q refl) refl ∙ in_place a b (has x arms) (has x later) ∙ ap (λ m. a || (b || m)) r
  where
    in_place : (a b m n : Bool) → ((a || (b || m)) || n) ≡ (a || (b || (m || n)))
    in_place true b m n = refl
    in_place false true m n = refl
    in_place false false m n = refl

module _ (x : ℕ) where
  mutual
    pub term_is : (t : Term) → has x (term_names t) ≡ mentions x t
    term_is (number h n) = refl
    term_is (signal h s) = or_right_false (s == x)
    term_is (word h m i) = two x (term_names i) (m ∷ []) _ _ (term_is i) (or_right_false (m == x)) ∙ or_swaps (m == x) (mentions x i)
    term_is (bit h t i) = two x (term_names i) (term_names t) _ _ (term_is i) (term_is t) ∙ or_swaps (mentions x t) (mentions x i)
    term_is (part h t i j) = two x (term_names i ++ term_names j) (term_names t) _ _ (two x (term_names i) (term_names j) _ _ (term_is i) (term_is j)) (term_is t) ∙ or_turns (mentions x t) (mentions x i) (mentions x j)
    term_is (slide h t b w up) = two x (term_names b ++ term_names w) (term_names t) _ _ (two x (term_names b) (term_names w) _ _ (term_is b) (term_is w)) (term_is t) ∙ or_turns (mentions x t) (mentions x b) (mentions x w)
    term_is (unary h op t) = term_is t
    term_is (binary h op t u) = two x (term_names t) (term_names u) _ _ (term_is t) (term_is u)
    term_is (choice h c t u) = three x (term_names c) (term_names t) (term_names u) _ _ _ (term_is c) (term_is t) (term_is u)
    term_is (concat h ts) = terms_are ts
    term_is (repeat h n ts) = two x (term_names n) (all_term_names ts) _ _ (term_is n) (terms_are ts)
    term_is (sign h s t) = term_is t

    terms_are : (ts : Terms) → has x (all_term_names ts) ≡ mentions_any x ts
    terms_are no_terms = refl
    terms_are (a_term t ts) = two x (term_names t) (all_term_names ts) _ _ (term_is t) (terms_are ts)

  mutual
    index_is : (y : Target) → has x (index_names y) ≡ index_mentions x y
    index_is (all_of s) = refl
    index_is (bits_of s low w) = term_is low
    index_is (word_of m i) = term_is i
    index_is (several ts) = indexes_are ts

    indexes_are : (ts : Targets) → has x (all_index_names ts) ≡ indexes_mention x ts
    indexes_are no_targets = refl
    indexes_are (a_target t ts) = two x (index_names t) (all_index_names ts) _ _ (index_is t) (indexes_are ts)

  mutual
    pub body_is : (s : Stmt) → has x (body_names s) ≡ body_mentions x s
    body_is (block p ss) = bodies_are ss
    body_is (branch p n t s other) = three x (term_names t) (body_names s) (all_body_names other) _ _ _ (term_is t) (body_is s) (bodies_are other)
    body_is (select p n kind t arms) =
        three x (term_names t) (arm_names arms) (default_names arms) _ _ _ (term_is t) refl refl ∙ ap (λ b. mentions x t || b) (arms_are arms)
    body_is (turns p n ss) = bodies_are ss
    body_is (set p n blocking y t) = two x (index_names y) (term_names t) _ _ (index_is y) (term_is t)
    body_is (empty p) = refl

    bodies_are : (ss : Stmts) → has x (all_body_names ss) ≡ body_mentions_all x ss
    bodies_are no_stmts = refl
    bodies_are (a_stmt s ss) = two x (body_names s) (all_body_names ss) _ _ (body_is s) (bodies_are ss)

    arms_are : (arms : Arms) → (has x (arm_names arms) || has x (default_names arms)) ≡ arms_mention x arms
    arms_are no_arms = refl
    arms_are (arm labels s arms) =
        either_place x (is_default labels) (all_term_names labels) (body_names s) (arm_names arms) (default_names arms) _ _ _ (terms_are labels) (body_is s) (arms_are arms)

  -- what wakes a process at each change is what it mentions or lists
  pub level_is : (p : Process) → list_any (λ y. y == x) (level_names p) ≡ is_level p x
  level_is (assign i y t counted) = two x (index_names y) (term_names t) _ _ (index_is y) (term_is t)
  level_is (comb i wakes s) = has-append x (body_names s) wakes ∙ ap (λ b. b || has x wakes) (body_is s)
  level_is (clocked i events s) = refl
