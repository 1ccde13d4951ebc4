-- What a text mentions and what it may write, whatever the values are.
use Rattle.std.specs.Prelude.{◌==◌, ◌&&◌, ◌||◌, ◌∷◌, ◌++◌, if◌then◌else◌, ℕ, Bool, true, false, not, List, [], length, nat_le, nat_lt}
use Rattle.std.specs.List.{list_any}
use Rattle.event_machine.specs.Cell.{Cell, Values, Write, same_cell}
use Rattle.four_state.specs.Vector.{fill}
use Rattle.four_state.specs.declared.bit.Bit.{Bit}
use Rattle.four_state.specs.declared.bit.Bit.TheVariants.{X}
use Rattle.design_model.specs.Tree.{Arms, Stmt, Stmts, Target, Targets, Term, Terms, a_stmt, a_target, a_term, all_of, arm, binary, bit, bits_of, block, branch, choice, concat, empty, no_arms, no_stmts, no_targets, no_terms, number, part, repeat, select, set, several, sign, signal, slide, turns, unary, word, word_of}
use Rattle.design_model.specs.Design.{Design, signal_at}
use Rattle.design_model.specs.Assignment.{target_width, target_writes}

-- a term mentions signal or memory x
abbrev mutual
  pub mentions : ℕ → Term → Bool
  mentions x (number h n) = false
  mentions x (signal h s) = s == x
  mentions x (word h m i) = (m == x) || mentions x i
  mentions x (bit h t i) = mentions x t || mentions x i
  mentions x (part h t i j) = mentions x t || (mentions x i || mentions x j)
  mentions x (slide h t b w up) = mentions x t || (mentions x b || mentions x w)
  mentions x (unary h op t) = mentions x t
  mentions x (binary h op t u) = mentions x t || mentions x u
  mentions x (choice h c t u) = mentions x c || (mentions x t || mentions x u)
  mentions x (concat h ts) = mentions_any x ts
  mentions x (repeat h n ts) = mentions x n || mentions_any x ts
  mentions x (sign h s t) = mentions x t

  pub mentions_any : ℕ → Terms → Bool
  mentions_any x no_terms = false
  mentions_any x (a_term t ts) = mentions x t || mentions_any x ts

-- a term mentions no signal and no memory
abbrev mutual
  pub is_constant : Term → Bool
  is_constant (number h n) = true
  is_constant (signal h s) = false
  is_constant (word h m i) = false
  is_constant (bit h t i) = is_constant t && is_constant i
  is_constant (part h t i j) = is_constant t && (is_constant i && is_constant j)
  is_constant (slide h t b w up) = is_constant t && (is_constant b && is_constant w)
  is_constant (unary h op t) = is_constant t
  is_constant (binary h op t u) = is_constant t && is_constant u
  is_constant (choice h c t u) = is_constant c && (is_constant t && is_constant u)
  is_constant (concat h ts) = are_constant ts
  is_constant (repeat h n ts) = is_constant n && are_constant ts
  is_constant (sign h s t) = is_constant t

  pub are_constant : Terms → Bool
  are_constant no_terms = true
  are_constant (a_term t ts) = is_constant t && are_constant ts

-- an index of the target mentions x
abbrev mutual
  pub index_mentions : ℕ → Target → Bool
  index_mentions x (all_of s) = false
  index_mentions x (bits_of s low w) = mentions x low
  index_mentions x (word_of m i) = mentions x i
  index_mentions x (several ts) = indexes_mention x ts

  pub indexes_mention : ℕ → Targets → Bool
  indexes_mention x no_targets = false
  indexes_mention x (a_target t ts) = index_mentions x t || indexes_mention x ts

-- a state without known values
abbrev pub blank : Values Bit
blank c = X

-- the list writes the cell
abbrev pub has_cell : List (Write Bit) → Cell → Bool
has_cell ws c = list_any (λ w. same_cell w.cell c) ws

-- the writes of a target whose indexes are constant; the values do not matter
abbrev pub static_writes : Design → Target → List (Write Bit)
static_writes d x = target_writes d blank x (fill (target_width d x) X)

-- a cell that an assignment to the target may write: of a part with an index that is not constant any bit, of a memory any word
abbrev mutual
  pub may_write : Design → Target → Cell → Bool
  may_write d (all_of s) c = (c.thing == s) && nat_lt c.place (signal_at d s).width
  may_write d (bits_of s low w) c = (c.thing == s) && (nat_lt c.place (signal_at d s).width && (not (is_constant low) || has_cell (static_writes d (bits_of s low w)) c))
  may_write d (word_of m i) c = (c.thing == m) && nat_le (length d.signals) m
  may_write d (several ts) c = some_may_write d ts c

  pub some_may_write : Design → Targets → Cell → Bool
  some_may_write d no_targets c = false
  some_may_write d (a_target t ts) c = may_write d t c || some_may_write d ts c

-- the writes of the parts of a target that are whole signals or constant parts
abbrev mutual
  pub sure_writes : Design → Target → List (Write Bit)
  sure_writes d (all_of s) = static_writes d (all_of s)
  sure_writes d (bits_of s low w) = if is_constant low then static_writes d (bits_of s low w) else []
  sure_writes d (word_of m i) = []
  sure_writes d (several ts) = all_sure_writes d ts

  pub all_sure_writes : Design → Targets → List (Write Bit)
  all_sure_writes d no_targets = []
  all_sure_writes d (a_target t ts) = sure_writes d t ++ all_sure_writes d ts

-- a test of every assignment of a body
abbrev mutual
  pub any_set : (Bool → Target → Term → Bool) → Stmt → Bool
  any_set f (block p ss) = any_set_of f ss
  any_set f (branch p n t s other) = any_set f s || any_set_of f other
  any_set f (select p n kind t arms) = any_set_in f arms
  any_set f (turns p n ss) = any_set_of f ss
  any_set f (set p n blocking x t) = f blocking x t
  any_set f (empty p) = false

  pub any_set_of : (Bool → Target → Term → Bool) → Stmts → Bool
  any_set_of f no_stmts = false
  any_set_of f (a_stmt s ss) = any_set f s || any_set_of f ss

  pub any_set_in : (Bool → Target → Term → Bool) → Arms → Bool
  any_set_in f no_arms = false
  any_set_in f (arm labels s arms) = any_set f s || any_set_in f arms

-- a body may write the cell by a blocking assignment
abbrev pub blocking_target : Design → Stmt → Cell → Bool
blocking_target d s c = any_set (λ blocking x t. blocking && may_write d x c) s

-- a body may write the cell by a nonblocking assignment
abbrev pub nonblocking_target : Design → Stmt → Cell → Bool
nonblocking_target d s c = any_set (λ blocking x t. not blocking && may_write d x c) s

-- a body mentions signal or memory x
abbrev mutual
  pub body_mentions : ℕ → Stmt → Bool
  body_mentions x (block p ss) = body_mentions_all x ss
  body_mentions x (branch p n t s other) = mentions x t || (body_mentions x s || body_mentions_all x other)
  body_mentions x (select p n kind t arms) = mentions x t || arms_mention x arms
  body_mentions x (turns p n ss) = body_mentions_all x ss
  body_mentions x (set p n blocking y t) = index_mentions x y || mentions x t
  body_mentions x (empty p) = false

  pub body_mentions_all : ℕ → Stmts → Bool
  body_mentions_all x no_stmts = false
  body_mentions_all x (a_stmt s ss) = body_mentions x s || body_mentions_all x ss

  pub arms_mention : ℕ → Arms → Bool
  arms_mention x no_arms = false
  arms_mention x (arm labels s arms) = mentions_any x labels || (body_mentions x s || arms_mention x arms)

-- the target names signal or memory x
abbrev mutual
  pub target_names : ℕ → Target → Bool
  target_names x (all_of s) = s == x
  target_names x (bits_of s low w) = s == x
  target_names x (word_of m i) = m == x
  target_names x (several ts) = some_target_names x ts

  pub some_target_names : ℕ → Targets → Bool
  some_target_names x no_targets = false
  some_target_names x (a_target t ts) = target_names x t || some_target_names x ts

-- the body assigns x
abbrev pub body_assigns : ℕ → Stmt → Bool
body_assigns x b = any_set (λ blocking y t. target_names x y) b

-- the body assigns x by a blocking assignment
abbrev pub body_blocks : ℕ → Stmt → Bool
body_blocks x b = any_set (λ blocking y t. blocking && target_names x y) b

-- the body assigns x by a nonblocking assignment
abbrev pub body_queues : ℕ → Stmt → Bool
body_queues x b = any_set (λ blocking y t. not blocking && target_names x y) b

-- a term and all terms in it
abbrev mutual
  pub subterms : Term → List Term
  subterms (number h n) = number h n ∷ []
  subterms (signal h s) = signal h s ∷ []
  subterms (word h m i) = word h m i ∷ subterms i
  subterms (bit h t i) = bit h t i ∷ subterms t ++ subterms i
  subterms (part h t i j) = part h t i j ∷ subterms t ++ subterms i ++ subterms j
  subterms (slide h t b w up) = slide h t b w up ∷ subterms t ++ subterms b ++ subterms w
  subterms (unary h op t) = unary h op t ∷ subterms t
  subterms (binary h op t u) = binary h op t u ∷ subterms t ++ subterms u
  subterms (choice h c t u) = choice h c t u ∷ subterms c ++ subterms t ++ subterms u
  subterms (concat h ts) = concat h ts ∷ all_subterms ts
  subterms (repeat h n ts) = repeat h n ts ∷ subterms n ++ all_subterms ts
  subterms (sign h s t) = sign h s t ∷ subterms t

  pub all_subterms : Terms → List Term
  all_subterms no_terms = []
  all_subterms (a_term t ts) = subterms t ++ all_subterms ts

-- the terms in the indexes of a target
abbrev mutual
  pub index_terms : Target → List Term
  index_terms (all_of s) = []
  index_terms (bits_of s low w) = subterms low
  index_terms (word_of m i) = subterms i
  index_terms (several ts) = all_index_terms ts

  pub all_index_terms : Targets → List Term
  all_index_terms no_targets = []
  all_index_terms (a_target t ts) = index_terms t ++ all_index_terms ts

-- the terms of a body, with loops unrolled
abbrev mutual
  pub body_terms : Stmt → List Term
  body_terms (block p ss) = all_body_terms ss
  body_terms (branch p n t s other) = subterms t ++ body_terms s ++ all_body_terms other
  body_terms (select p n kind t arms) = subterms t ++ arm_terms arms
  body_terms (turns p n ss) = all_body_terms ss
  body_terms (set p n blocking x t) = index_terms x ++ subterms t
  body_terms (empty p) = []

  pub all_body_terms : Stmts → List Term
  all_body_terms no_stmts = []
  all_body_terms (a_stmt s ss) = body_terms s ++ all_body_terms ss

  pub arm_terms : Arms → List Term
  arm_terms no_arms = []
  arm_terms (arm labels s arms) = all_subterms labels ++ body_terms s ++ arm_terms arms
