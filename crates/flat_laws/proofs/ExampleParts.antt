-- Short forms for the texts and designs of the examples, and what the examples compare of processes.
use Rattle.std.specs.Prelude.{ℕ, ◌==◌, nat_lt, Bool, not, ◌&&◌, ◌||◌, List, [], ◌∷◌, ◌++◌, length, map, flat_map}
use Rattle.std.specs.List.{list_all, list_any, range_with_len}
use Rattle.cov_host.specs.declared.place.Place.{Place}
use Rattle.event_machine.specs.Cell.{Cell}
use Rattle.four_state.specs.Arithmetic.{low_bits}
use Rattle.four_state.specs.Vector.{Vector}
use Rattle.four_state.specs.declared.bit.Bit.{Bit}
use Rattle.four_state.specs.declared.edge.Edge.{Edge}
use Rattle.design_model.specs.Design.{Design, body, is_assign, signal_at, signal_cells}
use Rattle.design_model.specs.Lawful.{instance_of, is_memory_of, is_signal, may_read, target_once}
use Rattle.design_model.specs.Machine.{events_of}
use Rattle.design_model.specs.Mentions.{any_set, body_assigns, may_write}
use Rattle.design_model.specs.Numbered.{nodes_of}
use Rattle.design_model.specs.Shape.{is_body}
use Rattle.design_model.specs.Tree as t
use Rattle.design_model.specs.Tree.{Head, Term, Terms, Stmt, Stmts, Arms, Process}
use Rattle.elab_const.specs.declared.width.Shape.{Shape}
use Rattle.elab_const.specs.Meaning.{shape_as}

-- in the first source
abbrev pub at : ℕ → ℕ → Place
at l c = record { source = 1; line = l; column = c }

abbrev pub known : ℕ → ℕ → Bool → Vector
known w n s = record { bits = low_bits w n; signed = s }

abbrev pub vector : List Bit → Bool → Vector
vector bs s = record { bits = bs; signed = s }

-- a counted node by its number and place
abbrev pub node_at : ℕ → Place → ℕ × Place
node_at n p = (n, p)

abbrev pub process_nodes : Process → List (ℕ × Place)
process_nodes p = map (λ x. node_at x.node x.place) (nodes_of p)

abbrev pub head_shape : Head → Shape
head_shape h = shape_as h.width h.signed

abbrev mutual
  pub term_shapes : Term → List Shape
  term_shapes (t.number h v) = head_shape h ∷ []
  term_shapes (t.signal h s) = head_shape h ∷ []
  term_shapes (t.word h m i) = head_shape h ∷ term_shapes i
  term_shapes (t.bit h of i) = head_shape h ∷ term_shapes of ++ term_shapes i
  term_shapes (t.part h of i j) = head_shape h ∷ term_shapes of
  term_shapes (t.slide h of b w up) = head_shape h ∷ term_shapes of ++ term_shapes b
  term_shapes (t.unary h op a) = head_shape h ∷ term_shapes a
  term_shapes (t.binary h op a b) = head_shape h ∷ term_shapes a ++ term_shapes b
  term_shapes (t.choice h c a b) = head_shape h ∷ term_shapes c ++ term_shapes a ++ term_shapes b
  term_shapes (t.concat h ts) = head_shape h ∷ all_term_shapes ts
  term_shapes (t.repeat h k ts) = head_shape h ∷ all_term_shapes ts
  term_shapes (t.sign h s a) = head_shape h ∷ term_shapes a

  pub all_term_shapes : Terms → List Shape
  all_term_shapes t.no_terms = []
  all_term_shapes (t.a_term x xs) = term_shapes x ++ all_term_shapes xs

abbrev mutual
  pub stmt_shapes : Stmt → List Shape
  stmt_shapes (t.block p ss) = all_stmt_shapes ss
  stmt_shapes (t.branch p n c s other) = term_shapes c ++ stmt_shapes s ++ all_stmt_shapes other
  stmt_shapes (t.select p n kind e arms) = term_shapes e ++ arm_shapes arms
  stmt_shapes (t.turns p n ss) = all_stmt_shapes ss
  stmt_shapes (t.set p n blocking x v) = term_shapes v
  stmt_shapes (t.empty p) = []

  pub all_stmt_shapes : Stmts → List Shape
  all_stmt_shapes t.no_stmts = []
  all_stmt_shapes (t.a_stmt s ss) = stmt_shapes s ++ all_stmt_shapes ss

  pub arm_shapes : Arms → List Shape
  arm_shapes t.no_arms = []
  arm_shapes (t.arm labels s is) = all_term_shapes labels ++ stmt_shapes s ++ arm_shapes is

abbrev pub process_shapes : Process → List Shape
process_shapes (t.assign i x v counted) = term_shapes v
process_shapes (t.comb i ws s) = stmt_shapes s
process_shapes (t.clocked i es s) = stmt_shapes s

pub data ProcessHead : Type 0 where
  an_assign : ℕ → Bool → ProcessHead
  a_comb : ℕ → List ℕ → ProcessHead
  a_clocked : ℕ → List (Edge × ℕ) → ProcessHead

abbrev pub process_head : Process → ProcessHead
process_head (t.assign i x v counted) = an_assign i counted
process_head (t.comb i ws s) = a_comb i ws
process_head (t.clocked i es s) = a_clocked i es

-- the bits of all signals
abbrev pub all_cells : Design → List Cell
all_cells d = flat_map (signal_cells d) (range_with_len 0 (length d.signals))

abbrev pub writes_no_input : Design → Process → Bool
writes_no_input d p = list_all (λ s. not (body_assigns s (body p)) || not (signal_at d s).input) (range_with_len 0 (length d.signals))

abbrev pub reads_no_own : Design → Process → Bool
reads_no_own d p = not (is_assign p) || not (list_any (λ c. any_set (λ b x t. may_write d x c && may_read d t c) (body p)) (all_cells d))

abbrev pub has_bit_events : Design → Process → Bool
has_bit_events d p = list_all (λ e. nat_lt e.1 (length d.signals) && ((signal_at d e.1).width == 1)) (events_of p)

abbrev pub keeps_laws : Design → Bool
keeps_laws d =
    list_all (is_signal d) d.signals && list_all (is_memory_of d) d.memories && list_all (λ p. nat_lt (instance_of p) (length d.instances)) d.processes && list_all (λ p. is_body d (body p) && target_once p d && writes_no_input d p && reads_no_own d p && has_bit_events d p) d.processes
