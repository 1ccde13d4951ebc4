-- The width and sign of each term, by its context (IEEE 1364-2001, 4.4 and 4.5).
use Rattle.std.specs.Prelude.{◌+◌, ◌*◌, ◌==◌, ◌&&◌, if◌then◌else◌, ℕ, Bool, true, false, not, length, max, nat_le, nat_lt}
use Rattle.four_state.specs.Arithmetic.{natural}
use Rattle.four_state.specs.declared.operator.Binary.{Binary}
use Rattle.four_state.specs.declared.operator.Binary.TheVariants.{Add, ArithmeticShiftLeft, ArithmeticShiftRight, BitwiseAnd, BitwiseNxor, BitwiseOr, BitwiseXnor, BitwiseXor, Divide, Modulus, Multiply, ShiftLeft, ShiftRight, Subtract}
use Rattle.four_state.specs.declared.operator.Unary.{Unary}
use Rattle.four_state.specs.declared.operator.Unary.TheVariants.{BitwiseNot, Negative, Positive}
use Rattle.design_model.specs.Tree.{Arms, Head, Stmt, Stmts, Target, Targets, Term, Terms, a_stmt, a_target, a_term, all_of, arm, binary, bit, bits_of, block, branch, choice, concat, empty, no_arms, no_stmts, no_targets, no_terms, number, part, repeat, select, set, several, sign, signal, slide, turns, unary, word, word_of}
use Rattle.design_model.specs.Design.{Design, is_memory, memory_at, signal_at}
use Rattle.design_model.specs.Value.{part_width, value}
use Rattle.design_model.specs.Assignment.{target_width}
use Rattle.design_model.specs.Mentions.{blank, is_constant}

-- whether two flags are equal
abbrev pub same_bool : Bool → Bool → Bool
same_bool true b = b
same_bool false b = not b

-- the operands have the width and sign of the context
abbrev pub is_wide_unary : Unary → Bool
is_wide_unary Positive = true
is_wide_unary Negative = true
is_wide_unary BitwiseNot = true
is_wide_unary _ = false

-- both operands have the width and sign of the context
abbrev pub is_wide_binary : Binary → Bool
is_wide_binary Multiply = true
is_wide_binary Divide = true
is_wide_binary Modulus = true
is_wide_binary Add = true
is_wide_binary Subtract = true
is_wide_binary BitwiseAnd = true
is_wide_binary BitwiseXor = true
is_wide_binary BitwiseXnor = true
is_wide_binary BitwiseNxor = true
is_wide_binary BitwiseOr = true
is_wide_binary _ = false

-- the operator shifts
abbrev pub is_shift : Binary → Bool
is_shift ShiftLeft = true
is_shift ShiftRight = true
is_shift ArithmeticShiftLeft = true
is_shift ArithmeticShiftRight = true
is_shift _ = false

-- the operator takes truths
abbrev pub is_logic : Binary → Bool
is_logic Binary.LogicalAnd = true
is_logic Binary.LogicalOr = true
is_logic _ = false

-- the width that a term has alone
abbrev mutual
  pub own_width : Design → Term → ℕ
  own_width d (number h n) = length n.bits
  own_width d (signal h s) = (signal_at d s).width
  own_width d (word h m i) = (memory_at d m).width
  own_width d (bit h t i) = 1
  own_width d (part h t i j) = part_width (value d blank i) (value d blank j)
  own_width d (slide h t b w up) = natural (value d blank w)
  own_width d (unary h op t) = if is_wide_unary op then own_width d t else 1
  own_width d (binary h op t u) = if is_wide_binary op then max (own_width d t) (own_width d u) else (if is_shift op then own_width d t else 1)
  own_width d (choice h c t u) = max (own_width d t) (own_width d u)
  own_width d (concat h ts) = own_widths d ts
  own_width d (repeat h n ts) = natural (value d blank n) * own_widths d ts
  own_width d (sign h s t) = own_width d t

  pub own_widths : Design → Terms → ℕ
  own_widths d no_terms = 0
  own_widths d (a_term t ts) = own_width d t + own_widths d ts

-- the sign that a term has alone
abbrev pub own_sign : Design → Term → Bool
own_sign d (number h n) = n.signed
own_sign d (signal h s) = (signal_at d s).signed
own_sign d (word h m i) = (memory_at d m).signed
own_sign d (unary h op t) = is_wide_unary op && own_sign d t
own_sign d (binary h op t u) = if is_wide_binary op then own_sign d t && own_sign d u else (is_shift op && own_sign d t)
own_sign d (choice h c t u) = own_sign d t && own_sign d u
own_sign d (sign h s t) = s
own_sign d _ = false

-- a width from 1 to 128, and a sign
abbrev pub has_shape : ℕ → Bool → Head → Bool
has_shape w s h = (h.width == w) && (same_bool h.signed s && (nat_le 1 w && nat_le w 128))

-- the term has the width and sign that this context gives to it and to the terms in it, and its numbers name things of the design
abbrev mutual
  pub is_shaped : Design → ℕ → Bool → Term → Bool
  is_shaped d w s (number h n) = has_shape w s h
  is_shaped d w s (signal h x) = has_shape w s h && nat_lt x (length d.signals)
  is_shaped d w s (word h m i) = has_shape w s h && is_memory d m && is_shaped d (own_width d i) (own_sign d i) i
  is_shaped d w s (bit h t i) = has_shape w s h && is_shaped d (own_width d t) (own_sign d t) t && is_shaped d (own_width d i) (own_sign d i) i
  is_shaped d w s (part h t i j) = has_shape w s h && is_shaped d (own_width d t) (own_sign d t) t && is_shaped d (own_width d i) (own_sign d i) i && is_shaped d (own_width d j) (own_sign d j) j && is_constant i && is_constant j
  is_shaped d w s (slide h t b k up) = has_shape w s h && is_shaped d (own_width d t) (own_sign d t) t && is_shaped d (own_width d b) (own_sign d b) b && is_shaped d (own_width d k) (own_sign d k) k && is_constant k
  is_shaped d w s (unary h op t) = has_shape w s h && (if is_wide_unary op then is_shaped d w s t else is_shaped d (own_width d t) (own_sign d t) t)
  is_shaped d w s (binary h op t u) =
      has_shape w s h && (if is_wide_binary op then is_shaped d w s t && is_shaped d w s u else (if is_shift op then is_shaped d w s t && is_shaped d (own_width d u) (own_sign d u) u else (if is_logic op then is_shaped d (own_width d t) (own_sign d t) t && is_shaped d (own_width d u) (own_sign d u) u else is_shaped d (max (own_width d t) (own_width d u)) (own_sign d t && own_sign d u) t && is_shaped d (max (own_width d t) (own_width d u)) (own_sign d t && own_sign d u) u)))
  is_shaped d w s (choice h c t u) = has_shape w s h && is_shaped d (own_width d c) (own_sign d c) c && is_shaped d w s t && is_shaped d w s u
  is_shaped d w s (concat h ts) = has_shape w s h && are_alone d ts
  is_shaped d w s (repeat h n ts) = has_shape w s h && is_shaped d (own_width d n) (own_sign d n) n && is_constant n && are_alone d ts
  is_shaped d w s (sign h x t) = has_shape w s h && is_shaped d (own_width d t) (own_sign d t) t

  pub are_alone : Design → Terms → Bool
  are_alone d no_terms = true
  are_alone d (a_term t ts) = is_shaped d (own_width d t) (own_sign d t) t && are_alone d ts

-- the term has a context of its own
abbrev pub is_alone : Design → Term → Bool
is_alone d t = is_shaped d (own_width d t) (own_sign d t) t

-- the target names signals and memories of the design, and its indexes have their shapes
abbrev mutual
  pub is_target : Design → Target → Bool
  is_target d (all_of s) = nat_lt s (length d.signals)
  is_target d (bits_of s low w) = nat_lt s (length d.signals) && is_alone d low && nat_le 1 w
  is_target d (word_of m i) = is_memory d m && is_alone d i
  is_target d (several ts) = are_targets d ts

  pub are_targets : Design → Targets → Bool
  are_targets d no_targets = true
  are_targets d (a_target t ts) = is_target d t && are_targets d ts

-- the greatest width of a selector and its labels, and whether all are signed
abbrev pub widest : Design → ℕ → Terms → ℕ
widest d w no_terms = w
widest d w (a_term t ts) = widest d (max w (own_width d t)) ts

-- whether a selector and these labels are all signed
abbrev pub all_signed : Design → Bool → Terms → Bool
all_signed d s no_terms = s
all_signed d s (a_term t ts) = all_signed d (s && own_sign d t) ts

-- the greatest width of a selector and the labels of these arms
abbrev pub widest_of : Design → ℕ → Arms → ℕ
widest_of d w no_arms = w
widest_of d w (arm labels x arms) = widest_of d (widest d w labels) arms

-- whether a selector and the labels of these arms are all signed
abbrev pub all_signed_of : Design → Bool → Arms → Bool
all_signed_of d s no_arms = s
all_signed_of d s (arm labels x arms) = all_signed_of d (all_signed d s labels) arms

-- each term has the shape that this context gives it
abbrev pub are_shaped : Design → ℕ → Bool → Terms → Bool
are_shaped d w s no_terms = true
are_shaped d w s (a_term t ts) = is_shaped d w s t && are_shaped d w s ts

-- each term of a body has its shape
abbrev mutual
  pub is_body : Design → Stmt → Bool
  is_body d (block p ss) = are_bodies d ss
  is_body d (branch p n t s other) = is_alone d t && is_body d s && are_bodies d other
  is_body d (select p n kind t arms) =
      is_shaped d (widest_of d (own_width d t) arms) (all_signed_of d (own_sign d t) arms) t && is_arms d (widest_of d (own_width d t) arms) (all_signed_of d (own_sign d t) arms) arms
  is_body d (turns p n ss) = are_bodies d ss
  is_body d (set p n blocking x t) = is_target d x && is_shaped d (max (target_width d x) (own_width d t)) (own_sign d t) t
  is_body d (empty p) = true

  pub are_bodies : Design → Stmts → Bool
  are_bodies d no_stmts = true
  are_bodies d (a_stmt s ss) = is_body d s && are_bodies d ss

  pub is_arms : Design → ℕ → Bool → Arms → Bool
  is_arms d w signed no_arms = true
  is_arms d w signed (arm labels s arms) = are_shaped d w signed labels && is_body d s && is_arms d w signed arms
