-- Well formed bodies: only counted nodes are numbered, and selects by a constant index are in their ranges.
use Rattle.std.specs.Prelude.{◌+◌, ◌&&◌, ◌||◌, ℕ, Bool, true, false, not, ℤ, pos, negsuc, Option, Some, None, is_none, min, max, nat_le}
use Rattle.four_state.specs.Arithmetic.{natural}
use Rattle.four_state.specs.Parts.{index}
use Rattle.design_model.specs.Tree.{Arms, Stmt, Stmts, Target, Targets, Term, Terms, a_stmt, a_target, a_term, all_of, arm, binary, bit, bits_of, block, branch, choice, concat, empty, no_arms, no_stmts, no_targets, no_terms, number, part, repeat, select, set, several, sign, signal, slide, turns, unary, word, word_of}
use Rattle.design_model.specs.Design.{Design, Memory, memory_at, signal_at}
use Rattle.design_model.specs.Value.{head, offset_option, part_width, range_of, slide_offset, value}
use Rattle.design_model.specs.Assignment.{signal_range}
use Rattle.design_model.specs.Mentions.{blank, is_constant}
use Rattle.design_model.specs.Shape.{own_width}

-- the term is an operator with one or two operands
abbrev pub is_operator : Term → Bool
is_operator (unary h op t) = true
is_operator (binary h op t u) = true
is_operator _ = false

-- the term may be numbered as a node: an operator, or the condition of an if or ?:, that mentions a signal or memory
abbrev pub may_be_node : Bool → Term → Bool
may_be_node is_condition t = (is_operator t || is_condition) && not (is_constant t)

-- a term that is numbered as a node is one that may be
abbrev pub is_counted_rightly : Bool → Term → Bool
is_counted_rightly is_condition t = is_none (head t).node || may_be_node is_condition t

-- this number of bits from an offset on are among n bits; where the offset is not known nothing is asked
abbrev pub are_among : ℕ → ℕ → Option ℤ → Bool
are_among n w None = true
are_among n w (Some (negsuc k)) = false
are_among n w (Some (pos k)) = nat_le (k + w) n

-- the index is that of a word of the memory; where it is not known nothing is asked
abbrev pub is_word_index : Memory → Option ℤ → Bool
is_word_index m None = true
is_word_index m (Some (negsuc k)) = false
is_word_index m (Some (pos k)) = nat_le (min m.first m.last) k && nat_le k (max m.first m.last)

-- a select by a constant index is in the range of what it is taken of, and an indexed part has a bit
abbrev pub is_select_inside : Design → Term → Bool
is_select_inside d (word h m i) = not (is_constant i) || is_word_index (memory_at d m) (index (head i).signed (value d blank i))
is_select_inside d (bit h t i) = not (is_constant i) || are_among (own_width d t) 1 (offset_option (range_of d t) (index (head i).signed (value d blank i)))
is_select_inside d (part h t i j) = are_among (own_width d t) (part_width (value d blank i) (value d blank j)) (offset_option (range_of d t) (index (head j).signed (value d blank j)))
is_select_inside d (slide h t b w up) =
    nat_le 1 (natural (value d blank w)) && (not (is_constant b) || are_among (own_width d t) (natural (value d blank w)) (slide_offset (range_of d t) up (natural (value d blank w)) (index (head b).signed (value d blank b))))
is_select_inside d _ = true

-- what is asked of a term for itself, as a condition or not
abbrev pub is_right : Design → Bool → Term → Bool
is_right d is_condition t = is_counted_rightly is_condition t && is_select_inside d t

-- what is asked of a term and of all terms in it
abbrev mutual
  pub is_well_formed : Design → Bool → Term → Bool
  is_well_formed d is_condition (number h n) = is_right d is_condition (number h n)
  is_well_formed d is_condition (signal h s) = is_right d is_condition (signal h s)
  is_well_formed d is_condition (word h m i) = is_right d is_condition (word h m i) && is_well_formed d false i
  is_well_formed d is_condition (bit h t i) = is_right d is_condition (bit h t i) && (is_well_formed d false t && is_well_formed d false i)
  is_well_formed d is_condition (part h t i j) = is_right d is_condition (part h t i j) && (is_well_formed d false t && (is_well_formed d false i && is_well_formed d false j))
  is_well_formed d is_condition (slide h t b w up) = is_right d is_condition (slide h t b w up) && (is_well_formed d false t && (is_well_formed d false b && is_well_formed d false w))
  is_well_formed d is_condition (unary h op t) = is_right d is_condition (unary h op t) && is_well_formed d false t
  is_well_formed d is_condition (binary h op t u) = is_right d is_condition (binary h op t u) && (is_well_formed d false t && is_well_formed d false u)
  is_well_formed d is_condition (choice h c t u) = is_right d is_condition (choice h c t u) && (is_well_formed d true c && (is_well_formed d false t && is_well_formed d false u))
  is_well_formed d is_condition (concat h ts) = is_right d is_condition (concat h ts) && are_well_formed d ts
  is_well_formed d is_condition (repeat h n ts) = is_right d is_condition (repeat h n ts) && (is_well_formed d false n && are_well_formed d ts)
  is_well_formed d is_condition (sign h s t) = is_right d is_condition (sign h s t) && is_well_formed d false t

  pub are_well_formed : Design → Terms → Bool
  are_well_formed d no_terms = true
  are_well_formed d (a_term t ts) = is_well_formed d false t && are_well_formed d ts

-- the indexes of a target are well formed, and its parts and words by a constant index are inside
abbrev mutual
  pub is_well_formed_target : Design → Target → Bool
  is_well_formed_target d (all_of s) = true
  is_well_formed_target d (bits_of s low w) =
      (not (is_constant low) || are_among (signal_at d s).width w (offset_option (signal_range d s) (index (head low).signed (value d blank low)))) && is_well_formed d false low
  is_well_formed_target d (word_of m i) = (not (is_constant i) || is_word_index (memory_at d m) (index (head i).signed (value d blank i))) && is_well_formed d false i
  is_well_formed_target d (several ts) = are_well_formed_targets d ts

  pub are_well_formed_targets : Design → Targets → Bool
  are_well_formed_targets d no_targets = true
  are_well_formed_targets d (a_target t ts) = is_well_formed_target d t && are_well_formed_targets d ts

-- the terms and targets of a body are well formed
abbrev mutual
  pub is_well_formed_body : Design → Stmt → Bool
  is_well_formed_body d (block p ss) = are_well_formed_bodies d ss
  is_well_formed_body d (branch p n t s other) = is_well_formed d true t && (is_well_formed_body d s && are_well_formed_bodies d other)
  is_well_formed_body d (select p n kind t arms) = is_well_formed d false t && are_well_formed_arms d arms
  is_well_formed_body d (turns p n ss) = are_well_formed_bodies d ss
  is_well_formed_body d (set p n blocking x t) = is_well_formed_target d x && is_well_formed d false t
  is_well_formed_body d (empty p) = true

  pub are_well_formed_bodies : Design → Stmts → Bool
  are_well_formed_bodies d no_stmts = true
  are_well_formed_bodies d (a_stmt s ss) = is_well_formed_body d s && are_well_formed_bodies d ss

  pub are_well_formed_arms : Design → Arms → Bool
  are_well_formed_arms d no_arms = true
  are_well_formed_arms d (arm labels s arms) = are_well_formed d labels && (is_well_formed_body d s && are_well_formed_arms d arms)
