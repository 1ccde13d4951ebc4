-- What a text draws, in order of the text.
use Rattle.std.specs.Prelude.{◌==◌, ◌&&◌, ◌++◌, ◌∷◌, if◌then◌else◌, ℕ, Bool, true, false, List, [], Option, Some, None, length, map, option_and_then}
use Rattle.std.specs.Option.{option_to_list}
use Rattle.four_state.specs.Arithmetic.{natural}
use Rattle.four_state.specs.Operators.{matches}
use Rattle.four_state.specs.Vector.{Vector, all_known, extend}
use Rattle.four_state.specs.declared.operator.CaseKind.{CaseKind}
use Rattle.four_state.specs.declared.operator.CaseKind.TheVariants.{Exact}
use Rattle.design_model.specs.Design.{Design, body, signal_at}
use Rattle.design_model.specs.Mentions.{blank, is_constant}
use Rattle.design_model.specs.Tree.{Arms, Process, Stmt, Stmts, Target, Term, Terms, a_stmt, a_term, all_of, arm, block, branch, empty, no_arms, no_stmts, no_terms, select, set, signal, turns}
use Rattle.design_model.specs.Value.{head, value}

-- the value of a term that mentions nothing
abbrev pub constant_of : Design → Term → Option Vector
constant_of d t = if is_constant t then Some (record { bits = value d blank t; signed = (head t).signed }) else None

-- the number of w bits, if there is one, that as a selector the label matches
abbrev pub number_matched : ℕ → Vector → Option ℕ
number_matched w label =
    let bits = extend w label.signed label.bits in
    if all_known label.bits && matches Exact (extend (length label.bits) label.signed bits) label.bits then Some (natural bits) else None

-- the number of w bits, if there is one, that an assignment of the right side gives
abbrev pub number_given : ℕ → Vector → Option ℕ
number_given w right =
    let bits = extend w right.signed right.bits in
    if all_known bits then Some (natural bits) else None

-- the value of signal c that the label matches
abbrev pub label_value : Design → ℕ → Term → Option ℕ
label_value d c t = option_and_then (number_matched (signal_at d c).width) (constant_of d t)

-- those that the labels match
abbrev pub label_values : Design → ℕ → Terms → List ℕ
label_values d c no_terms = []
label_values d c (a_term t ts) = option_to_list (label_value d c t) ++ label_values d c ts

-- whether the term is signal c alone
abbrev pub is_just : ℕ → Term → Bool
is_just c (signal h s) = s == c
is_just c _ = false

-- whether all four values are compared
abbrev pub is_exact : CaseKind → Bool
is_exact Exact = true
is_exact _ = false

-- whether the labels of a case around values of signal c
abbrev pub is_over : ℕ → CaseKind → Term → Bool
is_over c kind t = is_exact kind && is_just c t

-- the values that the labels of an arm around
abbrev pub opened : Design → ℕ → Bool → Terms → List ℕ
opened d c over labels = if over then label_values d c labels else []

-- what an assignment of the right side gives to all of signal n
abbrev pub assigned : Design → ℕ → Target → Term → Option ℕ
assigned d n (all_of s) t = if s == n then option_and_then (number_given (signal_at d n).width) (constant_of d t) else None
assigned d n _ t = None

-- the arcs from the values that are around
abbrev pub arcs_to : List ℕ → Option ℕ → List (ℕ × ℕ)
arcs_to around None = []
arcs_to around (Some w) = map (λ v. (v, w)) around

-- the arcs of a statement, where these values are around around it
abbrev mutual
  pub arcs_in : Design → ℕ → ℕ → List ℕ → Stmt → List (ℕ × ℕ)
  arcs_in d c n around (block p ss) = all_arcs_in d c n around ss
  arcs_in d c n around (branch p k t s other) = arcs_in d c n around s ++ all_arcs_in d c n around other
  arcs_in d c n around (select p k kind t arms) = arms_arcs d c n (is_over c kind t) around arms
  arcs_in d c n around (turns p k ss) = all_arcs_in d c n around ss
  arcs_in d c n around (set p k blocking x t) = arcs_to around (assigned d n x t)
  arcs_in d c n around (empty p) = []

  pub all_arcs_in : Design → ℕ → ℕ → List ℕ → Stmts → List (ℕ × ℕ)
  all_arcs_in d c n around no_stmts = []
  all_arcs_in d c n around (a_stmt s ss) = arcs_in d c n around s ++ all_arcs_in d c n around ss

  pub arms_arcs : Design → ℕ → ℕ → Bool → List ℕ → Arms → List (ℕ × ℕ)
  arms_arcs d c n over around no_arms = []
  arms_arcs d c n over around (arm labels s arms) = arcs_in d c n (around ++ opened d c over labels) s ++ arms_arcs d c n over around arms

-- the values that the labels in a statement around
abbrev mutual
  pub states_in : Design → ℕ → Stmt → List ℕ
  states_in d c (block p ss) = all_states_in d c ss
  states_in d c (branch p k t s other) = states_in d c s ++ all_states_in d c other
  states_in d c (select p k kind t arms) = arms_states d c (is_over c kind t) arms
  states_in d c (turns p k ss) = all_states_in d c ss
  states_in d c (set p k blocking x t) = []
  states_in d c (empty p) = []

  pub all_states_in : Design → ℕ → Stmts → List ℕ
  all_states_in d c no_stmts = []
  all_states_in d c (a_stmt s ss) = states_in d c s ++ all_states_in d c ss

  pub arms_states : Design → ℕ → Bool → Arms → List ℕ
  arms_states d c over no_arms = []
  arms_states d c over (arm labels s arms) = opened d c over labels ++ states_in d c s ++ arms_states d c over arms

-- the arcs of processes
abbrev pub process_arcs : Design → ℕ → ℕ → List Process → List (ℕ × ℕ)
process_arcs d c n [] = []
process_arcs d c n (p ∷ ps) = arcs_in d c n [] (body p) ++ process_arcs d c n ps

-- the values that the labels in processes around
abbrev pub process_states : Design → ℕ → List Process → List ℕ
process_states d c [] = []
process_states d c (p ∷ ps) = states_in d c (body p) ++ process_states d c ps
