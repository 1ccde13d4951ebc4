-- Targets of assignments: the flat target, its faults, and the bits that it may write (clauses 6.1 and 9.2).
use Rattle.std.specs.Prelude.{ℕ, ◌+◌, ◌-◌, ◌==◌, nat_le, nat_lt, min, max, Bool, true, false, not, ◌&&◌, ◌||◌, if◌then◌else◌, List, [], ◌∷◌, ◌++◌, filter, ℤ, pos, negsuc, Option, Some, None}
use Rattle.std.specs.List.{range_with_len}
use Rattle.std.specs.Result.{is_ok}
use Rattle.cov_host.specs.declared.place.Place.{Place}
use Rattle.four_state.specs.Arithmetic.{low_bits}
use Rattle.four_state.specs.Vector.{fill}
use Rattle.four_state.specs.declared.bit.Bit.TheVariants.{X}
use Rattle.four_state.specs.declared.operator.Binary.TheVariants.{Add, ShiftRight, Subtract}
use Rattle.design_model.specs.Shape.{same_bool}
use Rattle.design_model.specs.Tree as t
use Rattle.design_model.specs.Tree.{Term, no_terms, a_term, Target, all_of, bits_of, word_of, several, Targets, no_targets, a_target}
use Rattle.design_model.specs.declared.design.Range.{Range}
use Rattle.design_model.specs.Value.{slide_offset}
use Rattle.verilog_tree.specs.declared.item.Named.{Named}
use Rattle.verilog_tree.specs.Tree.{Expr, identifier, bit_select, part_select, indexed_part, concatenation, Exprs, no_exprs, an_expr, place_of}
use Rattle.elab_const.specs.Calls.{told}
use Rattle.elab_const.specs.Faults.{shape_answer}
use Rattle.elab_const.specs.Meaning.{shape_as}
use Rattle.elab_const.specs.declared.width.Shape.{Shape}
use Rattle.flat_design.specs.Expressions.{faults, number_faults, joined_faults, some_offset}
use Rattle.flat_design.specs.Fault.{Fault, fault_at, none, Undeclared, WrongTarget, WrongUse}
use Rattle.flat_design.specs.Identifiers.{base_name, identifiers}
use Rattle.flat_design.specs.Numbering.{nodes}
use Rattle.flat_design.specs.Scope.{Scope, Entry, a_constant, a_turn, a_signal, a_memory, a_loop_variable, an_instance, no_constant, SignalEntry, look_up, names, shape, whole_number, natural_number, names_constants, is_memory_name, range_or, range_width, Thing, thing_of, thing_number}
pub use Rattle.flat_design.specs.declared.entry.Mode.{Mode}
pub use Rattle.flat_design.specs.declared.entry.Mode.TheVariants.{Continuous, Combinational, Clocked}
use Rattle.flat_design.specs.Terms.{alone, head_as}

-- the range of the signal that a name means
abbrev pub declared_range : Option Entry → Range
declared_range (Some (a_signal s)) = range_or s.range
declared_range _ = record { high = 0; low = 0 }

-- a number as a term of this shape
abbrev pub number_term : Place → Shape → ℕ → Term
number_term p s k = t.number (head_as p s None) (record { bits = low_bits s.width k; signed = s.signed })

-- an expression with a 0 bit before it
abbrev pub behind_zero : ℕ → Scope → Expr → ℕ → Term
behind_zero base g e n =
    t.concat (head_as (place_of e) (shape_as ((shape g e).width + 1) false) None) (a_term (number_term (place_of e) (shape_as 1 false) 0) (a_term (alone base g e n) no_terms))

-- an expression whose highest bit is its sign: one without sign has a 0 bit before it, unless that is the highest of 128 bits
abbrev pub with_sign_bit : ℕ → Scope → Expr → ℕ → Term
with_sign_bit base g e n = if nat_lt (shape g e).width 128 && not (shape g e).signed then behind_zero base g e n else alone base g e n

-- the number of an expression as a signed term of w bits; the term in it has its own width
abbrev pub signed_term : ℕ → Scope → ℕ → Expr → ℕ → Term
signed_term base g w e n = t.sign (head_as (place_of e) (shape_as w true) None) true (with_sign_bit base g e n)

-- the number of bits of an index that is moved, such that it does not wrap
abbrev pub moved_width : Scope → Expr → ℕ
moved_width g e = min 128 (max ((shape g e).width + 1) 8 + 1)

-- an expression as a signed term that is moved up or down
abbrev pub moved_term : ℕ → Scope → Bool → ℕ → Expr → ℕ → Term
moved_term base g up by e n =
    t.binary (head_as (place_of e) (shape_as (moved_width g e) true) None) (if up then Add else Subtract) (signed_term base g (moved_width g e) e n) (number_term (place_of e) (shape_as (moved_width g e) true) by)

-- the highest of 128 bits
abbrev pub highest_bit : ℕ → Scope → Expr → ℕ → Term
highest_bit base g e n = t.binary (head_as (place_of e) (shape_as 128 false) None) ShiftRight (alone base g e n) (number_term (place_of e) (shape_as 8 false) 127)

-- all x where the highest of 128 unsigned bits is 1, since no range has such an index
abbrev pub guarded_term : ℕ → Scope → Expr → ℕ → Term → Term
guarded_term base g e n moved =
    t.choice (head_as (place_of e) (shape_as 128 true) None) (highest_bit base g e n) (t.number (head_as (place_of e) (shape_as 128 true) None) (record { bits = fill 128 X; signed = true })) moved

-- the index of the lowest bit of x[b +: w] or x[b -: w], wide and signed enough that it does not wrap
abbrev pub moved_index : ℕ → Scope → Bool → ℕ → Expr → ℕ → Term
moved_index base g up by e n = if nat_lt (shape g e).width 128 || (shape g e).signed then moved_term base g up by e n else guarded_term base g e n (moved_term base g up by e n)

-- the base itself, where its bit is the lowest
abbrev pub lowest_index : ℕ → Scope → Range → Bool → ℕ → Expr → ℕ → Term
lowest_index base g r up w e n = if same_bool up (nat_le r.low r.high) || (w == 1) then alone base g e n else moved_index base g up (w - 1) e n

-- the flat target; its counted nodes are numbered from n on
abbrev mutual
  pub target : ℕ → Scope → Expr → ℕ → Target
  target base g (identifier p x) n = all_of (thing_number base (thing_of (look_up g x)))
  target base g (bit_select p of i) n =
      if is_memory_name g of then word_of (thing_number base (thing_of (look_up g (base_name of).name))) (alone base g i (n + nodes g of)) else bits_of (thing_number base (thing_of (look_up g (base_name of).name))) (alone base g i (n + nodes g of)) 1
  target base g (part_select p of h l b) n = bits_of (thing_number base (thing_of (look_up g (base_name of).name))) (alone base g l (n + nodes g of + nodes g h)) (shape g (part_select p of h l b)).width
  target base g (indexed_part p of b w up k) n =
      bits_of (thing_number base (thing_of (look_up g (base_name of).name))) (lowest_index base g (declared_range (look_up g (base_name of).name)) up (natural_number g w) b (n + nodes g of)) (natural_number g w)
  target base g (concatenation p es) n = several (targets base g es n)
  target base g e n = all_of 0

  pub targets : ℕ → Scope → Exprs → ℕ → Targets
  targets base g no_exprs n = no_targets
  targets base g (an_expr e es) n = a_target (target base g e n) (targets base g es (n + nodes g e))

-- the targets that are joined in one
abbrev mutual
  pub leaves : Expr → List Expr
  leaves (concatenation p es) = all_leaves es
  leaves e = e ∷ []

  pub all_leaves : Exprs → List Expr
  all_leaves no_exprs = []
  all_leaves (an_expr e es) = leaves e ++ all_leaves es

-- the index or base of the target of a continuous assignment is a constant number
abbrev pub fixed_faults : Scope → Expr → List Fault
fixed_faults g (bit_select p of i) = number_faults g i (faults g i)
fixed_faults g (indexed_part p of b w up k) = number_faults g b (faults g b)
fixed_faults g e = []

-- a word of a memory, or what is no target for another reason; not a part of a word
abbrev pub is_part_of_word : Expr → Bool
is_part_of_word (bit_select p (identifier q x) i) = false
is_part_of_word (part_select p (identifier q x) h l b) = false
is_part_of_word (indexed_part p (identifier q x) b w up k) = false
is_part_of_word (identifier p x) = false
is_part_of_word e = true

-- a target that is a signal or a select of one: no input; a net exactly in a continuous assignment
abbrev pub signal_target_faults : Scope → Mode → SignalEntry → Expr → List Fault
signal_target_faults g Continuous s e = if s.input || not s.net then fault_at WrongTarget (base_name e) ∷ [] else faults g e ++ fixed_faults g e
signal_target_faults g _ s e = if s.input || s.net then fault_at WrongTarget (base_name e) ∷ [] else faults g e

-- a target that is a word of a memory: in a process with edges alone, and whole
abbrev pub memory_target_faults : Scope → Mode → Expr → List Fault
memory_target_faults g Clocked e = if is_part_of_word e then fault_at WrongTarget (base_name e) ∷ [] else faults g e
memory_target_faults g _ e = fault_at WrongTarget (base_name e) ∷ []

-- a target without concatenation, by what its name means
abbrev pub leaf_faults : Scope → Mode → Option Entry → Expr → List Fault
leaf_faults g mode None e = fault_at Undeclared (base_name e) ∷ []
leaf_faults g mode (Some (a_constant v)) e = fault_at WrongTarget (base_name e) ∷ []
leaf_faults g mode (Some (a_turn v)) e = fault_at WrongTarget (base_name e) ∷ []
leaf_faults g mode (Some a_loop_variable) e = fault_at WrongTarget (base_name e) ∷ []
leaf_faults g mode (Some an_instance) e = fault_at WrongUse (base_name e) ∷ []
leaf_faults g mode (Some no_constant) e = fault_at WrongUse (base_name e) ∷ []
leaf_faults g mode (Some (a_signal s)) e = signal_target_faults g mode s e
leaf_faults g mode (Some (a_memory m)) e = memory_target_faults g mode e
leaf_faults g mode (Some _) e = []

-- the expression has a width: it has no fault of a constant or width
abbrev pub has_shape : Scope → Expr → Bool
has_shape g e = is_ok (told (shape_answer (names g) e))

-- each of the expressions has a width
abbrev pub have_shapes : Scope → Exprs → Bool
have_shapes g no_exprs = true
have_shapes g (an_expr e es) = has_shape g e && have_shapes g es

abbrev mutual
  pub target_faults : Scope → Mode → Expr → List Fault
  target_faults g mode (concatenation p es) = all_target_faults g mode es ++ joined_faults (none (all_target_faults g mode es) && have_shapes g es) (shape g (concatenation p es)).width p
  target_faults g mode e = leaf_faults g mode (look_up g (base_name e).name) e

  pub all_target_faults : Scope → Mode → Exprs → List Fault
  all_target_faults g mode no_exprs = []
  all_target_faults g mode (an_expr e es) = target_faults g mode e ++ all_target_faults g mode es

-- the bits of a signal, by their offsets, that a select with a constant index names; all of them where the index is not constant
abbrev pub offsets_from : ℕ → ℕ → Option ℤ → List ℕ
offsets_from size w None = []
offsets_from size w (Some (pos k)) = filter (λ i. nat_lt i size) (range_with_len k w)
offsets_from size w (Some (negsuc k)) = filter (λ i. nat_lt i size) (range_with_len 0 (w - (k + 1)))

-- all bits of a signal
abbrev pub all_offsets : SignalEntry → List ℕ
all_offsets s = range_with_len 0 (range_width s.range)

-- this number of bits of a signal from this offset, where that is constant, and else all of them
abbrev pub offsets_if : Bool → SignalEntry → ℕ → Option ℤ → List ℕ
offsets_if is_constant s w from = if is_constant then offsets_from (range_width s.range) w from else all_offsets s

-- the bits that a target without concatenation may write
abbrev pub offsets : Scope → Option Entry → Expr → List ℕ
offsets g (Some (a_signal s)) (bit_select p of i) = offsets_if (names_constants g i) s 1 (some_offset (range_or s.range) (whole_number g i))
offsets g (Some (a_signal s)) (part_select p of h l b) = offsets_if true s (shape g (part_select p of h l b)).width (some_offset (range_or s.range) (whole_number g l))
offsets g (Some (a_signal s)) (indexed_part p of b w up k) =
    offsets_if (names_constants g b) s (natural_number g w) (slide_offset (range_or s.range) up (natural_number g w) (whole_number g b))
offsets g (Some (a_signal s)) e = all_offsets s
offsets g _ e = 0 ∷ []

-- one target of an assignment, by its name: the signal or memory, its bits, and which process writes it
pub record Writing : Type 0 where
  pub name : Named
  pub thing : Thing
  pub offsets : List ℕ
  pub blocking : Bool
  pub continuous : Bool
  pub process : ℕ

-- the target e of an assignment of this process
abbrev pub writing_of : Scope → Bool → Bool → ℕ → Expr → Writing
writing_of g blocking continuous process e =
    record {
      name = base_name e;
      thing = thing_of (look_up g (base_name e).name);
      offsets = offsets g (look_up g (base_name e).name) e;
      blocking = blocking;
      continuous = continuous;
      process = process;
    }

-- the names that a target reads, in its indexes
abbrev mutual
  pub target_reads : Expr → List Named
  target_reads (bit_select p of i) = target_reads of ++ identifiers i
  target_reads (part_select p of h l b) = target_reads of ++ identifiers h ++ identifiers l
  target_reads (indexed_part p of b w up k) = target_reads of ++ identifiers b ++ identifiers w
  target_reads (concatenation p es) = all_target_reads es
  target_reads e = []

  pub all_target_reads : Exprs → List Named
  all_target_reads no_exprs = []
  all_target_reads (an_expr e es) = target_reads e ++ all_target_reads es
