-- The faults of an expression in a scope: of its names, selects, constants and widths.
use Rattle.std.specs.Prelude.{ℕ, ◌+◌, ◌*◌, nat_le, min, max, Bool, true, false, not, ◌&&◌, if◌then◌else◌, List, [], ◌∷◌, ◌++◌, flat_map, is_none, ℤ, pos, negsuc, Option, Some, None}
use Rattle.std.specs.List.{list_any}
use Rattle.cov_host.specs.declared.place.Place.{Place}
use Rattle.design_model.specs.Lawful.{span}
use Rattle.design_model.specs.declared.design.Range.{Range}
use Rattle.design_model.specs.Value.{offset, slide_offset}
use Rattle.verilog_tree.specs.declared.item.Named.{Named}
use Rattle.verilog_tree.specs.Tree.{Expr, literal, identifier, bit_select, part_select, indexed_part, unary_operator, binary_operator, conditional, concatenation, replication, sign_cast, parentheses, Exprs, no_exprs, an_expr, place_of}
use Rattle.elab_const.specs.Calls.{told}
use Rattle.elab_const.specs.Faults.{is_no_number, is_below_one, size_fault, bound_from, size_from, count_from}
use Rattle.elab_const.specs.Meaning.{number_of, parts_of, part_width}
use Rattle.elab_const.specs.Scope.{unless}
use Rattle.elab_const.specs.declared.fault.ConstKind.TheVariants.{NotConstant}
use Rattle.flat_design.specs.Fault.{Fault, fault_at, of_constant, fault_if, answer_faults, none, Undeclared, WrongUse}
use Rattle.flat_design.specs.Identifiers.{named, identifiers, base_name}
use Rattle.flat_design.specs.Scope.{Scope, Entry, a_constant, a_turn, a_signal, a_memory, a_loop_variable, an_instance, no_constant, a_faulty_one, MemoryEntry, look_up, names, whole_number, natural_number, names_constants, names_faulty, is_memory_name}

-- a name read as a value: a memory has no value without index, a loop variable none outside its loop
abbrev pub use_faults : Option Entry → Named → List Fault
use_faults None x = fault_at Undeclared x ∷ []
use_faults (Some (a_memory m)) x = fault_at WrongUse x ∷ []
use_faults (Some a_loop_variable) x = fault_at WrongUse x ∷ []
use_faults (Some an_instance) x = fault_at WrongUse x ∷ []
use_faults (Some no_constant) x = fault_at WrongUse x ∷ []
use_faults _ x = []

-- the index names a word of the memory; one with an x or z is not checked
abbrev pub is_word_of_memory : Option ℤ → MemoryEntry → Bool
is_word_of_memory None m = true
is_word_of_memory (Some (negsuc k)) m = false
is_word_of_memory (Some (pos k)) m = nat_le (min m.words.high m.words.low) k && nat_le k (max m.words.high m.words.low)

-- what a select selects from: bits with a range, by their name; or nothing with bits; or something that has a fault
pub data Selected : Type 0 where
  bits_in : Range → Named → Selected
  no_bits : Named → Selected
  unknown : Selected

-- by the range
abbrev pub selected_of : Option Range → Named → Selected
selected_of (Some r) x = bits_in r x
selected_of None x = no_bits x

-- what a select on a name selects from
abbrev pub selected_name : Option Entry → Named → Selected
selected_name None x = unknown
selected_name (Some (a_signal s)) x = selected_of s.range x
selected_name (Some a_faulty_one) x = unknown
selected_name (Some _) x = no_bits x

-- what a select on a memory word selects from
abbrev pub selected_word : Option Entry → Named → Selected
selected_word None x = unknown
selected_word (Some (a_memory m)) x = selected_of m.range x
selected_word (Some a_faulty_one) x = unknown
selected_word (Some _) x = no_bits x

-- what a select on e selects from: a name, or a word of a memory
abbrev pub selected : Scope → Expr → Selected
selected g (identifier p x) = selected_name (look_up g x) (named x p)
selected g (bit_select p (identifier q x) i) = selected_word (look_up g x) (named x q)
selected g e = no_bits (base_name e)

-- an index on what has no bits
abbrev pub select_faults : Selected → List Fault
select_faults (no_bits x) = fault_at WrongUse x ∷ []
select_faults _ = []

-- the bits from this offset up, in this number, are bits of the range; an index with an x or z is not checked
abbrev pub is_inside : Range → Option ℤ → ℕ → Bool
is_inside r None w = true
is_inside r (Some (negsuc k)) w = false
is_inside r (Some (pos k)) w = nat_le (k + w) (span r.high r.low)

-- a constant select out of range
abbrev pub range_faults : Selected → ℕ → (Range → Option ℤ) → List Fault
range_faults (bits_in r x) w from = fault_if (not (is_inside r (from r) w)) (fault_at WrongUse x)
range_faults _ w from = []

-- the offset of an index that has a value
abbrev pub some_offset : Range → Option ℤ → Option ℤ
some_offset r None = None
some_offset r (Some i) = Some (offset r i)

-- the names without declaration
abbrev pub undeclared : Scope → Expr → List Fault
undeclared g e = flat_map (λ x. fault_if (is_none (look_up g x.name)) (fault_at Undeclared x)) (identifiers e)

-- declared, and not as a constant
abbrev pub is_no_constant : Option Entry → Bool
is_no_constant None = false
is_no_constant (Some (a_constant v)) = false
is_no_constant (Some (a_turn v)) = false
is_no_constant (Some a_faulty_one) = false
is_no_constant _ = true

-- the expression names something that is declared, and not as a constant
abbrev pub names_no_constant : Scope → Expr → Bool
names_no_constant g e = list_any (λ x. is_no_constant (look_up g x.name)) (identifiers e)

-- an expression that must be constant; the list has its faults as an expression
abbrev pub constant_faults : Scope → Expr → List Fault → List Fault
constant_faults g e faults = undeclared g e ++ fault_if (names_no_constant g e) (of_constant NotConstant (place_of e)) ++ faults

-- a constant without a fault
abbrev pub is_sound_constant : Scope → Expr → List Fault → Bool
is_sound_constant g e faults = names_constants g e && none faults

-- an expression that must be a constant number
abbrev pub number_faults : Scope → Expr → List Fault → List Fault
number_faults g e faults =
    constant_faults g e faults ++ fault_if (is_sound_constant g e faults && is_no_number (number_of (names g) e)) (of_constant NotConstant (place_of e))

-- a constant number without a fault
abbrev pub is_sound_number : Scope → Expr → List Fault → Bool
is_sound_number g e faults = names_constants g e && none (number_faults g e faults)

-- a bound of a range or part with this bracket
abbrev pub bound_faults : Scope → Place → Expr → List Fault → List Fault
bound_faults g bracket e faults =
    number_faults g e faults ++ (if is_sound_number g e faults then answer_faults (told (bound_from bracket (number_of (names g) e))) else [])

-- a width of less than one bit, or of more than 128
abbrev pub size_faults : ℕ → Place → List Fault
size_faults width p = answer_faults (told (unless (size_fault width p) width))

-- a part of less than one bit, of more than 128, or out of range
abbrev pub part_range_faults : Selected → Place → ℕ → ℕ → List Fault
part_range_faults (bits_in r x) bracket h l =
    let width : ℕ = part_width (nat_le r.low r.high) h l in
    size_faults width bracket ++ fault_if (none (size_faults width bracket) && not (is_inside r (Some (offset r (pos l))) width)) (fault_at WrongUse x)
part_range_faults _ bracket h l = []

-- x[h:l], where the lists have the faults of its bounds
abbrev pub part_faults : Scope → Selected → Place → Expr → List Fault → Expr → List Fault → List Fault
part_faults g of bracket h hs l ls =
    select_faults of ++ hs ++ ls ++ (if names_constants g h && names_constants g l && none (hs ++ ls) then part_range_faults of bracket (natural_number g h) (natural_number g l) else [])

-- the width of an indexed part is a number from 1 to 128
abbrev pub width_faults : Scope → Place → Expr → List Fault → List Fault
width_faults g bracket w ws =
    number_faults g w ws ++ (if is_sound_number g w ws then answer_faults (told (size_from bracket (number_of (names g) w))) else [])

-- the bits from a base with this width are in range
abbrev pub slide_faults : Scope → Selected → Expr → ℕ → Bool → List Fault
slide_faults g of b width up = range_faults of width (λ r. slide_offset r up width (whole_number g b))

-- x[b +: w] and x[b -: w]; a base that is constant has its bits in range
abbrev pub indexed_faults : Scope → Selected → Place → Expr → List Fault → Expr → List Fault → Bool → List Fault
indexed_faults g of bracket b bs w ws up =
    let sound : Bool = is_sound_constant g b bs && names_constants g w && none (width_faults g bracket w ws) in
    select_faults of ++ bs ++ width_faults g bracket w ws ++ (if sound then slide_faults g of b (natural_number g w) up else [])

-- m[i] of a memory
abbrev pub word_faults : Scope → Option Entry → Named → Expr → List Fault → List Fault
word_faults g (Some (a_memory m)) x i is = is ++ fault_if (is_sound_constant g i is && not (is_word_of_memory (whole_number g i) m)) (fault_at WrongUse x)
word_faults g _ x i is = is

-- a bit with a constant index is in range
abbrev pub index_faults : Scope → Selected → Expr → List Fault → List Fault
index_faults g of i is = if is_sound_constant g i is then range_faults of 1 (λ r. some_offset r (whole_number g i)) else []

-- x[i], where the first list has the faults of x
abbrev pub bit_faults : Scope → Expr → List Fault → Expr → List Fault → List Fault
bit_faults g of before i is =
    if is_memory_name g of then word_faults g (look_up g (base_name of).name) (base_name of) i is else before ++ select_faults (selected g of) ++ is ++ index_faults g (selected g of) i is

-- more than 128 bits side by side, where each part is sound
abbrev pub joined_faults : Bool → ℕ → Place → List Fault
joined_faults sound width p = if sound then size_faults width p else []

-- a count that is less than 1, or makes more than 128 bits
abbrev pub count_faults : Scope → Place → Expr → Bool → ℕ → List Fault
count_faults g p n sound width =
    if is_below_one (number_of (names g) n) then answer_faults (told (count_from p (number_of (names g) n))) else joined_faults sound (natural_number g n * width) p

-- the same, or a count that is no number
abbrev pub replication_faults : Scope → Place → Expr → List Fault → Bool → ℕ → List Fault
replication_faults g p n ns sound width = number_faults g n ns ++ (if is_sound_number g n ns then count_faults g p n sound width else [])

abbrev mutual
  pub faults : Scope → Expr → List Fault
  faults g (literal p v) = []
  faults g (identifier p x) = use_faults (look_up g x) (named x p)
  faults g (bit_select p of i) = bit_faults g of (faults g of) i (faults g i)
  faults g (part_select p of h l bracket) = faults g of ++ part_faults g (selected g of) bracket h (bound_faults g bracket h (faults g h)) l (bound_faults g bracket l (faults g l))
  faults g (indexed_part p of b w up bracket) = faults g of ++ indexed_faults g (selected g of) bracket b (faults g b) w (faults g w) up
  faults g (unary_operator p op a) = faults g a
  faults g (binary_operator p op a b) = faults g a ++ faults g b
  faults g (conditional p c a b) = faults g c ++ faults g a ++ faults g b
  faults g (concatenation p es) = all_faults g es ++ joined_faults (none (all_faults g es) && not (names_faulty g (concatenation p es))) (parts_of (names g) es).width p
  faults g (replication p n es) =
      all_faults g es ++ replication_faults g p n (faults g n) (none (all_faults g es) && not (names_faulty g (concatenation p es))) (parts_of (names g) es).width
  faults g (sign_cast p s a) = faults g a
  faults g (parentheses p a) = faults g a

  pub all_faults : Scope → Exprs → List Fault
  all_faults g no_exprs = []
  all_faults g (an_expr e es) = faults g e ++ all_faults g es
