-- The scope of the names of an instance, and the value of an expression in it (clauses 4.4, 4.5 and 12.7).
use Rattle.std.specs.Prelude.{ℕ, ◌+◌, ◌==◌, Bool, true, false, if◌then◌else◌, List, bytes_eq, ℤ, Option, Some, None}
use Rattle.std.specs.List.{list_all, list_any}
use Rattle.std.specs.Map.{lookup}
use Rattle.four_state.specs.Parts as parts
use Rattle.four_state.specs.Vector.{Vector}
use Rattle.design_model.specs.Lawful.{span}
use Rattle.design_model.specs.declared.design.Range.{Range}
use Rattle.verilog_tree.specs.Tree.{Expr, identifier}
use Rattle.elab_const.specs.Meaning as of
use Rattle.elab_const.specs.declared.width.Shape.{Shape}
use Rattle.elab_const.specs.declared.entry.Entry as const
use Rattle.elab_const.specs.declared.entry.Entry.TheVariants as value
use Rattle.elab_const.specs.Scope.{Names}
use Rattle.flat_design.specs.Identifiers.{identifiers}
pub use Rattle.flat_design.specs.declared.entry.SignalEntry.{SignalEntry}
pub use Rattle.flat_design.specs.declared.entry.MemoryEntry.{MemoryEntry}
pub use Rattle.flat_design.specs.declared.entry.Entry.{Entry}
pub use Rattle.flat_design.specs.declared.entry.Thing.{Thing}
pub use Rattle.flat_design.specs.declared.entry.Thing.TheVariants.{Signal as the_signal, Memory as the_memory}
pub use Rattle.flat_design.specs.declared.entry.Entry.TheVariants.{Constant as a_constant, Turn as a_turn, Signal as a_signal, Memory as a_memory, LoopVariable as a_loop_variable, Instance as an_instance, NoConstant as no_constant, Faulty as a_faulty_one}

-- what each name that can be used at a place means
abbrev pub Scope : Type 0
Scope = List ℕ → Option Entry

-- what the name means
abbrev pub look_up : Scope → List ℕ → Option Entry
look_up g x = g x

-- the scope where x means e
abbrev pub with_entry : List ℕ → Entry → Scope → Scope
with_entry x e g = λ y. if bytes_eq y x then Some e else g y

-- the scope in one turn of a loop over x
abbrev pub with_turn : List ℕ → Vector → Scope → Scope
with_turn x v g = with_entry x (a_turn v) g

-- names with what they mean, in order; the first of equal names counts
abbrev pub Bindings : Type 0
Bindings = List (List ℕ × Entry)

-- what x is bound to, if it is
abbrev pub binding_of : Bindings → List ℕ → Option Entry
binding_of bs x = lookup (λ bound. bytes_eq x bound) bs

-- the first of two entries, if there is one
abbrev pub entry_or : Option Entry → Option Entry → Option Entry
entry_or None other = other
entry_or (Some e) other = Some e

-- the scope where the bound names mean these, and all others mean what they did
abbrev pub with_bindings : Bindings → Scope → Scope
with_bindings bs g = λ x. entry_or (binding_of bs x) (g x)

-- no names
abbrev pub no_names : Scope
no_names = λ x. None

-- the range, [0:0] for what has no range
abbrev pub range_or : Option Range → Range
range_or None = record { high = 0; low = 0 }
range_or (Some r) = r

-- has a range
abbrev pub is_ranged : Option Range → Bool
is_ranged None = false
is_ranged (Some r) = true

-- how many bits what has this range has
abbrev pub range_width : Option Range → ℕ
range_width r = span (range_or r).high (range_or r).low

-- an entry as constants, widths and loops see it: a signal, a memory or a constant
abbrev pub value_entry : Option Entry → Option const.Entry
value_entry (Some (a_constant v)) = Some (value.Constant v)
value_entry (Some (a_turn v)) = Some (value.Turn v)
value_entry (Some (a_signal s)) = Some (value.Signal (range_or s.range).high (range_or s.range).low (is_ranged s.range) (range_width s.range) s.signed)
value_entry (Some (a_memory m)) = Some (value.Memory m.words.high m.words.low (range_or m.range).high (range_or m.range).low (is_ranged m.range) (range_width m.range) m.signed)
value_entry _ = None

-- the names that have a value
abbrev pub names : Scope → Names
names g x = value_entry (look_up g x)

-- the width and sign of an expression alone
abbrev pub shape : Scope → Expr → Shape
shape g e = of.shape (names g) e

-- the value of a constant expression
abbrev pub constant : Scope → Expr → Vector
constant g e = of.constant (names g) e

-- the whole number that a constant expression says, if no bit of it is x or z
abbrev pub whole_number : Scope → Expr → Option ℤ
whole_number g e = parts.index (constant g e).signed (constant g e).bits

-- the number that a constant expression says, 0 where it says none
abbrev pub natural_number : Scope → Expr → ℕ
natural_number g e = of.count_of (of.number_of (names g) e)

-- the signal or memory that a name means
abbrev pub thing_of : Option Entry → Thing
thing_of (Some (a_signal s)) = the_signal s.number
thing_of (Some (a_memory m)) = the_memory m.number
thing_of _ = the_signal 0

-- its number in the design, where memories are numbered from base on
abbrev pub thing_number : ℕ → Thing → ℕ
thing_number base (the_signal s) = s
thing_number base (the_memory m) = base + m

-- one signal, or one memory
abbrev pub is_same_thing : Thing → Thing → Bool
is_same_thing (the_signal s) (the_signal t) = s == t
is_same_thing (the_memory m) (the_memory k) = m == k
is_same_thing _ _ = false

-- a parameter, or a loop variable in one turn
abbrev pub is_constant_entry : Option Entry → Bool
is_constant_entry (Some (a_constant v)) = true
is_constant_entry (Some (a_turn v)) = true
is_constant_entry _ = false

-- something whose declaration has a fault
abbrev pub is_faulty_entry : Option Entry → Bool
is_faulty_entry (Some a_faulty_one) = true
is_faulty_entry _ = false

-- a memory
abbrev pub is_memory_entry : Option Entry → Bool
is_memory_entry (Some (a_memory m)) = true
is_memory_entry _ = false

-- a signal or a memory
abbrev pub is_thing_entry : Option Entry → Bool
is_thing_entry (Some (a_signal s)) = true
is_thing_entry (Some (a_memory m)) = true
is_thing_entry _ = false

-- the expression names a signal or a memory
abbrev pub names_thing : Scope → Expr → Bool
names_thing g e = list_any (λ x. is_thing_entry (look_up g x.name)) (identifiers e)

-- the expression names constants alone
abbrev pub names_constants : Scope → Expr → Bool
names_constants g e = list_all (λ x. is_constant_entry (look_up g x.name)) (identifiers e)

-- the expression names something whose declaration has a fault
abbrev pub names_faulty : Scope → Expr → Bool
names_faulty g e = list_any (λ x. is_faulty_entry (look_up g x.name)) (identifiers e)

-- the name of a memory
abbrev pub is_memory_name : Scope → Expr → Bool
is_memory_name g (identifier p x) = is_memory_entry (look_up g x)
is_memory_name g _ = false
