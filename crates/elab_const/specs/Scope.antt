-- The scope of names, and the faults of constants with their places.
use Rattle.std.specs.Prelude.{◌≤◌, ℕ, ◌==◌, nat_lt, Bool, ◌&&◌, ◌||◌, if◌then◌else◌, List, bytes_eq, Option, Some, None, Result, Ok, Err}
use Rattle.std.specs.Map.{lookup}
use Rattle.cov_host.specs.declared.place.Place.{Place}
use Rattle.four_state.specs.Vector.{Vector}
pub use Rattle.elab_const.specs.declared.entry.Entry.{Entry}
pub use Rattle.elab_const.specs.declared.entry.Entry.TheVariants.{Constant, Turn, Signal, Memory}
pub use Rattle.elab_const.specs.declared.fault.Fault.{Fault}
pub use Rattle.elab_const.specs.declared.fault.ConstKind.{ConstKind}
pub use Rattle.elab_const.specs.declared.fault.ConstKind.TheVariants.{NotConstant, TooWide, LoopNotConstant, LoopTooLong, BadRange}

-- what each name means
abbrev pub Names : Type 0
Names = List ℕ → Option Entry

-- the names of a scope
abbrev pub look_up : List (List ℕ × Entry) → Names
look_up bindings name = lookup (λ bound. bytes_eq name bound) bindings

-- the names where x means this
abbrev pub with_entry : List ℕ → Entry → Names → Names
with_entry x e g name = if bytes_eq name x then Some e else g name

-- the names where x means nothing
abbrev pub without_entry : List ℕ → Names → Names
without_entry x g name = if bytes_eq name x then None else g name

-- the names in one turn of a loop over x
abbrev pub with_turn : List ℕ → Vector → Names → Names
with_turn x v g = with_entry x (Turn v) g

-- a width from 1 to 128
abbrev pub IsWidth : ℕ → Type 0
IsWidth w = (1 ≤ w) × (w ≤ 128)

-- signals and words have from 1 to 128 bits
abbrev pub IsEntry : Entry → Type 0
IsEntry (Constant v) = Unit {0}
IsEntry (Turn v) = Unit {0}
IsEntry (Signal high low ranged width signed) = IsWidth width
IsEntry (Memory first last high low ranged width signed) = IsWidth width

-- a fault of this kind at this place
abbrev pub fault_at : ConstKind → Place → Fault
fault_at k p = record { kind = k; place = p }

-- a is below b, or they are equal and the next test holds
abbrev pub below_or : ℕ → ℕ → Bool → Bool
below_or a b next = nat_lt a b || ((a == b) && next)

-- p is before q in the text
abbrev pub is_before : Place → Place → Bool
is_before p q = below_or p.source q.source (below_or p.line q.line (nat_lt p.column q.column))

-- of two faults the one that is first in the text; at one place the first of both
abbrev pub first_of : Fault → Fault → Fault
first_of f h = if is_before h.place f.place then h else f

-- the same where there may be none
abbrev pub earlier : Option Fault → Option Fault → Option Fault
earlier None h = h
earlier (Some f) None = Some f
earlier (Some f) (Some h) = Some (first_of f h)

-- two answers, or the first fault of both
abbrev pub both : {A B : Type 0} → Result A Fault → Result B Fault → Result (A × B) Fault
both (Ok a) (Ok b) = Ok (a, b)
both (Ok a) (Err h) = Err h
both (Err f) (Ok b) = Err f
both (Err f) (Err h) = Err (first_of f h)

-- what a function makes of an answer
abbrev pub on_ok : {A B : Type 0} → Result A Fault → (A → Result B Fault) → Result B Fault
on_ok (Ok a) k = k a
on_ok (Err f) k = Err f

-- the second is sought only where there is no first
abbrev pub or_else : Option Fault → Option Fault → Option Fault
or_else None h = h
or_else (Some f) h = Some f

-- the fault, where the test holds
abbrev pub fault_if : Bool → ConstKind → Place → Option Fault
fault_if test k p = if test then Some (fault_at k p) else None

-- the value, unless there is a fault
abbrev pub unless : {A : Type 0} → Option Fault → A → Result A Fault
unless None x = Ok x
unless (Some f) x = Err f
