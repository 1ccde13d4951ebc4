-- The value of a parameter, once its range is known (clause 3.11).
use Rattle.std.specs.Prelude.{Bool, true, not, ◌&&◌, ◌||◌, unwrap_or, if◌then◌else◌, Option, Some, None}
use Rattle.design_model.specs.declared.design.Range.{Range}
use Rattle.four_state.specs.Vector.{Vector, extend}
use Rattle.verilog_tree.specs.Tree.{Param}
use Rattle.flat_design.specs.Declarations.{is_sound_vector, param_faults, typed_value}
use Rattle.flat_design.specs.Fault.{none}
use Rattle.flat_design.specs.declared.entry.Entry.{Entry}
use Rattle.flat_design.specs.declared.entry.Entry.TheVariants.{Constant, Faulty}
use Rattle.flat_design.specs.Scope.{Scope, constant, names_faulty, range_width}

-- with this range and sign, or without a range as it is
abbrev pub ranged_as : Option Range → Bool → Vector → Vector
ranged_as None signed v = record { bits = v.bits; signed = v.signed || signed }
ranged_as (Some r) signed v = record { bits = extend (range_width (Some r)) v.signed v.bits; signed = signed }

-- an integer, of a range, signed, or as the value is
abbrev pub typed_as : Bool → Option Range → Bool → Vector → Vector
typed_as integer range signed v = if integer then record { bits = extend 32 v.signed v.bits; signed = true } else ranged_as range signed v

-- what a parameter means, with the value that an override gives
abbrev pub entry_given : Scope → Option Vector → Param → Entry
entry_given g given p =
    if none (param_faults g p) && is_sound_vector g p.range && not (names_faulty g p.value) then Constant (typed_value g p (unwrap_or given (constant g p.value))) else Faulty
