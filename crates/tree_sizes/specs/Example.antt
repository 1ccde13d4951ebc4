-- A loop over three turns, of which only the sizes matter here.
use Rattle.std.specs.Prelude.{true, [], ◌∷◌, codes}
use Rattle.cov_host.specs.declared.place.Place.{Place}
use Rattle.four_state.specs.declared.bit.Bit.TheVariants.{One}
use Rattle.four_state.specs.declared.operator.Binary.TheVariants.{Add}
use Rattle.verilog_tree.specs.Tree.{Expr, binary_operator, identifier, literal, Statement, for_loop, assignment}

abbrev pub here : Place
here = record { source = 1; line = 1; column = 1 }

-- a name of two bytes
abbrev pub named : Expr
named = identifier here (codes "ab")

-- `ab + 1`
abbrev pub added : Expr
added = binary_operator here Add named (literal here (record { bits = One ∷ []; signed = true }))

-- `for (ab = ab + 1; ab; ab = ab + 1) ab = ab + 1`
abbrev pub looped : Statement
looped = for_loop here (record { place = here; name = named; first = added; test = named; target = named; step = added }) (assignment here named true added)
