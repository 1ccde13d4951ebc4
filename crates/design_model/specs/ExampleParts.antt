-- What the worked examples are built of.
use Rattle.std.specs.Prelude.{◌∷◌, ℕ, Bool, true, false, List, [], Some, None}
use Rattle.cov_host.specs.declared.place.Place.{Place}
use Rattle.four_state.specs.declared.bit.Bit.{Bit}
use Rattle.design_model.specs.Tree.{Head, Term, number}
use Rattle.design_model.specs.Design.{Instance, Signal}

-- the place of a token, in line 3 of source 1
abbrev pub at : ℕ → Place
at n = record { source = 1; line = 3; column = n }

-- a one-bit term that is no counted node
abbrev pub plain : Head
plain = record { place = at 0; width = 1; signed = false; node = None }

-- a one-bit term that is a counted node
abbrev pub counted : ℕ → Head
counted n = record { place = at 0; width = 1; signed = false; node = Some n }

-- a two-bit term
abbrev pub wide : Head
wide = record { place = at 0; width = 2; signed = false; node = None }

-- a signal of one bit, with or without input
abbrev pub one_bit : List ℕ → Bool → Signal
one_bit name is_input = record { instance = 0; name = name; high = 0; low = 0; ranged = false; width = 1; signed = false; input = is_input }

-- an input with the range [1:0]
abbrev pub two_bits : List ℕ → Signal
two_bits name = record { instance = 0; name = name; high = 1; low = 0; ranged = true; width = 2; signed = false; input = true }

-- the number 1'b0 or 1'b1
abbrev pub bit_number : Bit → Term
bit_number b = number plain (record { bits = b ∷ []; signed = false })

-- a design of one instance
abbrev pub one_instance : List ℕ → List Instance
one_instance name = record { path = name; «module» = name } ∷ []
