-- The design of a selfrun: clk is signal 0, we 1, a 2, d 3, q 4 and p 5, and m is memory 6 with the words 0 to 15.
use Rattle.std.specs.Prelude.{◌∷◌, ℕ, Bool, true, false, List, [], None, Some, codes}
use Rattle.cov_host.specs.declared.place.Place.{Place}
use Rattle.four_state.specs.declared.edge.Edge.TheVariants.{Pos}
use Rattle.design_model.specs.Tree.{Head, Stmt, a_stmt, all_of, block, branch, clocked, no_stmts, set, signal, word, word_of}
use Rattle.design_model.specs.Design.{Design}
use Rattle.design_model.specs.declared.design.Memory.{Memory}
use Rattle.design_model.specs.declared.design.Signal.{Signal}

-- a place in the text
abbrev pub at : ℕ → ℕ → Place
at line column = record { source = 1; line = line; column = column }

-- an unsigned term of this width that is no counted node
abbrev pub plain : ℕ → ℕ → ℕ → Head
plain line column width = record { place = at line column; width = width; signed = false; node = None }

-- a signal of one bit that is an input
abbrev pub one_bit : List ℕ → Signal
one_bit name = record { instance = 0; name = name; high = 0; low = 0; ranged = false; width = 1; signed = false; input = true }

-- a signal with the range [high:0]
abbrev pub several_bits : List ℕ → ℕ → ℕ → Bool → Signal
several_bits name high width input = record { instance = 0; name = name; high = high; low = 0; ranged = true; width = width; signed = false; input = input }

abbrev pub words : Memory
words = record { instance = 0; name = codes "m"; first = 0; last = 15; high = 7; low = 0; ranged = true; width = 8; signed = false }

-- p <= d
abbrev pub keep_d : Stmt
keep_d = set (at 5 5) 1 false (all_of 5) (signal (plain 5 10 8) 3)

-- m[a] <= p
abbrev pub write_word : Stmt
write_word = set (at 6 13) 3 false (word_of 6 (signal (plain 6 15 4) 2)) (signal (plain 6 21 8) 5)

-- q <= m[a]
abbrev pub read_word : Stmt
read_word = set (at 6 29) 4 false (all_of 4) (word (plain 6 34 8) 6 (signal (plain 6 36 4) 2))

-- if (we) .. else ..; the test is counted node 1
abbrev pub write_or_read : Stmt
write_or_read = branch (at 6 5) 2 (signal (record { place = at 6 9; width = 1; signed = false; node = Some 1 }) 1) write_word (a_stmt read_word no_stmts)

-- the body of the block
abbrev pub body : Stmt
body = block (at 4 25) (a_stmt keep_d (a_stmt write_or_read no_stmts))

-- the design
abbrev pub selfrun : Design
selfrun = record {
  top = codes "selfrun";
  instances = record { path = codes "selfrun"; «module» = codes "selfrun" } ∷ [];
  signals = one_bit (codes "clk") ∷ one_bit (codes "we") ∷ several_bits (codes "a") 3 4 true ∷ several_bits (codes "d") 7 8 true
      ∷ several_bits (codes "q") 7 8 false ∷ several_bits (codes "p") 7 8 false ∷ [];
  memories = words ∷ [];
  processes = clocked 0 ((Pos, 0) ∷ []) body ∷ [];
  constants = [];
  aliases = [];
}
