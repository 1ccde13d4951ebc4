-- The modules that the tokens spell.
use Rattle.std.proofs.Common.{ℕ, true, false, List, [], ◌∷◌, Option, None, Some, codes}
use Rattle.four_state.specs.Arithmetic.{low_bits}
use Rattle.four_state.specs.declared.edge.Edge.TheVariants.{Pos}
use Rattle.flat_design.specs.Identifiers.{named}
use Rattle.verilog_tree.specs.declared.item.Named.{Named}
use Rattle.verilog_tree.specs.declared.item.When.TheVariants.{Edges}
use Rattle.verilog_tree.specs.Tree.{Expr, Item, Module, RangeExpr, Statement, identifier, literal, bit_select, assignment, if_statement, sequential_block, a_statement, no_statements, port_item, variable_item, always_item}
use Rattle.selfrun_design.specs.Selfrun.{at}

abbrev name : ℕ → ℕ → List ℕ → Named
name line column text = named text (at line column)

abbrev number : ℕ → ℕ → ℕ → Expr
number line column n = literal (at line column) (record { bits = low_bits 32 n; signed = true })

abbrev part : ℕ → ℕ → List ℕ → Expr
part line column text = identifier (at line column) text

abbrev range : Expr → Expr → ℕ → ℕ → Option RangeExpr
range high low line column = Some (record { high = high; low = low; bracket = at line column })

abbrev input : ℕ → ℕ → Option RangeExpr → Named → Item
input line column range x = record { place = at line column; form = port_item (record { input = true; reg = false; signed = false; range = range; names = x ∷ [] }) }

abbrev clk : Named
clk = name 1 22 (codes "clk")

abbrev we : Named
we = name 1 33 (codes "we")

abbrev a : Named
a = name 1 49 (codes "a")

abbrev d : Named
d = name 1 64 (codes "d")

abbrev q : Named
q = name 1 84 (codes "q")

abbrev q_port : Item
q_port = record { place = at 1 67; form = port_item (record { input = false; reg = true; signed = false; range = range (number 1 79 7) (number 1 81 0) 1 78; names = q ∷ [] }) }

-- reg [7:0] m [0:15];
abbrev m_item : Item
m_item = record {
  place = at 2 3;
  form = variable_item (record {
    signed = false;
    range = range (number 2 8 7) (number 2 10 0) 2 7;
    names = record { name = name 2 13 (codes "m"); value = None; words = range (number 2 16 0) (number 2 18 15) 2 15 } ∷ [];
  });
}

-- reg [7:0] p;
abbrev p_item : Item
p_item = record {
  place = at 3 3;
  form = variable_item (record {
    signed = false;
    range = range (number 3 8 7) (number 3 10 0) 3 7;
    names = record { name = name 3 13 (codes "p"); value = None; words = None } ∷ [];
  });
}

-- p <= d
abbrev keep_d : Statement
keep_d = assignment (at 5 5) (part 5 5 (codes "p")) false (part 5 10 (codes "d"))

-- m[a] <= p
abbrev write_word : Statement
write_word = assignment (at 6 13) (bit_select (at 6 13) (part 6 13 (codes "m")) (part 6 15 (codes "a"))) false (part 6 21 (codes "p"))

-- q <= m[a]
abbrev read_word : Statement
read_word = assignment (at 6 29) (part 6 29 (codes "q")) false (bit_select (at 6 34) (part 6 34 (codes "m")) (part 6 36 (codes "a")))

abbrev write_or_read : Statement
write_or_read = if_statement (at 6 5) (part 6 9 (codes "we")) write_word (a_statement read_word no_statements)

abbrev block_item : Item
block_item = record {
  place = at 4 3;
  form = always_item (Edges ((Pos, name 4 20 (codes "clk")) ∷ [])) (sequential_block (at 4 25) (a_statement keep_d (a_statement write_or_read no_statements)));
}

abbrev pub modules : List Module
modules = record {
  name = name 1 8 (codes "selfrun");
  params = [];
  ports = clk ∷ we ∷ a ∷ d ∷ q ∷ [];
  items = input 1 16 None clk ∷ input 1 27 None we ∷ input 1 37 (range (number 1 44 3) (number 1 46 0) 1 43) a ∷ input 1 52 (range (number 1 59 7) (number 1 61 0) 1 58) d ∷ q_port
      ∷ m_item ∷ p_item ∷ block_item ∷ [];
} ∷ []
