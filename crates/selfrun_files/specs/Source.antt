-- The text of the design.
-- Bytes are written as numbers: 10 line feed.
use Rattle.std.specs.Prelude.{ℕ, List, [], ◌∷◌, ◌++◌, codes, flat_map}

-- a line ends in one line feed
abbrev pub ended : List ℕ → List ℕ
ended line = line ++ 10 ∷ []

-- the lines of the text
abbrev pub source_lines : List (List ℕ)
source_lines =
    codes "module selfrun(input clk, input we, input [3:0] a, input [7:0] d, output reg [7:0] q);"
    ∷ codes "  reg [7:0] m [0:15];"
    ∷ codes "  reg [7:0] p;"
    ∷ codes "  always @(posedge clk) begin"
    ∷ codes "    p <= d;"
    ∷ codes "    if (we) m[a] <= p; else q <= m[a];"
    ∷ codes "  end"
    ∷ codes "endmodule" ∷ []

-- the text of the design
abbrev pub source_text : List ℕ
source_text = flat_map ended source_lines
