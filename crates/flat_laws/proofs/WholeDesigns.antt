-- The whole flat designs of two texts.
use Rattle.std.proofs.Common.{◌≡◌, refl}
use Rattle.std.specs.Prelude.{true, false, [], ◌∷◌, Option, Some, None, codes, ℕ, Bool}
use Rattle.four_state.specs.declared.edge.Edge.TheVariants.{Pos}
use Rattle.design_model.specs.Design.{Design}
use Rattle.design_model.specs.Tree.{Head, number, signal, all_of, branch, set, no_stmts, a_stmt, clocked}
use Rattle.flat_design.specs.Faults.{flat}
use Rattle.flat_laws.proofs.ExampleParts.{at, known}
use Rattle.flat_laws.proofs.FlipFlopText as flip_flop
use Rattle.flat_laws.proofs.HierarchyText as hierarchy

abbrev pub head : ℕ → ℕ → ℕ → Bool → Option ℕ → Head
head l c w s n = record { place = at l c; width = w; signed = s; node = n }

-- always @(posedge clk) if (a) q <= 1; else q <= 0;
-- clk is signal 0, a is 1, q is 2; the right sides have the 32 bits of their literals
abbrev pub ff : Design
ff =
    record {
      top = codes "ff";
      instances = record { path = codes "ff"; «module» = codes "ff" } ∷ [];
      signals = record { instance = 0; name = codes "clk"; high = 0; low = 0; ranged = false; width = 1; signed = false; input = true } ∷
          record { instance = 0; name = codes "a"; high = 0; low = 0; ranged = false; width = 1; signed = false; input = true } ∷
          record { instance = 0; name = codes "q"; high = 0; low = 0; ranged = false; width = 1; signed = false; input = false } ∷ [];
      memories = [];
      processes = clocked 0 ((Pos, 0) ∷ []) (branch (at 3 5) 1 (signal (head 3 9 1 false (Some 1)) 1) (set (at 3 12) 2 false (all_of 2) (number (head 3 17 32 true None)
          (known 32 1 true))) (a_stmt (set (at 3 25) 3 false (all_of 2) (number (head 3 30 32 true None) (known 32 0 true))) no_stmts)) ∷ [];
      constants = [];
      aliases = [];
    }

flip_flop_design : flat flip_flop.text (codes "ff") ≡ Some ff
flip_flop_design = refl

-- the child's ports are the outer signals: clk is 0, d is 1, q is 2
top : Design
top =
    record {
      top = codes "top";
      instances = record { path = codes "top"; «module» = codes "top" } ∷ record { path = codes "top.u"; «module» = codes "reg2" } ∷ [];
      signals = record { instance = 0; name = codes "clk"; high = 0; low = 0; ranged = false; width = 1; signed = false; input = true } ∷
          record { instance = 0; name = codes "d"; high = 1; low = 0; ranged = true; width = 2; signed = false; input = true } ∷
          record { instance = 0; name = codes "q"; high = 1; low = 0; ranged = true; width = 2; signed = false; input = false } ∷ [];
      memories = [];
      processes = clocked 1 ((Pos, 0) ∷ []) (set (at 5 23) 1 false (all_of 2) (signal (head 5 28 2 false None) 1)) ∷ [];
      constants = [];
      aliases = record { instance = 1; name = codes "clk"; signal = 0 } ∷ record { instance = 1; name = codes "d"; signal = 1 } ∷ record { instance = 1; name = codes "q"; signal = 2 } ∷ [];
    }

hierarchy_design : flat hierarchy.text (codes "top") ≡ Some top
unfolding top
hierarchy_design = refl
