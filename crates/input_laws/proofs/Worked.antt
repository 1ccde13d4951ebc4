-- The worked case, computed.
use Rattle.std.proofs.Common.{◌≡◌, ℕ, zero, suc, ◌+◌, ◌<◌, true, false, List, [], ◌∷◌, refl, subst, lit≤, arith}
use Rattle.std.proofs.lemmas.Bool.{false≢true}
use Rattle.std.proofs.lemmas.List.Elements.{All-from_recursion}
use Rattle.std.specs.Prelude.{codes}
use Rattle.coverage_db.specs.declared.verdict.DbVerdict.{DbVerdict}
use Rattle.coverage_db.specs.declared.verdict.DbVerdict.TheVariants.{Hit, Missed, Undetermined}
use Rattle.design_model.specs.Design.{cell}
use Rattle.verdict_laws.specs.table_laws.point_table.cover_points.design_machines.state_machines.Drawn.{IsPointWith}
use Rattle.verdict_laws.specs.table_laws.point_table.cover_points.design_machines.state_machines.Machines.{no_machines}
use Rattle.design_model.specs.declared.point.Point.{Point}
use Rattle.design_model.specs.declared.point.Point.TheVariants.{Line as line_point, Logic as logic_point, Toggle as toggle_point, State as state_point, Arc as arc_point, Word as word_point}
use Rattle.four_state.specs.declared.bit.Bit.TheVariants.{One, Zero}
use Rattle.design_model.specs.Machine.{is_input_cell}
use Rattle.design_model.specs.StillLaw.{BindsInputs}
use Rattle.verdict_laws.specs.table_laws.Rows.{IsAddressOf}
use Rattle.input_laws.specs.Exact.{IsExactVerdict}
use Rattle.input_laws.specs.Inputs.{HasInputsAlone}
use Rattle.input_laws.specs.Toggled.{TogglesOver, dumped_bit}
use Rattle.input_laws.specs.Worked.{AreWorkedToggles, IsWorkedRow, IsWorkedRun, clk_rise, nested, nested_dump, nested_rows, nested_tree, nested_values}
use Rattle.input_laws.proofs.Texts.{shown_law}

nested_inputs : HasInputsAlone nested_tree
nested_inputs = record { processes = refl; memories = refl; signals = All-from_recursion (λ s. s.input ≡ true) nested_tree.signals (refl, (refl, tt)) }

nested_bound : BindsInputs nested_tree nested_values
nested_bound c is = inputs c.thing c.place is
  where
    inputs : (s i : ℕ) → is_input_cell nested_tree (cell s i) ≡ true → nested_values.bound s ≡ true
    inputs zero i is = refl
    inputs (suc zero) i is = refl
    inputs (suc (suc s)) i is = absurd (false≢true is)

pub worked_run : IsWorkedRun
worked_run = record {
  inputs = nested_inputs;
  bound = nested_bound;
  inner_name = refl;
  run = shown_law nested nested_dump (codes "tb.dut") nested_inputs (omega arith, (omega arith, (omega arith, tt)));
}

-- its listed times
abbrev nested_times : List ℕ
nested_times = 0 ∷ 5 ∷ 10 ∷ 15 ∷ []

never_falls : TogglesOver nested_values (cell 1 0) false → ⊥
never_falls over = go over.number over.inside over.before over.after
  where
    go : (k : ℕ) → k + 2 < 4 → dumped_bit nested_values nested_times (cell 1 0) k ≡ One → dumped_bit nested_values nested_times (cell 1 0) (k + 1) ≡ Zero → ⊥
    go zero inside before after = cc
    go (suc zero) inside before after = cc
    go (suc (suc k)) inside before after = omega arith

falls_late : TogglesOver nested_values (cell 1 1) false → ⊥
falls_late over = go over.number over.inside over.before over.after
  where
    go : (k : ℕ) → k + 2 < 4 → dumped_bit nested_values nested_times (cell 1 1) k ≡ One → dumped_bit nested_values nested_times (cell 1 1) (k + 1) ≡ Zero → ⊥
    go zero inside before after = cc
    go (suc zero) inside before after = cc
    go (suc (suc k)) inside before after = omega arith

clk_rises : TogglesOver nested_values (cell 0 0) true
clk_rises = record { number = 0; inside = lit≤ tt; before = refl; after = refl }

pub worked_toggles : AreWorkedToggles
worked_toggles = record {
  rises = clk_rises;
  falls = record { number = 1; inside = lit≤ tt; before = refl; after = refl };
  unknown = never_falls;
  too_late = falls_late;
}

-- the point of the rise of clk
abbrev clk_point : Point
clk_point = toggle_point 0 0 true

is_clk_point : IsPointWith nested_tree no_machines clk_point
is_clk_point = (omega arith, (omega arith, omega arith))

names_clk : (verdict : DbVerdict) → IsAddressOf nested_tree nested_rows clk_point (clk_rise verdict).address
names_clk verdict = record { place = omega arith; instance = refl; subject = refl }

-- each point that the row names is the rise of clk
exact_hit : (x : Point) → IsPointWith nested_tree no_machines x → IsAddressOf nested_tree nested_rows x (clk_rise Hit).address → IsExactVerdict nested_tree nested_values x Hit
exact_hit (line_point p n at w) is_point named = let e = named.subject in cc
exact_hit (logic_point p n at op c) is_point named = let e = named.subject.2 in cc
exact_hit (toggle_point zero i rise) is_point named = let e = named.subject in let same : true ≡ rise = cc in subst (λ b. TogglesOver nested_values (cell 0 0) b) same clk_rises
exact_hit (toggle_point (suc zero) i rise) is_point named = let e = named.subject in cc
exact_hit (toggle_point (suc (suc s)) i rise) is_point named = absurd (omega (arith, is_point.0))
exact_hit (state_point i name s state x) is_point named = let e = named.subject in cc
exact_hit (arc_point i name s from to x y) is_point named = let e = named.subject in cc
exact_hit (word_point m i write) is_point named = let e = named.subject in cc

pub worked_row : IsWorkedRow
worked_row = record {
  hit = record { point = clk_point; is_point = is_clk_point; named = names_clk Hit; exact = exact_hit };
  missed = λ row. row.exact clk_point is_clk_point (names_clk Missed) clk_rises;
  undetermined = λ time path row. row.exact clk_point is_clk_point (names_clk (Undetermined time path));
}
