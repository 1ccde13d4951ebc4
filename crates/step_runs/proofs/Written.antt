-- What each process of a design assigns.
use Rattle.std.proofs.Common.{◌≡◌, ◌∙◌, ℕ, ◌==◌, [], map, refl, sym, ap}
use Rattle.std.specs.List.{list_any}
use Rattle.std.proofs.lemmas.List.{length-map}
use Rattle.design_model.specs.Design.{body, process_at}
use Rattle.design_model.specs.Mentions.{body_assigns}
use Rattle.design_model.specs.Tree.{Process, assign, clocked, comb}
use Rattle.design_model.specs.View.{design_view, process_view}
use Rattle.design_model.specs.declared.design.Design.{Design}
use Rattle.settling.proofs.design_wakes.Tables.{names_row}
use Rattle.settling.proofs.process_order.Driven.{driven_is}
use Rattle.step_runs.specs.Rows.{AreWrittenRows, written_names}

names_are : (x : ℕ) (p : Process) → list_any (λ y. y == x) (written_names p) ≡ body_assigns x (body p)
names_are x (assign i y t counted) = driven_is x (assign i y t counted) refl
names_are x (comb i wakes s) = driven_is x (comb i wakes s) refl
names_are x (clocked i events s) = driven_is x (comb i [] s) refl

-- the rows of all processes
pub rows_are : (c : Design) → AreWrittenRows (design_view c) (map (λ q. written_names (process_view q)) c.processes)
rows_are c = record {
  count = length-map c.processes (λ q. written_names (process_view q)) ∙ sym (length-map c.processes process_view);
  each = λ p x. ap (list_any (λ y. y == x)) (names_row written_names c.processes p refl) ∙ names_are x (process_at (design_view c) p);
}
