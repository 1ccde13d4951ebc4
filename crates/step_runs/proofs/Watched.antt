-- The rows that the processes of a lawful design run with.
use Rattle.std.proofs.Common.{◌≡◌, ◌∙◌, ℕ, ◌+◌, ◌<◌, Bool, false, List, length, get_or, sym, ap, subst, arith}
use Rattle.std.specs.List.{All}
use Rattle.std.proofs.Math.ListN.{get_or-map}
use Rattle.std.proofs.lemmas.List.{length-map}
use Rattle.std.proofs.lemmas.List.Elements.{All-from_get_or, Contains-get_or}
use Rattle.design_model.specs.Design.{Design, In, process_at}
use Rattle.design_model.specs.Lawful.{IsLawfulDesign}
use Rattle.index_sets.specs.Rows.{row_at}
use Rattle.settling.proofs.process_order.Distinct.{contains_in}
use Rattle.settling.specs.replay_model.Tables.{AreTables, Tables}
use Rattle.settling.specs.wake_bits.Wakes.{AreWakeRows}
use Rattle.settling.specs.wake_bits.declared.wakes.Wake.{Wake}
use Rattle.settling.proofs.wake_bits.Mentioned.{level_below}
use Rattle.step_runs.specs.Laws.{RowsLaw}

-- in place of what a process does not watch
abbrev no_wake : Wake
no_wake = record { thing = 0; mask = 0; mentioned = false }

module _ (d : Design) (bound : ℕ → Bool) (tables : Tables) (watched : List (List ℕ)) (wakes : List (List Wake)) (lawful : IsLawfulDesign d) (tabled : AreTables d bound tables)
    (are : (p : ℕ) → tables.watched p ≡ row_at watched p) (rows : AreWakeRows d watched wakes) where
  -- a process watches signals and memories
  below : (p x : ℕ) → In x (row_at watched p) → x < length d.signals + length d.memories
  below p x i =
      let level = (tabled.watched p x).0 (subst (In x) (sym (are p)) i) in
      level_below d x (process_at d p) (lawful.bodies p) (lawful.lists p) level

  pub things_are : (p : ℕ) → All (λ (w : Wake). w.thing < length d.signals + length d.memories) (row_at wakes p)
  things_are p = All-from_get_or (λ (w : Wake). w.thing < length d.signals + length d.memories) (row_at wakes p) no_wake (λ k l.
      let row = row_at wakes p in
      let things = (rows.each p).things in
      let less : k < length (row_at watched p) = omega (arith, l, length-map row (λ (w : Wake). w.thing), ap length things) in
      below p (get_or row k no_wake).thing (subst (λ x. In x (row_at watched p)) (ap (λ ys. get_or ys k 0) (sym things) ∙ get_or-map (λ (w : Wake). w.thing) row k no_wake) (contains_in (get_or (row_at watched p) k 0) (row_at watched p) (Contains-get_or (row_at watched p) k 0 less))))

pub has_rows : RowsLaw
has_rows d bound tables watched targets written wakes lawful tabled are count blocking names rows = record {
  targets = blocking;
  written_count = names.count;
  written = λ p x settles. names.each p x;
  wakes_count = rows.count ∙ count;
  things = things_are d bound tables watched wakes lawful tabled are rows;
}
