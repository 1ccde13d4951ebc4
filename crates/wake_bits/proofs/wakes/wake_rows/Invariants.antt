use Rattle.std.proofs.Common.{◌≡◌, ℕ, ◌+◌, ◌<◌, length, map}
use Rattle.design_model.specs.Design.{body_at}
use Rattle.design_model.specs.Mentions.{blocking_target, body_mentions}
use Rattle.design_model.specs.View.{design_view}
use Rattle.index_sets.specs.Rows.{row_at}
use Rattle.wake_bits.specs.Wakes.{AreWakes}
use Rattle.wake_bits.proofs.wakes.wake_rows.Given as goal

-- each process so far has its row
abbrev pub invariant-loop-process : goal.invariant-loop-process
invariant-loop-process l =
    record {
      places : length l.lookup.places.items ≡ length l.design.signals;
      mentioned : l.lookup.mentioned.size ≡ length l.design.signals + length l.design.memories;
      count : length l.lists.items ≡ l.process;
      each : (p : ℕ) → p < l.process → AreWakes (design_view l.design) (blocking_target (design_view l.design) (body_at (design_view l.design) p)) (λ x. body_mentions x (body_at (design_view l.design) p)) (row_at l.watched p) (row_at (map (λ list. list.items) l.lists.items) p);
    }
