use Rattle.std.proofs.Common.{◌≡◌, ◌∙◌, List, ap, subst}
use Rattle.cover_marks.specs.Index.{FindsStates}
use Rattle.cover_marks.specs.Slots.{state_counts}
use Rattle.cover_marks.proofs.index.PointIndex.new.Goals as goal

pub returns : goal.returns
returns c =
    let ps = c.args.points.now in
    let counts : c.in_ok-counts.counts.items ≡ state_counts ps.machines.items = c.in_ok-counts.ensures ∙ ap state_counts c.as_slice.ensures.value in
    record {
      lines = c.in_ok-lines.ensures;
      nodes = c.in_ok-nodes.ensures;
      toggles = c.in_ok-toggles.ensures;
      counts = counts;
      states = subst (λ (counts : List _). FindsStates ps counts c.in_ok-states.states) c.as_slice-2.ensures.value c.in_ok-states.ensures;
      words = c.in_ok-words.ensures;
    }
