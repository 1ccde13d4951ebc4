use Rattle.std.proofs.Common.{◌≡◌, ◌++◌, [], List, ℕ, map, sym, ap, ◌∙◌}
use Rattle.std.specs.Prelude.{codes}
use Rattle.coverage_db.specs.declared.address.SourceLine.{SourceLine}
use Rattle.coverage_db.specs.Text.{ended}
use Rattle.lcov_text.specs.declared.traced.Traced.{Traced}
use Rattle.lcov_text.specs.Points.{is_reached}
use Rattle.lcov_text.specs.Views.{trace_view, is_among}
use Rattle.lcov_text.proofs.Lines.{whole_written}
use Rattle.lcov_text.proofs.whole_tracefile.tracefile.Goals as goal

pub returns : goal.returns
returns c =
    let same = ap (map trace_view) c.deref-3.ensures.value ∙ c.in_ok-points.ensures.points in
    let reach : (at : SourceLine) → is_among c.deref-2.result.now at ≡ is_reached (map trace_view c.deref-3.result.now) at =
    λ at. ap (λ (t : List SourceLine). is_among t at) c.deref-2.ensures.value ∙ c.in_ok-hit_lines.ensures.lines at ∙ ap (λ (t : List Traced). is_reached (map trace_view t) at) (c.deref.ensures.value ∙ sym c.deref-3.ensures.value) in
    let head = c.in_ok-push_word.ensures ∙ ap (λ (t : List ℕ). t ++ ended (codes "TN:" ++ c.as_slice.result.now)) c.new-text.ensures ∙ ap (λ (n : List ℕ). [] ++ ended (codes "TN:" ++ n)) c.as_slice.ensures in
    whole_written c.args.db.now (map trace_view c.deref-3.result.now) (is_among c.deref-2.result.now) c.push_word.new.text c.push_records.new.text same reach head c.in_ok-push_records.ensures
