use Rattle.std.proofs.Common.{ℕ, List, ◌-◌, ◌++◌, sym, ap, ◌∙◌, arith}
use Rattle.std.proofs.lemmas.Result.{IfOk-equal}
use Rattle.std.proofs.lemmas.Option.{slice_get_within}
use Rattle.coverage_db.specs.Merge.{line_at, lines_from_instances}
use Rattle.coverage_db.proofs.BareLines.{source_at, source_past}
use Rattle.coverage_db.proofs.bare_line.push_from_sources.Goals as goal

pub overflow_add-place : goal.overflow_add-place
overflow_add-place c = let within = slice_get_within c.args.db.now.sources c.args.place c.in-Some.name.now (sym c.in-Some.ensures.value) in omega (arith, c.requires.lines, within)

pub returns-in-Some : goal.returns-in-Some
returns-in-Some c = IfOk-equal c.push_source.result _ _ _ c.push_source.ensures (ap (λ t. c.args.text.now ++ t) (sym (source_at 1 c.args.db.now.sources (lines_from_instances c.args.db.now) c.args.place c.in-Some.name.now c.in-Some.ensures.value)))

pub returns-in-None : goal.returns-in-None
returns-in-None c = IfOk-equal c.push_from_instances.result _ _ _ c.push_from_instances.ensures (ap (λ (n : ℕ). c.args.text.now ++ line_at (lines_from_instances c.args.db.now) (c.args.place - n)) c.len.ensures ∙ ap (λ (t : List ℕ). c.args.text.now ++ t) (sym (source_past 1 c.args.db.now.sources (lines_from_instances c.args.db.now) c.args.place c.in-None.ensures.value)))
