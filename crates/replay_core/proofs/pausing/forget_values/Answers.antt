use Rattle.std.proofs.Common.{◌≤◌, ◌∙◌, length, ap, subst, sym}
use Rattle.std.specs.List.{All}
use Rattle.body_store.specs.Made.{HasWordWidth}
use Rattle.code_values.specs.Values.{Values}
use Rattle.design_model.specs.Design.{Design}
use Rattle.design_model.specs.View.{design_view}
use Rattle.replay_core.proofs.pausing.forget_values.Goals as goal

pub forget-requires-clause-widths : goal.forget-requires-clause-widths
forget-requires-clause-widths c = subst (All HasWordWidth) (sym c.as_slice.ensures) (c.premises_law.ensures (design_view c.args.design.now) c.requires.lawful).word_widths

pub forget-requires-clause-count : goal.forget-requires-clause-count
forget-requires-clause-count c = ap length c.as_slice.ensures ∙ sym c.requires.fits.2.words.ranges.memories.count

pub forget_all-requires : goal.forget_all-requires
forget_all-requires c = record { few = subst (λ (d : Design). length d.signals ≤ 65536) (sym c.requires.fits.2.state.known.design) c.requires.lawful.few_signals }

pub returns-clause-knows : goal.returns-clause-knows
returns-clause-knows c = c.forget_all.ensures.knows (design_view c.args.design.now) c.requires.fits.2.state.kept c.requires.fits.2.state.known

pub returns-clause-ranges : goal.returns-clause-ranges
returns-clause-ranges c = (c.forget.ensures (design_view c.args.design.now) c.args.state.now.notes.written.ranges (sym c.as_slice.ensures) c.requires.fits.2.words.ranges).0

pub returns-clause-words : goal.returns-clause-words
returns-clause-words c = (c.forget.ensures (design_view c.args.design.now) c.args.state.now.notes.written.ranges (sym c.as_slice.ensures) c.requires.fits.2.words.ranges).1

pub returns-clause-state : goal.returns-clause-state
returns-clause-state c = ap (λ (v : Values). record c.args.state.now { values = v; store = c.forget_all.new.store; machines = c.forget-3.new.self }) c.forget-2.ensures
