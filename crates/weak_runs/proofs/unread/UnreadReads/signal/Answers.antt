use Rattle.std.proofs.Common.{ap, ◌∙◌}
use Rattle.design_model.specs.Design.{signal_cells}
use Rattle.value_store.specs.body_replay.KnownBits.{unknown}
use Rattle.known_state.specs.Partly.{Partly}
use Rattle.std.proofs.Common.{length}
use Rattle.weak_runs.proofs.Unknown.{unknown_row}
use Rattle.weak_runs.proofs.unread.UnreadReads.signal.Goals as goal

pub returns-clause-bits : goal.returns-clause-bits
returns-clause-bits g c =
    let v = g.R.Reads.scene c.args.self.now.reads.now in
    ap (λ (q : Partly). q.bits) c.unknown.ensures ∙ ap unknown (c.width.ensures.value ∙ ap length c.signal.ensures.bits) ∙ unknown_row v.kept (signal_cells v.design c.args.signal)
