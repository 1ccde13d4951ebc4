use Rattle.std.proofs.Common.{inr, arith}
use Rattle.std.specs.List.{flat_map}
use Rattle.whole_files.proofs.EffectLemmas.{IsCounted-earlier}
use Rattle.whole_files.proofs.Lines.{AppendsPrefix-after, front_of_pieces}
use Rattle.whole_files.proofs.pieces.warn_pieces.Goals as goal

pub returns-in-Err-clause-line : goal.returns-in-Err-clause-line
returns-in-Err-clause-line g c =
    let turn = c.loop-piece.invariant in
    let refused = c.in-Err.ensures in
    let pieces = c.args.pieces.now in
    let line = flat_map (λ piece. piece.now) pieces in
    inr (IsCounted-earlier _ _ _ turn.counts.mute refused.counts.mute refused.refused_is_counted, AppendsPrefix-after line _ _ _ _ _ (λ count. front_of_pieces (λ piece. piece.now) pieces c.loop-piece.piece-index count _ (omega arith)) turn.warned refused.refused)
