use Rattle.std.proofs.Common.{◌≡◌, ℕ, ◌++◌, inr, arith, take}
use Rattle.std.specs.List.{flat_map}
use Rattle.whole_files.proofs.EffectLemmas.{IsCounted-earlier}
use Rattle.whole_files.proofs.Lines.{AppendsPrefix-after, front_of_pieces}
use Rattle.whole_files.proofs.pieces.warn_texts.Goals as goal

pub returns-in-Err-clause-line : goal.returns-in-Err-clause-line
returns-in-Err-clause-line g c =
    let turn = c.loop-text.invariant in
    let refused = c.in-Err.ensures in
    let pieces = c.args.texts.now in
    let line = flat_map (λ piece. piece.now) pieces in
    let joins : (count : ℕ) → (total : ℕ) × (flat_map (λ piece. piece.now) (take c.loop-text.text-index pieces) ++ take count c.as_bytes.result.now ≡ take total line) =
    λ count. rw c.as_bytes.ensures.value (front_of_pieces (λ piece. piece.now) pieces c.loop-text.text-index count _ (omega arith)) in
    inr (IsCounted-earlier _ _ _ turn.counts.mute refused.counts.mute refused.refused_is_counted, AppendsPrefix-after line _ _ _ _ _ joins turn.warned refused.refused)
