use Rattle.std.proofs.Common.{ap, length, map, Some, sym, ◌∙◌}
use Rattle.four_state.specs.declared.bit.Bit.TheVariants.{X}
use Rattle.four_state.specs.Vector.{Vector, fill}
use Rattle.design_model.specs.Design.{memory_at}
use Rattle.design_model.specs.declared.design.Range.{Range}
use Rattle.known_state.specs.Partly.{Partly}
use Rattle.value_store.specs.body_replay.KnownBits.{sure, unknown}
use Rattle.value_store.specs.body_replay.Replay.{word_read}
use Rattle.term_replay.specs.Words.{IsOf}
use Rattle.weak_runs.proofs.Unknown.{answer, read_length, unread_read}
use Rattle.weak_runs.proofs.unread.UnreadReads.word.Goals as goal

pub returns-then-may_name_some : goal.returns-then-may_name_some
returns-then-may_name_some g c =
    let v = g.R.Reads.scene c.args.self.now.reads.now in
    let x = memory_at v.design c.args.memory in
    let is : IsOf c.words.result x = record { first = ap (λ (r : Range). r.high) c.words.ensures; last = ap (λ (r : Range). r.low) c.words.ensures } in
    ap (λ (q : Partly). q.bits) c.unknown.ensures
    ∙ ap unknown (c.width-width.ensures.value ∙ ap length c.word.ensures ∙ read_length v.design c.args.memory v.kept c.args.index.now.signed c.args.index.now.bits)
    ∙ ap (λ b. answer b x.width) (sym c.if-may_name_some.true ∙ c.may_name_some.ensures x is)
    ∙ sym (unread_read v.design c.args.memory (word_read c.args.memory) c.args.index.now.blame c.args.index.now.signed c.args.index.now.bits)

pub returns-else-may_name_some : goal.returns-else-may_name_some
returns-else-may_name_some g c =
    let v = g.R.Reads.scene c.args.self.now.reads.now in
    let x = memory_at v.design c.args.memory in
    let is : IsOf c.words.result x = record { first = ap (λ (r : Range). r.high) c.words.ensures; last = ap (λ (r : Range). r.low) c.words.ensures } in
    ap (λ (q : Partly). q.bits) c.whole.ensures
    ∙ ap (λ (z : Vector). map Some z.bits) c.fill.ensures
    ∙ ap (λ w. sure (fill w X)) (c.width-width.ensures.value ∙ ap length c.word.ensures ∙ read_length v.design c.args.memory v.kept c.args.index.now.signed c.args.index.now.bits)
    ∙ ap (λ b. answer b x.width) (sym c.if-may_name_some.false ∙ c.may_name_some.ensures x is)
    ∙ sym (unread_read v.design c.args.memory (word_read c.args.memory) c.args.index.now.blame c.args.index.now.signed c.args.index.now.bits)
