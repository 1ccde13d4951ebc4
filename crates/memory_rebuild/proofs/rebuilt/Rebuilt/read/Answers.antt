use Rattle.std.proofs.Common.{length, ap, sym, subst, ◌∙◌}
use Rattle.body_replay.specs.KnownBits.{AllAllow, KnownBits}
use Rattle.memory_rebuild.specs.Words.{named_by, true_word}
use Rattle.memory_rebuild.proofs.Reading.{read_blamed, read_length}
use Rattle.memory_rebuild.proofs.Laws.{read_by_sure, read_sound, read_stands}
use Rattle.memory_rebuild.proofs.rebuilt.Rebuilt.read.Goals as goal

pub returns-clause-width : goal.returns-clause-width
returns-clause-width c = ap (λ q. length q.bits) c.looked_up.ensures.value ∙ read_length c.args.self.now c.args.index.now c.looked_up.ensures.widths

pub returns-clause-sound : goal.returns-clause-sound
returns-clause-sound c = λ v is h k.
    let P : KnownBits → Type 0 = λ ps. AllAllow ps (true_word c.args.self.now.shape v (named_by c.args.self.now.shape c.args.index.now.signed is)) in
    subst P (sym (ap (λ q. q.bits) c.looked_up.ensures.value)) (read_sound c.args.self.now c.args.index.now c.looked_up.ensures.widths v h is k)

pub returns-clause-sure_index : goal.returns-clause-sure_index
returns-clause-sure_index c = λ is e. ap (λ q. q.bits) c.looked_up.ensures.value ∙ read_by_sure c.args.self.now c.args.index.now is e

pub returns-clause-blame : goal.returns-clause-blame
returns-clause-blame c = λ e. read_blamed c.args.self.now c.args.index.now c.looked_up.result c.looked_up.ensures.value e

pub returns-clause-stands : goal.returns-clause-stands
returns-clause-stands c = λ d b m is. ap (λ q. q.bits) c.looked_up.ensures.value ∙ read_stands d b m c.args.self.now is c.args.index.now
