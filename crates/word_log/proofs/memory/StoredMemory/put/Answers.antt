use Rattle.std.proofs.Common.{ap}
use Rattle.word_log.proofs.Shapes.{word_put}
use Rattle.word_log.proofs.memory.StoredMemory.put.Goals as goal

pub returns : goal.returns
returns c =
    let e = c.set_word.ensures in
    ap (λ r. record { words = r; written = c.args.written }) (word_put c.args.self.now.words c.set_word.new.self c.args.place c.args.value.now.bits e.shape e.size_before e.size c.requires.place e.words)
