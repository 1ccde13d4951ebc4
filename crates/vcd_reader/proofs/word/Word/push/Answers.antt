use Rattle.vcd_reader.specs.Holding.{IsOtherWord}
use Rattle.vcd_reader.proofs.WordTests.{other_more}
use Rattle.vcd_reader.proofs.word.Word.push.Goals as goal

pub returns-in-Other : goal.returns-in-Other
returns-in-Other c = λ bytes is.
    let other : IsOtherWord c.in-Other.spelling c.args.has_begun bytes = rw c.in-Other.is at is in
    record { other = other_more c.args.has_begun bytes c.args.byte other.other; spelling = c.push.ensures bytes other.spelling }
