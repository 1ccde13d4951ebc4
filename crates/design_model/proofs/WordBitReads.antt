-- What a bit of a word of a memory reads, in order.
use Rattle.std.proofs.Common.{refl}
use Rattle.design_model.specs.WordBit.{IsWordBitExample}

pub word_bit_example : IsWordBitExample
word_bit_example = record { order = λ clk q words. refl; no_word = λ clk q words. refl }
