use Rattle.design_model.proofs.WordBitReads.{word_bit_example}
use Rattle.design_model.proofs.examples.bit_of_word.Goals as goal

pub returns : goal.returns
returns c = word_bit_example
