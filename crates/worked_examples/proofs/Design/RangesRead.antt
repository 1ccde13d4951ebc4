-- The selects, computed.
use Rattle.std.proofs.Common.{refl}
use Rattle.worked_examples.specs.Design.Ranges.{IsRangesExample}

pub ranges_example : IsRangesExample
ranges_example =
    record {
      first_bit = λ p q s t. refl;
      first_bit_rising = λ p q s t. refl;
      last_bit_rising = λ p q s t. refl;
      outside_bit = λ p q s t. refl;
      outside_bit_rising = λ p q s t. refl;
      middle = λ p q s t. refl;
      middle_rising = λ p q s t. refl;
      up = λ p q s t. refl;
      up_rising = λ p q s t. refl;
      down = λ p q s t. refl;
      down_rising = λ p q s t. refl;
      partly_above = λ p q s t. refl;
      partly_above_rising = λ p q s t. refl;
      partly_below = λ p q s t. refl;
      partly_below_rising = λ p q s t. refl;
      whole_word = λ p q s t. refl;
      bit_of_word_rising = λ p q s t. refl;
      outside_word = λ p q s t. refl;
      written = λ a b. refl;
      written_rising = λ a b. refl;
      written_partly = λ a b. refl;
      written_partly_rising = λ a b. refl;
      written_word = λ a b e f. refl;
      outside_not_written = λ a b e f. refl;
    }
