-- Rules whose first token says how they begin.
use Rattle.std.proofs.Common.{Bool, true, false}
use Rattle.std.specs.Prelude.{not, ◌&&◌}
use Rattle.grammar_rules.specs.Rule.{Language, Rule, one, empty, both, either, many, maybe, grow, made, nest, nullable}

module _ (L : Language) (known : L.Phrase → Bool) where
  -- no phrase comes first but a known one, and no part that may be empty comes before another
  abbrev pub is_open : {A : Type 0} → Rule L A → Bool
  is_open (one x xs) = true
  is_open empty = true
  is_open (both g h) = not (nullable g) && is_open g
  is_open (either g h) = is_open g && is_open h
  is_open (many g) = is_open g
  is_open (maybe x g) = false
  is_open (grow w f ends g h) = not (nullable g) && is_open g
  is_open (made f g) = is_open g
  is_open (nest p) = known p
