-- The laws of each grammar that passes the tests.
use Rattle.std.proofs.Common.{◌≡◌, ℕ, zero, suc, Err, arith}
use Rattle.grammar_rules.specs.Rule.{Language, Tokens, Wrong, unexpected, too_deep}
use Rattle.grammar_rules.specs.Grammar.{Grammar, whole}
use Rattle.grammar_rules.specs.Laws.{Stands, IsExact}
use Rattle.grammar_rules.proofs.Language.{source_sound, source_complete, one_reading}
use Rattle.grammar_rules.proofs.Answers.{unexpected_at, too_deep_at, ends_early}
use Rattle.grammar_rules.proofs.FirstDeep.{reads_first, one_first, first_at, first_again}
use Rattle.grammar_rules.proofs.Stays.{deep_in_each}
use Rattle.grammar_rules.proofs.Measured.{Measured}
use Rattle.grammar_rules.proofs.Passes.{Tables, Passes}

module _ (L : Language) (G : Grammar L) (T : Tables L) (P : Passes L G T) (M : Measured L G) where
  stands : (d : ℕ) (i : Tokens L) (k : Wrong L) (n : ℕ) → whole L G d i ≡ Err (record { kind = k; left = n }) → Stands L G d i k n
  stands d i unexpected zero e = ends_early L G T P d i e
  stands d i unexpected (suc n) e = unexpected_at L G T P d (suc n) i e (omega arith)
  stands d i (too_deep place) n e = ((too_deep_at L G T P d n place i e).1, first_at L G T P d i place n e, deep_in_each L G T P M d i place n e)

  pub exact : IsExact L G
  exact = record {
    sound = source_sound L G;
    complete = source_complete L G T P;
    one_reading = one_reading L G T P;
    faults = λ d i f e. stands d i f.kind f.left e;
    too_deep_met = reads_first L G T P;
    one_too_deep = one_first L G T P;
    too_deep_known = first_again L G T P;
  }
