-- The answers of questions about operands.
use Rattle.std.proofs.Common.{◌≡◌, ◌∙◌, ℕ, Bool, true, false, if◌then◌else◌, Option, Some, None, refl, sym, ap}
use Rattle.std.specs.List.{list_all}
use Rattle.four_state.specs.declared.bit.Bit.TheVariants.{Zero}
use Rattle.four_state.specs.declared.truth.Truth.{Truth}
use Rattle.four_state.specs.declared.truth.Truth.TheVariants.{True, False, Strange}
use Rattle.four_state.specs.Vector.{truth}
use Rattle.known_state.specs.declared.maybe.Maybe.{Maybe}
use Rattle.known_state.specs.declared.maybe.Maybe.TheVariants.{Yes, No, Unsure}
use Rattle.known_state.specs.declared.maybe.KnownTruth.TheVariants as known
use Rattle.known_state.specs.Maybe.{Holds, IsTruthOf}
use Rattle.known_state.specs.Partly.{Partly, filled}
use Rattle.body_replay.specs.KnownBits.{holds, known_truth}
use Rattle.body_replay.specs.Replay.{ask, ask_of, may_be_zero}
use Rattle.body_replay.proofs.Answered as a
use Rattle.body_replay.proofs.Steps.{ask_answer, is_false}
use Rattle.term_replay.specs.Questions.{IsAnswer, answer_of, blame_in, is_truth_false}

same_answer : (m : Maybe) → answer_of m ≡ a.answer_of m
same_answer Yes = refl
same_answer No = refl
same_answer (Unsure thing) = refl

true_asked : (o : Option Truth) (zero : Bool) → holds o ≡ ask_of o zero True
true_asked None zero = refl
true_asked (Some True) zero = refl
true_asked (Some False) zero = refl
true_asked (Some Strange) zero = refl

pub true_answer : (k : Partly) (m : Maybe) → Holds k m → IsAnswer (ask k.bits True) k.blame m
true_answer k m h = record { is = is; blame = λ u. blame m h (is ∙ u) }
  where
    is : answer_of m ≡ ask k.bits True
    is = same_answer m ∙ a.holds_answer k m h ∙ true_asked (known_truth k.bits) (list_all may_be_zero k.bits)

    blame : (m : Maybe) → Holds k m → answer_of m ≡ None → blame_in m ≡ k.blame
    blame Yes h u = absurd (cc)
    blame No h u = absurd (cc)
    blame (Unsure thing) h u = h.blamed

pub sure_answer : (k : Partly) (t : Truth) (m : Maybe) → IsTruthOf k (known.Sure t) → m ≡ (if is_truth_false t then Yes else No) → IsAnswer (ask k.bits False) k.blame m
sure_answer k t m h e = go t (ask_answer k (known.Sure t) False h) e
  where
    go : (t : Truth) → ask k.bits False ≡ ask_of (Some t) (is_false (truth (filled Zero k.bits))) False → m ≡ (if is_truth_false t then Yes else No) → IsAnswer (ask k.bits False) k.blame m
    go False asked e = record { is = ap answer_of e ∙ sym asked; blame = λ u. absurd (let w : Some true ≡ None = sym asked ∙ u in cc) }
    go True asked e = record { is = ap answer_of e ∙ sym asked; blame = λ u. absurd (let w : Some false ≡ None = sym asked ∙ u in cc) }
    go Strange asked e = record { is = ap answer_of e ∙ sym asked; blame = λ u. absurd (let w : Some false ≡ None = sym asked ∙ u in cc) }

pub unsure_answer : (k : Partly) (thing : ℕ) (m : Maybe) → IsTruthOf k (known.Unsure thing) → m ≡ (if is_truth_false (truth (filled Zero k.bits)) then Unsure thing else No) → IsAnswer (ask k.bits False) k.blame m
unsure_answer k thing m h e = go (truth (filled Zero k.bits)) (ask_answer k (known.Unsure thing) False h) e
  where
    go : (t : Truth) → ask k.bits False ≡ ask_of None (is_false t) False → m ≡ (if is_truth_false t then Unsure thing else No) → IsAnswer (ask k.bits False) k.blame m
    go False asked e = record { is = ap answer_of e ∙ sym asked; blame = λ u. ap blame_in e ∙ h.blamed }
    go True asked e = record { is = ap answer_of e ∙ sym asked; blame = λ u. absurd (let w : Some false ≡ None = sym asked ∙ u in cc) }
    go Strange asked e = record { is = ap answer_of e ∙ sym asked; blame = λ u. absurd (let w : Some false ≡ None = sym asked ∙ u in cc) }
