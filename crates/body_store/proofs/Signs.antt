-- A vector with another sign at its own width.
use Rattle.std.proofs.Common.{◌≡◌, ℕ, Bool, length, ap, ◌∙◌}
use Rattle.std.specs.Prelude.{IsTrue}
use Rattle.std.proofs.lemmas.Bool.{and_parts}
use Rattle.design_model.specs.four_state.Parts.{extended_vector}
use Rattle.design_model.specs.four_state.Vector.{Vector, extend}
use Rattle.known_state.specs.Answers.{IsTight}
use Rattle.known_state.specs.Partly.{Partly, allows, allows_bits, same_sign}
use Rattle.known_state.proofs.Allowed.{same_sign_eq}
use Rattle.body_calls.specs.body_replay.KnownBits.{extend_partly}
use Rattle.body_calls.proofs.body_replay.Answered.{a_vector, extend_answer, extend_same, is_allowed}

module _ (a r : Partly) (w : ℕ) (signed : Bool) (wide : w ≡ length a.bits) (sound : (v : Vector) → IsTrue (allows a v) → IsTrue (allows r (extended_vector w signed v))) (tight : IsTight (allows a) (λ v. extend w v.signed v.bits) r.bits) where
  pub same_bits : r.bits ≡ a.bits
  same_bits = extend_answer a r w signed sound tight ∙ ap (λ n. extend_partly n a.signed a.bits) wide ∙ extend_same a.signed a.bits

  pub new_sign : r.signed ≡ signed
  new_sign = same_sign_eq r.signed signed (and_parts (same_sign r.signed signed) (allows_bits r.bits (extend w (a_vector a).signed (a_vector a).bits)) (sound (a_vector a) (is_allowed a))).0
