-- The bits of a value from one place up.
use Rattle.std.proofs.Common.{Bool, List, Option, Some, [], ap, ap₂, arith, drop, get_or, length, refl, sym, take, true, zero, suc, ℕ, ◌+◌, ◌-◌, ◌≤◌, ◌∙◌, ◌∷◌, ◌≡◌, ℤ, pos, ◌+ℤ◌}
use Rattle.std.proofs.lemmas.Int.{ints}
use Rattle.std.proofs.lemmas.List.{drop-take, drop_more, length-drop, length-take}
use Rattle.value_store.specs.four_state.declared.bit.Bit.TheVariants.{X}
use Rattle.known_state.specs.Partly.{are_sure}
use Rattle.value_store.specs.body_replay.KnownBits.{KnownBits, all_sure, select_option, sure}
use Rattle.value_store.proofs.body_replay.Answered.{same_sure}
use Rattle.value_store.proofs.body_replay.Exact.{drop_exact, take_exact}
use Rattle.value_store.proofs.body_replay.Stored.{one_selected}
use Rattle.value_store.proofs.body_replay.Unsure.{all_sure_is, all_sure_sure}

selected : (ps : KnownBits) (low w : ℕ) → low + w ≤ length ps → select_option ps (Some (pos low)) w ≡ take w (drop low ps)
selected ps low zero l = refl
selected ps low (suc w) l =
    let next : pos low +ℤ pos 1 ≡ pos (low + 1) = omega (arith, ints) in
    ap₂ (λ x xs. x ∷ xs) (ap (λ qs. get_or qs 0 (Some X)) (one_selected ps low (omega (arith, l)))) (ap (λ z. select_option ps (Some z) w) next ∙ selected ps (low + 1) w (omega (arith, l)))
    ∙ sym (ap (take (suc w)) (drop_more ps low (Some X) (omega (arith, l))))

pub cut_bits : (ps : KnownBits) (low w : ℕ) → low + w ≤ length ps → select_option ps (Some (pos low)) w ≡ drop low (take (low + w) ps)
cut_bits ps low w l = selected ps low w l ∙ sym (drop-take low w ps)

-- a part of what is wholly sure is
pub cut_sure : (ps : KnownBits) (low n : ℕ) → are_sure ps ≡ true → are_sure (drop low (take n ps)) ≡ true
cut_sure ps low n e =
    let s = all_sure_is ps (same_sure ps ∙ e) in
    sym (same_sure (drop low (take n ps))) ∙ ap (λ z. all_sure (drop low (take n z))) s.1 ∙ ap (λ z. all_sure (drop low z)) (take_exact n s.0) ∙ ap all_sure (drop_exact low (take n s.0)) ∙ all_sure_sure (drop low (take n s.0))

-- as many bits as are cut
pub cut_length : (ps : KnownBits) (low w : ℕ) → low + w ≤ length ps → length (drop low (take (low + w) ps)) ≡ w
cut_length ps low w l = length-drop low (take (low + w) ps) ∙ ap (λ n. n - low) (length-take (low + w) ps) ∙ omega (arith, l)
