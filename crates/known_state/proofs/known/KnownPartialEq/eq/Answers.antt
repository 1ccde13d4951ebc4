use Rattle.std.proofs.Common.{◌≡◌, Bool, true, false, ◌&&◌, refl}
use Rattle.known_state.specs.Stored.{mask_of_bits}
use Rattle.known_state.proofs.known.KnownPartialEq.eq.Goals as goal

swapped : (p q : Bool) → (p && q) ≡ (q && p)
swapped false false = refl
swapped false true = refl
swapped true false = refl
swapped true true = refl

-- the fields follow from the bits
pub returns : goal.returns
returns c =
    let equal = c.and_eq-2.ensures in
    rw (← c.t1-1.view_is, ← c.t2-1.view_is, mask_of_bits c.t1-1.inside.value.bits c.t1-1.inside.sure c.t1-1.invariant.inside, mask_of_bits c.t2-1.inside.value.bits c.t2-1.inside.sure c.t2-1.invariant.inside, c.t1-1.invariant.blank, c.t2-1.invariant.blank, equal, c.and_eq.ensures, c.eq.ensures) (rw swapped)
