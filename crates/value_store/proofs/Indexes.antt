-- The number of a signed index below 0.
use Rattle.std.proofs.Common.{◌≡◌, ◌+◌, ◌*◌, Bool, true, false, ◌&&◌, if◌then◌else◌, List, [], ◌∷◌, map, pos, negsuc, Some, None, refl, ap, ap₂, ◌∙◌}
use Rattle.four_state.specs.declared.bit.Bit.{Bit}
use Rattle.four_state.specs.declared.bit.Bit.TheVariants.{Zero, One, X, Z}
use Rattle.four_state.specs.declared.index.Index.TheVariants.{Below}
use Rattle.four_state.specs.Vector.{all_known, is_one, is_zero, top}
use Rattle.four_state.specs.Arithmetic.{natural, not_bit}
use Rattle.four_state.specs.Masks.{mask_of}
use Rattle.four_state.specs.Parts.{index, index_of}

turned : (b : Bit) → is_one (not_bit b) ≡ is_zero b
turned Zero = refl
turned One = refl
turned X = refl
turned Z = refl

natural_of_zeros : (bs : List Bit) → natural (map not_bit bs) ≡ mask_of is_zero bs
unfolding mask_of
natural_of_zeros [] = refl
natural_of_zeros (b ∷ bs) = ap₂ (λ t n. (if t then 1 else 0) + 2 * n) (turned b) (natural_of_zeros bs)

pub below_zero : (signed : Bool) (bs : List Bit) → Below ≡ index_of (index signed bs) → index signed bs ≡ Some (negsuc (mask_of is_zero bs))
below_zero signed bs e = go (all_known bs) (signed && is_one (top bs)) e ∙ ap (λ n. Some (negsuc n)) (natural_of_zeros bs)
  where
    go : (k t : Bool) → Below ≡ index_of (if k then Some (if t then negsuc (natural (map not_bit bs)) else pos (natural bs)) else None) → (if k then Some (if t then negsuc (natural (map not_bit bs)) else pos (natural bs)) else None) ≡ Some (negsuc (natural (map not_bit bs)))
    go true true h = refl
    go true false h = cc
    go false t h = cc
