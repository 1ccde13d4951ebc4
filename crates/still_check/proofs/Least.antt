-- The signal with the least number that differs, of lists that grow.
use Rattle.std.proofs.Common.{◌≡◌, ◌⊎◌, inl, inr, ℕ, ◌+◌, ◌<◌, ◌++◌, false, List, [], ◌∷◌, get_or, take, length, Option, Some, None, sym, subst, arith}
use Rattle.std.specs.List.{All}
use Rattle.std.specs.Prelude.{⊤}
use Rattle.std.proofs.lemmas.List.{take_more}
use Rattle.std.proofs.lemmas.List.Elements.{All-push, All-weaker}
use Rattle.design_model.specs.Design.{In}
use Rattle.dump_check.specs.declared.order.Difference.{Difference}
use Rattle.step_values.specs.replay_model.Step.{Closing}
use Rattle.step_values.proofs.replay_model.Bits.{in_left, in_right}
use Rattle.still_check.specs.Stays.{Agrees, IsDifferentOr, IsLeastMoved, IsLesser, IsMoved, IsMovedOr, Stays}

-- what was found, if anything, is such a difference
abbrev IfFound : (Difference → Type 0) → Option Difference → Type 0
IfFound M None = ⊤
IfFound M (Some d) = M d

-- so is the lesser of two
lesser_found : (M : Difference → Type 0) (a b c : Option Difference) → IsLesser a b c → IfFound M a → IfFound M b → IfFound M c
lesser_found M None b c e x y = subst (IfFound M) (sym e) y
lesser_found M (Some a) None c e x y = subst (IfFound M) (sym e) x
lesser_found M (Some a) (Some b) c (inl e) x y = subst (IfFound M) (sym e.0) y
lesser_found M (Some a) (Some b) c (inr e) x y = subst (IfFound M) (sym e.0) x

if_found : (M N : Difference → Type 0) → ((d : Difference) → M d → N d) → (o : Option Difference) → IfFound M o → IfFound N o
if_found M N weaker None x = tt
if_found M N weaker (Some d) x = weaker d x

module _ (P : ℕ → Type 0) where
  -- the number has the property, if it is below that of what was found
  abbrev IsFine : Option Difference → ℕ → Type 0
  IsFine None z = P z
  IsFine (Some d) z = z < d.signal → P z

  -- the number has the property, or is that of what was found
  abbrev IsFineOr : Option Difference → ℕ → Type 0
  IsFineOr None z = P z
  IsFineOr (Some d) z = d.signal ≡ z

  fine_of : (o : Option Difference) (z : ℕ) → P z → IsFine o z
  fine_of None z h = h
  fine_of (Some d) z h = λ l. h

  fine_at : (o : Option Difference) (z : ℕ) → IsFineOr o z → IsFine o z
  fine_at None z h = h
  fine_at (Some d) z e = λ l. absurd (omega (arith, l, e))

  fine_still : (a b c : Option Difference) → IsLesser a b c → (z : ℕ) → IsFine a z → IsFine c z
  fine_still None b c e z h = subst (λ o. IsFine o z) (sym e) (fine_of b z h)
  fine_still (Some x) None c e z h = subst (λ o. IsFine o z) (sym e) h
  fine_still (Some x) (Some y) c (inl e) z h = subst (λ o. IsFine o z) (sym e.0) (λ l. let less = e.1 in h (omega (arith, l, less)))
  fine_still (Some x) (Some y) c (inr e) z h = subst (λ o. IsFine o z) (sym e.0) h

  fine_next : (a b c : Option Difference) → IsLesser a b c → (z : ℕ) → IsFineOr b z → IsFine c z
  fine_next None b c e z h = subst (λ o. IsFine o z) (sym e) (fine_at b z h)
  fine_next (Some x) None c e z h = subst (λ o. IsFine o z) (sym e) (λ l. h)
  fine_next (Some x) (Some y) c (inl e) z h = subst (λ o. IsFine o z) (sym e.0) (fine_at (Some y) z h)
  fine_next (Some x) (Some y) c (inr e) z h = subst (λ o. IsFine o z) (sym e.0) (λ l. let least = e.1 in absurd (omega (arith, l, h, least)))

  module _ (ss : List ℕ) (a b c : Option Difference) (least : IsLesser a b c) (all : All (IsFine a) ss) where
    -- with another difference the same list is fine
    still_fine : All (IsFine c) ss
    still_fine = All-weaker (IsFine a) (IsFine c) (fine_still a b c least) ss all

    -- and with the one of the next number one more
    more_fine : (s : ℕ) → IsFineOr b s → All (IsFine c) (ss ++ s ∷ [])
    more_fine s h = All-push (IsFine c) ss s still_fine (fine_next a b c least s h)

-- the parts of what is said of a difference
record Parts (st : Closing) (changed overwritten : List ℕ) (o : Option Difference) : Type 0 where
  found : IfFound (IsMoved st changed overwritten) o
  stay : All (IsFine (Stays st) o) changed
  agree : All (IsFine (Agrees st) o) overwritten

parts : (st : Closing) (changed overwritten : List ℕ) (o : Option Difference) → IsLeastMoved st changed overwritten o → Parts st changed overwritten o
parts st changed overwritten None h = record { found = tt; stay = h.0; agree = h.1 }
parts st changed overwritten (Some d) h = record { found = h.0; stay = h.1; agree = h.2 }

whole : (st : Closing) (changed overwritten : List ℕ) (o : Option Difference) → Parts st changed overwritten o → IsLeastMoved st changed overwritten o
whole st changed overwritten None p = (p.stay, p.agree)
whole st changed overwritten (Some d) p = (p.found, p.stay, p.agree)

module _ (st : Closing) (changed overwritten : List ℕ) (s : ℕ) where
  -- ---- one more that has changed

  old_changed : (d : Difference) → IsMoved st changed overwritten d → IsMoved st (changed ++ s ∷ []) overwritten d
  old_changed d m = record { different = m.different; which = go m.which }
    where
      go : (In d.signal changed × (st.sets.moves d.signal ≡ false)) ⊎ In d.signal overwritten → (In d.signal (changed ++ s ∷ []) × (st.sets.moves d.signal ≡ false)) ⊎ In d.signal overwritten
      go (inl h) = inl (in_left d.signal changed (s ∷ []) h.0, h.1)
      go (inr i) = inr i

  new_changed : (b : Option Difference) → IsMovedOr st s b → IfFound (IsMoved st (changed ++ s ∷ []) overwritten) b
  new_changed None h = tt
  new_changed (Some d) h = record { different = h.2; which = inl (in_right d.signal changed (s ∷ []) (inl (sym h.0)), subst (λ z. st.sets.moves z ≡ false) (sym h.0) h.1) }

  stays_or : (b : Option Difference) → IsMovedOr st s b → IsFineOr (Stays st) b s
  stays_or None h = h
  stays_or (Some d) h = h.0

  more_changed : (a b c : Option Difference) → IsLeastMoved st changed overwritten a → IsMovedOr st s b → IsLesser a b c → IsLeastMoved st (changed ++ s ∷ []) overwritten c
  more_changed a b c all one least =
      let p = parts st changed overwritten a all in
      whole st (changed ++ s ∷ []) overwritten c (record {
        found = lesser_found (IsMoved st (changed ++ s ∷ []) overwritten) a b c least (if_found (IsMoved st changed overwritten) (IsMoved st (changed ++ s ∷ []) overwritten) old_changed a p.found) (new_changed b one);
        stay = more_fine (Stays st) changed a b c least p.stay s (stays_or b one);
        agree = still_fine (Agrees st) overwritten a b c least p.agree;
      })

  -- ---- one more that is overwritten

  old_overwritten : (d : Difference) → IsMoved st changed overwritten d → IsMoved st changed (overwritten ++ s ∷ []) d
  old_overwritten d m = record { different = m.different; which = go m.which }
    where
      go : (In d.signal changed × (st.sets.moves d.signal ≡ false)) ⊎ In d.signal overwritten → (In d.signal changed × (st.sets.moves d.signal ≡ false)) ⊎ In d.signal (overwritten ++ s ∷ [])
      go (inl h) = inl h
      go (inr i) = inr (in_left d.signal overwritten (s ∷ []) i)

  new_overwritten : (b : Option Difference) → IsDifferentOr st s b → IfFound (IsMoved st changed (overwritten ++ s ∷ [])) b
  new_overwritten None h = tt
  new_overwritten (Some d) h = record { different = h.1; which = inr (in_right d.signal overwritten (s ∷ []) (inl (sym h.0))) }

  agrees_or : (b : Option Difference) → IsDifferentOr st s b → IsFineOr (Agrees st) b s
  agrees_or None h = h
  agrees_or (Some d) h = h.0

  more_overwritten : (a b c : Option Difference) → IsLeastMoved st changed overwritten a → IsDifferentOr st s b → IsLesser a b c → IsLeastMoved st changed (overwritten ++ s ∷ []) c
  more_overwritten a b c all one least =
      let p = parts st changed overwritten a all in
      whole st changed (overwritten ++ s ∷ []) c (record {
        found = lesser_found (IsMoved st changed (overwritten ++ s ∷ [])) a b c least (if_found (IsMoved st changed overwritten) (IsMoved st changed (overwritten ++ s ∷ [])) old_overwritten a p.found) (new_overwritten b one);
        stay = still_fine (Stays st) changed a b c least p.stay;
        agree = more_fine (Agrees st) overwritten a b c least p.agree s (agrees_or b one);
      })

-- one item more of the first list
pub next_changed : (st : Closing) (changed overwritten : List ℕ) (i : ℕ) (a b c : Option Difference) → i < length changed
    → IsLeastMoved st (take i changed) overwritten a → IsMovedOr st (get_or changed i 0) b → IsLesser a b c → IsLeastMoved st (take (i + 1) changed) overwritten c
next_changed st changed overwritten i a b c l all one least =
    subst (λ zs. IsLeastMoved st zs overwritten c) (sym (take_more changed i 0 l)) (more_changed st (take i changed) overwritten (get_or changed i 0) a b c all one least)

-- one item more of the second list
pub next_overwritten : (st : Closing) (changed overwritten : List ℕ) (i : ℕ) (a b c : Option Difference) → i < length overwritten
    → IsLeastMoved st changed (take i overwritten) a → IsDifferentOr st (get_or overwritten i 0) b → IsLesser a b c → IsLeastMoved st changed (take (i + 1) overwritten) c
next_overwritten st changed overwritten i a b c l all one least =
    subst (λ zs. IsLeastMoved st changed zs c) (sym (take_more overwritten i 0 l)) (more_overwritten st changed (take i overwritten) (get_or overwritten i 0) a b c all one least)
