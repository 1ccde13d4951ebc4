-- Whether a time is listed, as a test; and dumps that have all inputs.
use Rattle.std.proofs.Common.{◌≡◌, inl, inr, ⊎_elim, ℕ, Bool, true, false, List, [], ◌∷◌}
use Rattle.std.specs.Prelude.{◌==◌}
use Rattle.std.specs.List.{list_any}
use Rattle.std.proofs.lemmas.Bool.{eq-eqb, eqb-true, false≢true, or_cases, or_left, or_right}
use Rattle.design_model.specs.Design.{Design, In}
use Rattle.design_model.specs.Shows.{InSome}
use Rattle.hidden_times.specs.Laws.{AnyDumpLaw, ListedLaw}

in_list : (ts : List ℕ) (t : ℕ) → list_any (λ u. u == t) ts ≡ true → In t ts
in_list [] t e = absurd (false≢true e)
in_list (u ∷ us) t e = ⊎_elim (λ here. inl (eqb-true u t here)) (λ later. inr (in_list us t later)) (or_cases (u == t) (list_any (λ u. u == t) us) e)

list_has : (ts : List ℕ) (t : ℕ) → In t ts → list_any (λ u. u == t) ts ≡ true
list_has [] t h = absurd h
list_has (u ∷ us) t (inl e) = or_left (u == t) _ (eq-eqb u t e)
list_has (u ∷ us) t (inr h) = or_right (u == t) _ (list_has us t h)

-- whether one of these lists has the time
abbrev some_has : List (List ℕ) → ℕ → Bool
some_has tss t = list_any (λ ts. list_any (λ u. u == t) ts) tss

in_some : (tss : List (List ℕ)) (t : ℕ) → some_has tss t ≡ true → InSome (In t) tss
in_some [] t e = absurd (false≢true e)
in_some (ts ∷ []) t e = ⊎_elim (λ here. in_list ts t here) (λ none. absurd (false≢true none)) (or_cases (list_any (λ u. u == t) ts) false e)
in_some (ts ∷ us ∷ tss) t e = ⊎_elim (λ here. inl (in_list ts t here)) (λ later. inr (in_some (us ∷ tss) t later)) (or_cases (list_any (λ u. u == t) ts) (some_has (us ∷ tss) t) e)

has_some : (tss : List (List ℕ)) (t : ℕ) → InSome (In t) tss → some_has tss t ≡ true
has_some [] t h = absurd h
has_some (ts ∷ []) t h = or_left (list_any (λ u. u == t) ts) _ (list_has ts t h)
has_some (ts ∷ us ∷ tss) t (inl h) = or_left (list_any (λ u. u == t) ts) _ (list_has ts t h)
has_some (ts ∷ us ∷ tss) t (inr h) = or_right (list_any (λ u. u == t) ts) _ (has_some (us ∷ tss) t h)

pub listed_law : ListedLaw
listed_law dump t = (in_some dump.stretches t, has_some dump.stretches t)

pub any_dump_law : (d : Design) → AnyDumpLaw d
any_dump_law d dump =
    (λ fits. (record { rising = fits.rising; signals = fits.signals; stays = fits.stays }, fits.inputs), λ k. record { rising = k.0.rising; signals = k.0.signals; inputs = k.1; stays = k.0.stays })
