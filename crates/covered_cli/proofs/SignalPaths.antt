-- The path of a signal, from what was taken out of a design.
use Rattle.std.proofs.Common.{◌≡◌, ◌∙◌, ap, sym, subst, refl, inl, inr, ℕ, ◌<◌, true, ◌∷◌, ◌++◌, length, slice_index_or}
use Rattle.std.specs.Prelude.{nat_lt}
use Rattle.std.proofs.lemmas.Bool.{cases_Bool, false≢true, lt-ltb, ltb-true}
use Rattle.std.proofs.lemmas.List.{get_or_read}
use Rattle.std.proofs.lemmas.List.Folds.{list_all_at}
use Rattle.design_model.specs.Design.{Design, no_instance, no_signal, path_in, path_of, signal_at}
use Rattle.design_model.specs.Lawful.{IsLawfulDesign, is_signal}
use Rattle.design_model.specs.declared.design.Instance.{Instance}
use Rattle.design_model.specs.declared.design.Signal.{Signal}

module _ (d : Design) (s : ℕ) (x : Signal) (within : s < length d.signals) (is : x ≡ slice_index_or d.signals s x) where
  found : x ≡ signal_at d s
  found = get_or_read d.signals s x within is no_signal

  -- its instance is there
  pub instance_there : IsLawfulDesign d → x.instance < length d.instances
  instance_there lawful = elim (cases_Bool (nat_lt (signal_at d s).instance (length d.instances))) [
    | inl there ↦ subst (λ (y : Signal). y.instance < length d.instances) (sym found) (ltb-true _ _ there)
    | inr away ↦ absurd (false≢true (sym (list_all_at (is_signal d) d.signals s no_signal within (rw away refl)) ∙ lawful.signals))
  ]

  pub path_taken : (i : Instance) → x.instance < length d.instances → i ≡ slice_index_or d.instances x.instance i → i.path ++ 46 ∷ x.name ≡ path_of d s
  path_taken i there is_instance =
      let taken : i ≡ slice_index_or d.instances x.instance no_instance = get_or_read d.instances x.instance i there is_instance no_instance in
      let below : nat_lt s (length d.signals) ≡ true = lt-ltb s (length d.signals) within in
      let whole : path_of d s ≡ path_in d (signal_at d s).instance (signal_at d s).name = rw below refl in
      ap (λ (y : Instance). y.path ++ 46 ∷ x.name) taken ∙ ap (λ (y : Signal). path_in d y.instance y.name) found ∙ sym whole
