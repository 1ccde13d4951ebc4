-- Flags by code.
use Rattle.std.proofs.Common.{◌≡◌, ◌↔◌, ◌⊎◌, ℕ, zero, suc, ◌<◌, ◌≤◌, ◌-◌, Bool, true, List, [], ◌∷◌, ◌++◌, length, take, get_or, Option, Some, None, refl, sym, ap, subst, ◌∙◌, inl, inr, arith, add-one, ◌+◌}
use Rattle.std.proofs.lemmas.Bool.{cases_lt, false≢true}
use Rattle.std.proofs.lemmas.List.{get_or_past, get_or_append_left, get_or-append_right, take_all}
use Rattle.std.proofs.Math.Seq.{take-suc}
use Rattle.vcd_reader.specs.Wanted.{is_wanted}
use Rattle.bound_codes.specs.Codes.{AreWanted, IsCoded}

-- one code more
pub taken_more : (codes : List (Option ℕ)) (so_far : List (Option ℕ)) (k : ℕ) (code : Option ℕ) → so_far ≡ take k codes → k < length codes → code ≡ get_or codes k None → so_far ++ code ∷ [] ≡ take (k + 1) codes
taken_more codes so_far k code e l is = ap (λ xs. xs ++ code ∷ []) e ∙ ap (λ c. take k codes ++ c ∷ []) is ∙ sym (take-suc codes k None l) ∙ ap (λ n. take n codes) (sym (add-one k))

-- no flag is set before the first code
pub none_coded : AreWanted [] []
none_coded code = (λ h. absurd (false≢true h), λ h. absurd (let e : None ≡ Some code = sym (get_or_past [] h.0 None (omega arith)) ∙ h.1 in cc))

-- flags with one code more
pub flags_more : (codes : List (Option ℕ)) (old new : List Bool) (k : ℕ) (code : Option ℕ) → AreWanted (take k codes) old → k < length codes → code ≡ get_or codes k None
    → ((other : ℕ) → (is_wanted new other ≡ true) ↔ ((is_wanted old other ≡ true) ⊎ (code ≡ Some other))) → AreWanted (take (k + 1) codes) new
flags_more codes old new k code are l is set other =
    let front = take k codes in
    let parts : take (k + 1) codes ≡ front ++ code ∷ [] = ap (λ n. take n codes) (add-one k) ∙ take-suc codes k None l ∙ ap (λ c. front ++ c ∷ []) (sym is) in
    (λ h. subst (λ cs. IsCoded cs other) (sym parts) (to ((set other).0 h)), λ h. (set other).1 (from (subst (λ cs. IsCoded cs other) parts h)))
  where
    to : (is_wanted old other ≡ true) ⊎ (code ≡ Some other) → IsCoded (take k codes ++ code ∷ []) other
    to (inl h) = let c = (are other).0 h in (c.0, get_or_append_left (take k codes) (code ∷ []) None c.0 (within c.0 c.1 (cases_lt c.0 (length (take k codes)))) ∙ c.1)
      where
        within : (s : ℕ) → get_or (take k codes) s None ≡ Some other → (s < length (take k codes)) ⊎ (length (take k codes) ≤ s) → s < length (take k codes)
        within s e (inl less) = less
        within s e (inr past) = absurd (let no_code : None ≡ Some other = sym (get_or_past (take k codes) s None past) ∙ e in cc)
    to (inr e) = (length (take k codes), get_or-append_right (take k codes) (code ∷ []) (length (take k codes)) (length (take k codes)) None refl (omega arith) ∙ ap (λ j. get_or (code ∷ []) j None) (let z : length (take k codes) - length (take k codes) ≡ 0 = omega arith in z) ∙ e)

    from : IsCoded (take k codes ++ code ∷ []) other → (is_wanted old other ≡ true) ⊎ (code ≡ Some other)
    from (s, e) = go (cases_lt s (length (take k codes)))
      where
        go : (s < length (take k codes)) ⊎ (length (take k codes) ≤ s) → (is_wanted old other ≡ true) ⊎ (code ≡ Some other)
        go (inl less) = inl ((are other).1 (s, sym (get_or_append_left (take k codes) (code ∷ []) None s less) ∙ e))
        go (inr past) = last (s - length (take k codes)) (sym (get_or-append_right (take k codes) (code ∷ []) (length (take k codes)) s None refl past) ∙ e)
          where
            last : (j : ℕ) → get_or (code ∷ []) j None ≡ Some other → (is_wanted old other ≡ true) ⊎ (code ≡ Some other)
            last zero f = inr f
            last (suc j) f = absurd (let no_code : None ≡ Some other = sym (get_or_past (code ∷ []) (suc j) None (omega arith)) ∙ f in cc)

-- all codes
pub flags_of_all : (codes : List (Option ℕ)) (flags : List Bool) (k : ℕ) → length codes ≤ k → AreWanted (take k codes) flags → AreWanted codes flags
flags_of_all codes flags k l are = subst (λ cs. AreWanted cs flags) (take_all k codes l) are

pub no_flags : (codes : List (Option ℕ)) (flags : List Bool) → flags ≡ [] → AreWanted (take 0 codes) flags
no_flags codes flags e = subst (AreWanted []) (sym e) none_coded
