-- The codes of signals under their own names or else their aliases.
use Rattle.std.proofs.Common.{◌≡◌, ◌≢◌, ℕ, ◌+◌, ◌<◌, ◌≤◌, ◌==◌, ◌++◌, Bool, true, false, cond, Option, Some, None, is_none, List, [], ◌∷◌, length, map, get_or, slice_get, refl, sym, ap, ◌∙◌, inl, inr, arith}
use Rattle.std.proofs.Math.ListN.{set}
use Rattle.std.specs.Option.{option_or}
use Rattle.std.specs.List.{filter, range_with_len}
use Rattle.std.proofs.lemmas.Bool.Decides.{nat_tests}
use Rattle.std.proofs.lemmas.List.{get_or_default, length-set, get_or-set_other, get_or-set_same, ext_get_or}
use Rattle.std.proofs.lemmas.Option.{slice_get_cases}
use Rattle.std.proofs.lemmas.List.FromFn.{get_or-map-range_with_len, length-map-range_with_len, map-range_with_len_more}
use Rattle.design_model.specs.Design.{no_signal}
use Rattle.design_model.specs.declared.design.Alias.{Alias}
use Rattle.design_model.specs.declared.design.Design.{Design}
use Rattle.design_model.specs.declared.design.Signal.{Signal}
use Rattle.vcd_reader.specs.declared.vars.Var.{Var}
use Rattle.signal_binding.specs.Binding.{alias_name, code_of, codes_of, first_code, names_signal, signal_of}
use Rattle.signal_binding.specs.Table.{AreCodesAmong, AreCodesUnder, alias_code, code_among, code_in_instance, first_alias, own_code}
use Rattle.signal_binding.specs.declared.table.Table.{Table}

or_none : (a : Option ℕ) → option_or a None ≡ a
or_none None = refl
or_none (Some x) = refl

or_next : (a b c : Option ℕ) → option_or a (option_or b c) ≡ option_or (option_or a b) c
or_next None b c = refl
or_next (Some x) b c = refl

found : (o p : Option ℕ) → is_none o ≡ false → option_or o p ≡ o
found None p e = absurd (cc)
found (Some x) p e = refl

lacking : (o p : Option ℕ) → is_none o ≡ true → option_or o p ≡ p
lacking None p e = refl
lacking (Some x) p e = absurd (cc)

module _ (table : Table) (design : Design) (s : ℕ) where
  first_more : (aliases : List Alias) (a : Alias) → first_alias table design s (aliases ++ a ∷ []) ≡ option_or (first_alias table design s aliases) (alias_code table design s a)
  first_more [] a = or_none (alias_code table design s a)
  first_more (x ∷ xs) a =
      ap (option_or (alias_code table design s x)) (first_more xs a) ∙ or_next (alias_code table design s x) (first_alias table design s xs) (alias_code table design s a)

  -- one alias more
  among_more : (aliases : List Alias) (a : Alias) → code_among table design (aliases ++ a ∷ []) s ≡ option_or (code_among table design aliases s) (alias_code table design s a)
  among_more aliases a =
      ap (option_or (own_code table design s)) (first_more aliases a) ∙ or_next (own_code table design s) (first_alias table design s aliases) (alias_code table design s a)

  -- of another signal
  among_other : (aliases : List Alias) (a : Alias) → (a.signal == s) ≡ false → code_among table design (aliases ++ a ∷ []) s ≡ code_among table design aliases s
  among_other aliases a ne =
      among_more aliases a
      ∙ ap (λ b. option_or (code_among table design aliases s) (cond b (code_in_instance table design a.instance a.name (signal_of design s).width) None)) ne
      ∙ or_none (code_among table design aliases s)

  -- of a signal that has a code
  among_found : (aliases : List Alias) (a : Alias) → is_none (code_among table design aliases s) ≡ false → code_among table design (aliases ++ a ∷ []) s ≡ code_among table design aliases s
  among_found aliases a some = among_more aliases a ∙ found (code_among table design aliases s) (alias_code table design s a) some

  -- of the signal, which has no code
  among_new : (aliases : List Alias) (a : Alias) → (a.signal == s) ≡ true → is_none (code_among table design aliases s) ≡ true → code_among table design (aliases ++ a ∷ []) s ≡ code_in_instance table design a.instance a.name (signal_of design s).width
  among_new aliases a is none =
      among_more aliases a
      ∙ lacking (code_among table design aliases s) (alias_code table design s a) none
      ∙ ap (λ b. cond b (code_in_instance table design a.instance a.name (signal_of design s).width) None) is

module _ (table : Table) (design : Design) (aliases : List Alias) (codes : List (Option ℕ)) (a : Alias) (h : AreCodesAmong table design aliases codes) where
  -- an alias of no signal
  pub alias_of_none : length design.signals ≤ a.signal → AreCodesAmong table design (aliases ++ a ∷ []) codes
  alias_of_none beyond = record {
    as_many = h.as_many;
    each = λ s l.
        let ne : (a.signal == s) ≡ false = grind (arith, nat_tests) in
        h.each s l ∙ sym (among_other table design s aliases a ne);
  }

  -- an alias of a signal that has a code
  pub alias_of_found : is_none (get_or codes a.signal None) ≡ false → AreCodesAmong table design (aliases ++ a ∷ []) codes
  alias_of_found some = record {
    as_many = h.as_many;
    each = λ s l. h.each s l ∙ sym (go s l (a.signal == s) refl);
  }
    where
      go : (s : ℕ) → s < length design.signals → (b : Bool) → (a.signal == s) ≡ b → code_among table design (aliases ++ a ∷ []) s ≡ code_among table design aliases s
      go s l false ne = among_other table design s aliases a ne
      go s l true is =
          let e : a.signal ≡ s = grind (arith, nat_tests) in
          among_found table design s aliases a (ap is_none (sym (h.each s l)) ∙ ap (λ k. is_none (get_or codes k None)) (sym e) ∙ some)

  -- an alias of a signal that has no code
  pub alias_of_new : (code : Option ℕ) → is_none (get_or codes a.signal None) ≡ true → a.signal < length design.signals → code ≡ code_in_instance table design a.instance a.name (signal_of design a.signal).width → AreCodesAmong table design (aliases ++ a ∷ []) (set codes a.signal code)
  alias_of_new code none listed is = record {
    as_many = length-set codes a.signal code ∙ h.as_many;
    each = λ s l. go s l (a.signal == s) refl;
  }
    where
      go : (s : ℕ) → s < length design.signals → (b : Bool) → (a.signal == s) ≡ b → get_or (set codes a.signal code) s None ≡ code_among table design (aliases ++ a ∷ []) s
      go s l false other =
          let ne : s ≢ a.signal = grind (arith, nat_tests) in
          get_or-set_other codes a.signal s code None ne ∙ h.each s l ∙ sym (among_other table design s aliases a other)
      go s l true same =
          let e : a.signal ≡ s = grind (arith, nat_tests) in
          let inside : a.signal < length codes = omega (arith, h.as_many, listed) in
          let lacks : is_none (code_among table design aliases s) ≡ true = ap is_none (sym (h.each s l)) ∙ ap (λ k. is_none (get_or codes k None)) (sym e) ∙ none in
          ap (λ k. get_or (set codes a.signal code) k None) (sym e)
          ∙ get_or-set_same codes a.signal code None inside
          ∙ is
          ∙ ap (λ k. code_in_instance table design a.instance a.name (signal_of design k).width) e
          ∙ sym (among_new table design s aliases a same lacks)

module _ (table : Table) (design : Design) (vars : List Var) (instance : List ℕ) (under : AreCodesUnder table vars instance) where
  among_aliases : (s : ℕ) (aliases : List Alias) → first_alias table design s aliases ≡ first_code vars (signal_of design s).width (map (alias_name design instance) (filter (names_signal s) aliases))
  among_aliases s [] = refl
  among_aliases s (a ∷ aliases) =
      ap (option_or (alias_code table design s a)) (among_aliases s aliases) ∙ go (names_signal s a)
    where
      go : (b : Bool) → option_or (cond b (code_in_instance table design a.instance a.name (signal_of design s).width) None) (first_code vars (signal_of design s).width (map (alias_name design instance) (filter (names_signal s) aliases))) ≡ first_code vars (signal_of design s).width (map (alias_name design instance) (cond b (a ∷ filter (names_signal s) aliases) (filter (names_signal s) aliases)))
      go false = refl
      go true = ap (λ o. option_or o (first_code vars (signal_of design s).width (map (alias_name design instance) (filter (names_signal s) aliases)))) (under _ a.name (signal_of design s).width)

  -- the codes by the table are those of the variables
  among_is : (s : ℕ) → code_among table design design.aliases s ≡ code_of design vars instance s
  among_is s =
      ap (λ o. option_or o (first_alias table design s design.aliases)) (under _ (signal_of design s).name (signal_of design s).width)
      ∙ ap (option_or _) (among_aliases s design.aliases)

  pub codes_are : (codes : List (Option ℕ)) → AreCodesAmong table design design.aliases codes → codes ≡ codes_of design vars instance
  codes_are codes h =
      ext_get_or None codes (codes_of design vars instance) (h.as_many ∙ sym (length-map-range_with_len (code_of design vars instance) 0 (length design.signals))) (λ s l.
      let listed : s < length design.signals = omega (arith, h.as_many, l) in
      h.each s listed ∙ among_is s ∙ sym (get_or-map-range_with_len (code_of design vars instance) 0 (length design.signals) s s None listed (omega arith)))

-- the codes under the own names alone
pub own_codes_are : (table : Table) (design : Design) (codes : List (Option ℕ)) → codes ≡ map (own_code table design) (range_with_len 0 (length design.signals)) → AreCodesAmong table design [] codes
own_codes_are table design codes e = record {
  as_many = ap length e ∙ length-map-range_with_len (own_code table design) 0 (length design.signals);
  each = λ s l.
      ap (λ cs. get_or cs s None) e ∙ get_or-map-range_with_len (own_code table design) 0 (length design.signals) s s None l (omega arith) ∙ sym (or_none (own_code table design s));
}

-- one signal more
pub own_code_more : (table : Table) (design : Design) (codes : List (Option ℕ)) (s : ℕ) (signal : Signal) (code : Option ℕ) → codes ≡ map (own_code table design) (range_with_len 0 s) → s < length design.signals → signal ≡ get_or design.signals s signal
    → code ≡ code_in_instance table design signal.instance signal.name signal.width → codes ++ code ∷ [] ≡ map (own_code table design) (range_with_len 0 (s + 1))
own_code_more table design codes s signal code e l is found =
    let same : signal ≡ signal_of design s = is ∙ get_or_default design.signals s signal no_signal l in
    ap (λ cs. cs ++ code ∷ []) e
    ∙ ap (λ o. map (own_code table design) (range_with_len 0 s) ++ o ∷ []) (found ∙ ap (λ (x : Signal). code_in_instance table design x.instance x.name x.width) same)
    ∙ sym (map-range_with_len_more (own_code table design) 0 s s (omega arith))

-- a place that has an item
pub within : {X : Type 0} (xs : List X) (i : ℕ) (x : X) → slice_get xs i ≡ Some x → i < length xs
within xs i x e =
    elim (slice_get_cases xs i).1 [
      | inl w ↦ w.1
      | inr w ↦ let none = w.1 in absurd (cc (none, e))
    ]

-- and one that has no item
pub beyond : {X : Type 0} (xs : List X) (i : ℕ) → slice_get xs i ≡ None → length xs ≤ i
beyond xs i e =
    elim (slice_get_cases xs i).1 [
      | inl w ↦ let some = w.2 in absurd (cc (some, e))
      | inr w ↦ w.0
    ]
