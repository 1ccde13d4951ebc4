-- The bits of bound signals.
use Rattle.std.proofs.Common.{◌≡◌, ◌⊎◌, ⊎_elim, ℕ, suc, ◌+◌, ◌<◌, ◌≤◌, ◌==◌, ◌&&◌, Bool, true, false, cond, is_some, List, [], ◌∷◌, ◌++◌, length, map, get_or, Option, None, Some, refl, sym, ap, subst, ◌∙◌, inl, inr, arith}
use Rattle.std.specs.Prelude.{find}
use Rattle.std.specs.List.{range_with_len}
use Rattle.std.specs.Option.{option_map, option_or}
use Rattle.std.specs.Str.{bytes_eq}
use Rattle.std.proofs.lemmas.Bool.{cases_Bool, eqb-true, false≢true}
use Rattle.std.proofs.lemmas.List.Elements.{All-cons, All-head, All-nil, All-tail}
use Rattle.event_machine.specs.Cell.{Cell}
use Rattle.four_state.specs.Vector.{Vector}
use Rattle.four_state.specs.declared.bit.Bit.{Bit}
use Rattle.four_state.specs.declared.bit.Bit.TheVariants.{X}
use Rattle.design_model.specs.Design.{cell, signal_bits}
use Rattle.design_model.specs.View.{design_view}
use Rattle.design_model.specs.declared.design.Design.{Design}
use Rattle.vcd_reader.specs.Dump.{begun_at, later_stretches, stretches_of}
use Rattle.vcd_reader.specs.Order.{is_on}
use Rattle.vcd_reader.specs.Times.{Rises, last_time}
use Rattle.vcd_reader.specs.declared.entry.Entry.{Entry}
use Rattle.vcd_reader.specs.declared.entry.Entry.TheVariants.{Off, On, Time, Value}
use Rattle.vcd_reader.specs.declared.vars.Var.{Var}
use Rattle.entry_laws.specs.Entries.{FitsCode, IsEntry, AreEntries}
use Rattle.signal_binding.specs.Binding.{codes_of, first_code, names_of, signal_of}
use Rattle.signal_binding.specs.Kinds.{holds_value}
use Rattle.signal_binding.specs.Names.{ScopedName, code_under, holds}
use Rattle.shown_dumps.specs.Laws.{dump_with}
use Rattle.shown_dumps.specs.Said.{last_of, open_stretch, value_after}
use Rattle.shown_dumps.specs.Shown.{bit_at, code_at, stretch_at, value_of_code}
use Rattle.shown_dumps.proofs.Dumps.{code_is, coded_signal}
use Rattle.shown_dumps.proofs.Split.{open_is, open_none}
use Rattle.shown_dumps.proofs.Stretches.{value_open}

-- ---- the variable of a code that is bound

-- some variable has the code and the width
pub record HasVariable (vars : List Var) (code width : ℕ) : Type 0 where
  pub place : ℕ
  pub within : place < length vars
  pub found : Var
  pub is : (d : Var) → get_or vars place d ≡ found
  pub code_is : found.code ≡ code
  pub size : found.size ≡ width

last_two : (a b c d : Bool) → (a && b && c && d) ≡ true → c ≡ true
last_two true true true d e = refl
last_two true true false d e = absurd (false≢true e)
last_two true false c d e = absurd (false≢true e)
last_two false b c d e = absurd (false≢true e)

found_under : (vars : List Var) (width : ℕ) (x : ScopedName) (code : ℕ) → option_map (λ (var : Var). var.code) (find (holds x width) vars) ≡ Some code → HasVariable vars code width
found_under [] width x code e = absurd cc
found_under (var ∷ vars) width x code e = go (cases_Bool (holds x width var)) (λ f. found_under vars width x code f)
  where
    go : (holds x width var ≡ true) ⊎ (holds x width var ≡ false) → (option_map (λ (v : Var). v.code) (find (holds x width) vars) ≡ Some code → HasVariable vars code width) → HasVariable (var ∷ vars) code width
    go (inl is) later =
        let one : Some var.code ≡ Some code = sym (ap (λ b. option_map (λ (v : Var). v.code) (cond b (Some var) (find (holds x width) vars))) is) ∙ e in
        record {
          place = 0;
          within = omega arith;
          found = var;
          is = λ d. refl;
          code_is = (let same : var.code ≡ code = cc in same);
          size = eqb-true var.size width (last_two (bytes_eq var.scope x.scope) (bytes_eq var.name x.name) (var.size == width) (holds_value var.kind) is);
        }
    go (inr other) later =
        let rest = later (sym (ap (λ b. option_map (λ (v : Var). v.code) (cond b (Some var) (find (holds x width) vars))) other) ∙ e) in
        record { place = suc rest.place; within = omega (arith, rest.within); found = rest.found; is = λ d. rest.is d; code_is = rest.code_is; size = rest.size }

pub found_first : (vars : List Var) (width : ℕ) (xs : List ScopedName) (code : ℕ) → first_code vars width xs ≡ Some code → HasVariable vars code width
found_first vars width [] code e = absurd cc
found_first vars width (x ∷ xs) code e = go (code_under vars width x) refl (λ f. found_first vars width xs code f)
  where
    go : (o : Option ℕ) → code_under vars width x ≡ o → (first_code vars width xs ≡ Some code → HasVariable vars code width) → HasVariable vars code width
    go None is later = later (sym (ap (λ o. option_or o (first_code vars width xs)) is) ∙ e)
    go (Some c) is later = found_under vars width x code (is ∙ sym (ap (λ o. option_or o (first_code vars width xs)) is) ∙ e)

-- ---- the width of a value that is said

value_fits : (vars : List Var) (entries : List Entry) (code : ℕ) (value : Vector) → AreEntries vars entries → value_after entries code ≡ Some value → FitsCode vars code value
value_fits vars [] code value widths e = absurd cc
value_fits vars (Off ∷ entries) code value widths e = absurd cc
value_fits vars (On time ∷ entries) code value widths e = absurd cc
value_fits vars (Time time ∷ entries) code value widths e = value_fits vars entries code value (All-tail (IsEntry vars) (Time time) entries widths) e
value_fits vars (Value other there ∷ entries) code value widths e =
    go (value_after entries code) refl (cases_Bool (other == code)) (λ f. value_fits vars entries code value (All-tail (IsEntry vars) (Value other there) entries widths) f)
  where
    go : (o : Option Vector) → value_after entries code ≡ o → ((other == code) ≡ true) ⊎ ((other == code) ≡ false) → (value_after entries code ≡ Some value → FitsCode vars code value) → FitsCode vars code value
    go (Some v) is test later = later (is ∙ sym (ap (λ o. option_or o (cond (other == code) (Some there) None)) is) ∙ e)
    go None is (inl same) later =
        let one : Some there ≡ Some value = sym (ap (λ b. cond b (Some there) None) same) ∙ sym (ap (λ o. option_or o (cond (other == code) (Some there) None)) is) ∙ e in
        let value_is : there ≡ value = cc in
        subst (λ v. FitsCode vars code v) value_is (subst (λ c. FitsCode vars c there) (eqb-true other code same) (All-head (IsEntry vars) (Value other there) entries widths))
    go None is (inr apart) later =
        let none : None ≡ Some value = sym (ap (λ b. cond b (Some there) None) apart) ∙ sym (ap (λ o. option_or o (cond (other == code) (Some there) None)) is) ∙ e in
        absurd cc

-- what was said of the stretch that is on is as what was said
begun_entries : (vars : List Var) (time : Option ℕ) (entries : List Entry) → AreEntries vars (On time ∷ entries) → AreEntries vars (begun_at time entries)
begun_entries vars None entries widths = All-tail (IsEntry vars) (On None) entries widths
begun_entries vars (Some t) entries widths = All-cons (IsEntry vars) (Time t) entries (All-head (IsEntry vars) (On (Some t)) entries widths) (All-tail (IsEntry vars) (On (Some t)) entries widths)

last_entries : (vars : List Var) (entries s : List Entry) → AreEntries vars s → AreEntries vars entries → AreEntries vars (last_of s (later_stretches entries))
last_entries vars [] s own widths = own
last_entries vars (Time time ∷ entries) s own widths = last_entries vars entries s own (All-tail (IsEntry vars) (Time time) entries widths)
last_entries vars (Value code value ∷ entries) s own widths = last_entries vars entries s own (All-tail (IsEntry vars) (Value code value) entries widths)
last_entries vars (Off ∷ entries) s own widths = last_entries vars entries s own (All-tail (IsEntry vars) Off entries widths)
last_entries vars (On time ∷ entries) s own widths =
    last_entries vars entries (begun_at time entries) (begun_entries vars time entries widths) (All-tail (IsEntry vars) (On time) entries widths)

pub open_entries : (vars : List Var) (entries : List Entry) → AreEntries vars entries → AreEntries vars (open_stretch entries)
open_entries vars entries widths = ⊎_elim (λ on. subst (AreEntries vars) (sym (open_is entries on)) (last_entries vars entries entries widths widths)) (λ off. subst (AreEntries vars) (sym (open_none entries off)) (All-nil (IsEntry vars))) (cases_Bool (is_on entries))

-- ---- bits

-- a list is its items by number
items_of : {A : Type 0} (f : ℕ → A) (xs : List A) (d : A) (n : ℕ) → ((k : ℕ) → k < length xs → f (n + k) ≡ get_or xs k d) → map f (range_with_len n (length xs)) ≡ xs
items_of f [] d n same = refl
items_of f (x ∷ xs) d n same =
    let zero_is : n + 0 ≡ n = omega arith in
    let here : f n ≡ x = ap f (sym zero_is) ∙ same 0 (omega arith) in
    ap (λ y. y ∷ map f (range_with_len (n + 1) (length xs))) here
    ∙ ap (λ ys. x ∷ ys) (items_of f xs d (n + 1) (λ k l. let next : n + 1 + k ≡ n + suc k = omega arith in ap f next ∙ same (suc k) (omega (arith, l))))

map_cells : {A : Type 0} (v : Cell → A) (s : ℕ) (ks : List ℕ) → map v (map (cell s) ks) ≡ map (λ k. v (cell s k)) ks
map_cells v s [] = refl
map_cells v s (k ∷ ks) = ap (λ xs. v (cell s k) ∷ xs) (map_cells v s ks)

pub bits_are : (design : Design) (vars : List Var) (instance : List ℕ) (entries more : List Entry) (last next s code t : ℕ) (value : Vector) → AreEntries vars entries
    → Rises None (entries ++ Time next ∷ more) → last_time None (open_stretch entries) ≡ Some last → last ≤ t → t < next → code_at (codes_of design vars instance) s ≡ Some code
    → value_after (open_stretch entries) code ≡ Some value
    → (value.bits ≡ signal_bits (design_view design) ((dump_with (codes_of design vars instance) entries next more).values t) s) × (value.signed ≡ false)
bits_are design vars instance entries more last next s code t value widths rises is_last from until bound said =
    let within = coded_signal design vars instance s (ap is_some bound) in
    let var = found_first vars (signal_of design s).width (names_of design instance s) code (sym (code_is design vars instance s within) ∙ bound) in
    let fits = value_fits vars (open_stretch entries) code value (open_entries vars entries widths) said in
    let long : length value.bits ≡ (signal_of design s).width = fits.bits var.place var.found var.within (ap (λ (x : Var). x.code) (var.is var.found) ∙ var.code_is) ∙ ap (λ (x : Var). x.size) (var.is var.found) ∙ var.size in
    let steps = stretch_at (stretches_of (entries ++ Time next ∷ more)) t in
    let dumped : value_of_code steps t (code_at (codes_of design vars instance) s) ≡ Some value = ap (value_of_code steps t) bound ∙ value_open entries more last next rises is_last code t from until ∙ said in
    let at : Cell → Bit = (dump_with (codes_of design vars instance) entries next more).values t in (
      sym
          (map_cells at s (range_with_len 0 (signal_of design s).width) ∙ ap (λ n. map (λ k. at (cell s k)) (range_with_len 0 n)) (sym long)
          ∙ items_of (λ k. at (cell s k)) value.bits X 0 (λ k l. let j : 0 + k ≡ k = omega arith in ap (λ n. at (cell s n)) j ∙ ap (λ o. bit_at o k) dumped)),
      fits.unsigned,
    )
