-- The faults of selects, numbers and lists of parts, as they are reported in turn.
use Rattle.std.proofs.Common.{◌≡◌, ◌∙◌, refl, sym, ap, ℕ, nat_lt, Bool, true, false, ◌&&◌, if◌then◌else◌, List, [], ◌++◌, Some, None, arith}
use Rattle.std.proofs.lemmas.Bool.Decides.{nat_tests}
use Rattle.cov_host.specs.declared.place.Place.{Place}
use Rattle.verilog_tree.specs.Tree.{Expr}
use Rattle.elab_const.specs.Faults.{is_below_one, size_fault}
use Rattle.elab_const.specs.Meaning.{number_of}
use Rattle.elab_const.specs.Scope as const
use Rattle.elab_const.specs.Scope.{IsWidth, or_else}
use Rattle.elab_const.specs.declared.fault.ConstKind.TheVariants.{BadRange, TooWide}
use Rattle.flat_design.specs.Expressions.{faults, bit_faults, index_faults, select_faults, width_faults, selected, Selected, is_sound_constant}
use Rattle.flat_design.specs.Fault.{Fault, fault_if, none}
use Rattle.flat_design.specs.Identifiers.{base_name}
use Rattle.flat_design.specs.Scope.{Scope, look_up, names, names_constants, natural_number, whole_number, is_memory_name}
use Rattle.flat_design.specs.declared.entry.Entry.TheVariants.{Memory}
use Rattle.flat_design.specs.declared.entry.MemoryEntry.{MemoryEntry}
use Rattle.elab_scope.specs.Tally.{Tally, after_faults}
use Rattle.elab_checks.proofs.ExpressionLemmas.{met_then, none_then_both}
use Rattle.flat_design.proofs.NoConstFaults.{width_clean, number_clean, constant_not_faulty}
use Rattle.elab_checks.proofs.RangeLemmas.{bit_inside, word_inside}

-- one of two tests does not hold
pub left_false : (a b : Bool) → a ≡ false → (a && b) ≡ false
left_false false b e = refl
left_false true b e = absurd cc

pub right_false : (a b : Bool) → b ≡ false → (a && b) ≡ false
right_false true b e = e
right_false false b e = refl

with_true : (a : Bool) → (a && true) ≡ a
with_true true = refl
with_true false = refl

-- one fault by a second test, where the first holds
pub one_goes_on : (t u v : Tally) (s r : Bool) (xs : List Fault) (f : Fault) (test bad : Bool) → u ≡ after_faults t xs → s ≡ none xs → s ≡ true → v ≡ after_faults u (fault_if bad f) → r ≡ none (fault_if bad f) → test ≡ true →
    (v ≡ after_faults t (xs ++ fault_if (test && bad) f)) × (r ≡ none (xs ++ fault_if (test && bad) f))
one_goes_on t u v s r xs f test bad p q sound a b e = rw e (met_then t u v xs (fault_if bad f) p a, rw sound at (none_then_both s r xs (fault_if bad f) q b))

-- three lists of faults, the last two of them together
pub met_three : (t u v w : Tally) (xs ys zs : List Fault) → u ≡ after_faults t xs → v ≡ after_faults u ys → w ≡ after_faults v zs → w ≡ after_faults t (xs ++ (ys ++ zs))
met_three t u v w xs ys zs p q r = met_then t u w xs (ys ++ zs) p (met_then u v w ys zs q r)

-- five lists, the last four of them together
pub met_five : (t u v w x y : Tally) (vs ws xs ys zs : List Fault) → u ≡ after_faults t vs → v ≡ after_faults u ws → w ≡ after_faults v xs → x ≡ after_faults w ys → y ≡ after_faults x zs →
    y ≡ after_faults t (vs ++ (ws ++ xs ++ ys ++ zs))
met_five t u v w x y vs ws xs ys zs p q r s e =
    met_then t u y vs (ws ++ xs ++ ys ++ zs) p (met_then u x y (ws ++ xs ++ ys) zs (met_then u w x (ws ++ xs) ys (met_then u v w ws xs q r) s) e)

pub none_five : (a b c d e : Bool) (vs ws xs ys zs : List Fault) → a ≡ none vs → b ≡ none ws → c ≡ none xs → d ≡ none ys → e ≡ none zs →
    (((a && b) && (c && d)) && e) ≡ none (vs ++ (ws ++ xs ++ ys ++ zs))
none_five a b c d e vs ws xs ys zs p q r s z =
    regroup a b ∙ none_then_both a (((b && c) && d) && e) vs (ws ++ xs ++ ys ++ zs) p (none_then_both ((b && c) && d) e (ws ++ xs ++ ys) zs (none_then_both (b && c) d (ws ++ xs) ys (none_then_both b c ws xs q r) s) z)
  where
    regroup : (a b : Bool) → (((a && b) && (c && d)) && e) ≡ (a && (((b && c) && d) && e))
    regroup true true = refl
    regroup true false = refl
    regroup false b = refl

-- the fifth counts where a test holds
pub four_stop : (t u v w x : Tally) (a b c d : Bool) (vs ws xs ys zs : List Fault) (test : Bool) → u ≡ after_faults t vs → v ≡ after_faults u ws → w ≡ after_faults v xs → x ≡ after_faults w ys →
    a ≡ none vs → b ≡ none ws → c ≡ none xs → d ≡ none ys → test ≡ false →
    (x ≡ after_faults t (vs ++ (ws ++ xs ++ ys ++ (if test then zs else [])))) × (((a && b) && (c && d)) ≡ none (vs ++ (ws ++ xs ++ ys ++ (if test then zs else []))))
four_stop t u v w x a b c d vs ws xs ys zs test p q r s a' b' c' d' e =
    rw e (met_five t u v w x x vs ws xs ys [] p q r s refl, sym (with_true ((a && b) && (c && d))) ∙ none_five a b c d true vs ws xs ys [] a' b' c' d' refl)

pub five_go_on : (t u v w x y : Tally) (a b c d r : Bool) (vs ws xs ys zs : List Fault) → u ≡ after_faults t vs → v ≡ after_faults u ws → w ≡ after_faults v xs → x ≡ after_faults w ys →
    a ≡ none vs → b ≡ none ws → c ≡ none xs → d ≡ none ys → (c && d) ≡ true → y ≡ after_faults x zs → r ≡ none zs →
    (y ≡ after_faults t (vs ++ (ws ++ xs ++ ys ++ zs))) × (((a && b) && r) ≡ none (vs ++ (ws ++ xs ++ ys ++ zs)))
five_go_on t u v w x y a b c d r vs ws xs ys zs p q m s a' b' c' d' known last sound =
    (met_five t u v w x y vs ws xs ys zs p q m s last, ap (λ k. k && r) (sym (with_true (a && b))) ∙ rw known at (none_five a b c d r vs ws xs ys zs a' b' c' d' sound))

-- whether the bits of an indexed part are looked at
pub slid_not : (base constant bs ws : Bool) → (bs && ws) ≡ false → (((base && bs) && constant) && ws) ≡ false
slid_not true true true ws e = e
slid_not true false true ws e = refl
slid_not true constant false ws e = refl
slid_not false constant bs ws e = refl

pub slid_by_base : (base constant bs ws : Bool) → constant ≡ true → bs ≡ true → ws ≡ true → (((base && bs) && constant) && ws) ≡ base
slid_by_base base constant bs ws p q r = rw (p, q, r) (with_true ((base && true) && true) ∙ with_true (base && true) ∙ with_true base)

-- the width of an indexed part, where it has no fault
pub width_known : (g : Scope) (p : Place) (e : Expr) → names_constants g e ≡ true → none (width_faults g p e (faults g e)) ≡ true → (none (faults g e) ≡ true) × IsWidth (natural_number g e)
width_known g p e constant sound =
    let width = width_clean g p e (faults g e) sound (constant_not_faulty g e constant) in
    let number = number_clean g e (faults g e) width.0 (constant_not_faulty g e constant) in
    (number.1, within (is_below_one (number_of (names g) e)) (natural_number g e) width.1)
  where
    tests : (a b c : Bool) → or_else (const.fault_if a BadRange p) (or_else (const.fault_if b BadRange p) (const.fault_if c TooWide p)) ≡ None → (b ≡ false) × (c ≡ false)
    tests false false false e = (refl, refl)
    tests false false true e = absurd cc
    tests false true c e = absurd cc
    tests true b c e = absurd cc

    within : (below : Bool) (n : ℕ) → or_else (const.fault_if below BadRange p) (size_fault n p) ≡ None → IsWidth n
    within below n e =
        let h = tests below (nat_lt n 1) (nat_lt 128 n) e in
        let low : nat_lt n 1 ≡ false = h.0 in
        let high : nat_lt 128 n ≡ false = h.1 in
        (grind (arith, nat_tests), grind (arith, nat_tests))

-- an index of a memory, and of what is not a memory
pub word_is : (g : Scope) (of : Expr) (before : List Fault) (i : Expr) (fs : List Fault) (m : MemoryEntry) → is_memory_name g of ≡ true → look_up g (base_name of).name ≡ Some (Memory m) →
    bit_faults g of before i fs ≡ fs ++ index_faults g (Selected.bits_in m.words (base_name of)) i fs
word_is g of before i fs m memory is =
    rw (memory, is, word_inside m (whole_number g i), bit_inside m.words.high m.words.low (whole_number g i)) (ap (λ ys. fs ++ ys) (guarded (is_sound_constant g i fs) _ _))
  where
    guarded : (a b : Bool) (f : Fault) → fault_if (a && b) f ≡ (if a then fault_if b f else [])
    guarded true b f = refl
    guarded false b f = refl

pub bit_is : (g : Scope) (of : Expr) (before : List Fault) (i : Expr) (fs : List Fault) → is_memory_name g of ≡ false →
    bit_faults g of before i fs ≡ before ++ select_faults (selected g of) ++ fs ++ index_faults g (selected g of) i fs
bit_is g of before i fs e = rw e refl
