-- Addresses that are the same, part by part, are one.
use Rattle.std.proofs.Common.{◌≡◌, ℕ, Bool, true, false, eqb, List, Option, Some, None, refl, sym, ap, ◌∙◌}
use Rattle.std.specs.Prelude.{bytes_eq, slice_get, ◌&&◌}
use Rattle.std.proofs.lemmas.Bool.{and_parts, eqb-true, eq-eqb}
use Rattle.std.proofs.lemmas.Option.{same_Some}
use Rattle.std.proofs.lemmas.Slice.Eq.{bytes_eq-Decides}
use Rattle.coverage_db.specs.declared.address.Address.{Address}
use Rattle.coverage_db.specs.declared.address.SourceLine.{SourceLine}
use Rattle.coverage_db.specs.declared.address.Subject.{Subject}
use Rattle.coverage_db.specs.declared.address.Subject.TheVariants.{Line, Logic, Toggle, State, Arc, Word}
use Rattle.coverage_db.specs.declared.db.DbInstance.{DbInstance}
use Rattle.point_words.specs.declared.line_word.LineWord.{LineWord}
use Rattle.point_words.specs.declared.line_word.LineWord.TheVariants as line
use Rattle.point_words.specs.declared.node_case.NodeCase.{NodeCase}
use Rattle.point_words.specs.declared.node_case.NodeCase.TheVariants as case
use Rattle.point_words.specs.declared.operator.Operator.{Operator}
use Rattle.point_words.specs.declared.operator.Operator.TheVariants as operator
use Rattle.coverage_db.specs.Same.{same_bit, same_index, same_place, same_subject, same_address, same_instance}
use Rattle.point_words.specs.Words.{line_words, line_word_rank, node_cases, node_case_rank, operators, operator_rank}

line_word_ranked : (x : LineWord) → slice_get line_words (line_word_rank x) ≡ Some x
line_word_ranked line.If = refl
line_word_ranked line.Case = refl
line_word_ranked line.For = refl
line_word_ranked line.Assign = refl

line_word_same : (x y : LineWord) → eqb (line_word_rank x) (line_word_rank y) ≡ true → x ≡ y
line_word_same x y e = same_Some x y (sym (line_word_ranked x) ∙ ap (slice_get line_words) (eqb-true (line_word_rank x) (line_word_rank y) e) ∙ line_word_ranked y)

node_case_ranked : (x : NodeCase) → slice_get node_cases (node_case_rank x) ≡ Some x
node_case_ranked case.ValueFalse = refl
node_case_ranked case.ValueTrue = refl
node_case_ranked case.LeftFalse = refl
node_case_ranked case.RightFalse = refl
node_case_ranked case.LeftTrue = refl
node_case_ranked case.RightTrue = refl
node_case_ranked case.BothFalse = refl
node_case_ranked case.FalseTrue = refl
node_case_ranked case.TrueFalse = refl
node_case_ranked case.BothTrue = refl

node_case_same : (x y : NodeCase) → eqb (node_case_rank x) (node_case_rank y) ≡ true → x ≡ y
node_case_same x y e = same_Some x y (sym (node_case_ranked x) ∙ ap (slice_get node_cases) (eqb-true (node_case_rank x) (node_case_rank y) e) ∙ node_case_ranked y)

operator_ranked : (x : Operator) → slice_get operators (operator_rank x) ≡ Some x
operator_ranked operator.Value = refl
operator_ranked operator.LogicalNot = refl
operator_ranked operator.BitwiseNot = refl
operator_ranked operator.ReduceNand = refl
operator_ranked operator.ReduceNor = refl
operator_ranked operator.And = refl
operator_ranked operator.Or = refl
operator_ranked operator.LogicalAnd = refl
operator_ranked operator.LogicalOr = refl
operator_ranked operator.Plus = refl
operator_ranked operator.Minus = refl
operator_ranked operator.Xor = refl
operator_ranked operator.Xnor = refl
operator_ranked operator.Nxor = refl
operator_ranked operator.Multiply = refl
operator_ranked operator.Divide = refl
operator_ranked operator.Modulus = refl
operator_ranked operator.ShiftLeft = refl
operator_ranked operator.ShiftRight = refl
operator_ranked operator.ArithmeticShiftLeft = refl
operator_ranked operator.ArithmeticShiftRight = refl
operator_ranked operator.LessThan = refl
operator_ranked operator.LessOrEqual = refl
operator_ranked operator.GreaterThan = refl
operator_ranked operator.GreaterOrEqual = refl
operator_ranked operator.Equal = refl
operator_ranked operator.NotEqual = refl
operator_ranked operator.CaseEqual = refl
operator_ranked operator.CaseNotEqual = refl

operator_same : (x y : Operator) → eqb (operator_rank x) (operator_rank y) ≡ true → x ≡ y
operator_same x y e = same_Some x y (sym (operator_ranked x) ∙ ap (slice_get operators) (eqb-true (operator_rank x) (operator_rank y) e) ∙ operator_ranked y)

name_same : (a b : List ℕ) → bytes_eq a b ≡ true → a ≡ b
name_same a b e = (bytes_eq-Decides a b).0 e

bit_same : (a b : Bool) → same_bit a b ≡ true → a ≡ b
bit_same true b e = sym e
bit_same false true e = absurd cc
bit_same false false e = refl

index_same : (a b : Option ℕ) → same_index a b ≡ true → a ≡ b
index_same None None e = refl
index_same None (Some b) e = absurd cc
index_same (Some a) None e = absurd cc
index_same (Some a) (Some b) e = ap (λ (n : ℕ). Some n) (eqb-true a b e)

abbrev made_place : ℕ → ℕ → SourceLine
made_place source line = record { source = source; line = line }

place_same : (a b : SourceLine) → same_place a b ≡ true → a ≡ b
place_same a b e =
    let p = and_parts (eqb a.source b.source) (eqb a.line b.line) e in
    let x = eqb-true a.source b.source p.0 in
    let y = eqb-true a.line b.line p.1 in
    ap (λ (n : ℕ). made_place n a.line) x ∙ ap (λ (n : ℕ). made_place b.source n) y

subject_same : (a b : Subject) → same_subject a b ≡ true → a ≡ b
subject_same (Line m a v) (Line n b w) e =
    let h2 = and_parts ((eqb m n) && (same_place a b)) (eqb (line_word_rank v) (line_word_rank w)) (e) in
    let q2 = line_word_same v w h2.1 in
    let h1 = and_parts (eqb m n) (same_place a b) (h2.0) in
    let q1 = place_same a b h1.1 in
    let q0 = eqb-true m n (h1.0) in
    cc
subject_same (Line m a v) (Logic n b p d) e = absurd cc
subject_same (Line m a v) (Toggle y j s) e = absurd cc
subject_same (Line m a v) (State y u) e = absurd cc
subject_same (Line m a v) (Arc y g q) e = absurd cc
subject_same (Line m a v) (Word y j z) e = absurd cc
subject_same (Logic m a o c) (Line n b w) e = absurd cc
subject_same (Logic m a o c) (Logic n b p d) e =
    let h3 = and_parts (((eqb m n) && (same_place a b)) && (eqb (operator_rank o) (operator_rank p))) (eqb (node_case_rank c) (node_case_rank d)) (e) in
    let q3 = node_case_same c d h3.1 in
    let h2 = and_parts ((eqb m n) && (same_place a b)) (eqb (operator_rank o) (operator_rank p)) (h3.0) in
    let q2 = operator_same o p h2.1 in
    let h1 = and_parts (eqb m n) (same_place a b) (h2.0) in
    let q1 = place_same a b h1.1 in
    let q0 = eqb-true m n (h1.0) in
    cc
subject_same (Logic m a o c) (Toggle y j s) e = absurd cc
subject_same (Logic m a o c) (State y u) e = absurd cc
subject_same (Logic m a o c) (Arc y g q) e = absurd cc
subject_same (Logic m a o c) (Word y j z) e = absurd cc
subject_same (Toggle x i r) (Line n b w) e = absurd cc
subject_same (Toggle x i r) (Logic n b p d) e = absurd cc
subject_same (Toggle x i r) (Toggle y j s) e =
    let h2 = and_parts ((bytes_eq x y) && (same_index i j)) (same_bit r s) (e) in
    let q2 = bit_same r s h2.1 in
    let h1 = and_parts (bytes_eq x y) (same_index i j) (h2.0) in
    let q1 = index_same i j h1.1 in
    let q0 = name_same x y (h1.0) in
    cc
subject_same (Toggle x i r) (State y u) e = absurd cc
subject_same (Toggle x i r) (Arc y g q) e = absurd cc
subject_same (Toggle x i r) (Word y j z) e = absurd cc
subject_same (State x k) (Line n b w) e = absurd cc
subject_same (State x k) (Logic n b p d) e = absurd cc
subject_same (State x k) (Toggle y j s) e = absurd cc
subject_same (State x k) (State y u) e =
    let h1 = and_parts (bytes_eq x y) (bytes_eq k u) (e) in
    let q1 = name_same k u h1.1 in
    let q0 = name_same x y (h1.0) in
    cc
subject_same (State x k) (Arc y g q) e = absurd cc
subject_same (State x k) (Word y j z) e = absurd cc
subject_same (Arc x f t) (Line n b w) e = absurd cc
subject_same (Arc x f t) (Logic n b p d) e = absurd cc
subject_same (Arc x f t) (Toggle y j s) e = absurd cc
subject_same (Arc x f t) (State y u) e = absurd cc
subject_same (Arc x f t) (Arc y g q) e =
    let h2 = and_parts ((bytes_eq x y) && (bytes_eq f g)) (bytes_eq t q) (e) in
    let q2 = name_same t q h2.1 in
    let h1 = and_parts (bytes_eq x y) (bytes_eq f g) (h2.0) in
    let q1 = name_same f g h1.1 in
    let q0 = name_same x y (h1.0) in
    cc
subject_same (Arc x f t) (Word y j z) e = absurd cc
subject_same (Word x i l) (Line n b w) e = absurd cc
subject_same (Word x i l) (Logic n b p d) e = absurd cc
subject_same (Word x i l) (Toggle y j s) e = absurd cc
subject_same (Word x i l) (State y u) e = absurd cc
subject_same (Word x i l) (Arc y g q) e = absurd cc
subject_same (Word x i l) (Word y j z) e =
    let h2 = and_parts ((bytes_eq x y) && (eqb i j)) (same_bit l z) (e) in
    let q2 = bit_same l z h2.1 in
    let h1 = and_parts (bytes_eq x y) (eqb i j) (h2.0) in
    let q1 = eqb-true i j h1.1 in
    let q0 = name_same x y (h1.0) in
    cc

abbrev made_address : ℕ → Subject → Address
made_address instance subject = record { instance = instance; subject = subject }

pub address_same : (a b : Address) → same_address a b ≡ true → a ≡ b
address_same a b e =
    let p = and_parts (eqb a.instance b.instance) (same_subject a.subject b.subject) e in
    let x = eqb-true a.instance b.instance p.0 in
    let y = subject_same a.subject b.subject p.1 in
    ap (λ (n : ℕ). made_address n a.subject) x ∙ ap (λ (s : Subject). made_address b.instance s) y

abbrev made_instance : List ℕ → List ℕ → DbInstance
made_instance path name = record { path = path; «module» = name }

pub instance_same : (a b : DbInstance) → same_instance a b ≡ true → a ≡ b
instance_same a b e =
    let p = and_parts (bytes_eq a.path b.path) (bytes_eq a.«module» b.«module») e in
    let x = name_same a.path b.path p.0 in
    let y = name_same a.«module» b.«module» p.1 in
    ap (λ (n : List ℕ). made_instance n a.«module») x ∙ ap (λ (n : List ℕ). made_instance b.path n) y

-- ---- each is the same as itself

self_name : (a : List ℕ) → bytes_eq a a ≡ true
self_name a = (bytes_eq-Decides a a).1 refl

self_number : (n : ℕ) → eqb n n ≡ true
self_number n = eq-eqb n n refl

self_bit : (b : Bool) → same_bit b b ≡ true
self_bit true = refl
self_bit false = refl

self_index : (o : Option ℕ) → same_index o o ≡ true
self_index None = refl
self_index (Some n) = self_number n

self_subject : (s : Subject) → same_subject s s ≡ true
self_subject (Line m a v) = rw (self_number m, self_number a.source, self_number a.line, self_number (line_word_rank v)) refl
self_subject (Logic m a o c) = rw (self_number m, self_number a.source, self_number a.line, self_number (operator_rank o), self_number (node_case_rank c)) refl
self_subject (Toggle x i r) = rw (self_name x, self_index i, self_bit r) refl
self_subject (State x s) = rw (self_name x, self_name s) refl
self_subject (Arc x f t) = rw (self_name x, self_name f, self_name t) refl
self_subject (Word x i w) = rw (self_name x, self_number i, self_bit w) refl

pub self_address : (a : Address) → same_address a a ≡ true
self_address a = rw (self_number a.instance, self_subject a.subject) refl

pub self_instance : (a : DbInstance) → same_instance a a ≡ true
self_instance a = rw (self_name a.path, self_name a.«module») refl
