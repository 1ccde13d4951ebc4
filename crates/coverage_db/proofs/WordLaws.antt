-- Places: what is read is spelled so, and what is spelled so is read. The words of points have visible bytes alone.
use Rattle.std.proofs.Common.{◌≡◌, ℕ, ◌^◌, ◌<◌, true, List, ◌∷◌, ◌++◌, Option, Some, None, refl, ap, subst, ◌∙◌, arith}
use Rattle.std.specs.Prelude.{decimal}
use Rattle.std.specs.List.{list_all}
use Rattle.std.proofs.lemmas.Option.{same_Some}
use Rattle.coverage_db.specs.declared.address.SourceLine.{SourceLine}
use Rattle.point_words.specs.declared.line_word.LineWord.{LineWord}
use Rattle.point_words.specs.declared.line_word.LineWord.TheVariants as line
use Rattle.point_words.specs.declared.node_case.NodeCase.{NodeCase}
use Rattle.point_words.specs.declared.node_case.NodeCase.TheVariants as case
use Rattle.point_words.specs.declared.operator.Operator.{Operator}
use Rattle.point_words.specs.declared.operator.Operator.TheVariants as operator
use Rattle.coverage_db.specs.Fields.{◌>>=◌, split_first, number_of}
use Rattle.coverage_db.specs.Reading.{place_of}
use Rattle.coverage_db.specs.Table.{IsSourceLine}
use Rattle.coverage_db.specs.Text.{place_text}
use Rattle.point_words.specs.Words.{line_word_text, node_case_text, operator_text}
use Rattle.coverage_db.proofs.Lacking.{is_visible, decimal_lacks}
use Rattle.coverage_db.proofs.Numbers.{number_takes, number_again}
use Rattle.coverage_db.proofs.Splitting.{split_takes, split_again}

-- the value of a step that gave something
pub bind_some : {A B : Type 0} (o : Option A) (f : A → Option B) (y : B) → (o >>= f) ≡ Some y → (x : A) × (o ≡ Some x) × (f x ≡ Some y)
bind_some None f y e = absurd cc
bind_some (Some x) f y e = (x, refl, e)

-- ---- words

pub line_word_visible : (word : LineWord) → list_all is_visible (line_word_text word) ≡ true
line_word_visible line.If = refl
line_word_visible line.Case = refl
line_word_visible line.For = refl
line_word_visible line.Assign = refl

pub node_case_visible : (c : NodeCase) → list_all is_visible (node_case_text c) ≡ true
node_case_visible case.ValueFalse = refl
node_case_visible case.ValueTrue = refl
node_case_visible case.LeftFalse = refl
node_case_visible case.RightFalse = refl
node_case_visible case.LeftTrue = refl
node_case_visible case.RightTrue = refl
node_case_visible case.BothFalse = refl
node_case_visible case.FalseTrue = refl
node_case_visible case.TrueFalse = refl
node_case_visible case.BothTrue = refl

pub operator_visible : (op : Operator) → list_all is_visible (operator_text op) ≡ true
operator_visible operator.Value = refl
operator_visible operator.LogicalNot = refl
operator_visible operator.BitwiseNot = refl
operator_visible operator.ReduceNand = refl
operator_visible operator.ReduceNor = refl
operator_visible operator.And = refl
operator_visible operator.Or = refl
operator_visible operator.LogicalAnd = refl
operator_visible operator.LogicalOr = refl
operator_visible operator.Plus = refl
operator_visible operator.Minus = refl
operator_visible operator.Xor = refl
operator_visible operator.Xnor = refl
operator_visible operator.Nxor = refl
operator_visible operator.Multiply = refl
operator_visible operator.Divide = refl
operator_visible operator.Modulus = refl
operator_visible operator.ShiftLeft = refl
operator_visible operator.ShiftRight = refl
operator_visible operator.ArithmeticShiftLeft = refl
operator_visible operator.ArithmeticShiftRight = refl
operator_visible operator.LessThan = refl
operator_visible operator.LessOrEqual = refl
operator_visible operator.GreaterThan = refl
operator_visible operator.GreaterOrEqual = refl
operator_visible operator.Equal = refl
operator_visible operator.NotEqual = refl
operator_visible operator.CaseEqual = refl
operator_visible operator.CaseNotEqual = refl

-- ---- a source and its line

-- what a place says of its field
pub record IsPlace (sources : ℕ) (at : SourceLine) (word : List ℕ) : Type 0 where
  pub spelled : word ≡ place_text at
  pub place : IsSourceLine sources at

pub place_takes : (sources : ℕ) (word : List ℕ) (at : SourceLine) → sources < 2 ^ 32 → place_of sources word ≡ Some at → IsPlace sources at word
unfolding place_of
place_takes sources word at few e =
    let a = bind_some (split_first 58 word) (λ parts. number_of 1 sources parts.0 >>= λ source. number_of 1 4294967295 parts.1 >>= λ line. Some (record { source = source; line = line })) at e in
    let b = bind_some (number_of 1 sources a.0.0) (λ source. number_of 1 4294967295 a.0.1 >>= λ line. Some (record { source = source; line = line })) at a.2 in
    let c = bind_some (number_of 1 4294967295 a.0.1) (λ line. Some (record { source = b.0; line = line })) at b.2 in
    let parts = split_takes 58 word a.0.0 a.0.1 a.1 in
    let source = number_takes 1 sources b.0 a.0.0 (omega arith) b.1 in
    let number = number_takes 1 4294967295 c.0 a.0.1 (omega arith) c.1 in
    let made : SourceLine = record { source = b.0; line = c.0 } in
    subst (λ (p : SourceLine). IsPlace sources p word) (same_Some made at c.2)
    (record { spelled = parts.whole ∙ ap (λ (f : List ℕ). f ++ 58 ∷ a.0.1) source.spelled ∙ ap (λ (l : List ℕ). decimal b.0 ++ 58 ∷ l) number.spelled; place = record { source = (source.low, source.high); line = (number.low, omega (arith, number.high)) } })

pub place_again : (sources : ℕ) (at : SourceLine) → sources < 2 ^ 32 → IsSourceLine sources at → place_of sources (place_text at) ≡ Some at
unfolding place_of
place_again sources at few place =
    let small : at.source < 2 ^ 64 = omega (arith, place.source.1) in
    let split : split_first 58 (place_text at) ≡ Some (decimal at.source, decimal at.line) = split_again 58 (decimal at.source) (decimal at.line) (decimal_lacks 58 at.source refl small) in
    let source : number_of 1 sources (decimal at.source) ≡ Some at.source = number_again 1 sources at.source (omega arith) place.source.0 place.source.1 in
    let line : number_of 1 4294967295 (decimal at.line) ≡ Some at.line = number_again 1 4294967295 at.line (omega arith) place.line.0 (omega (arith, place.line.1)) in
    rw (split, source, line) refl
