-- The small grammar passes the tests, so the laws hold of it.
use Rattle.std.proofs.Common.{◌≡◌, ℕ, true, false, List, [], ◌∷◌, ◌++◌, Ok, Bool, zero, suc, cond, nat_le, ◌⊎◌, refl, sym, subst, inl, inr, arith}
use Rattle.std.specs.Prelude.{codes}
use Rattle.grammar_rules.specs.Rule.{both, many, nest, next, member, nullable, first, too_deep, take_one, repeat, grow_by}
use Rattle.grammar_rules.specs.Grammar.{Nests, phrase, whole}
use Rattle.grammar_rules.specs.Around.{Whole, Parts, NestParts}
use Rattle.grammar_rules.specs.Laws.{Stands, IsExact}
use Rattle.grammar_rules.specs.Example.{ReadsTexts, Token, Phrase, sum, operand, statement, number, shown, Value, sums, grammar, rule_of, begins, written, said, wrong, Sum, height, deepest, greater, operand_rule, sum_rule, only, growth, plus_of, statement_rule}
use Rattle.grammar_rules.proofs.Complete.{is_told}
use Rattle.grammar_rules.proofs.Local.{steps}
use Rattle.grammar_rules.proofs.Deeper.{is_lean}
use Rattle.grammar_rules.proofs.Opened.{is_open}
use Rattle.grammar_rules.proofs.Framed.{is_fit}
use Rattle.grammar_rules.proofs.Passes.{Tables, Passes}
use Rattle.grammar_rules.proofs.Faults.{Within}
use Rattle.grammar_rules.proofs.Measured.{IsDeepest, deepest_by, deepest_alone, deepest_under, fixed_measures, measured, MeasuresWithin, Measured}
use Rattle.grammar_rules.proofs.Exact.{exact}

abbrev follow : Phrase → List ℕ
follow sum = 4 ∷ 5 ∷ 6 ∷ 1 ∷ 3 ∷ []
follow operand = 2 ∷ 4 ∷ 5 ∷ 6 ∷ 1 ∷ 3 ∷ []
follow statement = 0 ∷ 6 ∷ 1 ∷ 3 ∷ 7 ∷ []

abbrev token : ℕ → Token
token x = record { kind = x; place = 0 }

abbrev word_of : Phrase → List Token
word_of sum = token 1 ∷ []
word_of operand = token 1 ∷ []
word_of statement = token 1 ∷ token 5 ∷ []

abbrev value_of : (p : Phrase) → Value p
value_of sum = number 0
value_of operand = number 0
value_of statement = shown (number 0)

abbrev tables : Tables sums
tables = record { follow = follow; greedy = 7 ∷ []; token = token; word_of = word_of; value_of = value_of; enough = 2 }

not_nullable : (p : Phrase) → nullable (rule_of p) ≡ false
not_nullable sum = refl
not_nullable operand = refl
not_nullable statement = refl

begins_first : (p : Phrase) → first sums begins (rule_of p) ≡ begins p
begins_first sum = refl
begins_first operand = refl
begins_first statement = refl

no_end : (p : Phrase) → member 0 (begins p) ≡ false
no_end sum = refl
no_end operand = refl
no_end statement = refl

told : (p : Phrase) → is_told sums begins follow (rule_of p) (follow p) ≡ true
told sum = refl
told operand = refl
told statement = refl

fit : (p : Phrase) → is_fit sums (7 ∷ []) begins token (rule_of p) ≡ true
fit sum = refl
fit operand = refl
fit statement = refl

opened : (p : Phrase) → is_open sums (λ q. is_open sums (λ r. false) (rule_of q)) (rule_of p) ≡ true
opened sum = refl
opened operand = refl
opened statement = refl

lean : (p : Phrase) → is_lean sums (rule_of p) ≡ true
lean sum = refl
lean operand = refl
lean statement = refl

stepping : (p : Phrase) → steps sums (rule_of p) ≡ true
stepping sum = refl
stepping operand = refl
stepping statement = refl

safe : (p : Phrase) (z : List Token) → member (next sums (word_of p ++ z)) (7 ∷ []) ≡ false
safe sum z = refl
safe operand z = refl
safe statement z = refl

word_read : (p : Phrase) → phrase sums grammar 2 p (word_of p) ≡ Ok (value_of p, [])
unfolding phrase take_one repeat grow_by
word_read sum = refl
word_read operand = refl
word_read statement = refl

passes : Passes sums grammar tables
passes = record {
  not_nullable = not_nullable;
  begins_first = begins_first;
  no_end = no_end;
  told = told;
  fit = fit;
  opened = opened;
  lean = lean;
  stepping = stepping;
  safe = safe;
  word_read = word_read;
  end_not_greedy = refl;
  source_told = refl;
  source_fit = refl;
  source_steps = refl;
}

-- ---- heights are those of parts

greater_left : (x y : ℕ) → nat_le y x ≡ true → greater x y ≡ x
greater_left x y e = grind (arith, e)

greater_right : (x y : ℕ) → nat_le y x ≡ false → greater x y ≡ y
greater_right x y e = grind (arith, e)

-- the first of the deepest parts of two
deepest_of_two : (Q S : ℕ → List Token → Type 0) (x y p q : ℕ) → IsDeepest sums Q x p → IsDeepest sums S y q → IsDeepest sums (λ n j. Q n j ⊎ S n j) (greater x y) (cond (nat_le y x) p q)
deepest_of_two Q S x y p q h k = go (nat_le y x) refl
  where
    go : (c : Bool) → nat_le y x ≡ c → IsDeepest sums (λ n j. Q n j ⊎ S n j) (greater x y) (cond c p q)
    go true e = subst (λ (m : ℕ). IsDeepest sums (λ n j. Q n j ⊎ S n j) m p) (sym (greater_left x y e)) (deepest_by sums Q (λ n j. Q n j ⊎ S n j) x p (λ n j s. inl s) h)
    go false e = subst (λ (m : ℕ). IsDeepest sums (λ n j. Q n j ⊎ S n j) m q) (sym (greater_right x y e)) (deepest_by sums S (λ n j. Q n j ⊎ S n j) y q (λ n j s. inr s) k)

-- the place of a phrase's value is that of the first of its innermost parts
abbrev IsMeasured : (p : Phrase) → Value p → List Token → (ℕ → List Token → Type 0) → Type 0
IsMeasured sum v i Q = IsDeepest sums (Whole sums i Q) (height v) (deepest v)
IsMeasured operand v i Q = IsDeepest sums (Whole sums i Q) (height v) (deepest v)
IsMeasured statement v i Q = Unit {0}

module _ (d : ℕ) (nested : (p : Phrase) (v : Value p) (i o : List Token) (s : Nests sums grammar d p v i o) → IsMeasured p v i (NestParts sums grammar d p v i o s)) where
  operand_deepest : (v : Sum) (i o : List Token) (s : Within sums grammar d operand_rule v i o)
      → IsDeepest sums (Whole sums i (Parts sums (λ h. nat_le h d) (Nests sums grammar d) (NestParts sums grammar d) operand_rule v i o s)) (height v) (deepest v)
  operand_deepest v i o (inl s) = subst (λ (u : Sum). IsDeepest sums (Whole sums i (λ n j. ⊥)) (height u) (deepest u)) s.1 (deepest_alone sums s.0 i o (λ n j. ⊥) s.2.0)
  operand_deepest v i o (inr s) =
      let k = nested sum s.0.1.0 s.2.0 s.2.2.0 s.2.2.1 in
      subst (λ (u : Sum). IsDeepest sums (Whole sums i (λ n j. ⊥ ⊎ (Whole sums s.2.0 (NestParts sums grammar d sum s.0.1.0 s.2.0 s.2.2.0 s.2.2.1) n j ⊎ ⊥))) (height u) (deepest u)) s.1
      (deepest_under sums i (λ n j. ⊥ ⊎ (Whole sums s.2.0 (NestParts sums grammar d sum s.0.1.0 s.2.0 s.2.2.0 s.2.2.1) n j ⊎ ⊥)) (height s.0.1.0) (deepest s.0.1.0)
      (deepest_by sums (Whole sums s.2.0 (NestParts sums grammar d sum s.0.1.0 s.2.0 s.2.2.0 s.2.2.1)) (λ n j. ⊥ ⊎ (Whole sums s.2.0 (NestParts sums grammar d sum s.0.1.0 s.2.0 s.2.2.0 s.2.2.1) n j ⊎ ⊥)) (height s.0.1.0) (deepest s.0.1.0)
      (λ n j x. inr (inl x)) k))

  sum_measures : MeasuresWithin sums grammar d sum_rule
  sum_measures = (
    fixed_measures sums (λ h. nat_le h d) (Nests sums grammar d) (NestParts sums grammar d) operand_rule refl,
    fixed_measures sums (λ h. nat_le h d) (Nests sums grammar d) (NestParts sums grammar d) (both (only 2) (nest operand)) refl,
    operand_deepest,
    λ Q i a b m o s k. deepest_under sums i (λ n j. Whole sums i Q n j ⊎ (⊥ ⊎ Whole sums s.0 (NestParts sums grammar d operand b.1 s.0 o s.2) n j)) (greater (height a) (height b.1)) (cond (nat_le (height b.1) (height a)) (deepest a) (deepest b.1))
        (deepest_of_two (Whole sums i Q) (λ n j. ⊥ ⊎ Whole sums s.0 (NestParts sums grammar d operand b.1 s.0 o s.2) n j) (height a) (height b.1) (deepest a) (deepest b.1) k
        (deepest_by sums (Whole sums s.0 (NestParts sums grammar d operand b.1 s.0 o s.2)) (λ n j. ⊥ ⊎ Whole sums s.0 (NestParts sums grammar d operand b.1 s.0 o s.2) n j) (height b.1) (deepest b.1) (λ n j x. inr x) (nested operand b.1 s.0 o s.2))),
  )

  nested_deeper : (p : Phrase) (v : Value p) (i o : List Token) (s : Nests sums grammar (suc d) p v i o) → IsMeasured p v i (NestParts sums grammar (suc d) p v i o s)
  nested_deeper sum v i o s = measured sums (λ h. nat_le h d) (Nests sums grammar d) (NestParts sums grammar d) growth plus_of tt operand_rule (both (only 2) (nest operand)) sum_measures v i o s
  nested_deeper operand v i o s = operand_deepest v i o s
  nested_deeper statement v i o s = tt

nested_deepest : (d : ℕ) (p : Phrase) (v : Value p) (i o : List Token) (s : Nests sums grammar d p v i o) → IsMeasured p v i (NestParts sums grammar d p v i o s)
nested_deepest zero p v i o s = absurd s
nested_deepest (suc d) p v i o s = nested_deeper d (nested_deepest d) p v i o s

phrases_measure : (d : ℕ) (p : Phrase) → MeasuresWithin sums grammar d (rule_of p)
phrases_measure d sum = sum_measures d (nested_deepest d)
phrases_measure d operand = fixed_measures sums (λ h. nat_le h d) (Nests sums grammar d) (NestParts sums grammar d) operand_rule refl
phrases_measure d statement = fixed_measures sums (λ h. nat_le h d) (Nests sums grammar d) (NestParts sums grammar d) statement_rule refl

measures : Measured sums grammar
measures = record { phrases = phrases_measure; source = λ d. fixed_measures sums (λ h. nat_le h d) (Nests sums grammar d) (NestParts sums grammar d) (many (nest statement)) refl }

pub example_exact : IsExact sums grammar
example_exact = exact sums grammar tables passes measures

too_many : said 3 (codes "1+1+1;") ≡ wrong (too_deep 0) 3
unfolding whole phrase take_one repeat grow_by
too_many = refl

too_many_stands : Stands sums grammar 3 (written 0 (codes "1+1+1;")) (too_deep 0) 3
too_many_stands = example_exact.faults 3 (written 0 (codes "1+1+1;")) (record { kind = too_deep 0; left = 3 }) too_many

pub reads_texts : ReadsTexts
unfolding whole phrase take_one repeat grow_by
reads_texts = record {
  left = refl;
  nearest = refl;
  too_high = refl;
  too_high_later = refl;
  first_of_two = refl;
  too_many = too_many;
  first_part = too_many_stands.1;
  in_each = too_many_stands.2;
  no_other = λ place s. (example_exact.one_too_deep 3 _ _ _ place 0 s too_many_stands.1).0;
  too_deep_inside = refl;
  other_inside = refl;
  no_operand = refl;
  no_end = refl;
}
