-- A small grammar: sums with parentheses that group to the left, in statements of which some have an else.
use Rattle.std.specs.Prelude.{◌≡◌, ℕ, suc, nat_le, true, ◌==◌, if◌then◌else◌, List, [], ◌∷◌, ◌++◌, codes, Option, Result, Ok, Err}
use Rattle.grammar_rules.specs.Rule.{Language, Rule, one, both, either, many, maybe, grow, made, nest, Growth, Wrong, unexpected, too_deep, Fault}
use Rattle.grammar_rules.specs.Grammar.{Grammar, whole}
use Rattle.grammar_rules.specs.Deep.{IsFirstTooDeep}
use Rattle.grammar_rules.specs.Around.{IsDeepInEach}

-- 1 is a number, 2 a plus, 3 and 4 are parentheses, 5 is a semicolon, 6 is if and 7 is else
pub record Token : Type 0 where
  pub kind : ℕ
  pub place : ℕ

pub data Phrase : Type 0 where
  sum operand statement : Phrase

-- a sum, with the place of its first token
pub data Sum : Type 0 where
  number : ℕ → Sum
  plus : ℕ → Sum → Sum → Sum
  paren : ℕ → Sum → Sum

mutual
  pub data Statement : Type 0 where
    shown : Sum → Statement
    choice : Sum → Statement → Statements → Statement

  -- none or one
  pub data Statements : Type 0 where
    no_statement : Statements
    a_statement : Statement → Statements

abbrev pub Value : Phrase → Type 0
Value sum = Sum
Value operand = Sum
Value statement = Statement

abbrev pub sums : Language
sums = record { Token = Token; Place = ℕ; Phrase = Phrase; Value = Value; code = λ t. t.kind; place = λ t. t.place }

abbrev pub place_of : Sum → ℕ
place_of (number p) = p
place_of (plus p a b) = p
place_of (paren p a) = p

abbrev pub greater : ℕ → ℕ → ℕ
greater a b = if nat_le a b then b else a

-- how many sums nest
abbrev pub height : Sum → ℕ
height (number p) = 1
height (plus p a b) = suc (greater (height a) (height b))
height (paren p a) = suc (height a)

-- where the first of the innermost sums begins
abbrev pub deepest : Sum → ℕ
deepest (number p) = p
deepest (plus p a b) = if nat_le (height b) (height a) then deepest a else deepest b
deepest (paren p a) = deepest a

-- any sum may precede a plus
abbrev pub growth : Growth sums Sum
growth = record { may = λ a. true; again = true; height = height; deepest = deepest }

abbrev pub only : ℕ → Rule sums Token
only x = one x []

abbrev pub number_of : Token → Sum
number_of t = number t.place

abbrev pub paren_of : Token × (Sum × Token) → Sum
paren_of p = paren p.0.place p.1.0

abbrev pub plus_of : Sum → Token × Sum → Sum
plus_of a p = plus (place_of a) a p.1

-- operand = number | "(" sum ")"
abbrev pub operand_rule : Rule sums Sum
operand_rule = either (made number_of (only 1)) (made paren_of (both (only 3) (both (nest sum) (only 4))))

-- sum = operand { "+" operand }
abbrev pub sum_rule : Rule sums Sum
sum_rule = grow growth plus_of tt operand_rule (both (only 2) (nest operand))

abbrev pub shown_of : Sum × Token → Statement
shown_of p = shown p.0

abbrev pub else_of : Option Statement → Statements
else_of Option.None = no_statement
else_of (Option.Some s) = a_statement s

abbrev pub choice_of : Token × (Sum × (Statement × Option Statement)) → Statement
choice_of p = choice p.1.0 p.1.1.0 (else_of p.1.1.1)

-- statement = "if" sum statement [ "else" statement ] | sum ";"
abbrev pub statement_rule : Rule sums Statement
statement_rule = either (made choice_of (both (only 6) (both (nest sum) (both (nest statement) (maybe 7 (nest statement)))))) (made shown_of (both (nest sum) (only 5)))

abbrev pub rule_of : (p : Phrase) → Rule sums (Value p)
rule_of sum = sum_rule
rule_of operand = operand_rule
rule_of statement = statement_rule

abbrev pub begins : Phrase → List ℕ
begins sum = 1 ∷ 3 ∷ []
begins operand = 1 ∷ 3 ∷ []
begins statement = 6 ∷ 1 ∷ 3 ∷ []

abbrev pub grammar : Grammar sums
grammar = record { rule_of = rule_of; begins = begins; Tree = List Statement; source = many (nest statement) }

-- the tokens of a text, each with its place in it
abbrev pub letter_kind : ℕ → ℕ
letter_kind c = if c == 49 then 1 else (if c == 43 then 2 else (if c == 40 then 3 else (if c == 41 then 4 else (if c == 59 then 5 else (if c == 105 then 6 else 7)))))

abbrev pub written : ℕ → List ℕ → List Token
written n [] = []
written n (c ∷ cs) = record { kind = letter_kind c; place = n } ∷ written (suc n) cs

-- what a text says, nested no deeper than the number
abbrev pub said : ℕ → List ℕ → Result (List Statement) (Fault sums)
said d text = whole sums grammar d (written 0 text)

abbrev pub wrong : Wrong sums → ℕ → Result (List Statement) (Fault sums)
wrong kind left = Err (record { kind = kind; left = left })

-- The small grammar reads some texts as it should.
pub record ReadsTexts : Type 0 where
  -- sums group to the left
  pub left : said 4 (codes "1+1+1;") ≡ Ok (shown (plus 0 (plus 0 (number 0) (number 2)) (number 4)) ∷ [])
  -- an else belongs to the nearest if
  pub nearest : said 5 (codes "i1i1" ++ codes "1;e1;") ≡ Ok (choice (number 1) (choice (number 3) (shown (number 4)) (a_statement (shown (number 7)))) no_statement ∷ [])
  -- a plus is known to make its left side too deep, of which the first of the innermost sums is the place
  pub too_high : said 3 (codes "(1)+1+1;") ≡ wrong (too_deep 1) 5
  pub too_high_later : said 4 (codes "1+(1)+1;") ≡ wrong (too_deep 3) 3
  pub first_of_two : said 4 (codes "(1)+(1)+1;") ≡ wrong (too_deep 1) 3
  -- the second plus makes the first number the part with three parts around it, which are the statement and two sums
  pub too_many : said 3 (codes "1+1+1;") ≡ wrong (too_deep 0) 3
  pub first_part : IsFirstTooDeep sums grammar 3 (written 0 (codes "1+1+1;")) (written 3 (codes "+1;")) 0
  pub in_each : IsDeepInEach sums grammar 3 (written 0 (codes "1+1+1;")) 3 0
  pub no_other : (place : ℕ) → IsFirstTooDeep sums grammar 3 (written 0 (codes "1+1+1;")) (written 3 (codes "+1;")) place → place ≡ 0
  -- so is a token that begins a sum inside too many, but no other token is
  pub too_deep_inside : said 3 (codes "((1));") ≡ wrong (too_deep 2) 4
  pub other_inside : said 3 (codes "((;") ≡ wrong unexpected 1
  -- a fault is at the first token with which nothing goes on, and at the end where something does
  pub no_operand : said 9 (codes "1++1;") ≡ wrong unexpected 3
  pub no_end : said 9 (codes "i1i") ≡ wrong unexpected 0
