-- A constant term has one value on all states.
use Rattle.std.proofs.Common.{◌≡◌, refl, true}
use Rattle.std.proofs.lemmas.Bool.{and_parts, false≢true}
use Rattle.event_machine.specs.Cell.{Values}
use Rattle.four_state.specs.declared.bit.Bit.{Bit}
use Rattle.design_model.specs.Tree.{Term, Terms, a_term, binary, bit, choice, concat, no_terms, number, part, repeat, sign, signal, slide, unary, word}
use Rattle.design_model.specs.Design.{Design}
use Rattle.design_model.specs.Value.{joined, value}
use Rattle.design_model.specs.Mentions.{are_constant, is_constant}

mutual
  pub value_constant : (d : Design) (u v : Values Bit) (t : Term) → is_constant t ≡ true → value d u t ≡ value d v t
  value_constant d u v (number h n) c = refl
  value_constant d u v (signal h s) c = absurd (false≢true c)
  value_constant d u v (word h m i) c = absurd (false≢true c)
  value_constant d u v (bit h t i) c =
      let p = and_parts (is_constant t) (is_constant i) c in
      rw (value_constant d u v t p.0, value_constant d u v i p.1)
  value_constant d u v (part h t i j) c =
      let p = and_parts (is_constant t) _ c in
      let q = and_parts (is_constant i) (is_constant j) p.1 in
      rw (value_constant d u v t p.0, value_constant d u v i q.0, value_constant d u v j q.1)
  value_constant d u v (slide h t b w up) c =
      let p = and_parts (is_constant t) _ c in
      let q = and_parts (is_constant b) (is_constant w) p.1 in
      rw (value_constant d u v t p.0, value_constant d u v b q.0, value_constant d u v w q.1)
  value_constant d u v (unary h op t) c = rw (value_constant d u v t c)
  value_constant d u v (binary h op t x) c =
      let p = and_parts (is_constant t) (is_constant x) c in
      rw (value_constant d u v t p.0, value_constant d u v x p.1)
  value_constant d u v (choice h x t y) c =
      let p = and_parts (is_constant x) _ c in
      let q = and_parts (is_constant t) (is_constant y) p.1 in
      rw (value_constant d u v x p.0, value_constant d u v t q.0, value_constant d u v y q.1)
  value_constant d u v (concat h ts) c = rw (joined_constant d u v ts c)
  value_constant d u v (repeat h n ts) c =
      let p = and_parts (is_constant n) (are_constant ts) c in
      rw (value_constant d u v n p.0, joined_constant d u v ts p.1)
  value_constant d u v (sign h s t) c = rw (value_constant d u v t c)

  pub joined_constant : (d : Design) (u v : Values Bit) (ts : Terms) → are_constant ts ≡ true → joined d u ts ≡ joined d v ts
  joined_constant d u v no_terms c = refl
  joined_constant d u v (a_term t ts) c =
      let p = and_parts (is_constant t) (are_constant ts) c in
      rw (value_constant d u v t p.0, joined_constant d u v ts p.1)
