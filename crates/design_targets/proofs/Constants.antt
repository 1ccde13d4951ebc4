-- A constant has one value, width and sign in all designs.
use Rattle.std.proofs.Common.{◌≡◌, Bool, ℕ, true, ◌&&◌, max, refl, sym}
use Rattle.std.proofs.lemmas.Bool.{and_parts, false≢true}
use Rattle.design_model.specs.Tree.{Term, Terms, a_term, binary, bit, choice, concat, no_terms, number, part, repeat, sign, signal, slide, unary, word}
use Rattle.design_model.specs.Design.{Design}
use Rattle.design_model.specs.Value.{joined, range_of, value}
use Rattle.design_model.specs.Mentions.{are_constant, blank, is_constant}
use Rattle.design_model.specs.Shape.{are_alone, is_alone, is_shaped, own_sign, own_width, own_widths}

module _ (d e : Design) where
  -- what a constant's select is taken of
  same_range : (t : Term) → is_constant t ≡ true → range_of d t ≡ range_of e t
  same_range (number h n) c = refl
  same_range (signal h s) c = absurd (false≢true c)
  same_range (word h m i) c = absurd (false≢true c)
  same_range (bit h t i) c = refl
  same_range (part h t i j) c = refl
  same_range (slide h t b w up) c = refl
  same_range (unary h op t) c = refl
  same_range (binary h op t u) c = refl
  same_range (choice h x t u) c = refl
  same_range (concat h ts) c = refl
  same_range (repeat h n ts) c = refl
  same_range (sign h s t) c = refl

  mutual
    pub same_value : (t : Term) → is_constant t ≡ true → value d blank t ≡ value e blank t
    same_value (number h n) c = refl
    same_value (signal h s) c = absurd (false≢true c)
    same_value (word h m i) c = absurd (false≢true c)
    same_value (bit h t i) c =
        let p = and_parts (is_constant t) (is_constant i) c in
        rw (same_value t p.0, same_value i p.1, same_range t p.0) refl
    same_value (part h t i j) c =
        let p = and_parts (is_constant t) _ c in
        let q = and_parts (is_constant i) (is_constant j) p.1 in
        rw (same_value t p.0, same_value i q.0, same_value j q.1, same_range t p.0) refl
    same_value (slide h t b w up) c =
        let p = and_parts (is_constant t) _ c in
        let q = and_parts (is_constant b) (is_constant w) p.1 in
        rw (same_value t p.0, same_value b q.0, same_value w q.1, same_range t p.0) refl
    same_value (unary h op t) c = rw (same_value t c) refl
    same_value (binary h op t u) c =
        let p = and_parts (is_constant t) (is_constant u) c in
        rw (same_value t p.0, same_value u p.1) refl
    same_value (choice h x t u) c =
        let p = and_parts (is_constant x) _ c in
        let q = and_parts (is_constant t) (is_constant u) p.1 in
        rw (same_value x p.0, same_value t q.0, same_value u q.1) refl
    same_value (concat h ts) c = rw (same_joined ts c) refl
    same_value (repeat h n ts) c =
        let p = and_parts (is_constant n) (are_constant ts) c in
        rw (same_value n p.0, same_joined ts p.1) refl
    same_value (sign h s t) c = rw (same_value t c) refl

    same_joined : (ts : Terms) → are_constant ts ≡ true → joined d blank ts ≡ joined e blank ts
    same_joined no_terms c = refl
    same_joined (a_term t ts) c =
        let p = and_parts (is_constant t) (are_constant ts) c in
        rw (same_value t p.0, same_joined ts p.1) refl

  mutual
    same_width : (t : Term) → is_constant t ≡ true → own_width d t ≡ own_width e t
    same_width (number h n) c = refl
    same_width (signal h s) c = absurd (false≢true c)
    same_width (word h m i) c = absurd (false≢true c)
    same_width (bit h t i) c = refl
    same_width (part h t i j) c =
        let p = and_parts (is_constant t) _ c in
        let q = and_parts (is_constant i) (is_constant j) p.1 in
        rw (same_value i q.0, same_value j q.1) refl
    same_width (slide h t b w up) c =
        let p = and_parts (is_constant t) _ c in
        let q = and_parts (is_constant b) (is_constant w) p.1 in
        rw (same_value w q.1) refl
    same_width (unary h op t) c = rw (same_width t c) refl
    same_width (binary h op t u) c =
        let p = and_parts (is_constant t) (is_constant u) c in
        rw (same_width t p.0, same_width u p.1) refl
    same_width (choice h x t u) c =
        let p = and_parts (is_constant x) _ c in
        let q = and_parts (is_constant t) (is_constant u) p.1 in
        rw (same_width t q.0, same_width u q.1) refl
    same_width (concat h ts) c = rw (same_widths ts c) refl
    same_width (repeat h n ts) c =
        let p = and_parts (is_constant n) (are_constant ts) c in
        rw (same_value n p.0, same_widths ts p.1) refl
    same_width (sign h s t) c = rw (same_width t c) refl

    same_widths : (ts : Terms) → are_constant ts ≡ true → own_widths d ts ≡ own_widths e ts
    same_widths no_terms c = refl
    same_widths (a_term t ts) c =
        let p = and_parts (is_constant t) (are_constant ts) c in
        rw (same_width t p.0, same_widths ts p.1) refl

  same_sign : (t : Term) → is_constant t ≡ true → own_sign d t ≡ own_sign e t
  same_sign (number h n) c = refl
  same_sign (signal h s) c = absurd (false≢true c)
  same_sign (word h m i) c = absurd (false≢true c)
  same_sign (bit h t i) c = refl
  same_sign (part h t i j) c = refl
  same_sign (slide h t b w up) c = refl
  same_sign (unary h op t) c = rw (same_sign t c) refl
  same_sign (binary h op t u) c =
      let p = and_parts (is_constant t) (is_constant u) c in
      rw (same_sign t p.0, same_sign u p.1) refl
  same_sign (choice h x t u) c =
      let p = and_parts (is_constant x) _ c in
      let q = and_parts (is_constant t) (is_constant u) p.1 in
      rw (same_sign t q.0, same_sign u q.1) refl
  same_sign (concat h ts) c = refl
  same_sign (repeat h n ts) c = refl
  same_sign (sign h s t) c = refl

  mutual
    same_shape : (w : ℕ) (s : Bool) (t : Term) → is_constant t ≡ true → is_shaped d w s t ≡ is_shaped e w s t
    same_shape w s (number h n) c = refl
    same_shape w s (signal h x) c = absurd (false≢true c)
    same_shape w s (word h m i) c = absurd (false≢true c)
    same_shape w s (bit h t i) c =
        let p = and_parts (is_constant t) (is_constant i) c in
        rw (same_width t p.0, same_sign t p.0, same_width i p.1, same_sign i p.1, same_shape (own_width e t) (own_sign e t) t p.0, same_shape (own_width e i) (own_sign e i) i p.1) refl
    same_shape w s (part h t i j) c =
        let p = and_parts (is_constant t) _ c in
        let q = and_parts (is_constant i) (is_constant j) p.1 in
        rw (same_width t p.0, same_sign t p.0, same_width i q.0, same_sign i q.0, same_width j q.1, same_sign j q.1, same_shape (own_width e t) (own_sign e t) t p.0, same_shape (own_width e i) (own_sign e i) i q.0, same_shape (own_width e j) (own_sign e j) j q.1) refl
    same_shape w s (slide h t b k up) c =
        let p = and_parts (is_constant t) _ c in
        let q = and_parts (is_constant b) (is_constant k) p.1 in
        rw (same_width t p.0, same_sign t p.0, same_width b q.0, same_sign b q.0, same_width k q.1, same_sign k q.1, same_shape (own_width e t) (own_sign e t) t p.0, same_shape (own_width e b) (own_sign e b) b q.0, same_shape (own_width e k) (own_sign e k) k q.1) refl
    same_shape w s (unary h op t) c = rw (same_width t c, same_sign t c, same_shape w s t c, same_shape (own_width e t) (own_sign e t) t c) refl
    same_shape w s (binary h op t u) c =
        let p = and_parts (is_constant t) (is_constant u) c in
        rw (same_width t p.0, same_sign t p.0, same_width u p.1, same_sign u p.1, same_shape w s t p.0, same_shape w s u p.1, same_shape (own_width e t) (own_sign e t) t p.0, same_shape (own_width e u) (own_sign e u) u p.1, same_shape (max (own_width e t) (own_width e u)) (own_sign e t && own_sign e u) t p.0, same_shape (max (own_width e t) (own_width e u)) (own_sign e t && own_sign e u) u p.1) refl
    same_shape w s (choice h x t u) c =
        let p = and_parts (is_constant x) _ c in
        let q = and_parts (is_constant t) (is_constant u) p.1 in
        rw (same_width x p.0, same_sign x p.0, same_shape (own_width e x) (own_sign e x) x p.0, same_shape w s t q.0, same_shape w s u q.1) refl
    same_shape w s (concat h ts) c = rw (same_alone ts c) refl
    same_shape w s (repeat h n ts) c =
        let p = and_parts (is_constant n) (are_constant ts) c in
        rw (same_width n p.0, same_sign n p.0, same_shape (own_width e n) (own_sign e n) n p.0, same_alone ts p.1) refl
    same_shape w s (sign h x t) c = rw (same_width t c, same_sign t c, same_shape (own_width e t) (own_sign e t) t c) refl

    same_alone : (ts : Terms) → are_constant ts ≡ true → are_alone d ts ≡ are_alone e ts
    same_alone no_terms c = refl
    same_alone (a_term t ts) c =
        let p = and_parts (is_constant t) (are_constant ts) c in
        rw (same_width t p.0, same_sign t p.0, same_shape (own_width e t) (own_sign e t) t p.0, same_alone ts p.1) refl

  -- a constant that is shaped alone in one design is so in another
  pub alone_too : (t : Term) → is_constant t ≡ true → is_alone d t ≡ true → is_alone e t ≡ true
  alone_too t c h = rw (sym (same_width t c), sym (same_sign t c), sym (same_shape (own_width d t) (own_sign d t) t c)) h
