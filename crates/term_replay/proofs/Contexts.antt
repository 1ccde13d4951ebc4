-- What the context of a term says of the terms in it.
use Rattle.std.proofs.Common.{◌≡◌, ◌∙◌, ℕ, ◌+◌, ◌*◌, ◌≤◌, ◌<◌, ◌==◌, Bool, true, false, not, ◌&&◌, ◌||◌, ◌++◌, if◌then◌else◌, List, Option, Some, None, length, map, max, nat_le, nat_lt, refl, sym, ap, subst, arith}
use Rattle.std.proofs.lemmas.Bool.{and_parts, eqb-true, leb-true, ltb-true}
use Rattle.std.proofs.lemmas.List.{length-append, length-replicate}
use Rattle.four_state.specs.declared.bit.Bit.{Bit}
use Rattle.four_state.specs.declared.truth.Truth.{Truth}
use Rattle.four_state.specs.declared.operator.Unary.{Unary}
use Rattle.four_state.specs.declared.operator.Binary.{Binary}
use Rattle.four_state.specs.declared.operator.Binary.TheVariants.{Multiply, Divide, Modulus, Add, Subtract, ShiftLeft, ShiftRight, ArithmeticShiftLeft, ArithmeticShiftRight, LessThan, LessOrEqual, GreaterThan, GreaterOrEqual, Equal, NotEqual, CaseEqual, CaseNotEqual, BitwiseAnd, BitwiseXor, BitwiseXnor, BitwiseNxor, BitwiseOr, LogicalAnd, LogicalOr}
use Rattle.four_state.specs.Arithmetic.{natural}
use Rattle.four_state.specs.Operators.{takes_same_shape}
use Rattle.four_state.specs.Vector.{extend}
use Rattle.known_state.specs.Partly.{Partly}
use Rattle.known_state.specs.Answers.{HaveSameShape}
use Rattle.known_state.proofs.UnarySound.{length-moved}
use Rattle.design_model.specs.Design.{Design, is_memory, signal_cells}
use Rattle.design_model.specs.Mentions.{blank, is_constant}
use Rattle.design_model.specs.Shape.{are_alone, has_shape, is_logic, is_shaped, is_shift, is_wide_binary, is_wide_unary, own_sign, own_width, own_widths, same_bool}
use Rattle.design_model.specs.Tree.{Head, Term, Terms, a_term, binary, bit, choice, concat, no_terms, number, part, repeat, sign, signal, slide, unary, word}
use Rattle.four_state.specs.Parts.{index}
use Rattle.design_model.specs.Value.{head, offset_option, part_width, range_of, slide_offset, value}
use Rattle.body_replay.specs.KnownBits.{KnownBits, binary_partly, choose_partly, copies_partly, extend_partly, known_truth, select_option, sure, unary_partly, fits, on_whole, whole_bits, unknown}
use Rattle.body_replay.specs.Store.{Kept, choice_of, known_joined, known_value, read_word}
use Rattle.body_replay.proofs.Operators.{extend_length}
use Rattle.term_replay.specs.Stands.{AreSideBySide, IsInContext, IsHead, Scene, Stands}
use Rattle.term_replay.specs.declared.head.TermHead.{TermHead}

-- ---- the width of a value

pub length-extended : (w : ℕ) (s : Bool) (ps : KnownBits) → length (extend_partly w s ps) ≡ w
length-extended w s ps = length-moved (extend w s) ps w (λ cs e. extend_length w s cs)

length-unknown : (w : ℕ) → length (unknown w) ≡ w
length-unknown w = length-replicate w _

length-whole : (w : ℕ) (o : Option (List Bit)) (f : List Bit → KnownBits) → ((bs : List Bit) → length (f bs) ≡ w) → length (on_whole o f (unknown w)) ≡ w
length-whole w None f h = length-unknown w
length-whole w (Some bs) f h = h bs

length-either : (b : Bool) (w : ℕ) (s : Bool) (ps : KnownBits) → length (if b then extend_partly w s ps else unknown w) ≡ w
length-either true w s ps = length-extended w s ps
length-either false w s ps = length-unknown w

length-choice : (h : Head) (o : Option Truth) (ps qs : KnownBits) → length (choice_of h o ps qs) ≡ h.width
length-choice h (Some x) ps qs = length-extended h.width h.signed (choose_partly (Some x) ps qs)
length-choice h None ps qs = length-either (length ps == length qs) h.width h.signed (choose_partly None ps qs)

pub length-value : (d : Design) (k : Kept) (x : Term) → length (known_value d k x) ≡ (head x).width
length-value d k (number h n) = length-extended h.width h.signed (sure n.bits)
length-value d k (signal h s) = length-extended h.width h.signed (map k (signal_cells d s))
length-value d k (word h m i) = length-extended h.width h.signed (read_word d k m (head i).signed (known_value d k i))
length-value d k (bit h t i) = length-whole h.width (whole_bits (known_value d k i)) _ (λ bs. length-extended h.width h.signed (select_option (known_value d k t) (offset_option (range_of d t) (index (head i).signed bs)) 1))
length-value d k (part h t i j) = length-whole h.width (whole_bits (known_value d k i)) _ (λ bs. length-whole h.width (whole_bits (known_value d k j)) _ (λ cs. length-extended h.width h.signed (select_option (known_value d k t) (offset_option (range_of d t) (index (head j).signed cs)) (part_width bs cs))))
length-value d k (slide h t b w up) = length-whole h.width (whole_bits (known_value d k b)) _ (λ bs. length-whole h.width (whole_bits (known_value d k w)) _ (λ cs. length-extended h.width h.signed (select_option (known_value d k t) (slide_offset (range_of d t) up (natural cs) (index (head b).signed bs)) (natural cs))))
length-value d k (unary h op t) = length-extended h.width h.signed (unary_partly op (known_value d k t))
length-value d k (binary h op t u) = length-either (fits op (known_value d k t) (known_value d k u)) h.width h.signed (binary_partly op (head t).signed (known_value d k t) (known_value d k u))
length-value d k (choice h c t u) = length-choice h (known_truth (known_value d k c)) (known_value d k t) (known_value d k u)
length-value d k (concat h ts) = length-extended h.width h.signed (known_joined d k ts)
length-value d k (repeat h n ts) = length-whole h.width (whole_bits (known_value d k n)) _ (λ bs. length-extended h.width h.signed (copies_partly (natural bs) (known_joined d k ts)))
length-value d k (sign h s t) = length-extended h.width h.signed (known_value d k t)

pub length-stands : (v : Scene) (first : Option ℕ) (x : Term) (r : Partly) → Stands v first x r → length r.bits ≡ (head x).width
length-stands v first x r a = ap length a.bits ∙ length-value v.design v.kept x

-- ---- the shape of a term

pub record HeadIs (w : ℕ) (g : Bool) (h : Head) : Type 0 where
  pub width : h.width ≡ w
  pub sign_is : h.signed ≡ g
  pub at_least : 1 ≤ w
  pub at_most : w ≤ 128

same_flags : (a b : Bool) → same_bool a b ≡ true → a ≡ b
same_flags true true e = refl
same_flags false false e = refl
same_flags true false e = absurd (cc)
same_flags false true e = absurd (cc)

head_is : (w : ℕ) (g : Bool) (h : Head) → has_shape w g h ≡ true → HeadIs w g h
head_is w g h e =
    let p = and_parts (h.width == w) (same_bool h.signed g && (nat_le 1 w && nat_le w 128)) e in
    let q = and_parts (same_bool h.signed g) (nat_le 1 w && nat_le w 128) p.1 in
    let r = and_parts (nat_le 1 w) (nat_le w 128) q.1 in
    record { width = eqb-true h.width w p.0; sign_is = same_flags h.signed g q.0; at_least = leb-true 1 w r.0; at_most = leb-true w 128 r.1 }

module _ (d : Design) where
  shaped_head : (w : ℕ) (g : Bool) (x : Term) → is_shaped d w g x ≡ true → has_shape w g (head x) ≡ true
  shaped_head w g (number h n) e = e
  shaped_head w g (signal h s) e = (and_parts (has_shape w g h) _ e).0
  shaped_head w g (word h m i) e = (and_parts (has_shape w g h) (is_memory d m) (and_parts _ (is_shaped d (own_width d i) (own_sign d i) i) e).0).0
  shaped_head w g (bit h t i) e = (and_parts (has_shape w g h) (is_shaped d (own_width d t) (own_sign d t) t) (and_parts _ (is_shaped d (own_width d i) (own_sign d i) i) e).0).0
  shaped_head w g (part h t i j) e =
      let p5 = and_parts _ (is_constant j) e in
      let p4 = and_parts _ (is_constant i) p5.0 in
      let p3 = and_parts _ (is_shaped d (own_width d j) (own_sign d j) j) p4.0 in
      let p2 = and_parts _ (is_shaped d (own_width d i) (own_sign d i) i) p3.0 in
      (and_parts (has_shape w g h) (is_shaped d (own_width d t) (own_sign d t) t) p2.0).0
  shaped_head w g (slide h t b k up) e =
      let p4 = and_parts _ (is_constant k) e in
      let p3 = and_parts _ (is_shaped d (own_width d k) (own_sign d k) k) p4.0 in
      let p2 = and_parts _ (is_shaped d (own_width d b) (own_sign d b) b) p3.0 in
      (and_parts (has_shape w g h) (is_shaped d (own_width d t) (own_sign d t) t) p2.0).0
  shaped_head w g (unary h op t) e = (and_parts (has_shape w g h) _ e).0
  shaped_head w g (binary h op t u) e = (and_parts (has_shape w g h) _ e).0
  shaped_head w g (choice h c t u) e =
      let p3 = and_parts _ (is_shaped d w g u) e in
      let p2 = and_parts _ (is_shaped d w g t) p3.0 in
      (and_parts (has_shape w g h) (is_shaped d (own_width d c) (own_sign d c) c) p2.0).0
  shaped_head w g (concat h ts) e = (and_parts (has_shape w g h) _ e).0
  shaped_head w g (repeat h n ts) e =
      let p3 = and_parts _ (are_alone d ts) e in
      let p2 = and_parts _ (is_constant n) p3.0 in
      (and_parts (has_shape w g h) (is_shaped d (own_width d n) (own_sign d n) n) p2.0).0
  shaped_head w g (sign h s t) e = (and_parts (has_shape w g h) _ e).0

  pub context_head : (x : Term) (c : IsInContext d x) → HeadIs c.width c.signed (head x)
  context_head x c = head_is c.width c.signed (head x) (shaped_head c.width c.signed x c.shaped)

  pub shape_ok : (x : Term) (s : TermHead) → (head x).width ≡ s.width → IsInContext d x → IsHead s
  shape_ok x s e c = let h = context_head x c in record { at_least = subst (λ n. 1 ≤ n) (sym h.width ∙ e) h.at_least; at_most = subst (λ n. n ≤ 128) (sym h.width ∙ e) h.at_most }

  abbrev pub alone : (x : Term) → is_shaped d (own_width d x) (own_sign d x) x ≡ true → IsInContext d x
  alone x e = record { width = own_width d x; signed = own_sign d x; shaped = e; narrow = omega arith }

  -- ---- the terms in a term

  pub in_signal : (h : Head) (s : ℕ) → IsInContext d (signal h s) → s < length d.signals
  in_signal h s c = ltb-true s (length d.signals) (and_parts (has_shape c.width c.signed h) (nat_lt s (length d.signals)) c.shaped).1

  pub record InWord (m : ℕ) (i : Term) : Type 0 where
    pub is : is_memory d m ≡ true
    pub index : IsInContext d i

  pub in_word : (h : Head) (m : ℕ) (i : Term) → IsInContext d (word h m i) → InWord m i
  in_word h m i c =
      let p = and_parts (has_shape c.width c.signed h && is_memory d m) (is_shaped d (own_width d i) (own_sign d i) i) c.shaped in
      record { is = (and_parts (has_shape c.width c.signed h) (is_memory d m) p.0).1; index = alone i p.1 }

  pub record InBit (y i : Term) : Type 0 where
    pub operand : IsInContext d y
    pub index : IsInContext d i

  pub in_bit : (h : Head) (y i : Term) → IsInContext d (bit h y i) → InBit y i
  in_bit h y i c =
      let p = and_parts (has_shape c.width c.signed h && is_shaped d (own_width d y) (own_sign d y) y) (is_shaped d (own_width d i) (own_sign d i) i) c.shaped in
      record { operand = alone y (and_parts (has_shape c.width c.signed h) _ p.0).1; index = alone i p.1 }

  pub record InPart (y i j : Term) : Type 0 where
    pub operand : IsInContext d y
    pub high : IsInContext d i
    pub low : IsInContext d j
    pub high_fixed : is_constant i ≡ true
    pub low_fixed : is_constant j ≡ true
    pub count : part_width (value d blank i) (value d blank j) ≤ 128

  pub in_part : (h : Head) (y i j : Term) → IsInContext d (part h y i j) → InPart y i j
  in_part h y i j c =
      let p5 = and_parts _ (is_constant j) c.shaped in
      let p4 = and_parts _ (is_constant i) p5.0 in
      let p3 = and_parts _ (is_shaped d (own_width d j) (own_sign d j) j) p4.0 in
      let p2 = and_parts _ (is_shaped d (own_width d i) (own_sign d i) i) p3.0 in
      let p1 = and_parts (has_shape c.width c.signed h) (is_shaped d (own_width d y) (own_sign d y) y) p2.0 in
      let narrow : part_width (value d blank i) (value d blank j) ≤ c.width = c.narrow in
      let most : c.width ≤ 128 = (context_head (part h y i j) c).at_most in
      record { operand = alone y p1.1; high = alone i p2.1; low = alone j p3.1; high_fixed = p4.1; low_fixed = p5.1; count = omega (arith, narrow, most) }

  pub record InSlide (y b k : Term) : Type 0 where
    pub operand : IsInContext d y
    pub base : IsInContext d b
    pub size : IsInContext d k
    pub fixed : is_constant k ≡ true
    pub count : natural (value d blank k) ≤ 128

  pub in_slide : (h : Head) (y b k : Term) (up : Bool) → IsInContext d (slide h y b k up) → InSlide y b k
  in_slide h y b k up c =
      let p4 = and_parts _ (is_constant k) c.shaped in
      let p3 = and_parts _ (is_shaped d (own_width d k) (own_sign d k) k) p4.0 in
      let p2 = and_parts _ (is_shaped d (own_width d b) (own_sign d b) b) p3.0 in
      let p1 = and_parts (has_shape c.width c.signed h) (is_shaped d (own_width d y) (own_sign d y) y) p2.0 in
      let narrow : natural (value d blank k) ≤ c.width = c.narrow in
      let most : c.width ≤ 128 = (context_head (slide h y b k up) c).at_most in
      record { operand = alone y p1.1; base = alone b p2.1; size = alone k p3.1; fixed = p4.1; count = omega (arith, narrow, most) }

  pub in_unary : (h : Head) (op : Unary) (y : Term) → IsInContext d (unary h op y) → IsInContext d y
  in_unary h op y c = go (is_wide_unary op) (and_parts (has_shape c.width c.signed h) _ c.shaped).1 c.narrow
    where
      go : (b : Bool) → (if b then is_shaped d c.width c.signed y else is_shaped d (own_width d y) (own_sign d y) y) ≡ true → (if b then own_width d y else 1) ≤ c.width → IsInContext d y
      go true e n = record { width = c.width; signed = c.signed; shaped = e; narrow = n }
      go false e n = alone y e

  pub in_sign : (h : Head) (g : Bool) (y : Term) → IsInContext d (sign h g y) → IsInContext d y
  in_sign h g y c = alone y (and_parts (has_shape c.width c.signed h) _ c.shaped).1

  -- both operands of an operator, of one shape where the operator takes that
  pub record InBinary (same : Bool) (y z : Term) : Type 0 where
    pub left : IsInContext d y
    pub right : IsInContext d z
    pub one_shape : same ≡ true → (left.width ≡ right.width) × (left.signed ≡ right.signed)

  pub in_choice : (h : Head) (i y z : Term) → IsInContext d (choice h i y z) → IsInContext d i × InBinary true y z
  in_choice h i y z c =
      let p3 = and_parts _ (is_shaped d c.width c.signed z) c.shaped in
      let p2 = and_parts _ (is_shaped d c.width c.signed y) p3.0 in
      let p1 = and_parts (has_shape c.width c.signed h) (is_shaped d (own_width d i) (own_sign d i) i) p2.0 in
      let n : max (own_width d y) (own_width d z) ≤ c.width = c.narrow in (
        alone i p1.1,
        record {
          left = record { width = c.width; signed = c.signed; shaped = p2.1; narrow = omega (arith, n) };
          right = record { width = c.width; signed = c.signed; shaped = p3.1; narrow = omega (arith, n) };
          one_shape = λ e. (refl, refl);
        },
      )

  -- a side of a choice has the width and the sign of the choice
  pub record IsShapedAs (h k : Head) : Type 0 where
    pub width : h.width ≡ k.width
    pub sign_is : h.signed ≡ k.signed

  pub choice_heads : (h : Head) (i y z : Term) → IsInContext d (choice h i y z) → IsShapedAs (head y) h × IsShapedAs (head z) h
  choice_heads h i y z c =
      let p3 = and_parts _ (is_shaped d c.width c.signed z) c.shaped in
      let p2 = and_parts _ (is_shaped d c.width c.signed y) p3.0 in
      let k = context_head (choice h i y z) c in
      let l = head_is c.width c.signed (head y) (shaped_head c.width c.signed y p2.1) in
      let r = head_is c.width c.signed (head z) (shaped_head c.width c.signed z p3.1) in
      (record { width = l.width ∙ sym k.width; sign_is = l.sign_is ∙ sym k.sign_is }, record { width = r.width ∙ sym k.width; sign_is = r.sign_is ∙ sym k.sign_is })

  -- the sides have one shape
  pub same_shapes : (v : Scene) (first next : Option ℕ) (y z : Term) (a b : Partly) → (l : IsInContext d y) (r : IsInContext d z) → l.width ≡ r.width → l.signed ≡ r.signed → Stands v first y a → Stands v next z b → HaveSameShape a b
  same_shapes v first next y z a b l r w g sa sb =
      let p = context_head y l in
      let q = context_head z r in
      (length-stands v first y a sa ∙ p.width ∙ w ∙ sym q.width ∙ sym (length-stands v next z b sb), sa.sign_is ∙ p.sign_is ∙ g ∙ sym q.sign_is ∙ sym sb.sign_is)

  pub in_concat : (h : Head) (ts : Terms) → IsInContext d (concat h ts) → AreSideBySide d ts
  in_concat h ts c =
      let n : own_widths d ts ≤ c.width = c.narrow in
      let most : c.width ≤ 128 = (context_head (concat h ts) c).at_most in
      record { alone = (and_parts (has_shape c.width c.signed h) _ c.shaped).1; narrow = omega (arith, n, most) }

  pub record InRepeat (n : Term) (ts : Terms) : Type 0 where
    pub count : IsInContext d n
    pub fixed : is_constant n ≡ true
    pub parts : are_alone d ts ≡ true
    pub room : natural (value d blank n) * own_widths d ts ≤ 128

  pub in_repeat : (h : Head) (n : Term) (ts : Terms) → IsInContext d (repeat h n ts) → InRepeat n ts
  in_repeat h n ts c =
      let p3 = and_parts _ (are_alone d ts) c.shaped in
      let p2 = and_parts _ (is_constant n) p3.0 in
      let p1 = and_parts (has_shape c.width c.signed h) (is_shaped d (own_width d n) (own_sign d n) n) p2.0 in
      let narrow : natural (value d blank n) * own_widths d ts ≤ c.width = c.narrow in
      let most : c.width ≤ 128 = (context_head (repeat h n ts) c).at_most in
      record { count = alone n p1.1; fixed = p2.1; parts = p3.1; room = omega (arith, narrow, most) }

-- terms that are alone have the bits of their widths
pub length-joined : (d : Design) (k : Kept) (ts : Terms) → are_alone d ts ≡ true → length (known_joined d k ts) ≡ own_widths d ts
length-joined d k no_terms e = refl
length-joined d k (a_term x ts) e =
    let p = and_parts (is_shaped d (own_width d x) (own_sign d x) x) (are_alone d ts) e in
    let w : length (known_value d k x) ≡ own_width d x = length-value d k x ∙ (context_head d x (alone d x p.0)).width in
    let rest : length (known_joined d k ts) ≡ own_widths d ts = length-joined d k ts p.1 in
    let both : length (known_joined d k ts ++ known_value d k x) ≡ length (known_joined d k ts) + length (known_value d k x) = length-append (known_joined d k ts) (known_value d k x) in
    omega (arith, w, rest, both)

same_shape_ops : (op : Binary) → takes_same_shape op ≡ (is_wide_binary op || not (is_shift op || is_logic op))
same_shape_ops Multiply = refl
same_shape_ops Divide = refl
same_shape_ops Modulus = refl
same_shape_ops Add = refl
same_shape_ops Subtract = refl
same_shape_ops ShiftLeft = refl
same_shape_ops ShiftRight = refl
same_shape_ops ArithmeticShiftLeft = refl
same_shape_ops ArithmeticShiftRight = refl
same_shape_ops LessThan = refl
same_shape_ops LessOrEqual = refl
same_shape_ops GreaterThan = refl
same_shape_ops GreaterOrEqual = refl
same_shape_ops Equal = refl
same_shape_ops NotEqual = refl
same_shape_ops CaseEqual = refl
same_shape_ops CaseNotEqual = refl
same_shape_ops BitwiseAnd = refl
same_shape_ops BitwiseXor = refl
same_shape_ops BitwiseXnor = refl
same_shape_ops BitwiseNxor = refl
same_shape_ops BitwiseOr = refl
same_shape_ops LogicalAnd = refl
same_shape_ops LogicalOr = refl

module _ (d : Design) (w : ℕ) (g : Bool) (y z : Term) where
  -- by whether the operator is wide, shifts or takes truths
  operands_in : (wide shift logic : Bool) → (if wide then is_shaped d w g y && is_shaped d w g z else (if shift then is_shaped d w g y && is_shaped d (own_width d z) (own_sign d z) z else (if logic then is_shaped d (own_width d y) (own_sign d y) y && is_shaped d (own_width d z) (own_sign d z) z else is_shaped d (max (own_width d y) (own_width d z)) (own_sign d y && own_sign d z) y && is_shaped d (max (own_width d y) (own_width d z)) (own_sign d y && own_sign d z) z))) ≡ true → (if wide then max (own_width d y) (own_width d z) else (if shift then own_width d y else 1)) ≤ w → InBinary d (wide || not (shift || logic)) y z
  operands_in true shift logic e n =
      let p = and_parts (is_shaped d w g y) (is_shaped d w g z) e in
      record {
        left = record { width = w; signed = g; shaped = p.0; narrow = omega (arith, n) };
        right = record { width = w; signed = g; shaped = p.1; narrow = omega (arith, n) };
        one_shape = λ f. (refl, refl);
      }
  operands_in false true logic e n =
      let p = and_parts (is_shaped d w g y) (is_shaped d (own_width d z) (own_sign d z) z) e in
      record { left = record { width = w; signed = g; shaped = p.0; narrow = n }; right = alone d z p.1; one_shape = λ f. absurd (cc) }
  operands_in false false true e n =
      let p = and_parts (is_shaped d (own_width d y) (own_sign d y) y) (is_shaped d (own_width d z) (own_sign d z) z) e in
      record { left = alone d y p.0; right = alone d z p.1; one_shape = λ f. absurd (cc) }
  operands_in false false false e n =
      let p = and_parts (is_shaped d (max (own_width d y) (own_width d z)) (own_sign d y && own_sign d z) y) _ e in
      record {
        left = record { width = max (own_width d y) (own_width d z); signed = own_sign d y && own_sign d z; shaped = p.0; narrow = omega arith };
        right = record { width = max (own_width d y) (own_width d z); signed = own_sign d y && own_sign d z; shaped = p.1; narrow = omega arith };
        one_shape = λ f. (refl, refl);
      }

pub in_binary : (d : Design) (h : Head) (op : Binary) (y z : Term) → IsInContext d (binary h op y z) → InBinary d (takes_same_shape op) y z
in_binary d h op y z c =
    subst (λ b. InBinary d b y z) (sym (same_shape_ops op)) (operands_in d c.width c.signed y z (is_wide_binary op) (is_shift op) (is_logic op) (and_parts (has_shape c.width c.signed h) _ c.shaped).1 c.narrow)
