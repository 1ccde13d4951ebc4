-- A constant has its value, whatever is known.
use Rattle.std.proofs.Common.{◌≡◌, ◌∙◌, ℕ, true, ◌&&◌, ◌++◌, ◌∷◌, [], List, Option, if◌then◌else◌, Some, refl, sym, ap, ap₂}
use Rattle.std.proofs.lemmas.Bool.{and_parts, false≢true}
use Rattle.design_model.specs.event_machine.Cell.{Values}
use Rattle.four_state.specs.declared.bit.Bit.{Bit}
use Rattle.four_state.specs.Arithmetic.{natural}
use Rattle.four_state.specs.Operators.{binary_value, choice_value, unary_value}
use Rattle.four_state.specs.Parts.{index}
use Rattle.four_state.specs.Vector.{truth}
use Rattle.four_state.specs.declared.bit.Bit.TheVariants.{Zero}
use Rattle.known_state.specs.Partly.{Partly, are_sure, filled, is_whole}
use Rattle.design_model.specs.Design.{Design}
use Rattle.design_model.specs.Mentions.{are_constant, blank, is_constant}
use Rattle.design_model.specs.Tree.{Term, Terms, a_term, binary, bit, choice, concat, no_terms, number, part, repeat, sign, signal, slide, unary, word}
use Rattle.design_model.specs.Value.{bits_from_option, copies, head, joined, offset_option, part_width, range_of, slide_offset, value}
use Rattle.body_replay.specs.KnownBits.{binary_partly, choose_partly, copies_partly, extend_partly, known_truth, on_whole, select_option, sure, whole_bits, unary_partly, unknown}
use Rattle.body_replay.specs.Store.{Kept, binary_of, choice_of, known_joined, known_value}
use Rattle.body_replay.proofs.Answered.{same_sure}
use Rattle.body_replay.proofs.Unsure.{all_sure_sure}
use Rattle.term_replay.specs.Stands.{Scene, Stands}
use Rattle.body_replay.proofs.Exact.{append_exact, binary_exact, choose_exact, copies_exact, extend_exact, fits_exact, on_sure, select_option_exact, truth_exact, unary_exact}

module _ (d : Design) (b : Kept) (v : Values Bit) where
  mutual
    pub constant_known : (t : Term) → is_constant t ≡ true → known_value d b t ≡ sure (value d v t)
    constant_known (number h n) c = extend_exact h.width h.signed n.bits
    constant_known (signal h s) c = absurd (false≢true c)
    constant_known (word h m i) c = absurd (false≢true c)
    constant_known (bit h t i) c =
        let p = and_parts (is_constant t) (is_constant i) c in
        let e = constant_known i p.1 in
        let g = constant_known t p.0 in
        ap₂ (λ x y. on_whole (whole_bits x) (λ is. extend_partly h.width h.signed (select_option y (offset_option (range_of d t) (index (head i).signed is)) 1)) (unknown h.width)) e g ∙ on_sure (value d v i) (λ is. extend_partly h.width h.signed (select_option (sure (value d v t)) (offset_option (range_of d t) (index (head i).signed is)) 1)) (unknown h.width) ∙ ap (extend_partly h.width h.signed) (select_option_exact (value d v t) (offset_option (range_of d t) (index (head i).signed (value d v i))) 1) ∙ extend_exact h.width h.signed (bits_from_option (value d v t) (offset_option (range_of d t) (index (head i).signed (value d v i))) 1)
    constant_known (part h t i j) c =
        let p = and_parts (is_constant t) (is_constant i && is_constant j) c in
        let q = and_parts (is_constant i) (is_constant j) p.1 in
        let e = constant_known i q.0 in
        let e2 = constant_known j q.1 in
        let g = constant_known t p.0 in
        ap₂ (λ x y. on_whole (whole_bits x) (λ is. on_whole (whole_bits (known_value d b j)) (λ js. extend_partly h.width h.signed (select_option y (offset_option (range_of d t) (index (head j).signed js)) (part_width is js))) (unknown h.width)) (unknown h.width)) e g ∙ on_sure (value d v i) (λ is. on_whole (whole_bits (known_value d b j)) (λ js. extend_partly h.width h.signed (select_option (sure (value d v t)) (offset_option (range_of d t) (index (head j).signed js)) (part_width is js))) (unknown h.width)) (unknown h.width) ∙ ap (λ x. on_whole (whole_bits x) (λ js. extend_partly h.width h.signed (select_option (sure (value d v t)) (offset_option (range_of d t) (index (head j).signed js)) (part_width (value d v i) js))) (unknown h.width)) e2 ∙ on_sure (value d v j) (λ js. extend_partly h.width h.signed (select_option (sure (value d v t)) (offset_option (range_of d t) (index (head j).signed js)) (part_width (value d v i) js))) (unknown h.width) ∙ ap (extend_partly h.width h.signed) (select_option_exact (value d v t) (offset_option (range_of d t) (index (head j).signed (value d v j))) (part_width (value d v i) (value d v j))) ∙ extend_exact h.width h.signed (bits_from_option (value d v t) (offset_option (range_of d t) (index (head j).signed (value d v j))) (part_width (value d v i) (value d v j)))
    constant_known (slide h t x w up) c =
        let p = and_parts (is_constant t) (is_constant x && is_constant w) c in
        let q = and_parts (is_constant x) (is_constant w) p.1 in
        let e = constant_known x q.0 in
        let e2 = constant_known w q.1 in
        let g = constant_known t p.0 in
        ap₂ (λ z y. on_whole (whole_bits z) (λ xs. on_whole (whole_bits (known_value d b w)) (λ ws. extend_partly h.width h.signed (select_option y (slide_offset (range_of d t) up (natural ws) (index (head x).signed xs)) (natural ws))) (unknown h.width)) (unknown h.width)) e g ∙ on_sure (value d v x) (λ xs. on_whole (whole_bits (known_value d b w)) (λ ws. extend_partly h.width h.signed (select_option (sure (value d v t)) (slide_offset (range_of d t) up (natural ws) (index (head x).signed xs)) (natural ws))) (unknown h.width)) (unknown h.width) ∙ ap (λ z. on_whole (whole_bits z) (λ ws. extend_partly h.width h.signed (select_option (sure (value d v t)) (slide_offset (range_of d t) up (natural ws) (index (head x).signed (value d v x))) (natural ws))) (unknown h.width)) e2 ∙ on_sure (value d v w) (λ ws. extend_partly h.width h.signed (select_option (sure (value d v t)) (slide_offset (range_of d t) up (natural ws) (index (head x).signed (value d v x))) (natural ws))) (unknown h.width) ∙ ap (extend_partly h.width h.signed) (select_option_exact (value d v t) (slide_offset (range_of d t) up (natural (value d v w)) (index (head x).signed (value d v x))) (natural (value d v w))) ∙ extend_exact h.width h.signed (bits_from_option (value d v t) (slide_offset (range_of d t) up (natural (value d v w)) (index (head x).signed (value d v x))) (natural (value d v w)))
    constant_known (unary h op t) c =
        ap (λ x. extend_partly h.width h.signed (unary_partly op x)) (constant_known t c) ∙ ap (extend_partly h.width h.signed) (unary_exact op (value d v t)) ∙ extend_exact h.width h.signed (unary_value op (value d v t))
    constant_known (binary h op t u) c =
        let p = and_parts (is_constant t) (is_constant u) c in
        ap₂ (λ x y. binary_of h op (head t).signed x y) (constant_known t p.0) (constant_known u p.1) ∙ ap (λ z. if z then extend_partly h.width h.signed (binary_partly op (head t).signed (sure (value d v t)) (sure (value d v u))) else unknown h.width) (fits_exact op (value d v t) (value d v u)) ∙ ap (extend_partly h.width h.signed) (binary_exact op (head t).signed (value d v t) (value d v u)) ∙ extend_exact h.width h.signed (binary_value op (head t).signed (value d v t) (value d v u))
    constant_known (choice h z t u) c =
        let p = and_parts (is_constant z) (is_constant t && is_constant u) c in
        let q = and_parts (is_constant t) (is_constant u) p.1 in
        let e = constant_known z p.0 in
        let g = constant_known t q.0 in
        let k = constant_known u q.1 in
        ap (λ o. choice_of h o (known_value d b t) (known_value d b u)) (ap known_truth e ∙ truth_exact (value d v z)) ∙ ap₂ (λ x y. extend_partly h.width h.signed (choose_partly (Some (truth (value d v z))) x y)) g k ∙ ap (extend_partly h.width h.signed) (choose_exact (truth (value d v z)) (value d v t) (value d v u)) ∙ extend_exact h.width h.signed (choice_value (truth (value d v z)) (value d v t) (value d v u))
    constant_known (concat h ts) c = ap (extend_partly h.width h.signed) (constants_known ts c) ∙ extend_exact h.width h.signed (joined d v ts)
    constant_known (repeat h n ts) c =
        let p = and_parts (is_constant n) (are_constant ts) c in
        let e = constant_known n p.0 in
        let g = constants_known ts p.1 in
        ap₂ (λ x y. on_whole (whole_bits x) (λ ns. extend_partly h.width h.signed (copies_partly (natural ns) y)) (unknown h.width)) e g ∙ on_sure (value d v n) (λ ns. extend_partly h.width h.signed (copies_partly (natural ns) (sure (joined d v ts)))) (unknown h.width) ∙ ap (extend_partly h.width h.signed) (copies_exact (natural (value d v n)) (joined d v ts)) ∙ extend_exact h.width h.signed (copies (natural (value d v n)) (joined d v ts))
    constant_known (sign h s t) c = ap (extend_partly h.width h.signed) (constant_known t c) ∙ extend_exact h.width h.signed (value d v t)

    pub constants_known : (ts : Terms) → are_constant ts ≡ true → known_joined d b ts ≡ sure (joined d v ts)
    constants_known no_terms c = refl
    constants_known (a_term t ts) c =
        let p = and_parts (is_constant t) (are_constant ts) c in
        ap₂ (λ x y. x ++ y) (constants_known ts p.1) (constant_known t p.0) ∙ append_exact (joined d v ts) (value d v t)

filled_sure : (bs : List Bit) → filled Zero (sure bs) ≡ bs
filled_sure [] = refl
filled_sure (b ∷ bs) = ap (λ r. b ∷ r) (filled_sure bs)

module _ (v : Scene) (first : Option ℕ) (x : Term) (r : Partly) (c : is_constant x ≡ true) (a : Stands v first x r) where
  -- its bits, all sure
  pub bits_are : r.bits ≡ sure (value v.design blank x)
  bits_are = a.bits ∙ constant_known v.design v.kept blank x c

  -- the value of a constant is whole
  pub constant_whole : is_whole r ≡ true
  constant_whole = ap are_sure bits_are ∙ sym (same_sure (sure (value v.design blank x))) ∙ all_sure_sure (value v.design blank x)

  pub constant_bits : filled Zero r.bits ≡ value v.design blank x
  constant_bits = ap (filled Zero) bits_are ∙ filled_sure (value v.design blank x)
