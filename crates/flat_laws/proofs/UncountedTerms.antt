-- A term without counted nodes has the values and shapes of the term, and is well formed where it is.
use Rattle.std.proofs.Common.{◌≡◌, ◌&&◌, max, Bool, ℕ, true, false, refl}
use Rattle.std.proofs.lemmas.Bool.{and_parts}
use Rattle.event_machine.specs.Cell.{Values}
use Rattle.four_state.specs.declared.bit.Bit.{Bit}
use Rattle.design_model.specs.Design.{Design}
use Rattle.design_model.specs.Mentions.{blank, is_constant, are_constant}
use Rattle.design_model.specs.Shape.{are_alone, is_shaped, own_sign, own_width, own_widths}
use Rattle.design_model.specs.Tree as t
use Rattle.design_model.specs.Tree.{Term, Terms}
use Rattle.design_model.specs.Value.{head, joined, range_of, value}
use Rattle.design_model.specs.WellFormed.{are_well_formed, is_counted_rightly, is_right, is_well_formed}
use Rattle.flat_design.specs.Processes.{all_uncounted, uncounted}
use Rattle.flat_laws.proofs.Members.{both_true}
use Rattle.flat_laws.proofs.WellFormedTerms.{condition_well}

same_sign : (x : Term) → (head (uncounted x)).signed ≡ (head x).signed
same_sign (t.number h v) = refl
same_sign (t.signal h s) = refl
same_sign (t.word h m i) = refl
same_sign (t.bit h of i) = refl
same_sign (t.part h of i j) = refl
same_sign (t.slide h of b w up) = refl
same_sign (t.unary h op a) = refl
same_sign (t.binary h op a b) = refl
same_sign (t.choice h c a b) = refl
same_sign (t.concat h ts) = refl
same_sign (t.repeat h k ts) = refl
same_sign (t.sign h s a) = refl

same_range : (d : Design) (x : Term) → range_of d (uncounted x) ≡ range_of d x
same_range d (t.number h v) = refl
same_range d (t.signal h s) = refl
same_range d (t.word h m i) = refl
same_range d (t.bit h of i) = refl
same_range d (t.part h of i j) = refl
same_range d (t.slide h of b w up) = refl
same_range d (t.unary h op a) = refl
same_range d (t.binary h op a b) = refl
same_range d (t.choice h c a b) = refl
same_range d (t.concat h ts) = refl
same_range d (t.repeat h k ts) = refl
same_range d (t.sign h s a) = refl

mutual
  same_value : (d : Design) (v : Values Bit) (x : Term) → value d v (uncounted x) ≡ value d v x
  same_value d v (t.number h k) = refl
  same_value d v (t.signal h s) = refl
  same_value d v (t.word h m i) = rw (same_value d v i, same_sign i) refl
  same_value d v (t.bit h of i) = rw (same_value d v of, same_range d of, same_value d v i, same_sign i) refl
  same_value d v (t.part h of i j) = rw (same_value d v of, same_range d of, same_value d v i, same_value d v j, same_sign j) refl
  same_value d v (t.slide h of b w up) = rw (same_value d v of, same_range d of, same_value d v b, same_sign b, same_value d v w) refl
  same_value d v (t.unary h op a) = rw (same_value d v a) refl
  same_value d v (t.binary h op a b) = rw (same_value d v a, same_sign a, same_value d v b) refl
  same_value d v (t.choice h c a b) = rw (same_value d v c, same_value d v a, same_value d v b) refl
  same_value d v (t.concat h ts) = rw (same_joined d v ts) refl
  same_value d v (t.repeat h k ts) = rw (same_value d v k, same_joined d v ts) refl
  same_value d v (t.sign h s a) = rw (same_value d v a) refl

  same_joined : (d : Design) (v : Values Bit) (xs : Terms) → joined d v (all_uncounted xs) ≡ joined d v xs
  same_joined d v t.no_terms = refl
  same_joined d v (t.a_term x xs) = rw (same_value d v x, same_joined d v xs) refl

mutual
  pub same_width : (d : Design) (x : Term) → own_width d (uncounted x) ≡ own_width d x
  same_width d (t.number h k) = refl
  same_width d (t.signal h s) = refl
  same_width d (t.word h m i) = refl
  same_width d (t.bit h of i) = refl
  same_width d (t.part h of i j) = rw (same_value d blank i, same_value d blank j) refl
  same_width d (t.slide h of b w up) = rw (same_value d blank w) refl
  same_width d (t.unary h op a) = rw (same_width d a) refl
  same_width d (t.binary h op a b) = rw (same_width d a, same_width d b) refl
  same_width d (t.choice h c a b) = rw (same_width d a, same_width d b) refl
  same_width d (t.concat h ts) = same_widths d ts
  same_width d (t.repeat h k ts) = rw (same_value d blank k, same_widths d ts) refl
  same_width d (t.sign h s a) = same_width d a

  same_widths : (d : Design) (xs : Terms) → own_widths d (all_uncounted xs) ≡ own_widths d xs
  same_widths d t.no_terms = refl
  same_widths d (t.a_term x xs) = rw (same_width d x, same_widths d xs) refl

pub same_own_sign : (d : Design) (x : Term) → own_sign d (uncounted x) ≡ own_sign d x
same_own_sign d (t.number h k) = refl
same_own_sign d (t.signal h s) = refl
same_own_sign d (t.word h m i) = refl
same_own_sign d (t.bit h of i) = refl
same_own_sign d (t.part h of i j) = refl
same_own_sign d (t.slide h of b w up) = refl
same_own_sign d (t.unary h op a) = rw (same_own_sign d a) refl
same_own_sign d (t.binary h op a b) = rw (same_own_sign d a, same_own_sign d b) refl
same_own_sign d (t.choice h c a b) = rw (same_own_sign d a, same_own_sign d b) refl
same_own_sign d (t.concat h ts) = refl
same_own_sign d (t.repeat h k ts) = refl
same_own_sign d (t.sign h s a) = refl

mutual
  same_constant : (x : Term) → is_constant (uncounted x) ≡ is_constant x
  same_constant (t.number h k) = refl
  same_constant (t.signal h s) = refl
  same_constant (t.word h m i) = refl
  same_constant (t.bit h of i) = rw (same_constant of, same_constant i) refl
  same_constant (t.part h of i j) = rw (same_constant of, same_constant i, same_constant j) refl
  same_constant (t.slide h of b w up) = rw (same_constant of, same_constant b, same_constant w) refl
  same_constant (t.unary h op a) = same_constant a
  same_constant (t.binary h op a b) = rw (same_constant a, same_constant b) refl
  same_constant (t.choice h c a b) = rw (same_constant c, same_constant a, same_constant b) refl
  same_constant (t.concat h ts) = same_constants ts
  same_constant (t.repeat h k ts) = rw (same_constant k, same_constants ts) refl
  same_constant (t.sign h s a) = same_constant a

  same_constants : (xs : Terms) → are_constant (all_uncounted xs) ≡ are_constant xs
  same_constants t.no_terms = refl
  same_constants (t.a_term x xs) = rw (same_constant x, same_constants xs) refl

mutual
  pub same_shaped : (d : Design) (w : ℕ) (s : Bool) (x : Term) → is_shaped d w s (uncounted x) ≡ is_shaped d w s x
  same_shaped d w s (t.number h k) = refl
  same_shaped d w s (t.signal h x) = refl
  same_shaped d w s (t.word h m i) = rw (same_width d i, same_own_sign d i, same_shaped d (own_width d i) (own_sign d i) i) refl
  same_shaped d w s (t.bit h of i) =
      rw (same_width d of, same_own_sign d of, same_shaped d (own_width d of) (own_sign d of) of, same_width d i, same_own_sign d i, same_shaped d (own_width d i) (own_sign d i) i) refl
  same_shaped d w s (t.part h of i j) =
      rw (same_width d of, same_own_sign d of, same_shaped d (own_width d of) (own_sign d of) of, same_width d i, same_own_sign d i, same_shaped d (own_width d i) (own_sign d i) i, same_width d j, same_own_sign d j, same_shaped d (own_width d j) (own_sign d j) j, same_constant i, same_constant j) refl
  same_shaped d w s (t.slide h of b k up) =
      rw (same_width d of, same_own_sign d of, same_shaped d (own_width d of) (own_sign d of) of, same_width d b, same_own_sign d b, same_shaped d (own_width d b) (own_sign d b) b, same_width d k, same_own_sign d k, same_shaped d (own_width d k) (own_sign d k) k, same_constant k) refl
  same_shaped d w s (t.unary h op a) = rw (same_shaped d w s a, same_width d a, same_own_sign d a, same_shaped d (own_width d a) (own_sign d a) a) refl
  same_shaped d w s (t.binary h op a b) =
      rw (same_width d a, same_own_sign d a, same_width d b, same_own_sign d b, same_shaped d w s a, same_shaped d w s b, same_shaped d (own_width d a) (own_sign d a) a, same_shaped d (own_width d b) (own_sign d b) b, same_shaped d (max (own_width d a) (own_width d b)) (own_sign d a && own_sign d b) a, same_shaped d (max (own_width d a) (own_width d b)) (own_sign d a && own_sign d b) b) refl
  same_shaped d w s (t.choice h c a b) = rw (same_width d c, same_own_sign d c, same_shaped d (own_width d c) (own_sign d c) c, same_shaped d w s a, same_shaped d w s b) refl
  same_shaped d w s (t.concat h ts) = rw (same_alone d ts) refl
  same_shaped d w s (t.repeat h k ts) = rw (same_width d k, same_own_sign d k, same_shaped d (own_width d k) (own_sign d k) k, same_constant k, same_alone d ts) refl
  same_shaped d w s (t.sign h x a) = rw (same_width d a, same_own_sign d a, same_shaped d (own_width d a) (own_sign d a) a) refl

  same_alone : (d : Design) (xs : Terms) → are_alone d (all_uncounted xs) ≡ are_alone d xs
  same_alone d t.no_terms = refl
  same_alone d (t.a_term x xs) = rw (same_width d x, same_own_sign d x, same_shaped d (own_width d x) (own_sign d x) x, same_alone d xs) refl

mutual
  pub uncounted_well : (d : Design) (c : Bool) (x : Term) → is_well_formed d c x ≡ true → is_well_formed d false (uncounted x) ≡ true
  uncounted_well d c (t.number h k) w = refl
  uncounted_well d c (t.signal h s) w = refl
  uncounted_well d c (t.word h m i) w =
      let p = and_parts (is_right d c (t.word h m i)) _ w in
      both_true _ _ (rw (same_constant i, same_sign i, same_value d blank i) (and_parts (is_counted_rightly c (t.word h m i)) _ p.0).1) (uncounted_well d false i p.1)
  uncounted_well d c (t.bit h of i) w =
      let p = and_parts (is_right d c (t.bit h of i)) _ w in
      let q = and_parts (is_well_formed d false of) _ p.1 in
      both_true _ _ (rw (same_constant i, same_width d of, same_range d of, same_sign i, same_value d blank i) (and_parts (is_counted_rightly c (t.bit h of i)) _ p.0).1) (both_true _ _ (uncounted_well d false of q.0) (uncounted_well d false i q.1))
  uncounted_well d c (t.part h of i j) w =
      let p = and_parts (is_right d c (t.part h of i j)) _ w in
      let q = and_parts (is_well_formed d false of) _ p.1 in
      let r = and_parts (is_well_formed d false i) _ q.1 in
      both_true _ _ (rw (same_width d of, same_range d of, same_sign j, same_value d blank i, same_value d blank j) (and_parts (is_counted_rightly c (t.part h of i j)) _ p.0).1) (both_true _ _ (uncounted_well d false of q.0) (both_true _ _ (uncounted_well d false i r.0) (uncounted_well d false j r.1)))
  uncounted_well d c (t.slide h of b k up) w =
      let p = and_parts (is_right d c (t.slide h of b k up)) _ w in
      let q = and_parts (is_well_formed d false of) _ p.1 in
      let r = and_parts (is_well_formed d false b) _ q.1 in
      both_true _ _ (rw (same_constant b, same_width d of, same_range d of, same_sign b, same_value d blank b, same_value d blank k) (and_parts (is_counted_rightly c (t.slide h of b k up)) _ p.0).1) (both_true _ _ (uncounted_well d false of q.0) (both_true _ _ (uncounted_well d false b r.0) (uncounted_well d false k r.1)))
  uncounted_well d c (t.unary h op a) w = uncounted_well d false a (and_parts (is_right d c (t.unary h op a)) _ w).1
  uncounted_well d c (t.binary h op a b) w =
      let q = and_parts (is_well_formed d false a) _ (and_parts (is_right d c (t.binary h op a b)) _ w).1 in
      both_true _ _ (uncounted_well d false a q.0) (uncounted_well d false b q.1)
  uncounted_well d c (t.choice h x a b) w =
      let q = and_parts (is_well_formed d true x) _ (and_parts (is_right d c (t.choice h x a b)) _ w).1 in
      let r = and_parts (is_well_formed d false a) _ q.1 in
      both_true _ _ (condition_well d (uncounted x) (uncounted_well d true x q.0)) (both_true _ _ (uncounted_well d false a r.0) (uncounted_well d false b r.1))
  uncounted_well d c (t.concat h ts) w = uncounted_all_well d ts (and_parts (is_right d c (t.concat h ts)) _ w).1
  uncounted_well d c (t.repeat h k ts) w =
      let q = and_parts (is_well_formed d false k) _ (and_parts (is_right d c (t.repeat h k ts)) _ w).1 in
      both_true _ _ (uncounted_well d false k q.0) (uncounted_all_well d ts q.1)
  uncounted_well d c (t.sign h s a) w = uncounted_well d false a (and_parts (is_right d c (t.sign h s a)) _ w).1

  uncounted_all_well : (d : Design) (xs : Terms) → are_well_formed d xs ≡ true → are_well_formed d (all_uncounted xs) ≡ true
  uncounted_all_well d t.no_terms w = refl
  uncounted_all_well d (t.a_term x xs) w = let q = and_parts (is_well_formed d false x) _ w in both_true _ _ (uncounted_well d false x q.0) (uncounted_all_well d xs q.1)
