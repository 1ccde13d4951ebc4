-- The orders of points and of blocks are total.
use Rattle.std.proofs.Common.{◌≡◌, ℕ, Bool, true, false, List, [], ◌∷◌, Option, Some, None, refl, sym, ap, ◌∙◌}
use Rattle.std.specs.declared.cmp.Ordering.{Ordering}
use Rattle.std.specs.declared.cmp.Ordering.TheVariants.{Less, Equal, Greater}
use Rattle.std.specs.Cmp.{IsTotalOrder}
use Rattle.std.specs.Cmp.Lexicographic.{slice_cmp}
use Rattle.std.specs.Ordering.{nat_cmp, ordering_then, ordering_reverse}
use Rattle.std.proofs.lemmas.Cmp.{nat_list_cmp_total, lists_total, on_total, then_total}
use Rattle.coverage_db.specs.declared.address.Subject.{Subject}
use Rattle.coverage_db.specs.declared.address.Subject.TheVariants.{Line, Logic, Toggle, State, Arc, Word}
use Rattle.coverage_db.specs.Order.{bytes_cmp, index_cmp, rise_cmp, write_cmp}
use Rattle.point_words.specs.Words.{line_word_text, node_case_rank, operator_text}
use Rattle.cov_report.specs.declared.block.Block.{Block}
use Rattle.cov_report.specs.declared.counted.Counted.{Counted}
use Rattle.cov_report.specs.Order.{subject_cmp}
use Rattle.cov_report.specs.Views.{counted_cmp, name_cmp}

-- ---- what a point is sorted by, part after part

abbrev index_key : Option ℕ → List ℕ
index_key None = []
index_key (Some index) = index ∷ []

abbrev rise_key : Bool → ℕ
rise_key true = 0
rise_key false = 1

abbrev write_key : Bool → ℕ
write_key false = 0
write_key true = 1

abbrev key : Subject → List (List ℕ)
key (Line number at word) = (0 ∷ number ∷ at.source ∷ at.line ∷ []) ∷ line_word_text word ∷ []
key (Logic number at operator case) = (1 ∷ number ∷ node_case_rank case ∷ at.source ∷ at.line ∷ []) ∷ operator_text operator ∷ []
key (Toggle name index rise) = (2 ∷ []) ∷ name ∷ index_key index ∷ (rise_key rise ∷ []) ∷ []
key (State name state) = (3 ∷ []) ∷ name ∷ (0 ∷ []) ∷ state ∷ []
key (Arc name from to) = (3 ∷ []) ∷ name ∷ (1 ∷ []) ∷ from ∷ to ∷ []
key (Word name index write) = (4 ∷ []) ∷ name ∷ (index ∷ write_key write ∷ []) ∷ []

abbrev key_cmp : Subject → Subject → Ordering
key_cmp a b = slice_cmp bytes_cmp (key a) (key b)

then_end : (a : Ordering) → ordering_then a Equal ≡ a
then_end Less = refl
then_end Equal = refl
then_end Greater = refl

then_assoc : (a b c : Ordering) → ordering_then (ordering_then a b) c ≡ ordering_then a (ordering_then b c)
then_assoc Less b c = refl
then_assoc Equal b c = refl
then_assoc Greater b c = refl

index_is : (i j : Option ℕ) → index_cmp i j ≡ bytes_cmp (index_key i) (index_key j)
index_is None None = refl
index_is None (Some j) = refl
index_is (Some i) None = refl
index_is (Some i) (Some j) = sym (then_end (nat_cmp i j))

rise_is : (r s : Bool) → rise_cmp r s ≡ nat_cmp (rise_key r) (rise_key s)
rise_is true true = refl
rise_is true false = refl
rise_is false true = refl
rise_is false false = refl

write_is : (r s : Bool) → write_cmp r s ≡ nat_cmp (write_key r) (write_key s)
write_is true true = refl
write_is true false = refl
write_is false true = refl
write_is false false = refl

key_is : (a b : Subject) → subject_cmp a b ≡ key_cmp a b
key_is (Line m a v) (Line n b w) = simp (then_assoc, then_end)
key_is (Logic m a o c) (Logic n b p d) = simp (then_assoc, then_end)
key_is (Toggle x i r) (Toggle y j s) = simp (then_assoc, then_end, index_is i j, rise_is r s)
key_is (State x s) (State y t) = simp (then_assoc, then_end)
key_is (State x s) (Arc y b c) = simp (then_assoc, then_end)
key_is (Arc x a b) (State y t) = simp (then_assoc, then_end)
key_is (Arc x a b) (Arc y c d) = simp (then_assoc, then_end)
key_is (Word x i w) (Word y j v) = simp (then_assoc, then_end, write_is w v)
key_is a b = refl

keys_total : IsTotalOrder key_cmp
keys_total = on_total key (lists_total nat_list_cmp_total)

subject_total : IsTotalOrder subject_cmp
subject_total = record {
  antisymm = λ x y. key_is x y ∙ keys_total.antisymm x y ∙ ap ordering_reverse (sym (key_is y x));
  trans = λ x y z p q. key_is x z ∙ keys_total.trans x y z (sym (key_is x y) ∙ p) (sym (key_is y z) ∙ q);
  congr = λ x y z p. key_is x z ∙ keys_total.congr x y z (sym (key_is x y) ∙ p) ∙ sym (key_is y z);
}

-- ---- the orders of the code's types

pub name_total : IsTotalOrder name_cmp
name_total = on_total (λ (b : Block). b.name.now) nat_list_cmp_total

pub counted_total : IsTotalOrder counted_cmp
counted_total = then_total (on_total (λ (c : Counted). c.name.now) nat_list_cmp_total) (on_total (λ (c : Counted). c.subject.now) subject_total)
