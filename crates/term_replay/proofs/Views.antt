-- The plain tree of a term by its form.
use Rattle.std.proofs.Common.{◌≡◌, ℕ, Bool, map, refl}
use Rattle.std.specs.Global.{Vec}
use Rattle.four_state.specs.Vector.{Vector}
use Rattle.four_state.specs.declared.operator.Unary.{Unary}
use Rattle.four_state.specs.declared.operator.Binary.{Binary}
use Rattle.design_model.specs.Tree as t
use Rattle.design_model.specs.View.{term_view, terms_of}
use Rattle.design_model.specs.declared.tree.Term.{Term}
use Rattle.design_model.specs.declared.tree.Form as form
use Rattle.design_model.specs.declared.tree.Form.TheFolds.{fold_out-Term, fold-roll-Form}
use Rattle.design_model.specs.declared.tree.Form.TheVariants.{rolls-Number, rolls-Signal, rolls-Word, rolls-Bit, rolls-Part, rolls-Slide, rolls-Unary, rolls-Binary, rolls-Choice, rolls-Concat, rolls-Repeat, rolls-Sign}
use Rattle.term_replay.specs.Plain.{head_in}
use Rattle.term_replay.specs.Stands.{head_of}

module _ (x : Term) where
  pub number_view : (n : Vector) → x.form.value ≡ form.Number n → term_view x ≡ t.number (head_of (head_in x)) n
  number_view n is = rw (fold_out-Term, is, ← rolls-Number n, fold-roll-Form) refl

  pub signal_view : (s : ℕ) → x.form.value ≡ form.Signal s → term_view x ≡ t.signal (head_of (head_in x)) s
  signal_view s is = rw (fold_out-Term, is, ← rolls-Signal s, fold-roll-Form) refl

  pub word_view : (m : ℕ) (i : Term) → x.form.value ≡ form.Word m i → term_view x ≡ t.word (head_of (head_in x)) m (term_view i)
  word_view m i is = rw (fold_out-Term, is, ← rolls-Word m i, fold-roll-Form) refl

  pub bit_view : (y i : Term) → x.form.value ≡ form.Bit y i → term_view x ≡ t.bit (head_of (head_in x)) (term_view y) (term_view i)
  bit_view y i is = rw (fold_out-Term, is, ← rolls-Bit y i, fold-roll-Form) refl

  pub part_view : (y i j : Term) → x.form.value ≡ form.Part y i j → term_view x ≡ t.part (head_of (head_in x)) (term_view y) (term_view i) (term_view j)
  part_view y i j is = rw (fold_out-Term, is, ← rolls-Part y i j, fold-roll-Form) refl

  pub slide_view : (y b w : Term) (up : Bool) → x.form.value ≡ form.Slide y b w up → term_view x ≡ t.slide (head_of (head_in x)) (term_view y) (term_view b) (term_view w) up
  slide_view y b w up is = rw (fold_out-Term, is, ← rolls-Slide y b w up, fold-roll-Form) refl

  pub unary_view : (op : Unary) (y : Term) → x.form.value ≡ form.Unary op y → term_view x ≡ t.unary (head_of (head_in x)) op (term_view y)
  unary_view op y is = rw (fold_out-Term, is, ← rolls-Unary op y, fold-roll-Form) refl

  pub binary_view : (op : Binary) (y z : Term) → x.form.value ≡ form.Binary op y z → term_view x ≡ t.binary (head_of (head_in x)) op (term_view y) (term_view z)
  binary_view op y z is = rw (fold_out-Term, is, ← rolls-Binary op y z, fold-roll-Form) refl

  pub choice_view : (c y z : Term) → x.form.value ≡ form.Choice c y z → term_view x ≡ t.choice (head_of (head_in x)) (term_view c) (term_view y) (term_view z)
  choice_view c y z is = rw (fold_out-Term, is, ← rolls-Choice c y z, fold-roll-Form) refl

  pub concat_view : (v : Vec Term) → x.form.value ≡ form.Concat v → term_view x ≡ t.concat (head_of (head_in x)) (terms_of (map term_view v.items))
  concat_view v is = rw (fold_out-Term, is, ← rolls-Concat v, fold-roll-Form) refl

  pub repeat_view : (n : Term) (v : Vec Term) → x.form.value ≡ form.Repeat n v → term_view x ≡ t.repeat (head_of (head_in x)) (term_view n) (terms_of (map term_view v.items))
  repeat_view n v is = rw (fold_out-Term, is, ← rolls-Repeat n v, fold-roll-Form) refl

  pub sign_view : (g : Bool) (y : Term) → x.form.value ≡ form.Sign g y → term_view x ≡ t.sign (head_of (head_in x)) g (term_view y)
  sign_view g y is = rw (fold_out-Term, is, ← rolls-Sign g y, fold-roll-Form) refl
