-- The block has one path, and y is read before it is written.
use Rattle.std.proofs.Common.{◌≡◌, ⊎_elim, refl, sym, subst, true, ◌∙◌, ap, inl, inr, List, [], ◌∷◌, lit<}
use Rattle.event_machine.specs.Habit.{Free}
use Rattle.four_state.specs.declared.operator.Binary.TheVariants.{BitwiseXor}
use Rattle.design_model.specs.Tree.{all_of, binary, signal}
use Rattle.design_model.specs.Design.{In, body_at}
use Rattle.point_words.specs.declared.line_word.LineWord.TheVariants.{Assign}
use Rattle.design_model.specs.Paths.{Path, PlacedAction, assigns, paths, reaches}
use Rattle.design_model.specs.declared.point.Point.TheVariants.{Line as line_point}
use Rattle.design_model.specs.Open.{HasAction, IsOpen, IsSurelyOpen, KnownAtEnd}
use Rattle.design_model.specs.Doubt.{IsInDoubt, of_block, own_target}
use Rattle.design_model.specs.ExampleParts.{at, counted, plain}
use Rattle.worked_examples.specs.Design.Loop.{IsLoopExample, line_set, loop, loop_dump}

abbrev head_path : List Path → Path
head_path [] = []
head_path (p ∷ ps) = p

open_line : IsOpen loop (KnownAtEnd loop Free loop_dump 5 0) (body_at loop 0) line_set
open_line = (_, record { is_path = inl refl; follows = (tt, (tt, tt)) }, (_, (_, inl refl, refl, refl)))

sure_line : IsSurelyOpen loop (KnownAtEnd loop Free loop_dump 5 0) (body_at loop 0) line_set
sure_line = ([], λ path o. ⊎_elim (λ e. subst (HasAction (λ x. x ≡ reaches 1) []) e (_, inl refl, refl, refl)) (λ n. absurd n) o.is_path)

-- the steps of the path reach no second line
no_second : (x : PlacedAction) → In x (head_path (paths [] (body_at loop 0))) → x.action ≡ reaches 2 → ⊥
no_second x (inl a) is = first_apart (ap (λ y. y.action) a ∙ is)
  where
    first_apart : reaches 1 ≡ reaches 2 → ⊥
    first_apart e = cc
no_second x (inr (inl a)) is = second_apart (ap (λ y. y.action) a ∙ is)
  where
    second_apart : assigns true (all_of 1) (binary (counted 1) BitwiseXor (signal plain 0) (signal plain 1)) ≡ reaches 2 → ⊥
    second_apart e = cc
no_second x (inr (inr n)) is = n

not_line : IsOpen loop (KnownAtEnd loop Free loop_dump 5 0) (body_at loop 0) (line_point 0 2 (at 20) Assign) → ⊥
not_line h = ⊎_elim (λ e. no_second h.2.1.0 (subst (In h.2.1.0) (sym e) h.2.1.1) h.2.1.3) (λ n. absurd n) h.1.is_path

doubt_line : IsInDoubt loop Free loop_dump line_set 5 1
doubt_line = of_block 0 (lit< tt, lit< tt) refl (inr ((λ c. c), open_line)) (own_target (record { is_comb = tt; may_wake = inl (inr (inl refl)); target = refl; reads_first = refl }))

pub loop_example : IsLoopExample
loop_example = record { is_open = open_line; surely_open = sure_line; not_open = not_line; doubt = doubt_line }
