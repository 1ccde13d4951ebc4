-- What the block reads, from a alone.
use Rattle.std.proofs.Common.{◌≡◌, ⊎_elim, refl, sym, ap, subst, inl, inr, ◌==◌, Bool, false, [], ◌∷◌}
use Rattle.std.proofs.lemmas.Bool.{false≢true}
use Rattle.event_machine.specs.Cell.{Cell, Values, put}
use Rattle.event_machine.specs.Machine.{IsWakeCell}
use Rattle.four_state.specs.declared.bit.Bit.{Bit}
use Rattle.four_state.specs.declared.bit.Bit.TheVariants.{One, X}
use Rattle.design_model.specs.Design.{a_signal, body_at, cell, thing_bits}
use Rattle.design_model.specs.Execution.{Visit, execution, reads}
use Rattle.design_model.specs.Machine.{machine}
use Rattle.design_model.specs.Paths.{PathReadsUnwritten, ReadsUnwritten}
use Rattle.design_model.specs.Reads.{Agrees, ReadsWithin, ReadsFrom, UpToOutside}
use Rattle.worked_examples.specs.Design.Inner.{IsInnerExample, helped, helped_values, only_a}

agrees : Agrees helped only_a (helped_values One X X)
agrees x bits k = subst (λ y. thing_bits helped (helped_values One X X) y ≡ bits) (sym k.0) (sym k.1)

-- no other visit is an outer read of t
abbrev is_outer_t : Visit → Bool
is_outer_t (reads (a_signal s) false) = s == 1
is_outer_t _ = false

is_told : ReadsWithin helped only_a (body_at helped 0)
is_told v a = (tt, ((One ∷ [], (refl, refl)), (tt, (tt, tt))))

not_t : ReadsFrom helped only_a (body_at helped 0) (a_signal 1) → ⊥
not_t (inl from) = go from.2
  where
    go : UpToOutside only_a (reads (a_signal 1) false) (execution helped (body_at helped 0) from.0).visits → ⊥
    go (inl e) = false≢true (ap is_outer_t e)
    go (inr (_, inl e)) = false≢true (ap is_outer_t e)
    go (inr (_, inr (_, inl e))) = false≢true (ap is_outer_t e)
    go (inr (_, inr (_, inr (_, inl e)))) = false≢true (ap is_outer_t e)
    go (inr (_, inr (_, inr (_, inr n)))) = n.1
not_t (inr all) = all.0 is_told

no_t : ReadsUnwritten helped (body_at helped 0) 1 → ⊥
no_t (path, inl e, r) = ⊎_elim (λ k. false≢true k) (λ k. false≢true k.0) (subst (PathReadsUnwritten helped 1) (sym e) r)
no_t (path, inr n, r) = n

pub inner_example : IsInnerExample
unfolding put
inner_example =
    record {
      visits = λ a t y. refl;
      whole = refl;
      writes_first = refl;
      reads_a = (_, inl refl, inl refl);
      reads_no_t = no_t;
      within = is_told;
      from_a = inl (helped_values One X X, agrees, inr (tt, inl refl));
      not_from_t = not_t;
      combinational = record { reads = same; writes = λ v. inr (inl refl) };
    }
  where
    same : (u v : Values Bit) → ((c : Cell) → IsWakeCell (machine helped) 0 c → u c ≡ v c) → (machine helped).evaluate 0 u ≡ (machine helped).evaluate 0 v
    same u v alike = ap (λ b. (machine helped).evaluate 0 (helped_values b X X)) (alike (cell 0 0) (refl, refl))
