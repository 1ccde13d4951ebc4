-- The design is lawful, so no run shows the dump in which b is not what is forced.
use Rattle.std.proofs.Common.{◌<◌, ◌≤◌, ◌&&◌, length, ◌≡◌, ◌≢◌, inl, inr, ⊎_elim, refl, sym, ap, ◌∙◌, ℕ, zero, suc, ◌==◌, true, false, lit<, lit≤, arith, [], ◌∷◌}
use Rattle.std.proofs.lemmas.Bool.{eqb-true, false≢true, ltb-true}
use Rattle.std.specs.Prelude.{nat_lt}
use Rattle.std.specs.List.{list_all}
use Rattle.event_machine.specs.Habit.{Free}
use Rattle.four_state.specs.declared.bit.Bit.TheVariants.{One, Zero}
use Rattle.design_model.specs.Design.{In, IsAssign, IsComb, body_at, is_number, path_of, process_at, signal_at}
use Rattle.design_model.specs.Mentions.{body_assigns, body_blocks, body_queues}
use Rattle.design_model.specs.Numbered.{LineAt, NodeAt, lines_of, nodes_of}
use Rattle.design_model.specs.Machine.{events_of, machine}
use Rattle.design_model.specs.Shows.{IsContradicted}
use Rattle.design_model.specs.Clear.{IsForced}
use Rattle.design_model.specs.Shape.{is_body}
use Rattle.design_model.specs.WellFormed.{is_well_formed_body}
use Rattle.design_model.specs.Lawful.{IsLawfulDesign, target_once, wakes_of}
use Rattle.design_model.proofs.Assigns.{machine_lawful}
use Rattle.design_model.proofs.ForcedSound.{contradiction_law}
use Rattle.design_model.proofs.StepLaws.{step_laws}
use Rattle.worked_examples.proofs.Design.LawfulParts.{other_name}
use Rattle.worked_examples.specs.Design.Swap.{swap, swap_dump}

no_assign : (p : ℕ) → IsAssign (process_at swap p) → ⊥
no_assign zero h = h
no_assign (suc zero) h = h
no_assign (suc (suc p)) h = h

-- process 0 writes signal 1, and process 1 signal 2
writes : (p x : ℕ) → body_assigns x (body_at swap p) ≡ true → (x ≡ suc p) × (p < 2)
writes zero x h = (sym (eqb-true 1 x h), lit< tt)
writes (suc zero) x h = (sym (eqb-true 2 x h), lit< tt)
writes (suc (suc p)) x h = absurd (false≢true h)

lines_once : (p q : ℕ) (x y : LineAt) → In x (lines_of (process_at swap p)) → In y (lines_of (process_at swap q)) → x.line ≡ y.line → (p ≡ q) × (x ≡ y)
lines_once zero zero x y (inl a) (inl b) e = (refl, sym a ∙ b)
lines_once zero (suc zero) x y (inl a) (inl b) e = absurd (let first : 1 ≡ x.line = ap (λ z. z.line) a in let second : 2 ≡ y.line = ap (λ z. z.line) b in omega (arith, first, second, e))
lines_once (suc zero) zero x y (inl a) (inl b) e = absurd (let first : 2 ≡ x.line = ap (λ z. z.line) a in let second : 1 ≡ y.line = ap (λ z. z.line) b in omega (arith, first, second, e))
lines_once (suc zero) (suc zero) x y (inl a) (inl b) e = (refl, sym a ∙ b)
lines_once zero q x y (inr none) b e = absurd none
lines_once (suc zero) q x y (inr none) b e = absurd none
lines_once (suc (suc p)) q x y none b e = absurd none
lines_once zero zero x y (inl a) (inr none) e = absurd none
lines_once zero (suc zero) x y (inl a) (inr none) e = absurd none
lines_once zero (suc (suc q)) x y (inl a) none e = absurd none
lines_once (suc zero) zero x y (inl a) (inr none) e = absurd none
lines_once (suc zero) (suc zero) x y (inl a) (inr none) e = absurd none
lines_once (suc zero) (suc (suc q)) x y (inl a) none e = absurd none

no_node : (p : ℕ) (x : NodeAt) → In x (nodes_of (process_at swap p)) → ⊥
no_node zero x h = h
no_node (suc zero) x h = h
no_node (suc (suc p)) x h = h

is_lawful : IsLawfulDesign swap
is_lawful =
    record {
      signals = refl;
      memories = refl;
      instances = refl;
      bodies = bodies;
      well_formed = well_formed;
      constants = refl;
      aliases = refl;
      lists = lists;
      instance_paths = (λ h. h, tt);
      names = (
        ⊎_elim (λ e. other_name 97 99 e refl refl (λ z. omega (arith, z))) (⊎_elim (λ e. other_name 98 99 e refl refl (λ z. omega (arith, z))) (λ none. none)),
        (⊎_elim (λ e. other_name 98 97 e refl refl (λ z. omega (arith, z))) (λ none. none), ((λ none. none), tt)),
      );
      short_instances = refl;
      short_paths = short_paths;
      few_signals = lit≤ tt;
      few_processes = lit≤ tt;
      few_words = lit≤ tt;
      few_instances = lit≤ tt;
      few_statements = lit≤ tt;
      lines_once = λ p q x y a b i e. lines_once p q x y a b e;
      nodes_once = λ p q x y a b i e. absurd (no_node p x a);
      one_writer = λ p q x np nq a b. let first = (writes p x a).0 in let second = (writes q x b).0 in omega (arith, first, second);
      one_driver = λ p q c a b w v. absurd (no_assign p a);
      apart = λ p q x a w v. absurd (no_assign p a);
      no_input = no_input;
      not_both = not_both;
      targets = targets;
      comb_writes = comb_writes;
      reads_no_own = λ p c a. absurd (no_assign p a);
      events = event_bits;
    }
  where
    bodies : (p : ℕ) → is_body swap (body_at swap p) ≡ true
    bodies zero = refl
    bodies (suc zero) = refl
    bodies (suc (suc p)) = refl

    well_formed : (p : ℕ) → is_well_formed_body swap (body_at swap p) ≡ true
    well_formed zero = refl
    well_formed (suc zero) = refl
    well_formed (suc (suc p)) = refl

    lists : (p : ℕ) → list_all (λ x. nat_lt x (length swap.signals)) (wakes_of (process_at swap p)) ≡ true
    lists zero = refl
    lists (suc zero) = refl
    lists (suc (suc p)) = refl

    short_paths : (x : ℕ) → is_number swap x ≡ true → length (path_of swap x) ≤ 256
    short_paths zero h = lit≤ tt
    short_paths (suc zero) h = lit≤ tt
    short_paths (suc (suc zero)) h = lit≤ tt
    short_paths (suc (suc (suc x))) h = absurd (omega (arith, ltb-true (suc (suc (suc x))) 3 h))

    no_input : (p s : ℕ) → body_assigns s (body_at swap p) ≡ true → (signal_at swap s).input ≡ false
    no_input p zero a = absurd (let is = (writes p 0 a).0 in omega (arith, is))
    no_input p (suc zero) a = refl
    no_input p (suc (suc zero)) a = refl
    no_input p (suc (suc (suc s))) a = refl

    targets : (p : ℕ) → target_once (process_at swap p) swap ≡ true
    targets zero = refl
    targets (suc zero) = refl
    targets (suc (suc p)) = refl

    comb_writes : (p x : ℕ) → IsComb (process_at swap p) → body_assigns x (body_at swap p) ≡ true → x < length swap.signals
    comb_writes p x c a = let is = writes p x a in omega (arith, is.0, is.1)

    event_bits : (p : ℕ) → list_all (λ e. nat_lt e.1 (length swap.signals) && ((signal_at swap e.1).width == 1)) (events_of (process_at swap p)) ≡ true
    event_bits zero = refl
    event_bits (suc zero) = refl
    event_bits (suc (suc p)) = refl

    not_both : (p q x : ℕ) → body_blocks x (body_at swap p) ≡ true → body_queues x (body_at swap q) ≡ true → ⊥
    not_both zero q x a b = false≢true a
    not_both (suc zero) q x a b = false≢true a
    not_both (suc (suc p)) q x a b = false≢true a

pub is_contradicted : IsForced swap Free (swap_dump One) 5 2 (Zero ∷ []) → IsContradicted swap Free (swap_dump One) 5
is_contradicted forced = contradiction_law swap is_lawful Free (step_laws (machine swap) (machine_lawful swap is_lawful) Free) (swap_dump One) 5 2 (Zero ∷ []) (λ s b. ltb-true s 3 b) forced one_zero
  where
    one_zero : One ∷ [] ≢ Zero ∷ []
    one_zero = grind arith
