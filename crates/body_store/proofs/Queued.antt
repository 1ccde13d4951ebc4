-- The updates that a store has queued.
use Rattle.std.proofs.Common.{◌≡◌, ℕ, zero, suc, ◌+◌, ◌<◌, ◌==◌, true, List, [], ◌∷◌, ◌++◌, length, take, get_or, refl, sym, ap, subst, ◌∙◌, arith, append_assoc, eq-eqb}
use Rattle.std.specs.Prelude.{nat_le, nat_lt}
use Rattle.std.proofs.lemmas.Bool.{and_parts, eqb-true}
use Rattle.std.proofs.lemmas.Bool.Decides.{nat_tests}
use Rattle.std.proofs.lemmas.List.{append-nil, take_more}
use Rattle.known_state.proofs.Cases.{both_true}
use Rattle.design_model.specs.Design.{Design, is_memory, memory_at, signal_at}
use Rattle.body_calls.specs.body_replay.Store.{Kept, keep_all}
use Rattle.body_calls.proofs.body_replay.Writes.{keep_append}
use Rattle.body_calls.specs.Lvalues.{Takes}
use Rattle.body_calls.specs.declared.lvalue.Lvalue.{Lvalue}
use Rattle.body_calls.specs.declared.lvalue.Lvalue.TheVariants.{Part, Signal, Word}
use Rattle.body_store.specs.declared.update.Update.{Update}
use Rattle.body_store.specs.Updates.{are_taken, queued_writes, takes, update_writes}

pub takes_yes : (d : Design) (to : Lvalue) (n : ℕ) → Takes d to n → takes d to n ≡ true
takes_yes d (Signal s) n h = let l = h.0 in let first : nat_lt s (length d.signals) ≡ true = grind (arith, nat_tests, l) in both_true _ _ first (eq-eqb n (signal_at d s).width h.1)
takes_yes d (Part s low) n h =
    let l = h.0 in
    let some = h.1 in
    let first : nat_lt s (length d.signals) ≡ true = grind (arith, nat_tests, l) in
    let second : nat_le 1 n ≡ true = grind (arith, nat_tests, some) in
    both_true _ _ first second
takes_yes d (Word m i) n h = both_true _ _ h.0 (eq-eqb n (memory_at d m).width h.1)

pub taken_more : (d : Design) (us : List Update) (u : Update) → are_taken d us ≡ true → Takes d u.to (length u.value.bits) → are_taken d (us ++ u ∷ []) ≡ true
taken_more d [] u h t = both_true _ _ (takes_yes d u.to (length u.value.bits) t) refl
taken_more d (v ∷ vs) u h t = let both = and_parts (takes d v.to (length v.value.bits)) (are_taken d vs) h in both_true _ _ both.0 (taken_more d vs u both.1 t)

pub queued_more : (d : Design) (us : List Update) (u : Update) → queued_writes d (us ++ u ∷ []) ≡ queued_writes d us ++ update_writes d u
queued_more d [] u = append-nil (update_writes d u)
queued_more d (v ∷ vs) u = ap (λ ws. update_writes d v ++ ws) (queued_more d vs u) ∙ sym (append_assoc (update_writes d v) (queued_writes d vs) (update_writes d u))

pub takes_no_less : (d : Design) (to : Lvalue) (n : ℕ) → takes d to n ≡ true → Takes d to n
takes_no_less d (Signal s) n h =
    let both = and_parts (nat_lt s (length d.signals)) (n == (signal_at d s).width) h in
    let first = both.0 in
    (grind (arith, nat_tests, first), eqb-true n (signal_at d s).width both.1)
takes_no_less d (Part s low) n h =
    let both = and_parts (nat_lt s (length d.signals)) (nat_le 1 n) h in
    let first = both.0 in
    let second = both.1 in
    (grind (arith, nat_tests, first), grind (arith, nat_tests, second))
takes_no_less d (Word m i) n h = let both = and_parts (is_memory d m) (n == (memory_at d m).width) h in (both.0, eqb-true n (memory_at d m).width both.1)

-- each update is of a signal or memory of the design
pub taken_at : (d : Design) (us : List Update) (i : ℕ) (u : Update) → are_taken d us ≡ true → i < length us → u ≡ get_or us i u → Takes d u.to (length u.value.bits)
taken_at d [] i u h l e = absurd (omega (arith, l))
taken_at d (v ∷ vs) zero u h l e = subst (λ w. Takes d w.to (length w.value.bits)) (sym e) (takes_no_less d v.to (length v.value.bits) (and_parts (takes d v.to (length v.value.bits)) (are_taken d vs) h).0)
taken_at d (v ∷ vs) (suc i) u h l e = taken_at d vs i u (and_parts (takes d v.to (length v.value.bits)) (are_taken d vs) h).1 (omega (arith, l)) e

-- one update more is made
pub made_more : (d : Design) (k : Kept) (us : List Update) (i : ℕ) (u : Update) → i < length us → u ≡ get_or us i u → keep_all (keep_all k (queued_writes d (take i us))) (update_writes d u) ≡ keep_all k (queued_writes d (take (i + 1) us))
made_more d k us i u l e =
    sym (keep_append k (queued_writes d (take i us)) (update_writes d u)) ∙ ap (keep_all k) (sym (queued_more d (take i us) u))
    ∙ ap (λ ws. keep_all k (queued_writes d ws)) (ap (λ w. take i us ++ w ∷ []) e ∙ sym (take_more us i u l))
