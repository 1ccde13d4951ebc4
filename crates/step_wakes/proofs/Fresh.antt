-- The sets of a design before its first step.
use Rattle.std.proofs.Common.{◌≡◌, ◌↔◌, ⊎_elim, ◌∙◌, ℕ, ◌<◌, ◌≤◌, true, false, List, Option, Some, None, Bool, Result, Ok, Err, IfOk, get_or, length, replicate, sym, ap, subst}
use Rattle.std.specs.List.{Contains}
use Rattle.std.proofs.lemmas.Bool.{cases_lt}
use Rattle.std.proofs.lemmas.List.{get_or-replicate, get_or_past, length-replicate}
use Rattle.design_model.specs.Design.{Design}
use Rattle.early_sets.specs.Sizes.{AreWriters}
use Rattle.early_sets.specs.WakeState.{WakeState}
use Rattle.step_wakes.specs.Step.{IsOfDesign, flag_at, is_given, is_missing}
use Rattle.replay_sets.specs.wake_laws.OfDesign.{AreTablesOf}
use Rattle.wake_tables.specs.declared.tables.WakeTables.{WakeTables}

-- what is so of one success, by three facts of it
pub three_facts : {T E : Type 0} (P Q R G : T → Type 0) (r : Result T E) → ((x : T) → P x → Q x → R x → G x) → IfOk r P → IfOk r Q → IfOk r R → IfOk r G
three_facts P Q R G (Ok x) f p q s = f x p q s
three_facts P Q R G (Err e) f p q s = tt

pub one_fact : {T E : Type 0} (P G : T → Type 0) (r : Result T E) → ((x : T) → P x → G x) → IfOk r P → IfOk r G
one_fact P G (Ok x) f p = f x p
one_fact P G (Err e) f p = tt

pub fresh : (d : Design) (bound : List Bool) (t : WakeTables) (flags : List Bool) (missing : List ℕ) (w : WakeState) → AreTablesOf d t → ((x : ℕ) → x < t.things → flag_at flags x ≡ is_given d bound x) → ((x : ℕ) → Contains missing x ↔ (is_missing d bound x ≡ true)) → w.tables ≡ t → w.told ≡ flags → w.untold ≡ missing → IsOfDesign d bound w
fresh d bound t flags missing w are given lost tables told untold =
    record {
      tables = subst (AreTablesOf d) (sym tables) are;
      told = λ x l. ap (λ xs. get_or xs x false) told ∙ given x (subst (λ s. x < s.things) tables l);
      untold = λ x. subst (λ xs. Contains xs x ↔ (is_missing d bound x ≡ true)) (sym untold) (lost x);
    }

-- no writer
abbrev pub nothing : Option ℕ
nothing = None

-- a list without a writer
pub none_at : (n x : ℕ) → get_or (replicate n nothing) x nothing ≡ nothing
none_at n x =
    ⊎_elim
    (λ l. get_or-replicate n x nothing nothing l)
    (λ past. get_or_past (replicate n nothing) x nothing (subst (λ k. k ≤ x) (sym (length-replicate n nothing)) past))
    (cases_lt x n)

pub no_writers : (n processes : ℕ) (xs : List (Option ℕ)) → xs ≡ replicate n nothing → AreWriters n processes xs
no_writers n processes xs is =
    record {
      count_is = ap length is ∙ length-replicate n nothing;
      below = λ x p h. absurd (never x p (sym (ap (λ ys. get_or ys x nothing) is ∙ none_at n x) ∙ h));
    }
  where
    never : (x p : ℕ) → nothing ≡ Some p → ⊥
    never x p e = cc
