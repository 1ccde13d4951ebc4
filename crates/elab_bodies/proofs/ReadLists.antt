-- A list of signals with those of one list of names and then of another.
use Rattle.std.proofs.Common.{◌≡◌, ℕ, List, ◌++◌, Result, Ok, Err, append_assoc, refl, sym, ap, ◌∙◌}
use Rattle.std.specs.Prelude.{OnOk}
use Rattle.std.proofs.lemmas.Grind.{flat_map-append}
use Rattle.verilog_tree.specs.declared.item.Named.{Named}
use Rattle.flat_design.specs.Processes.{listed_signals, signal_numbers}
use Rattle.flat_design.specs.Scope.{Scope, look_up}

-- the signals of two calls
pub signals_both : (g : Scope) (ks ls ms : List ℕ) (xs ys : List Named) → ls ≡ ks ++ listed_signals g xs → ms ≡ ls ++ listed_signals g ys → ms ≡ ks ++ listed_signals g (xs ++ ys)
signals_both g ks ls ms xs ys first next =
    next ∙ ap (λ l. l ++ listed_signals g ys) first ∙ append_assoc ks (listed_signals g xs) (listed_signals g ys) ∙ ap (λ l. ks ++ l) (sym (flat_map-append (λ x. signal_numbers (look_up g x.name)) xs ys))

-- the signals of what comes first, and then of what comes next, where the next call gives a value
pub signals_then : {A E : Type 0} (r : Result A E) (g : Scope) (ks ls ms : List ℕ) (xs ys zs : List Named) → zs ≡ xs ++ ys → ls ≡ ks ++ listed_signals g xs → OnOk r (ms ≡ ls ++ listed_signals g ys) → OnOk r (ms ≡ ks ++ listed_signals g zs)
signals_then (Ok a) g ks ls ms xs ys zs whole first next = signals_both g ks ls ms xs ys first next ∙ ap (λ ns. ks ++ listed_signals g ns) (sym whole)
signals_then (Err e) g ks ls ms xs ys zs whole first next = next

-- the signals of the first of the rest, and then of what is left
pub signals_next : (g : Scope) (ks ls whole : List ℕ) (all xs ys : List Named) → all ≡ xs ++ ys → ks ++ listed_signals g all ≡ whole → ls ≡ ks ++ listed_signals g xs → ls ++ listed_signals g ys ≡ whole
signals_next g ks ls whole all xs ys is so_far here = signals_both g ks ls (ls ++ listed_signals g ys) xs ys here refl ∙ ap (λ ns. ks ++ listed_signals g ns) (sym is) ∙ so_far
