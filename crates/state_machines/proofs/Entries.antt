-- An insertion into the map adds a machine.
use Rattle.std.proofs.Common.{◌≡◌, ◌&&◌, Bool, true, false, cond, ℕ, List, [], ◌∷◌, refl, ap}
use Rattle.std.specs.Prelude.{bytes_eq}
use Rattle.std.specs.Global.{Vec}
use Rattle.indexmap.specs.IndexMap.{insert_entry}
use Rattle.state_machines.specs.Entries.{machine_in, machines_in}
use Rattle.state_machines.specs.Machines.{with_machine}
use Rattle.state_machines.specs.declared.states.Variable.{Variable}

-- whether two variables have the same bytes
abbrev pub same_variable : Variable → Variable → Bool
same_variable a b = bytes_eq a.«module».items b.«module».items && bytes_eq a.name.items b.name.items

pub inserted : (key : Variable) (names : Vec (List ℕ)) (es : List (Variable × Vec (List ℕ))) → machines_in (insert_entry same_variable es key names) ≡ with_machine (machine_in (key, names)) (machines_in es)
inserted key names [] = refl
inserted key names (e ∷ es) = by_test (same_variable key e.0) (inserted key names es)
  where
    by_test : (b : Bool) → machines_in (insert_entry same_variable es key names) ≡ with_machine (machine_in (key, names)) (machines_in es) → machines_in (cond b ((e.0, names) ∷ es) (e ∷ insert_entry same_variable es key names)) ≡ cond b (record (machine_in e) { names = names.items } ∷ machines_in es) (machine_in e ∷ with_machine (machine_in (key, names)) (machines_in es))
    by_test true rest = refl
    by_test false rest = ap (λ ms. machine_in e ∷ ms) rest
