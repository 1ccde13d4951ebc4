-- What a process drives, and whether it waits for edges.
use Rattle.std.specs.Prelude.{ℕ, Bool, true, false, List, [], ◌++◌, map}
use Rattle.std.specs.Global.{Vec}
use Rattle.design_model.specs.Tree.{Process, assign, clocked, comb}
use Rattle.design_model.specs.Design.{body}
use Rattle.design_wakes.specs.process_names.Assigned.{assigned}

-- the items of vectors
abbrev pub lists_of : List (Vec ℕ) → List (List ℕ)
lists_of vectors = map (λ v. v.items) vectors

-- the process is a Clocked
abbrev pub is_clocked : Process → Bool
is_clocked (assign i x t counted) = false
is_clocked (comb i wakes s) = false
is_clocked (clocked i events s) = true

-- what an Assign or Comb assigns, and nothing for a Clocked
abbrev pub driven_names : Process → List ℕ
driven_names (assign i x t counted) = assigned true (body (assign i x t counted)) ++ assigned false (body (assign i x t counted))
driven_names (comb i wakes s) = assigned true s ++ assigned false s
driven_names (clocked i events s) = []
