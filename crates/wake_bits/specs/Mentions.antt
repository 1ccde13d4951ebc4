-- What the body of a process mentions, in the order in which it is read.
use Rattle.std.specs.Prelude.{ℕ, List, []}
use Rattle.design_model.specs.Tree.{Process, assign, clocked, comb}
use Rattle.process_names.specs.Names.{body_names, level_names}

-- the names of the body of an Assign or Comb, without the list of names of a Comb
abbrev pub mentioned_names : Process → List ℕ
mentioned_names (assign i x t counted) = level_names (assign i x t counted)
mentioned_names (comb i wakes s) = body_names s
mentioned_names (clocked i events s) = []
