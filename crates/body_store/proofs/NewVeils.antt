-- The veils of a new store.
use Rattle.std.proofs.Common.{◌≡◌, ℕ, ◌+◌, ◌<◌, List, [], length, get_or, sym, ap, subst, ◌∙◌, arith}
use Rattle.design_model.specs.declared.design.Memory.{Memory}
use Rattle.design_model.specs.Design.{no_memory}
use Rattle.word_log.specs.memory_rebuild.Words.{unwritten}
use Rattle.body_store.specs.declared.veils.Veils.{Veils}
use Rattle.body_store.specs.Fitting.{FitsWords}
use Rattle.body_store.specs.Made.{shape_of}
use Rattle.body_store.specs.Veils.{FitsVeils}
use Rattle.body_store.proofs.Blank.{Blank}
use Rattle.body_store.proofs.Fit.{blank_fits}

pub new_veils : (n i : ℕ) (ms : List Memory) (v : Veils) → v.veiled.size ≡ length ms → v.veiled.items ≡ [] → i ≡ length ms → Blank n i ms v.under.items → FitsVeils n ms v
new_veils n i ms v size none all b =
    record {
      size = size;
      count = b.count ∙ all;
      each = λ j l.
          let inside : j < i = omega (arith, l, all) in
          subst (FitsWords (get_or ms j no_memory) (n + j)) (sym (b.each j (unwritten (shape_of no_memory 0)) no_memory inside)) (blank_fits (get_or ms j no_memory) (n + j));
      once = λ j k l m e. absurd (let empty = ap length none in omega (arith, m, empty));
    }
