-- The codes of signals by their numbers, and of texts that begin with one header.
use Rattle.std.proofs.Common.{◌≡◌, ℕ, ◌<◌, ◌++◌, None, List, length, get_or, refl, sym, ap, ◌∙◌, inl, arith}
use Rattle.std.proofs.lemmas.List.FromFn.{get_or-map-range_with_len}
use Rattle.design_model.specs.declared.design.Design.{Design}
use Rattle.vcd_reader.specs.Dump.{SaysBody}
use Rattle.vcd_reader.specs.Reading.{Body, body}
use Rattle.vcd_reader.specs.Text.{Stands}
use Rattle.vcd_reader.specs.declared.vars.Var.{Var}
use Rattle.vcd_reader.proofs.OneHeader.{one_header}
use Rattle.signal_binding.specs.Binding.{code_of, codes_of}

-- the code at a signal's place
pub code_at : (design : Design) (vars : List Var) (instance : List ℕ) (s : ℕ) → s < length design.signals → get_or (codes_of design vars instance) s None ≡ code_of design vars instance s
code_at design vars instance s l =
    get_or-map-range_with_len (code_of design vars instance) 0 (length design.signals) s s None l (omega arith)

-- texts that begin with one header
pub bound_by_header : (design : Design) (instance front rest other word : List ℕ) (b : Body) → Stands front (body b) word → (says also : Body) → SaysBody (front ++ rest) says → SaysBody (front ++ other) also
    → codes_of design also.vars instance ≡ codes_of design says.vars instance
bound_by_header design instance front rest other word b stands says also first second =
    let one = one_header (front ++ rest) b says (inl (record { front = front; rest = rest; word = word; split = refl; stands = stands })) first in
    let two = one_header (front ++ other) b also (inl (record { front = front; rest = other; word = word; split = refl; stands = stands })) second in
    ap (λ vars. codes_of design vars instance) (two ∙ sym one)
