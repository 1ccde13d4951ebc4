use Rattle.std.proofs.Common.{◌≡◌, ◌++◌, ◌==◌, ◌&&◌, ℕ, List, true, cond, Some, ap, sym, ◌∙◌}
use Rattle.std.specs.Str.{bytes_eq}
use Rattle.signal_binding.specs.Kinds.{holds_value}
use Rattle.signal_binding.specs.Table.{code_in}
use Rattle.signal_binding.proofs.KeyLemmas.{put_first}
use Rattle.signal_binding.proofs.table.Table.put.Goals as goal

pub returns : goal.returns
returns c =
    let var = c.args.var.now in
    let kind : holds_value var.kind ≡ true = ap holds_value (sym c.as_slice-2.ensures) ∙ sym c.holds_value.ensures ∙ c.if-not-holds_value.false in
    let front : (below : List ℕ) → bytes_eq var.scope (c.args.instance.now ++ below) ≡ bytes_eq c.in-Some.below.now below =
    λ below. ap (λ bytes. bytes_eq bytes (c.args.instance.now ++ below)) (sym c.as_slice.ensures) ∙ ap (λ first. bytes_eq c.as_slice.result.now (first ++ below)) (sym c.as_bytes.ensures.value) ∙ c.in-Some.ensures.begins below
    in
    λ vars h.
    put_first c.args.self.now var vars c.args.instance.now h (record { codes = c.insert.new.self }) c.in-Some.below.now kind front (λ below name size.
    c.in_ok-insert.ensures.updates.0 (record { below = record c.in-Some.below { now = below }; name = record c.as_slice-3.result { now = name }; size = size })
    ∙ ap (λ bytes. cond (bytes_eq c.in-Some.below.now below && (bytes_eq bytes name && var.size == size)) (Some var.code) (code_in c.args.self.now below name size)) c.as_slice-3.ensures)
