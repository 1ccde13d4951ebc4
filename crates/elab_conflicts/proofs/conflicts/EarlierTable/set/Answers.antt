use Rattle.std.proofs.Common.{Some, unwrap_or, if◌then◌else◌, ap, ◌∙◌}
use Rattle.std.specs.HashMap as hash
use Rattle.elab_conflicts.specs.Conflicts.{key, nothing, same_key}
use Rattle.elab_conflicts.proofs.ConflictsKept.{key-same, unwrap_or-cond}
use Rattle.elab_conflicts.proofs.conflicts.EarlierTable.set.Goals as goal

pub returns : goal.returns
returns c = λ t.
    let old = hash.get same_key c.args.self.now.kept (key t) in
    ap (λ o. unwrap_or o nothing) (c.in_ok-insert.ensures.updates.0 (key t))
    ∙ ap (λ k. unwrap_or (if same_key k (key t) then Some c.args.earlier else old) nothing) c.key_of.ensures
    ∙ ap (λ b. unwrap_or (if b then Some c.args.earlier else old) nothing) (key-same c.args.thing t)
    ∙ unwrap_or-cond _ c.args.earlier nothing old
