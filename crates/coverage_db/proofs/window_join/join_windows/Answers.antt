use Rattle.std.proofs.Common.{◌++◌, ◌∷◌, [], List, sym, ap, ◌∙◌, append_assoc, append-nil}
use Rattle.coverage_db.specs.declared.window.Window.{Window}
use Rattle.coverage_db.specs.Windows.{joined_windows}
use Rattle.coverage_db.proofs.window_join.join_windows.Goals as goal

pub loop-window-init : goal.loop-window-init
loop-window-init c = record {
  joined = ap (λ (ws : List Window). ws ++ joined_windows c.args.first.now c.args.second.now) c.new-joined.ensures;
  left_rises = c.requires.first;
  right_rises = c.requires.second;
}

pub loop-window-smaller : goal.loop-window-smaller
loop-window-smaller c = let taken = rw c.in-Some.is at c.take_first.ensures in taken.shorter

pub loop-window-preserved : goal.loop-window-preserved
loop-window-preserved c =
    let taken = rw c.in-Some.is at c.take_first.ensures in
    let rest = joined_windows c.in-Some.more.now c.in-Some.others.now in
    record {
      joined = ap (λ (ws : List Window). ws ++ rest) c.in_ok-push.ensures.ok ∙ append_assoc c.loop-window.joined (c.in-Some.window ∷ []) rest ∙ ap (λ (ws : List Window). c.loop-window.joined ++ ws) (sym taken.joined) ∙ c.loop-window.invariant.joined;
      left_rises = taken.left_rises;
      right_rises = taken.right_rises;
    }

pub returns-clause-joined : goal.returns-clause-joined
returns-clause-joined c =
    let none = rw c.in_default.is at c.take_first.ensures in
    sym (ap (λ (ws : List Window). c.loop-window.joined ++ ws) none ∙ append-nil c.loop-window.joined) ∙ c.loop-window.invariant.joined
