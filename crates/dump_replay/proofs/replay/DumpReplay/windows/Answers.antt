use Rattle.std.proofs.Common.{◌≡◌, [], ◌∷◌, ◌++◌, ap, append-nil, sym, ◌∙◌}
use Rattle.std.specs.Option.{option_to_list}
use Rattle.coverage_db.specs.declared.window.Window.{Window}
use Rattle.value_store.specs.Queue.{Queue}
use Rattle.dump_replay.proofs.Windows.{windows_are}
use Rattle.dump_replay.proofs.replay.DumpReplay.windows.Goals as goal
use Rattle.dump_replay.proofs.replay.DumpReplay.windows.Goals.{in-Some+in_ok-push, in_default}

-- those that were noted, and the one of the span, if there is one
of_span : (c : goal.Joined-span) → c.match-span.windows ≡ c.args.self.now.windows.items ++ option_to_list c.span.result
of_span c =
    let noted : c.extend_from_slice.new.self ≡ c.args.self.now.windows.items = c.in_ok-extend_from_slice.ensures.ok ∙ ap (λ ws. ws ++ c.as_slice.result.now) c.new-windows.ensures ∙ c.as_slice.ensures in
    elim c.match-span.branch [
      | in-Some+in_ok-push w ↦ w.windows-is ∙ w.in_ok-push.ensures.ok ∙ ap (λ ws. ws ++ w.in-Some.window ∷ []) noted ∙ ap (λ span. c.args.self.now.windows.items ++ option_to_list span) (sym w.in-Some.is)
      | in_default w ↦ w.windows-is ∙ noted ∙ sym (append-nil c.args.self.now.windows.items) ∙ ap (λ span. c.args.self.now.windows.items ++ option_to_list span) (sym w.in_default.is)
    ]

pub returns : goal.returns
returns c habit design points vars instance entries rises f =
    of_span c ∙ ap (λ span. c.args.self.now.windows.items ++ option_to_list span) c.span.ensures
    ∙ windows_are entries c.args.self.now.windows.items c.args.self.now.first c.args.self.now.last rises (ap (λ (q : Queue Window). q.items) f.windows) f.first f.last
