use Rattle.std.proofs.Common.{ℕ, ◌<◌, ◌≤◌, ◌≡◌, [], ◌∷◌, length, None, refl, ap, subst, ◌∙◌}
use Rattle.vcd_reader.proofs.Turns.{rises_apart}
use Rattle.vcd_reader.specs.declared.entry.Entry.TheVariants.{Off}
use Rattle.dump_replay.specs.declared.replay.DumpReplay.{DumpReplay}
use Rattle.design_model.specs.Shows.{BoundDump, IsShown, NoneShown}
use Rattle.replay_core.specs.Followed.{HasFollowed as HasFollowedDump, HasPaused as HasPausedDump}
use Rattle.replay_core.specs.Parts.{HasRefused, given_of, made_of}
use Rattle.replay_core.specs.declared.fault.ReplayFault.{ReplayFault}
use Rattle.replay_core.specs.declared.replay.Replay.{Replay}
use Rattle.dump_replay.proofs.Closing.{not_refused, pause_follows, pause_stays}
use Rattle.dump_replay.proofs.Following.{stretch_ended}
use Rattle.dump_replay.proofs.replay.DumpReplay.end_stretch.Goals as goal

pub returns-clause-followed : goal.returns-clause-followed
returns-clause-followed c habit design points vars instance entries ordered f =
    let noted = c.note_window.ensures in
    let kept : c.note_window.new.self.replay ≡ c.args.self.now.replay = ap (λ (x : DumpReplay). x.replay) noted in
    let same : made_of c.pause.new.self ≡ made_of c.args.self.now.replay = c.pause.ensures.made ∙ ap made_of kept in
    let rises = (rises_apart None entries (Off ∷ []) ordered.rises).0 in
    stretch_ended c.args.self.now record c.note_window.new.self { replay = c.pause.new.self; first = None; last = None } c.pause.ensures.ready same (c.pause.ensures.count ∙ ap (λ (r : Replay). length (given_of r)) kept)
    (ap (λ (x : DumpReplay). x.wanted) noted) (ap (λ (x : DumpReplay). x.windows) noted) refl refl
    (λ es h d ps vs i up g.
    let fresh : (fault : ReplayFault) → HasRefused c.note_window.new.self.replay fault → ⊥ = λ fault refused. not_refused c.args.self.now h d ps vs i es up g fault (subst (λ r. HasRefused r fault) kept refused) in
    (c.pause.ensures.off fresh, c.pause.ensures.values fresh))
    (pause_follows c.args.self.now.replay c.pause.new.self same (subst (λ r. (dump : BoundDump) (t u : ℕ) → HasFollowedDump r dump t → t < u → NoneShown dump t u → HasPausedDump c.pause.new.self dump u) kept c.pause.ensures.followed))
    (pause_stays c.args.self.now.replay c.pause.new.self same (subst (λ r. (dump : BoundDump) (u v : ℕ) → HasPausedDump r dump u → u ≤ v → ((w : ℕ) → u ≤ w → w < v → IsShown dump w → ⊥) → HasPausedDump c.pause.new.self dump v) kept c.pause.ensures.stays))
    habit design points vars instance entries ordered rises f
