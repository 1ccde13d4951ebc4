use Rattle.std.proofs.Common.{ap, length, subst, sym, ◌∙◌}
use Rattle.std.specs.Option.{unwrap_or}
use Rattle.known_state.specs.Partly.{with_blame}
use Rattle.write_log.specs.value_store.Signals.{read_at}
use Rattle.body_calls.specs.Lvalues.{Like, written}
use Rattle.body_calls.specs.declared.lvalue.Lvalue.TheVariants.{Signal}
use Rattle.body_store.specs.Scenes.{scene_of, scene_with}
use Rattle.body_store.proofs.Writes.{whole_like}
use Rattle.body_store.proofs.store.Store.write_whole.Goals as goal

pub returns-clause-scene : goal.returns-clause-scene
returns-clause-scene c =
    let x = c.args.self.now in
    let y = c.assign.new.self in
    let old = read_at x.signals c.args.signal in
    let fits = ap (λ q. length q.bits) (sym c.read-old.ensures.value) ∙ c.read-old.ensures.shape.0 in
    let thing = c.unwrap_or.ensures ∙ ap (unwrap_or c.args.blame) (c.blame.ensures.value ∙ ap (λ q. q.blame) c.read-old.ensures.value) in
    let value = c.signed_as-value.ensures ∙ ap (with_blame c.args.part.now.bits c.is_signed.result) thing in
    let like = whole_like x.design.now x.memories.items x.signals y.signals c.args.signal c.signed_as-value.result x.fits.shapes c.requires.place.0 fits c.assign.ensures.reads c.args.part.now.bits c.is_signed.result c.args.blame c.requires.place.1 value in
    subst (λ d. Like (written (Signal c.args.signal) c.args.part.now.bits c.args.blame (scene_of x)) (scene_with d.now y.memories.items (read_at y.signals))) (sym c.assign.ensures.design)
    (subst (λ rs. Like (written (Signal c.args.signal) c.args.part.now.bits c.args.blame (scene_of x)) (scene_with x.design.now rs.items (read_at y.signals))) (sym c.assign.ensures.memories) like)
