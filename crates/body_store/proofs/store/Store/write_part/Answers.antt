use Rattle.std.proofs.Common.{ap, if◌then◌else◌, length, subst, sym, ◌∙◌}
use Rattle.std.specs.Option.{unwrap_or}
use Rattle.known_state.specs.Partly.{is_whole}
use Rattle.write_log.specs.value_store.Signals.{read_at}
use Rattle.write_log.proofs.value_store.Left.{joined_self}
use Rattle.body_calls.specs.Lvalues.{Like, written}
use Rattle.body_calls.specs.declared.lvalue.Lvalue.TheVariants.{Part}
use Rattle.body_store.specs.Scenes.{scene_of, scene_with}
use Rattle.body_store.proofs.Writes.{part_like}
use Rattle.body_store.proofs.store.Store.write_part.Goals as goal

pub assign-requires-clause-shape : goal.assign-requires-clause-shape
assign-requires-clause-shape c = (
  ap (λ q. length q.bits) c.join-value.ensures.value ∙ ap length (joined_self c.with_part-new.result.bits) ∙ c.with_part-new.ensures.shape.0,
  ap (λ q. q.signed) c.join-value.ensures.value ∙ c.with_part-new.ensures.shape.1,
)

pub returns-clause-scene : goal.returns-clause-scene
returns-clause-scene c =
    let x = c.args.self.now in
    let y = c.assign.new.self in
    let low = c.args.low.now in
    let fits = ap (λ q. length q.bits) (sym c.read-old.ensures.value) ∙ c.read-old.ensures.shape.0 in
    let thing = c.part_blame.ensures ∙ ap (λ b. if is_whole low then unwrap_or c.args.blame b else low.blame) (c.blame.ensures.value ∙ ap (λ q. q.blame) c.read-old.ensures.value) in
    let like = part_like x.design.now x.memories.items x.signals y.signals c.args.signal c.join-value.result x.fits.shapes c.requires.place.0 fits c.assign.ensures.reads low c.args.part.now c.with_part-new.result c.part_blame.result c.args.blame c.requires.place.1 c.with_part-new.ensures.value c.with_part-new.ensures.shape.0 c.join-value.ensures.value thing in
    subst (λ d. Like (written (Part c.args.signal low) c.args.part.now.bits c.args.blame (scene_of x)) (scene_with d.now y.memories.items (read_at y.signals))) (sym c.assign.ensures.design)
    (subst (λ rs. Like (written (Part c.args.signal low) c.args.part.now.bits c.args.blame (scene_of x)) (scene_with x.design.now rs.items (read_at y.signals))) (sym c.assign.ensures.memories) like)
