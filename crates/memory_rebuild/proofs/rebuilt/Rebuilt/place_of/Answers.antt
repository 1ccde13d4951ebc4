use Rattle.std.proofs.Common.{◌≡◌, ◌+◌, ◌<◌, Bool, List, None, Some, ap, sym, subst, ◌∙◌}
use Rattle.std.specs.Prelude.{MatchOption}
use Rattle.four_state.specs.declared.bit.Bit.{Bit}
use Rattle.known_state.specs.Partly.{Partly, whole_of}
use Rattle.body_replay.specs.KnownBits.{whole_bits}
use Rattle.body_replay.proofs.Operators.{whole_sure}
use Rattle.memory_rebuild.specs.Words.{KnownWords, count, least, named_by}
use Rattle.memory_rebuild.specs.declared.shape.Shape.{Shape}
use Rattle.memory_rebuild.proofs.rebuilt.Rebuilt.place_of.Goals as goal

pub returns : goal.returns
returns c =
    λ bits e.
    let whole : c.args.index.now ≡ whole_of c.value.result = c.value.ensures.whole c.requires in
    let found : Some c.value.result.bits ≡ Some bits = sym (whole_sure c.value.result.bits) ∙ ap (λ (q : Partly). whole_bits q.bits) (sym whole) ∙ e in
    let same : c.value.result.bits ≡ bits = cc in
    let signed : c.value.result.signed ≡ c.args.index.now.signed = ap (λ (q : Partly). q.signed) (sym whole) in
    let shape : c.self.inside.shape ≡ c.args.self.now.shape = ap (λ (r : KnownWords). r.shape) c.self.view_is in
    subst (λ (s : Shape). MatchOption c.place_named.result (named_by s c.args.index.now.signed bits ≡ None) (λ place. (place < count s) × (named_by s c.args.index.now.signed bits ≡ Some (least s + place)))) shape
    (subst (λ (g : Bool). MatchOption c.place_named.result (named_by c.self.inside.shape g bits ≡ None) (λ place. (place < count c.self.inside.shape) × (named_by c.self.inside.shape g bits ≡ Some (least c.self.inside.shape + place)))) signed
    (subst (λ (bs : List Bit). MatchOption c.place_named.result (named_by c.self.inside.shape c.value.result.signed bs ≡ None) (λ place. (place < count c.self.inside.shape) × (named_by c.self.inside.shape c.value.result.signed bs ≡ Some (least c.self.inside.shape + place)))) same c.place_named.ensures))
