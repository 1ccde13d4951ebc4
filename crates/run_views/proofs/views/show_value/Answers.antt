use Rattle.std.proofs.Common.{◌<◌, ap, length, subst, sym}
use Rattle.body_store.specs.body_calls.Own.{IsOwn}
use Rattle.body_store.specs.Scenes.{bit_at, scene_of}
use Rattle.body_store.proofs.BlocksLaws.{shown_own_law}
use Rattle.run_views.proofs.Showing.{meets_more}
use Rattle.run_views.proofs.views.show_value.Goals as goal

pub returns-clause-meets : goal.returns-clause-meets
returns-clause-meets c = λ d v same h.
    let x = c.args.store.now in
    let s = c.args.signal in
    let ps = c.args.value.now.bits in
    let place : s < length (scene_of x).design.signals = c.requires.place in
    meets_more x c.show.new.self c.show.ensures.design c.show.ensures.around c.show.ensures.holds s (bit_at ps) c.show.ensures.hides (λ e. ap (λ w. w.kept e) c.show.ensures.reads)
    (λ own. subst IsOwn (sym c.show.ensures.reads) (shown_own_law (scene_of x) s ps place c.requires.width own)) d v same h
