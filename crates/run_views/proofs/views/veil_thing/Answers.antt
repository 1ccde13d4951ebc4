use Rattle.std.proofs.Common.{None, ap, subst, sym}
use Rattle.body_store.specs.body_calls.Own.{IsOwn}
use Rattle.body_store.specs.Scenes.{scene_of}
use Rattle.body_store.proofs.BlocksLaws.{veiled_own_law}
use Rattle.run_views.proofs.Showing.{meets_more}
use Rattle.run_views.proofs.views.veil_thing.Goals as goal

pub returns-clause-meets : goal.returns-clause-meets
returns-clause-meets c = λ d v none h.
    let x = c.args.store.now in
    let t = c.args.thing in
    meets_more x c.veil.new.self c.veil.ensures.design c.veil.ensures.around c.veil.ensures.holds t (λ k. None) c.veil.ensures.hides (λ e. ap (λ w. w.kept e) c.veil.ensures.reads)
    (λ own. subst IsOwn (sym c.veil.ensures.reads) (veiled_own_law (scene_of x) t own)) d v (λ k. sym (none k)) h
