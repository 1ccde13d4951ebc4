use Rattle.std.proofs.Common.{length, refl, sym, ap, subst, ◌∙◌}
use Rattle.bound_codes.specs.Codes.{AreWanted}
use Rattle.code_values.specs.Values.{value_of}
use Rattle.replay_core.specs.Parts.{IsPausedPhase, given_of}
use Rattle.replay_core.specs.wake_laws.Laws.{habit_of}
use Rattle.shown_dumps.proofs.Dumps.{codes_long}
use Rattle.shown_dumps.specs.Shown.{code_at}
use Rattle.signal_binding.specs.Binding.{codes_of}
use Rattle.dump_replay.specs.Followed.{Follows, Pauses}
use Rattle.dump_replay.proofs.Closing.{new_holds}
use Rattle.dump_replay.proofs.Taken.{taken_none}
use Rattle.dump_replay.proofs.replay.DumpReplay.new.Goals as goal

pub signal_codes-requires : goal.signal_codes-requires
signal_codes-requires c =
    c.len.ensures ∙ sym (ap length c.in_ok-binding.ensures.codes ∙ codes_long c.args.design.now c.args.vars.now c.args.instance.now)

pub new-requires-clause-codes : goal.new-requires-clause-codes
new-requires-clause-codes c =
    ap length c.in_ok-codes.ensures ∙ ap length c.in_ok-binding.ensures.codes ∙ codes_long c.args.design.now c.args.vars.now c.args.instance.now

pub returns-clause-followed : goal.returns-clause-followed
returns-clause-followed c =
    let codes = c.in_ok-codes.ensures ∙ c.in_ok-binding.ensures.codes in
    record {
      of = record {
        ready = c.in_ok-replay.ensures.ready;
        there = c.in_ok-binding.ensures.instance;
        design_is = c.in_ok-replay.ensures.design;
        habit_is = ap habit_of c.in_ok-replay.ensures.habit;
        points_are = c.in_ok-replay.ensures.points;
        codes = c.in_ok-replay.ensures.codes ∙ codes;
        within = λ code coded. c.in_ok-replay.ensures.within coded.0 code (ap (λ cs. code_at cs coded.0) codes ∙ coded.1);
        wanted = subst (λ cs. AreWanted cs c.in_ok-wanted.wanted.items) (c.as_slice.ensures.value ∙ codes) c.in_ok-wanted.ensures;
      };
      first = refl;
      last = refl;
      windows = c.in_ok-windows.ensures;
      taken = taken_none (Follows c.in_ok-replay.replay) (Pauses c.in_ok-replay.replay) (IsPausedPhase c.in_ok-replay.replay) (codes_of c.args.design.now c.args.vars.now c.args.instance.now) (value_of (given_of c.in_ok-replay.replay)) c.in_ok-replay.ensures.values c.in_ok-replay.ensures.off
          (new_holds c.in_ok-replay.replay c.args.design.now c.args.vars.now c.args.instance.now c.in_ok-replay.ensures.design (c.in_ok-replay.ensures.codes ∙ codes) c.in_ok-replay.ensures.paused);
    }
