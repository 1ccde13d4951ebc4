-- All that holds of a replay holds after its first step, and each closing step and each time that the dump does not list keep it.
use Rattle.std.proofs.Common.{arith}
use Rattle.event_machine.specs.Habit.{Habit}
use Rattle.design_model.proofs.Stretches.{window_before_first}
use Rattle.replay_model.specs.Laws.{FirstStandsLaw, RestStandsLaw, StepStandsLaw}
use Rattle.replay_model.proofs.FirstForced.{first_forced_law}
use Rattle.replay_model.proofs.FirstKnown.{first_known_law}
use Rattle.replay_model.proofs.ReasonedLaws.{rest_forced_law, rest_known_law, rest_reasoned_law, step_known_law, step_reasoned_law}
use Rattle.replay_model.proofs.SoundLaws.{first_sound_law, rest_sound_law, step_sound_law}
use Rattle.replay_model.proofs.StepForced.{step_forced_law}

pub first_stands_law : FirstStandsLaw
first_stands_law d h dump run tables points is own t a first shown paused agreed =
    record {
      sound = first_sound_law d h dump run tables points is t a first shown paused;
      known = first_known_law d h dump run tables points is own t a first shown paused agreed;
      reasoned =
          record {
            doubts = λ x y told. let k = paused.doubts x y told in let before = k.1 in (k.0, omega (arith, before), k.2);
            reached = λ u p x le reached. paused.reached u p x (window_before_first dump.stretches t u is.fits.rising first reached.0 le) reached;
          };
      forced = first_forced_law d h dump run tables points is own t a first shown paused agreed;
    }

pub step_stands_law : (h : Habit) → StepStandsLaw h
step_stands_law h d dump run tables points is own t sets a window are agreed stands =
    record {
      sound = step_sound_law h d dump run tables points is own t sets a window are stands.sound;
      known = step_known_law h d dump run tables points is own t sets a window are stands.known agreed;
      reasoned = step_reasoned_law h d dump run tables points is own t sets a window are stands.known agreed stands.reasoned;
      forced = step_forced_law h d dump run tables points is own t sets a window are stands.known agreed stands.forced;
    }

pub rest_stands_law : RestStandsLaw
rest_stands_law d h dump run tables points is own t a calm window unlisted stands =
    record {
      sound = rest_sound_law d h dump run tables points is t a calm window unlisted stands.sound;
      known = rest_known_law d h dump run tables points is own t a window unlisted stands.known;
      reasoned = rest_reasoned_law d h dump run tables points is t a window unlisted stands.reasoned;
      forced = rest_forced_law d h dump t unlisted stands.forced;
    }
