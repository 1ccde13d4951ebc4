-- What a store keeps beside what bodies read of it, and what it shows in the place of what is kept.
use Rattle.std.specs.Prelude.{ℕ, ◌-◌, ◌==◌, nat_lt, Bool, if◌then◌else◌, is_some, None}
use Rattle.known_state.specs.Partly.{blame_of}
use Rattle.design_model.specs.View.{design_view}
use Rattle.body_calls.specs.body_replay.KnownBits.{KnownBits}
use Rattle.body_calls.specs.body_replay.Runs.{StoreView}
use Rattle.body_calls.specs.term_replay.Stands.{Scene}
use Rattle.write_log.specs.value_store.Signals.{hidden_at, kept_at}
use Rattle.body_calls.specs.Under.{Under}
use Rattle.body_store.specs.declared.store.Store.{Store}
use Rattle.body_store.specs.Fitting.{memory_in}
use Rattle.body_store.specs.Scenes.{bit_at, blames_by, kept_by, scene_of, signal_count}
use Rattle.body_store.specs.Veils.{is_veiled, kept_words}

-- whether a signal or memory is shown or veiled
abbrev pub hides : Store → ℕ → Bool
hides x t = if nat_lt t (signal_count x) then is_some (hidden_at x.signals t) else is_veiled x.veils (t - signal_count x)

-- what bodies would read if nothing were shown or veiled
abbrev pub kept_scene : Store → Scene
kept_scene x =
    record {
      design = design_view x.design.now;
      kept = kept_by (signal_count x) (kept_at x.signals) (kept_words x.veils x.memories.items);
      blames = blames_by (signal_count x) (kept_at x.signals) (λ i. (memory_in x.memories.items i).written);
    }

-- the store as the definition of a run meets it: what is kept, what is shown or veiled, and what bodies read
abbrev pub view_of : Store → StoreView
view_of x = record { kept = (kept_scene x).kept; hidden = hides x; shown = (scene_of x).kept }

-- what is kept of what is shown or veiled, and the size of the log
abbrev pub under_of : Store → Under
under_of x =
    record {
      hidden = hides x;
      kept = λ c. if hides x c.thing then (kept_scene x).kept c else None;
      blame = λ t. if hides x t then (kept_scene x).blames.blame t else 0;
      log = x.log.room;
    }

-- what bodies read where these bits of signal s are shown, which is to blame for those that are not sure
abbrev pub showing : ℕ → KnownBits → Scene → Scene
showing s ps v =
    record v {
      kept = λ c. if s == c.thing then bit_at ps c.place else v.kept c;
      blames = record { blame = λ x. if s == x then blame_of ps s else v.blames.blame x; wrote = v.blames.wrote };
    }

-- what they read where a signal or memory is veiled: none of its bits is sure, and it is to blame
abbrev pub veiling : ℕ → Scene → Scene
veiling t v =
    record v {
      kept = λ c. if t == c.thing then None else v.kept c;
      blames = record { blame = λ x. if t == x then t else v.blames.blame x; wrote = v.blames.wrote };
    }
