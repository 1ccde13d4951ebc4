-- A change that a dump says is as wide as the signals of its code.
use Rattle.std.proofs.Common.{◌≡◌, ℕ, ◌<◌, List, [], ◌∷◌, ◌++◌, length, Some, is_some, refl, sym, ap, subst, ◌∙◌}
use Rattle.std.proofs.lemmas.List.Elements.{All-pop}
use Rattle.design_model.specs.Design.{signal_at}
use Rattle.design_model.specs.declared.design.Design.{Design}
use Rattle.dump_replay.specs.declared.replay.DumpReplay.{DumpReplay}
use Rattle.entry_laws.specs.Entries.{AreEntries, FitsCode, IsEntry}
use Rattle.four_state.specs.Vector.{Vector}
use Rattle.dump_replay.specs.replay_core.Parts.{made_of}
use Rattle.dump_replay.proofs.shown_dumps.Bits.{found_first}
use Rattle.dump_replay.proofs.shown_dumps.Dumps.{code_is, coded_signal}
use Rattle.dump_replay.specs.shown_dumps.Shown.{code_at}
use Rattle.signal_binding.specs.Binding.{codes_of, names_of, signal_of}
use Rattle.coverage_db.specs.declared.window.Window.{Window}
use Rattle.dump_replay.proofs.Windows.{windows_few}
use Rattle.dump_replay.specs.value_store.Queue.{Queue}
use Rattle.vcd_reader.proofs.Turns.{on_at_off, ordered_front}
use Rattle.vcd_reader.specs.declared.entry.Entry.{Entry}
use Rattle.vcd_reader.specs.declared.entry.Entry.TheVariants.{Off, Value}
use Rattle.vcd_reader.specs.declared.item.Item.TheVariants as item
use Rattle.vcd_reader.specs.declared.vars.Var.{Var}
use Rattle.dump_score.specs.Scoring.{CanSay}

pub front_fits : (vars : List Var) (entries : List Entry) (e : Entry) → AreEntries vars (entries ++ e ∷ []) → AreEntries vars entries
front_fits vars entries e fits = (All-pop (IsEntry vars) (entries ++ e ∷ []) entries (Some e) refl fits).0

last_fits : (vars : List Var) (entries : List Entry) (e : Entry) → AreEntries vars (entries ++ e ∷ []) → IsEntry vars e
last_fits vars entries e fits = (All-pop (IsEntry vars) (entries ++ e ∷ []) entries (Some e) refl fits).1

-- a value that fits its code is as wide as each signal of the code
as_wide : (design : Design) (vars : List Var) (instance : List ℕ) (code : ℕ) (value : Vector) → FitsCode vars code value → (s : ℕ) → code_at (codes_of design vars instance) s ≡ Some code → length value.bits ≡ (signal_of design s).width
as_wide design vars instance code value fits s bound =
    let within = coded_signal design vars instance s (ap is_some bound) in
    let var = found_first vars (signal_of design s).width (names_of design instance s) code (sym (code_is design vars instance s within) ∙ bound) in
    fits.bits var.place var.found var.within (ap (λ (x : Var). x.code) (var.is var.found) ∙ var.code_is) ∙ ap (λ (x : Var). x.size) (var.is var.found) ∙ var.size

-- so it is with the change that a dump says next
pub change_width : (replay : DumpReplay) (code : ℕ) (value : Vector) → CanSay replay (item.Value code value) → (s : ℕ) → code_at (made_of replay.replay).codes s ≡ Some code → length value.bits ≡ (signal_at (made_of replay.replay).design s).width
change_width replay code value (habit, design, points, vars, instance, entries, followed, fits, ordered) s bound =
    as_wide design vars instance code value (last_fits vars entries (Value code value) fits) s (subst (λ cs. code_at cs s ≡ Some code) followed.of.codes bound)
    ∙ ap (λ d. (signal_at d s).width) (sym followed.of.design_is)

-- where the dump goes off there is room for one window more
pub has_room : (replay : DumpReplay) → CanSay replay item.Off → length replay.windows.items < replay.windows.room
has_room replay (habit, design, points, vars, instance, entries, followed, fits, ordered) =
    let on = on_at_off entries [] ordered.in_turn in
    let few = windows_few entries on (ordered_front entries (Off ∷ []) ordered).few in
    subst (λ (q : Queue Window). length q.items < q.room) (sym followed.windows) few
