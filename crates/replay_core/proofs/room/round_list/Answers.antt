use Rattle.std.proofs.Common.{◌≡◌, length, map, arith}
use Rattle.std.proofs.lemmas.List.{length-map}
use Rattle.design_model.specs.View.{design_view, process_view}
use Rattle.body_store.proofs.Lawful.{premises}
use Rattle.replay_core.proofs.room.round_list.Goals as goal

pub overflow_add-things : goal.overflow_add-things
overflow_add-things c =
    let few = premises (design_view c.args.design.now) c.requires in
    omega (arith, c.len.ensures, c.len-2.ensures, few.few_signals, few.few_memories)

pub overflow_add-count : goal.overflow_add-count
overflow_add-count c =
    let few = premises (design_view c.args.design.now) c.requires in
    let size : length (map process_view c.args.design.now.processes) ≡ length c.args.design.now.processes = length-map c.args.design.now.processes process_view in
    omega (arith, c.len.ensures, c.len-2.ensures, c.len-3.ensures, size, few.few_signals, few.few_memories, c.requires.few_processes)

pub overflow_add-count-2 : goal.overflow_add-count-2
overflow_add-count-2 c =
    let few = premises (design_view c.args.design.now) c.requires in
    let size : length (map process_view c.args.design.now.processes) ≡ length c.args.design.now.processes = length-map c.args.design.now.processes process_view in
    omega (arith, c.len.ensures, c.len-2.ensures, c.len-3.ensures, size, few.few_signals, few.few_memories, c.requires.few_processes)

pub overflow_cast-count : goal.overflow_cast-count
overflow_cast-count c =
    let few = premises (design_view c.args.design.now) c.requires in
    let size : length (map process_view c.args.design.now.processes) ≡ length c.args.design.now.processes = length-map c.args.design.now.processes process_view in
    omega (arith, c.len.ensures, c.len-2.ensures, c.len-3.ensures, size, few.few_signals, few.few_memories, c.requires.few_processes)
