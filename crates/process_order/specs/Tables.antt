-- The tables of a design as plain data.
use Rattle.index_sets.specs.Rows.{row_at}
use Rattle.replay_model.specs.Tables.{Tables}
use Rattle.process_order.specs.declared.tables.ProcessTables.{ProcessTables}

-- the lists of the tables
abbrev pub tables_of : ProcessTables → Tables
tables_of t = record { watched = row_at t.watched; clocked = t.clocked.items; order = t.order.items; last = t.last.items }
