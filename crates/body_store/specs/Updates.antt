-- The updates that nonblocking assignments have queued.
use Rattle.std.specs.Prelude.{ℕ, ◌==◌, ◌&&◌, nat_le, nat_lt, Bool, true, List, [], ◌∷◌, ◌++◌, length}
use Rattle.design_model.specs.Design.{Design, is_memory, memory_at, signal_at}
use Rattle.body_calls.specs.body_replay.Store.{KnownWrite}
use Rattle.body_calls.specs.Lvalues.{if_certain, lvalue_writes}
use Rattle.body_calls.specs.declared.lvalue.Lvalue.{Lvalue}
use Rattle.body_calls.specs.declared.lvalue.Lvalue.TheVariants.{Part, Signal as Whole, Word}
use Rattle.body_store.specs.declared.update.Update.{Update}

-- the writes of an update
abbrev pub update_writes : Design → Update → List KnownWrite
update_writes d u = if_certain u.certain (lvalue_writes d u.to u.value.bits)

-- the writes of updates, in order
abbrev pub queued_writes : Design → List Update → List KnownWrite
queued_writes d [] = []
queued_writes d (u ∷ us) = update_writes d u ++ queued_writes d us

-- whether it names a signal or memory of the design, and takes so many bits
abbrev pub takes : Design → Lvalue → ℕ → Bool
takes d (Whole s) n = nat_lt s (length d.signals) && (n == (signal_at d s).width)
takes d (Part s low) n = nat_lt s (length d.signals) && nat_le 1 n
takes d (Word m i) n = is_memory d m && (n == (memory_at d m).width)

-- whether each update does
abbrev pub are_taken : Design → List Update → Bool
are_taken d [] = true
are_taken d (u ∷ us) = takes d u.to (length u.value.bits) && are_taken d us
