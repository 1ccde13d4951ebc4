-- Queues of processes that are linked through one list of links.
use Rattle.std.specs.Prelude.{◌≡◌, ◌<◌, ◌^◌, ℕ, zero, suc, Bool, true, Option, None, Some, List, [], ◌∷◌, length, map, nat_lt, slice_index_or}
use Rattle.wake_list.specs.Members.{IsOnce, has}
use Rattle.wake_list.specs.declared.queue.Queue.{Queue}

-- so many processes from one on, each followed by the one that it is linked to
abbrev pub chain : List ℕ → ℕ → ℕ → List ℕ
chain links p zero = []
chain links p (suc n) = p ∷ chain links (slice_index_or links p 0) n

-- the last of a list, or another number where the list is empty
abbrev pub last_of : ℕ → List ℕ → ℕ
last_of p [] = p
last_of p (q ∷ qs) = last_of q qs

-- the list is empty or its last process is this one
abbrev pub EndsAt : ℕ → List ℕ → Type 0
EndsAt p ps = last_of p ps ≡ p

-- the queue of a rank that does not exist
abbrev pub no_queue : Queue
no_queue = record { first = 0; last = 0; count = 0 }

-- the processes of a queue
abbrev pub processes_of : List ℕ → Queue → List ℕ
processes_of links q = chain links q.first q.count

-- the queue has its processes once, ends at its last one, and each of them has its rank in the table
pub record IsQueue (links : List ℕ) (ranks : List (Option ℕ)) (rank : ℕ) (q : Queue) : Type 0 where
  pub once : IsOnce (processes_of links q)
  pub ends : EndsAt q.last (processes_of links q)
  pub ranked : (p : ℕ) → has p (processes_of links q) ≡ true → slice_index_or ranks p None ≡ Some rank

-- the queues of all ranks, the rank of each process that is in one of them, and which ranks are used
pub record AreQueues (links : List ℕ) (ranks : List (Option ℕ)) (used : List Bool) (queues : List Queue) : Type 0 where
  pub small : length links < 2 ^ 32
  pub ranks_size : length ranks ≡ length links
  pub queues_size : length queues ≡ length links
  pub used_is : used ≡ map (λ (q : Queue). nat_lt 0 q.count) queues
  pub queue : (r : ℕ) → r < length queues → IsQueue links ranks r (slice_index_or queues r no_queue)
  pub listed : (p r : ℕ) → slice_index_or ranks p None ≡ Some r → (r < length queues) × (has p (processes_of links (slice_index_or queues r no_queue)) ≡ true)
