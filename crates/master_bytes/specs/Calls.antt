-- The calls on a master whose state is in lent bytes. Each is the master's own, on the master that the bytes are: its answer, and the
-- bytes of the master that it hands back. Document 01, "Refusal numbers", 21: "station or master handed in not sound". The call itself
-- refuses a master that is not sound; bytes that no master writes are refused likewise, before all else, and stay.
use Rattle.std.specs.Prelude.{ℕ, Bool, cond, List, [], ◌∷◌, leb, eqb, length}
use Rattle.format.specs.declared.Refusal.TheVariants.{Field, State}
use Rattle.format.specs.Refusals.{Returned, Result, value, refused, number, check, guarded}
use Rattle.format.specs.Refusals as refusals
use Rattle.format.specs.Tests.{all_true}
use Rattle.master.specs.declared.Kind.{Kind}
use Rattle.master.specs.declared.Master.{Master}
use Rattle.master.specs.declared.Answer.{Answer}
use Rattle.master.specs.Masters.{new_master, sound}
use Rattle.master.specs.Exchanges as exchanges
use Rattle.master_bytes.specs.States.{state_bytes, master_in, is_state, kind_of}

-- the answer, and the lent bytes afterwards
pub record MasterBytesAfter (A : Type 0) : Type 0 where
  pub answer : Result A
  pub state : List ℕ

-- what a call on the master gives, the next master as bytes
abbrev pub moved_in_bytes : exchanges.MasterAfter → MasterBytesAfter exchanges.Told
moved_in_bytes given = record { answer = given.answer; state = state_bytes given.master }

-- bytes that are no master's are refused and stay
abbrev pub not_state : {A : Type 0} → List ℕ → MasterBytesAfter A
not_state state = record { answer = refused (number State); state = state }

-- any 68 bytes become a new master's; the answer is 0
unfoldable pub renew : List ℕ → MasterBytesAfter ℕ
renew state = cond (eqb (length state) 68) (record { answer = value 0; state = state_bytes new_master }) (not_state state)

abbrev pub on_state : List ℕ → exchanges.MasterAfter → MasterBytesAfter exchanges.Told
on_state state given = cond (is_state state) (moved_in_bytes given) (not_state state)

-- a kind is handed in as its number
abbrev pub is_kind : ℕ → Bool
is_kind n = all_true (leb 1 n ∷ leb n 3 ∷ [])

-- FIELD: a number that is no kind's; as for every field, after STATE and before BUSY
abbrev pub kind_handed_in : Master → ℕ → Result Kind
kind_handed_in master n = guarded (check State (sound master) ∷ check Field (is_kind n) ∷ []) (kind_of n)

abbrev pub starting_as : Master → (node : ℕ) → Result Kind → exchanges.MasterAfter
starting_as master node (value kind) = exchanges.starting master kind node
starting_as master node (refused n) = record { answer = refused n; master = master }

unfoldable pub starting : List ℕ → (kind node : ℕ) → MasterBytesAfter exchanges.Told
starting state kind node = on_state state (starting_as (master_in state) node (kind_handed_in (master_in state) kind))

unfoldable pub replying : List ℕ → (bus node function : ℕ) → MasterBytesAfter exchanges.Told
replying state bus node function = on_state state (exchanges.replying (master_in state) bus node function)

unfoldable pub timing_out : List ℕ → MasterBytesAfter exchanges.Told
timing_out state = on_state state (exchanges.timing_out (master_in state))

-- what the code's answer says, and the bytes afterwards
abbrev pub renew_after : Returned ℕ → List ℕ → MasterBytesAfter ℕ
renew_after r state = record { answer = refusals.meaning r; state = state }

abbrev pub master_bytes_after : Returned Answer → List ℕ → MasterBytesAfter exchanges.Told
master_bytes_after r state = record { answer = exchanges.meaning r; state = state }
