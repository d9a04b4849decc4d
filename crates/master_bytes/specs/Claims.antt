-- What is proved of a master in lent bytes; proofs/Claims.antt and proofs/Runs.antt have the proofs.
use Rattle.std.specs.Prelude.{ℕ, ◌≡◌, ◌≢◌, true, List, map, length, None}
use Rattle.format.specs.Refusals.{value, refused}
use Rattle.master.specs.declared.Master.{Master}
use Rattle.master.specs.Masters.{sound}
use Rattle.master.specs.Exchanges.{Told, done}
use Rattle.master.specs.Runs.{answers, run, latest}
use Rattle.master_bytes.specs.States.{state_bytes, master_in, is_state}
use Rattle.master_bytes.specs.Calls.{MasterBytesAfter, not_state, renew, starting, replying, timing_out}
use Rattle.master_bytes.specs.Runs.{BytesCall, call_of, Chained, answers_given, last_of}

-- the bytes of a master, read back, are the master
unfoldable pub ReadBack : Type 0
ReadBack = (master : Master) → length master.chosen ≡ 64 → master_in (state_bytes master) ≡ master

-- they are bytes of a master
unfoldable pub WrittenIsState : Type 0
WrittenIsState = (master : Master) → length master.chosen ≡ 64 → is_state (state_bytes master) ≡ true

-- bytes of a master, read and written again, are those bytes
unfoldable pub WrittenBack : Type 0
WrittenBack = (state : List ℕ) → is_state state ≡ true → state_bytes (master_in state) ≡ state

-- what holds of each call
abbrev pub EachCall : List ℕ → (MasterBytesAfter Told → Type 0) → Type 0
EachCall state Holds =
    (kind bus node function : ℕ)
    → Holds (starting state kind node) × (Holds (replying state bus node function) × Holds (timing_out state))

-- bytes that no master writes are refused as 21, and stay
unfoldable pub NoMasters : Type 0
NoMasters =
    (state : List ℕ) → ((master : Master) → length master.chosen ≡ 64 → state_bytes master ≢ state)
    → EachCall state (λ given. given ≡ not_state state)

-- Document 01, "Refusal numbers": "Nothing is written and the state handed back is the one handed in"
unfoldable pub RefusedKeeps : Type 0
RefusedKeeps =
    (state : List ℕ) (n : ℕ)
    → ((renew state).answer ≡ refused n → (renew state).state ≡ state)
    × EachCall state (λ given. given.answer ≡ refused n → given.state ≡ state)

-- on the bytes of a sound master, calls one after the other are the run of the master's own: they answer what it answers, and the bytes in
-- the end are those of its master. So what master/specs/Claims says of runs holds of such calls
unfoldable pub AsRun : Type 0
AsRun =
    (master : Master) → sound master ≡ true → (calls : List BytesCall) (givens : List (MasterBytesAfter Told))
    → Chained (state_bytes master) calls givens
    → (answers_given givens ≡ answers master (map call_of calls))
    × (last_of (state_bytes master) givens ≡ state_bytes (run master (map call_of calls)))

-- the master's LateReply, so carried over: after such calls on a master that had no exchange, a reply on another bus than that of the
-- latest send is not "done", and leaves every byte
unfoldable pub LateReplyOnBytes : Type 0
LateReplyOnBytes =
    (master : Master) → sound master ≡ true → master.activity ≡ None → (calls : List BytesCall) (givens : List (MasterBytesAfter Told))
    → Chained (state_bytes master) calls givens
    → (bus node function none : ℕ) → bus ≢ latest none (answers_given givens)
    → let last = last_of (state_bytes master) givens in
    ((replying last bus node function).answer ≢ value done) × ((replying last bus node function).state ≡ last)
