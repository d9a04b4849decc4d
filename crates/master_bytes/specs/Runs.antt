-- Calls on the bytes of a master one after the other, for the claims.
use Rattle.std.specs.Prelude.{ℕ, ◌≡◌, cond, List, [], ◌∷◌, map}
use Rattle.format.specs.Refusals.{Result}
use Rattle.master.specs.Exchanges.{Told}
use Rattle.master.specs.Runs as runs
use Rattle.master_bytes.specs.States.{kind_of}
use Rattle.master_bytes.specs.Calls.{MasterBytesAfter, is_kind, starting, replying, timing_out}

-- a call as it is made on the bytes: the kind is a number
pub data BytesCall : Type 0 where
  start : (kind node : ℕ) → BytesCall
  reply : (bus node function : ℕ) → BytesCall
  timeout : BytesCall

-- what it gives by its contract
abbrev pub call_in : List ℕ → BytesCall → MasterBytesAfter Told
call_in state (start kind node) = starting state kind node
call_in state (reply bus node function) = replying state bus node function
call_in state timeout = timing_out state

-- the master's own call that it is. A number that is no kind's is refused as node 64 is: FIELD, after STATE and before BUSY
abbrev pub call_of : BytesCall → runs.Call
call_of (start kind node) = runs.start (kind_of kind) (cond (is_kind kind) node 64)
call_of (reply bus node function) = runs.reply bus node function
call_of timeout = runs.timeout

-- each call gets the bytes as the last left them, and what it gives meets its contract
unfoldable pub Chained : List ℕ → List BytesCall → List (MasterBytesAfter Told) → Type 0
Chained state [] [] = Unit {0}
Chained state [] (given ∷ givens) = ⊥
Chained state (c ∷ calls) [] = ⊥
Chained state (c ∷ calls) (given ∷ givens) = (given ≡ call_in state c) × Chained given.state calls givens

abbrev pub answers_given : List (MasterBytesAfter Told) → List (Result Told)
answers_given givens = map (λ given. given.answer) givens

-- the bytes in the end
unfoldable pub last_of : List ℕ → List (MasterBytesAfter Told) → List ℕ
last_of state [] = state
last_of state (given ∷ givens) = last_of given.state givens
