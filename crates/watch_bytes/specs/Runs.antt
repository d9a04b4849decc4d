-- Calls on the bytes of a watch one after the other, for the claims.
use Rattle.std.specs.Prelude.{ℕ, ◌^◌, ◌<◌, ◌≡◌, List, [], ◌∷◌, map}
use Rattle.format.specs.Refusals.{Result, value}
use Rattle.watch.specs.declared.Watch.{Watch}
use Rattle.watch.specs.Watching.{resets}
use Rattle.watch.specs.Runs as runs
use Rattle.watch.specs.Runs.{Call, hear, check, Said, time_of}
use Rattle.watch_bytes.specs.States.{WatchBytesAfter, hearing, checking}

-- what a call gives by its contract
abbrev pub call_in : List ℕ → Call → WatchBytesAfter
call_in state (hear bus time) = hearing state bus time
call_in state (check time) = checking state time

-- how an answer of the watch is answered on the bytes
abbrev pub as_number : Said → Result ℕ
as_number (runs.heard answer) = answer
as_number (runs.resets a b) = value (resets a b)

-- last times and times handed in are numbers of 32 bits
abbrev pub Fit : Watch → Type 0
Fit watch = (watch.a < 2 ^ 32) × (watch.b < 2 ^ 32)

abbrev pub AllFit : List Call → Type 0
AllFit [] = Unit {0}
AllFit (c ∷ calls) = (time_of c < 2 ^ 32) × AllFit calls

-- each call gets the bytes as the last left them, and what it gives meets its contract
unfoldable pub Chained : List ℕ → List Call → List WatchBytesAfter → Type 0
Chained state [] [] = Unit {0}
Chained state [] (given ∷ givens) = ⊥
Chained state (c ∷ calls) [] = ⊥
Chained state (c ∷ calls) (given ∷ givens) = (given ≡ call_in state c) × Chained given.state calls givens

abbrev pub answers_given : List WatchBytesAfter → List (Result ℕ)
answers_given givens = map (λ given. given.answer) givens

-- the bytes in the end
unfoldable pub last_of : List ℕ → List WatchBytesAfter → List ℕ
last_of state [] = state
last_of state (given ∷ givens) = last_of given.state givens
