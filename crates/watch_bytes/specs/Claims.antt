-- What is proved of a watch in lent bytes; proofs/Claims.antt and proofs/Runs.antt have the proofs.
use Rattle.std.specs.Prelude.{ℕ, ◌^◌, ◌<◌, ◌≡◌, ◌≢◌, true, List, [], ◌∷◌, ◌++◌, map, replicate}
use Rattle.format.specs.Refusals.{value, refused}
use Rattle.frame.specs.Claims.{Bytes}
use Rattle.watch.specs.declared.Watch.{Watch}
use Rattle.watch.specs.Runs.{Call, answers, run, sets_a, sets_b, latest_time}
use Rattle.watch_bytes.specs.States.{WatchBytesAfter, state_bytes, watch_in, is_state, not_state, renew, hearing, checking}
use Rattle.watch_bytes.specs.Runs.{as_number, Fit, AllFit, Chained, answers_given, last_of}

-- the bytes of a watch, read back, are the watch: its times are numbers of 32 bits
unfoldable pub ReadBack : Type 0
ReadBack = (watch : Watch) → watch.a < 2 ^ 32 → watch.b < 2 ^ 32 → watch_in (state_bytes watch) ≡ watch

-- the bytes of a watch are bytes of a watch
unfoldable pub WrittenIsState : Type 0
WrittenIsState = (watch : Watch) → is_state (state_bytes watch) ≡ true

-- bytes of a watch, read and written again, are those bytes
unfoldable pub WrittenBack : Type 0
WrittenBack = (state : List ℕ) → Bytes state → is_state state ≡ true → state_bytes (watch_in state) ≡ state

-- bytes that no watch writes are refused as 21, and stay
unfoldable pub NoWatches : Type 0
NoWatches =
    (state : List ℕ) → Bytes state → ((watch : Watch) → state_bytes watch ≢ state) → (bus time : ℕ)
    → (hearing state bus time ≡ not_state state) × (checking state time ≡ not_state state)

-- Document 01, "Refusal numbers": "Nothing is written and the state handed back is the one handed in"
unfoldable pub RefusedKeeps : Type 0
RefusedKeeps =
    (state : List ℕ) → Bytes state → (bus time n : ℕ)
    → ((renew state time).answer ≡ refused n → (renew state time).state ≡ state)
    × ((hearing state bus time).answer ≡ refused n → (hearing state bus time).state ≡ state)
    × ((checking state time).answer ≡ refused n → (checking state time).state ≡ state)

-- on the bytes of a watch, calls one after the other are the run of the watch's own: they answer what it answers, and the bytes in the end
-- are those of its watch
unfoldable pub AsRun : Type 0
AsRun =
    (watch : Watch) → Fit watch → (calls : List Call) → AllFit calls → (givens : List WatchBytesAfter)
    → Chained (state_bytes watch) calls givens
    → (answers_given givens ≡ map as_number (answers watch calls)) × (last_of (state_bytes watch) givens ≡ state_bytes (run watch calls))

-- the watch's LastTimes, so carried over: in the end the bytes have for each bus the time of the latest call that heard it or had it reset
unfoldable pub LastTimesOnBytes : Type 0
LastTimesOnBytes =
    (watch : Watch) → Fit watch → (calls : List Call) → AllFit calls → (givens : List WatchBytesAfter)
    → Chained (state_bytes watch) calls givens
    → let said = answers watch calls in
    watch_in (last_of (state_bytes watch) givens)
    ≡ record { a = latest_time sets_a watch.a calls said; b = latest_time sets_b watch.b calls said }

-- eight bytes of times, then the layout's number
abbrev laid_out : (layout : ℕ) → List ℕ → List ℕ
laid_out layout times = times ++ (layout ∷ [])

abbrev bytes : List ℕ → List ℕ
bytes = laid_out 1

-- examples that hold the layout of the bytes and the calls on them to each of their bounds
pub record Examples : Type 0 where
  -- 9 bytes, no fewer and no more; STATE comes before FIELD
  pub lengths : (renew (replicate 8 9) 0 ≡ record { answer = refused 21; state = replicate 8 9 })
      × (renew (replicate 10 9) 0 ≡ record { answer = refused 21; state = replicate 10 9 })
      × (hearing (replicate 8 1) 2 0 ≡ record { answer = refused 21; state = replicate 8 1 })
      × (hearing (replicate 10 1) 2 0 ≡ record { answer = refused 21; state = replicate 10 1 })
      × (checking (replicate 8 1) 16001 ≡ record { answer = refused 21; state = replicate 8 1 })
      × (checking (replicate 10 1) 16001 ≡ record { answer = refused 21; state = replicate 10 1 })
  -- the layout's number is 1: bytes of no layout, all 0, are no watch's
  pub layouts : (hearing (laid_out 0 (replicate 8 0)) 0 7 ≡ record { answer = refused 21; state = replicate 9 0 })
      × (hearing (laid_out 2 (replicate 8 0)) 0 7 ≡ record { answer = refused 21; state = laid_out 2 (replicate 8 0) })
      × (checking (laid_out 0 (replicate 8 0)) 16000 ≡ record { answer = refused 21; state = replicate 9 0 })
      × (checking (laid_out 255 (replicate 8 0)) 16000 ≡ record { answer = refused 21; state = laid_out 255 (replicate 8 0) })
  -- low byte first, bus A first. FIELD: a bus over 1
  pub times : (renew (replicate 9 9) 0x04030201 ≡ record { answer = value 0; state = 1 ∷ 2 ∷ 3 ∷ 4 ∷ 1 ∷ 2 ∷ 3 ∷ 4 ∷ 1 ∷ [] })
      × (hearing (bytes (replicate 8 0)) 0 0x04030201 ≡ record { answer = value 0; state = bytes (1 ∷ 2 ∷ 3 ∷ 4 ∷ 0 ∷ 0 ∷ 0 ∷ 0 ∷ []) })
      × (hearing (bytes (replicate 8 0)) 1 0x04030201 ≡ record { answer = value 1; state = bytes (0 ∷ 0 ∷ 0 ∷ 0 ∷ 1 ∷ 2 ∷ 3 ∷ 4 ∷ []) })
      × (hearing (bytes (replicate 8 0)) 2 0 ≡ record { answer = refused 9; state = bytes (replicate 8 0) })
  -- a check answers 0 for none, 1 for A, 2 for B, 3 for both; 16,000 is 62 times 256 and 128
  pub checks : (checking (bytes (replicate 8 0)) 15999 ≡ record { answer = value 0; state = bytes (replicate 8 0) })
      × (checking (bytes (0 ∷ 0 ∷ 0 ∷ 0 ∷ 1 ∷ 0 ∷ 0 ∷ 0 ∷ [])) 16000
      ≡ record { answer = value 1; state = bytes (128 ∷ 62 ∷ 0 ∷ 0 ∷ 1 ∷ 0 ∷ 0 ∷ 0 ∷ []) })
      × (checking (bytes (1 ∷ 0 ∷ 0 ∷ 0 ∷ 0 ∷ 0 ∷ 0 ∷ 0 ∷ [])) 16000
      ≡ record { answer = value 2; state = bytes (1 ∷ 0 ∷ 0 ∷ 0 ∷ 128 ∷ 62 ∷ 0 ∷ 0 ∷ []) })
      × (checking (bytes (replicate 8 0)) 16000 ≡ record { answer = value 3; state = bytes (128 ∷ 62 ∷ 0 ∷ 0 ∷ 128 ∷ 62 ∷ 0 ∷ 0 ∷ []) })
