-- What is proved of the watch; proofs/Claims.antt has the proofs.
use Rattle.std.specs.Prelude.{◌≡◌, ℕ, ◌+◌, ◌-◌, ◌%◌, ◌^◌, ◌<◌, ◌≤◌, true, false, List}
use Rattle.format.specs.Refusals.{value, refused}
use Rattle.watch.specs.declared.Watch.{Watch}
use Rattle.watch.specs.Watching.{new_watch, hearing, since, silent, checking}
use Rattle.watch.specs.Runs.{Call, answers, run, sets_a, sets_b, latest_time}

-- Document 01, "Refusal numbers": "the state handed back is the one handed in". Hearing is the one call that refuses
unfoldable pub RefusedKeeps : Type 0
RefusedKeeps = (watch : Watch) (bus time n : ℕ) → (hearing watch bus time).answer ≡ refused n → (hearing watch bus time).watch ≡ watch

-- nor does a check change anything where no bus is to be reset
unfoldable pub NoResetKeeps : Type 0
NoResetKeeps =
    (watch : Watch) (time : ℕ) → (checking watch time).a ≡ false → (checking watch time).b ≡ false → (checking watch time).watch ≡ watch

-- "hearing a bus sets that one's [..] that bus is to be reset and its last time becomes now": after any calls, the last time of a bus is
-- that of the latest call that heard it or had it reset, or the one it had before them
unfoldable pub LastTimes : Type 0
LastTimes =
    (watch : Watch) (calls : List Call)
    → let said = answers watch calls in
    run watch calls ≡ record { a = latest_time sets_a watch.a calls said; b = latest_time sets_b watch.b calls said }

-- Document 01, "Filters, exchanges and watch": "a free-running 32-bit millisecond count" and "the time since is the difference
-- modulo 2^32". The time since is what elapsed, also where the count runs over.
unfoldable pub SinceElapsed : Type 0
SinceElapsed = (last elapsed : ℕ) → last < 2 ^ 32 → elapsed < 2 ^ 32 → since last ((last + elapsed) % 2 ^ 32) ≡ elapsed

-- the same paragraph: "A clock 1 to 2^32 - 16,000 ms behind the last time reads as a long silence."
unfoldable pub ClockBehind : Type 0
ClockBehind =
    (last behind : ℕ) → last < 2 ^ 32 → 1 ≤ behind → behind ≤ 2 ^ 32 - 16000 → silent last ((last + (2 ^ 32 - behind)) % 2 ^ 32) ≡ true

-- Examples: document 01's own ("Examples to hold against the rules"), and each other bound
pub record Examples : Type 0 where
  -- "Silence 15,999: no reset; 16,000: reset", whatever the last time is
  pub unheard_15999 : (last : ℕ) → last < 2 ^ 32 → silent last ((last + 15999) % 2 ^ 32) ≡ false
  pub unheard_16000 : (last : ℕ) → last < 2 ^ 32 → silent last ((last + 16000) % 2 ^ 32) ≡ true
  -- "Last 4,294,967,000, now 15,704: reset." A clock 2^32 - 16,000 ms behind, and one more; 1 ms behind, and none
  pub silences : (silent 4294967000 15704 ≡ true)
      × (silent 4294951296 0 ≡ true)
      × (silent 4294951297 0 ≡ false)
      × (silent 1 0 ≡ true)
      × (silent 0 0 ≡ false)
  -- FIELD: a bus over 1
  pub heard : (hearing (new_watch 5) 0 7 ≡ record { answer = value 0; watch = record { a = 7; b = 5 } })
      × (hearing (new_watch 5) 1 7 ≡ record { answer = value 1; watch = record { a = 5; b = 7 } })
      × (hearing (new_watch 5) 2 7 ≡ record { answer = refused 9; watch = new_watch 5 })
  -- one of two buses is silent, A or B; or both at one check
  pub checked : (checking (record { a = 0; b = 1 }) 16000 ≡ record { watch = record { a = 16000; b = 1 }; a = true; b = false })
      × (checking (record { a = 1; b = 0 }) 16000 ≡ record { watch = record { a = 1; b = 16000 }; a = false; b = true })
      × (checking (record { a = 0; b = 1 }) 16001 ≡ record { watch = record { a = 16001; b = 16001 }; a = true; b = true })
