-- Document 01, "Filters, exchanges and watch", last paragraph: "The watch keeps for each bus the last heard time, a free-running
-- 32-bit millisecond count. A new watch sets both to the time given; hearing a bus sets that one's. At a check [..] that bus is to be
-- reset and its last time becomes now." Here the watch is in 9 bytes that a caller lends: the last heard time of bus A, then that of
-- bus B, each four bytes, low byte first (Words), last the number of this layout. Any other number of bytes, or another layout, is no
-- watch's: it is refused as 21 (STATE), before all else, and the bytes stay.
use Rattle.std.specs.Prelude.{ℕ, Bool, cond, List, [], ◌∷◌, ◌++◌, eqb, length, get_or}
use Rattle.format.specs.declared.Refusal.TheVariants.{State}
use Rattle.format.specs.Refusals.{Returned}
use Rattle.format.specs.Refusals.{Result, value, refused, number, meaning}
use Rattle.format.specs.Tests.{all_true}
use Rattle.words.specs.Words.{word_bytes, word_at}
use Rattle.watch.specs.declared.Watch.{Watch}
use Rattle.watch.specs.declared.Checked.{Checked}
use Rattle.watch.specs.Watching as watching
pub use Rattle.watch.specs.Watching.{resets}

-- a release that writes other bytes for a watch gives them another number
abbrev pub layout_number : ℕ
layout_number = 1

-- the bytes of a watch
unfoldable pub state_bytes : Watch → List ℕ
state_bytes watch = word_bytes watch.a ++ (word_bytes watch.b ++ (layout_number ∷ []))

-- the watch in its bytes
unfoldable pub watch_in : List ℕ → Watch
watch_in state = record { a = word_at state 0; b = word_at state 4 }

-- whether bytes are a watch's
unfoldable pub is_state : List ℕ → Bool
is_state state = all_true (eqb (length state) 9 ∷ eqb (get_or state 8 0) layout_number ∷ [])

-- the answer, and the lent bytes afterwards
pub record WatchBytesAfter : Type 0 where
  pub answer : Result ℕ
  pub state : List ℕ

-- what a call on the watch gives, the next watch as bytes
abbrev pub heard_in_bytes : watching.WatchAfter → WatchBytesAfter
heard_in_bytes given = record { answer = given.answer; state = state_bytes given.watch }

-- bytes that are no watch's are refused and stay
abbrev pub not_state : List ℕ → WatchBytesAfter
not_state state = record { answer = refused (number State); state = state }

abbrev pub on_state : List ℕ → WatchBytesAfter → WatchBytesAfter
on_state state given = cond (is_state state) given (not_state state)

-- any 9 bytes become a new watch's; the answer is 0
unfoldable pub renew : List ℕ → (time : ℕ) → WatchBytesAfter
renew state time =
    cond (eqb (length state) 9) (record { answer = value 0; state = state_bytes (watching.new_watch time) }) (not_state state)

unfoldable pub hearing : List ℕ → (bus time : ℕ) → WatchBytesAfter
hearing state bus time = on_state state (heard_in_bytes (watching.hearing (watch_in state) bus time))

abbrev pub checked_in_bytes : Checked → WatchBytesAfter
checked_in_bytes given = record { answer = value (resets given.a given.b); state = state_bytes given.watch }

unfoldable pub checking : List ℕ → (time : ℕ) → WatchBytesAfter
checking state time = on_state state (checked_in_bytes (watching.checking (watch_in state) time))

-- what the code's answer says, and the bytes afterwards
abbrev pub watch_bytes_after : Returned ℕ → List ℕ → WatchBytesAfter
watch_bytes_after r state = record { answer = meaning r; state = state }
