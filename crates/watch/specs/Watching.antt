-- Document 01, "Filters, exchanges and watch", last paragraph: "The watch keeps for each bus the last heard time, a free-running
-- 32-bit millisecond count. A new watch sets both to the time given; hearing a bus sets that one's. At a check, the time since is the
-- difference modulo 2^32; at 16,000 or more that bus is to be reset and its last time becomes now." "Refusal numbers": FIELD for a bus
-- out of range.
use Rattle.std.specs.Prelude.{ℕ, ◌+◌, ◌-◌, ◌%◌, ◌^◌, Bool, true, false, cond, [], ◌∷◌, ◌==◌, nat_le}
use Rattle.format.specs.declared.Refusal.TheVariants.{Field}
use Rattle.format.specs.Refusals.{Result, value, refused, check, guarded, meaning}
use Rattle.watch.specs.declared.Watch.{Watch}
use Rattle.watch.specs.declared.Heard.{Heard}
use Rattle.watch.specs.declared.Checked.{Checked}

abbrev pub new_watch : ℕ → Watch
new_watch time = record { a = time; b = time }

-- bus 0 is A, 1 is B
abbrev pub with_last : Watch → ℕ → ℕ → Watch
with_last watch bus time = cond (bus == 0) (record { a = time; b = watch.b }) (record { a = watch.a; b = time })

-- the answer, and the watch handed back
pub record WatchAfter : Type 0 where
  pub answer : Result ℕ
  pub watch : Watch

-- the bus heard gets the time; a refusal hands back the watch handed in
abbrev pub after_hearing : Watch → ℕ → Result ℕ → WatchAfter
after_hearing watch time (value bus) = record { answer = value bus; watch = with_last watch bus time }
after_hearing watch time (refused n) = record { answer = refused n; watch = watch }

unfoldable pub hearing : Watch → ℕ → ℕ → WatchAfter
hearing watch bus time = after_hearing watch time (guarded (check Field (nat_le bus 1) ∷ []) bus)

-- the time since: the difference modulo 2^32
unfoldable pub since : ℕ → ℕ → ℕ
since last time = (time + (2 ^ 32 - last)) % 2 ^ 32

-- at 16,000 or more the bus is to be reset
unfoldable pub silent : ℕ → ℕ → Bool
silent last time = nat_le 16000 (since last time)

-- each bus by itself; the last time of one that is to be reset becomes the time of the check
unfoldable pub checking : Watch → ℕ → Checked
checking watch time =
    let resetA : Bool = silent watch.a time in
    let resetB : Bool = silent watch.b time in
    record { watch = record { a = cond resetA time watch.a; b = cond resetB time watch.b }; a = resetA; b = resetB }

-- which buses are to be reset: 0 none, 1 A, 2 B, 3 both
abbrev pub resets : (a b : Bool) → ℕ
resets false false = 0
resets true false = 1
resets false true = 2
resets true true = 3

-- what the code hands back says
abbrev pub watch_after : Heard → WatchAfter
watch_after r = record { answer = meaning r.answer; watch = r.watch }
