-- Calls on a watch one after another, for the claims: what they answer, the watch that they end with, and for each bus the time of the
-- latest call that set its last time.
use Rattle.std.specs.Prelude.{ℕ, Bool, false, cond, List, [], ◌∷◌, ◌==◌}
use Rattle.format.specs.Refusals.{Result, value, refused}
use Rattle.watch.specs.declared.Watch.{Watch}
use Rattle.watch.specs.Watching.{hearing, checking}

pub data Call : Type 0 where
  hear : (bus time : ℕ) → Call
  check : (time : ℕ) → Call

-- what a call answers: the bus heard, or a refusal; or whether bus A and bus B are to be reset
pub data Said : Type 0 where
  heard : Result ℕ → Said
  resets : (a b : Bool) → Said

-- the answer, and the watch handed back
pub record Called : Type 0 where
  pub answer : Said
  pub watch : Watch

abbrev pub call : Watch → Call → Called
call watch (hear bus time) = record { answer = heard (hearing watch bus time).answer; watch = (hearing watch bus time).watch }
call watch (check time) =
    record { answer = resets (checking watch time).a (checking watch time).b; watch = (checking watch time).watch }

-- each call gets the watch that the last handed back
abbrev pub answers : Watch → List Call → List Said
answers watch [] = []
answers watch (c ∷ calls) = (call watch c).answer ∷ answers (call watch c).watch calls

abbrev pub run : Watch → List Call → Watch
run watch [] = watch
run watch (c ∷ calls) = run (call watch c).watch calls

abbrev pub time_of : Call → ℕ
time_of (hear bus time) = time
time_of (check time) = time

-- whether an answer says that bus A was heard or is to be reset; then bus B
abbrev pub sets_a : Said → Bool
sets_a (heard (value bus)) = bus == 0
sets_a (heard (refused n)) = false
sets_a (resets a b) = a

abbrev pub sets_b : Said → Bool
sets_b (heard (value bus)) = bus == 1
sets_b (heard (refused n)) = false
sets_b (resets a b) = b

-- the time of the latest call whose answer says so, or the time given where none does
abbrev pub latest_time : (Said → Bool) → ℕ → List Call → List Said → ℕ
latest_time sets last [] said = last
latest_time sets last (c ∷ calls) [] = last
latest_time sets last (c ∷ calls) (answer ∷ said) = latest_time sets (cond (sets answer) (time_of c) last) calls said
