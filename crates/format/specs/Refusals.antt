-- Document 01, "Refusal numbers": the table's numbers and names, "Each returns its number", and what an order of refusals means. Document
-- 02 adds 25 (L4). The numbers have gaps.
use Rattle.std.specs.Prelude.{ℕ, Bool, cond, List, [], ◌∷◌}
use Rattle.format.specs.declared.Refusal.{Refusal}
use Rattle.format.specs.declared.Refusal.TheVariants.{
  Length,
  Form,
  Remote,
  Count,
  Piece,
  Orphan,
  Step,
  Long,
  Field,
  Size,
  Index,
  Room,
  Store,
  Taken,
  Full,
  Closed,
  NoPacket,
  Busy,
  Idle,
  NotAwaited,
  State,
  Surplus,
}
use Rattle.std.specs.Prelude.{Ok, Err}
use Rattle.std.specs.declared.result.Result.{Result as CoreResult}

abbrev pub number : Refusal → ℕ
number Length = 1
number Form = 2
number Remote = 3
number Count = 4
number Piece = 5
number Orphan = 6
number Step = 7
number Long = 8
number Field = 9
number Size = 10
number Index = 11
number Room = 12
number Store = 13
number Taken = 14
number Full = 15
number Closed = 16
number NoPacket = 17
number Busy = 18
number Idle = 19
number NotAwaited = 20
number State = 21
number Surplus = 25

-- what a call gives: a value, or a refusal's number
pub data Result (A : Type 0) : Type 0 where
  value : A → Result A
  refused : ℕ → Result A

-- a refusal, and what has to hold for it not to be given
pub data Check : Type 0 where
  check : Refusal → Bool → Check

-- the first check that fails refuses; where all hold, the result is x
unfoldable pub guarded : {A : Type 0} → List Check → A → Result A
guarded [] x = value x
guarded (check name ok ∷ checks) x = cond ok (guarded checks x) (refused (number name))

-- the same before a result of its own, which may be a refusal too
unfoldable pub checked_then : {A : Type 0} → List Check → Result A → Result A
checked_then [] r = r
checked_then (check name ok ∷ checks) r = cond ok (checked_then checks r) (refused (number name))

-- what the code hands back: a value, or a refusal by its name
abbrev pub Returned : Type 0 → Type 0
Returned A = CoreResult A Refusal

-- what the code's answer says
abbrev pub meaning : Returned ℕ → Result ℕ
meaning (Ok n) = value n
meaning (Err name) = refused (number name)
