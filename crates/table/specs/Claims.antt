-- What is promised of the second front. Each claim is about whatever meets the contract of `table::receive`. `AsFirst`, `OneGiven`,
-- `OneRecord`, `NotSound`, `OtherLength` and `RefusedKeeps` are of one call, `OnTable`, `AsRun`, `Demand3OnCalls` and `RoundTripOnCalls` of
-- runs. Proofs: proofs/Fronts.antt.
use Rattle.std.specs.Prelude.{ℕ, ◌≡◌, ◌≢◌, true, false, List, [], ◌∷◌, length}
use Rattle.format.specs.declared.Format.{Format}
use Rattle.format.specs.declared.Refusal.TheVariants.{State}
use Rattle.format.specs.Refusals.{Result, refused, number, Returned}
use Rattle.stream.specs.declared.Answer.{Answer}
use Rattle.stream.specs.Answers.{Reply, meaning}
use Rattle.slot.specs.declared.Slot.{Slot}
use Rattle.slot.specs.Slots.{slot_at}
use Rattle.slot.specs.Sound.{sound}
use Rattle.station.specs.declared.Station.{Station}
use Rattle.station.specs.declared.HandedBack.{HandedBack}
use Rattle.station.specs.Stations.{station_of, full_size}
use Rattle.station.specs.Receive.{receive, concerned, after}
use Rattle.station.specs.Run.{Call, Ran, Front, run}
use Rattle.station.specs.Demands.{Demand3From, Demand3On, RoundTripFrom, RoundTripOn, left_by}
use Rattle.table.specs.Front.{after_in}

-- what a call gives: what its answer says, and the table and the store afterwards
pub record Given : Type 0 where
  pub answer : Result Reply
  pub table : List Slot
  pub store : List ℕ

-- the contract
abbrev pub Meets : Format → List Slot → List ℕ → (bus : ℕ) → List ℕ → Given → Type 0
Meets format table store bus image given =
    after_in format given.answer given.table given.store ≡ receive (station_of format table) store bus image

-- ---- one call

-- "it answers as the first"; the table afterwards is the slots of the station that the first hands back, and the store is the same
unfoldable pub AsFirst : Type 0
AsFirst =
    (station : Station) (store : List ℕ) (bus : ℕ) (image : List ℕ)
    → (first : HandedBack Answer) (last : List ℕ) → after first last ≡ receive station store bus image
    → (answer : Returned Answer) (table : List Slot) (other : List ℕ)
    → Meets station.format station.slots store bus image (record { answer = meaning answer; table = table; store = other })
    → (answer ≡ first.answer) × (table ≡ first.station.slots) × (other ≡ last)

-- the answer, the table and the store afterwards are determined
unfoldable pub OneGiven : Type 0
OneGiven =
    (format : Format) (table : List Slot) (store : List ℕ) (bus : ℕ) (image : List ℕ) (given other : Given)
    → Meets format table store bus image given → Meets format table store bus image other → given ≡ other

-- "updates the one record concerned": every other stays. In a table of another length all stay (OtherLength)
unfoldable pub OneRecord : Type 0
OneRecord =
    (format : Format) (table : List Slot) (store : List ℕ) (bus : ℕ) (image : List ℕ) (given : Given)
    → Meets format table store bus image given
    → (i : ℕ) → i ≢ concerned (station_of format table) store bus image → slot_at given.table i ≡ slot_at table i

-- 21, and nothing changes: what a table that is not sound is given, and "a table of any other length"
abbrev pub Refuses : Format → List Slot → Type 0
Refuses format table =
    (store : List ℕ) (bus : ℕ) (image : List ℕ) (given : Given) → Meets format table store bus image given
    → given ≡ record { answer = refused (number State); table = table; store = store }

unfoldable pub NotSound : Type 0
NotSound = (format : Format) (table : List Slot) → sound format table ≡ false → Refuses format table

unfoldable pub OtherLength : Type 0
OtherLength = (format : Format) (table : List Slot) → length table ≢ 16 → Refuses format table

-- "Nothing is written and the state handed back is the one handed in, except the idle slot after 7 and 8": of a table of any length
unfoldable pub RefusedKeeps : Type 0
RefusedKeeps =
    (format : Format) (table : List Slot) (store : List ℕ) (bus : ℕ) (image : List ℕ) (given : Given) (n : ℕ)
    → Meets format table store bus image given → given.answer ≡ refused n
    → given
    ≡ record {
      answer = refused n;
      table = (left_by n (station_of format table) (concerned (station_of format table) store bus image)).slots;
      store = store;
    }

-- ---- runs

-- what calls of the second front give, each for its arguments
abbrev pub Second : Type 0
Second = Format → List Slot → List ℕ → (bus : ℕ) → List ℕ → Given

-- each call meets the contract. The arguments are lists of any numbers, as those of `receive` are; the code meets it where they are
-- bytes, and there it gives what this function gives (OneGiven)
unfoldable pub AlwaysMeets : Second → Type 0
AlwaysMeets second =
    (format : Format) (table : List Slot) (store : List ℕ) (bus : ℕ) (image : List ℕ)
    → Meets format table store bus image (second format table store bus image)

-- a run on it is a run on a front whose station is the format and the table: each call gets the table and the store as the last
-- left them
abbrev pub on_table : Second → Front
on_table second station store bus image =
    let given = second station.format station.slots store bus image in
    after_in station.format given.answer given.table given.store

-- demand 3, and the last sentence of demand 2, hold of runs on it as of runs on the first
pub record OnTable : Type 0 where
  pub demand3 : (second : Second) → AlwaysMeets second → Demand3On (on_table second)
  pub round_trip : (second : Second) → AlwaysMeets second → RoundTripOn (on_table second)
  -- and the premise can be met
  pub second : Second
  pub meets : AlwaysMeets second

-- the same seen from the code: calls one after the other, each given the table and the store that the last left, where each meets
-- the contract at its own arguments
unfoldable pub Chained : Format → List Slot → List ℕ → List Call → List Given → Type 0
Chained format table store [] [] = Unit {0}
Chained format table store [] (given ∷ givens) = ⊥
Chained format table store (call ∷ calls) [] = ⊥
Chained format table store (call ∷ calls) (given ∷ givens) =
    Meets format table store call.bus call.image given × Chained format given.table given.store calls givens

-- the answers given, and the table and the store in the end
unfoldable pub ended : Format → List Slot → List ℕ → List Given → Ran
ended format table store [] = record { answers = []; station = station_of format table; store = store }
ended format table store (given ∷ givens) =
    let rest = ended format given.table given.store givens in
    record { answers = given.answer ∷ rest.answers; station = rest.station; store = rest.store }

-- calls that end so
pub record CallsEnd (format : Format) (table : List Slot) (store : List ℕ) (calls : List Call) (ran : Ran) : Type 0 where
  pub givens : List Given
  pub chained : Chained format table store calls givens
  pub ends : ended format table store givens ≡ ran

-- they end as the run on the first front does
unfoldable pub AsRun : Type 0
AsRun =
    (format : Format) (table : List Slot) (store : List ℕ) (calls : List Call) (ran : Ran) → CallsEnd format table store calls ran
    → run (station_of format table) store calls ≡ ran

-- so demand 3, and the last sentence of demand 2, hold of such calls, for every sound table and full-size store
unfoldable pub Demand3OnCalls : Type 0
Demand3OnCalls =
    (format : Format) (table : List Slot) (store : List ℕ) → sound format table ≡ true → full_size store ≡ true
    → Demand3From (station_of format table) store (CallsEnd format table store)

unfoldable pub RoundTripOnCalls : Type 0
RoundTripOnCalls =
    (format : Format) (table : List Slot) (store : List ℕ) → sound format table ≡ true → full_size store ≡ true
    → RoundTripFrom (station_of format table) store (CallsEnd format table store)
