-- The two fronts meet one definition, so that whatever holds of calls and runs on the first holds on the second (`on_table_lem`): it is carried
-- over, with no induction over calls. `chained` has the only one, by which calls one after the other are a run.
use Prim.Native.Nat.{ℕ}
use mathlib.Core.Path.{◌≡◌, refl, sym, ap, ◌∙◌, subst}
use mathlib.Core.Logic.{◌≢◌}
use mathlib.Core.Bool.{Bool, true, false, cond}
use mathlib.Core.List.{List, [], ◌∷◌}
use lib.Dec.{ltb}
use lib.Seq.{get_or-set_other}
use Rattle.format.specs.declared.Format.{Format}
use Rattle.format.specs.declared.Refusal.TheVariants.{State}
use Rattle.format.specs.Refusals.{Result, value, refused, number}
use Rattle.frame.specs.Judge.{Frame, Judged}
use Rattle.stream.specs.Answers.{filtered}
use Rattle.stream.specs.Claims.{OneAnswer}
use Rattle.stream.proofs.Answers.{one_answer}
use Rattle.slot.specs.declared.Key.{Key}
use Rattle.slot.specs.declared.Slot.{Slot}
use Rattle.slot.specs.Slots.{closed_slot, slot_at, has_key, place}
use Rattle.station.specs.Stations.{station_of}
use Rattle.station.specs.Receive.{After, unchanged, key_of, judged_as, let_in, deliver, step_at, receive, concerned_by, concerned}
use Rattle.station.specs.Run.{Call, Ran, run_on, run}
use Rattle.station.specs.Demands.{Demand3On, RoundTripOn}
use Rattle.station.proofs.Isolation.{demand3, demand3_of}
use Rattle.station.proofs.RoundTrip.{round_trip_lem, round_trip_of}
use Rattle.station.proofs.Refusals.{refused_keeps as refusals}
use Rattle.table.specs.Front.{after_in}
use Rattle.table.specs.Claims.{Given, AsFirst, OneGiven, OneRecord, NotSound, OtherLength, Second, AlwaysMeets, on_table, OnTable, Chained, ended, AsRun, Demand3OnCalls, RoundTripOnCalls, RefusedKeeps}
use Rattle.table.proofs.Refused.{unsound_length, unsound_refused}

pub as_first : AsFirst
unfolding AsFirst OneAnswer
as_first station store bus image first last e answer table other m =
    let same = m ∙ sym e in (
      one_answer answer first.answer (ap (λ (r : After). r.answer) same),
      ap (λ (r : After). r.station.slots) same,
      ap (λ (r : After). r.store) same,
    )

-- what is given where `receive` gives r
read_off : (format : Format) (given : Given) (r : After) → after_in format given.answer given.table given.store ≡ r
    → given ≡ record { answer = r.answer; table = r.station.slots; store = r.store }
read_off format given r m = λ k. record { answer = (m k).answer; table = (m k).station.slots; store = (m k).store }

pub not_sound : NotSound
unfolding NotSound
not_sound format table u store bus image given m =
    read_off format given (after_in format (refused (number State)) table store) (m ∙ sym (unsound_refused format table store bus image u))

pub other_length : OtherLength
unfolding OtherLength NotSound
other_length format table h store bus image given m =
    not_sound format table (unsound_length format table h) store bus image given m

pub one_given : OneGiven
unfolding OneGiven
one_given format table store bus image given other m n = read_off format given _ (m ∙ sym n)

-- ---- the one record

module _ (format : Format) (table : List Slot) (store : List ℕ) (bus : ℕ) (i : ℕ) where
  stays_in : (b : Bool) (key : Key) (frame : Frame) → i ≢ place (has_key key) table
      → slot_at (cond b (step_at (station_of format table) store (place (has_key key) table) key frame) (unchanged (station_of format table) store (value filtered))).station.slots i
      ≡ slot_at table i
  unfolding step_at
  stays_in true key frame h = get_or-set_other table (place (has_key key) table) i _ closed_slot h
  stays_in false key frame h = refl

  stays : (j : Result Judged) → i ≢ concerned_by table bus j → slot_at (judged_as (station_of format table) store bus j).station.slots i ≡ slot_at table i
  unfolding deliver
  stays (refused n) h = refl
  stays (value judged) h =
      stays_in (ltb (place (has_key (key_of bus judged.frame)) table) 16) (key_of bus judged.frame) judged.frame h

pub one_record : OneRecord
unfolding OneRecord receive concerned
one_record format table store bus image given m i h =
    subst (λ (l : List Slot). slot_at l i ≡ slot_at table i) (ap (λ (r : After). r.station.slots) (sym m))
    (stays format table store bus i (let_in (station_of format table) store bus image) h)

pub refused_keeps : RefusedKeeps
unfolding RefusedKeeps
refused_keeps format table store bus image given n m e =
    read_off format given _ (m ∙ refusals.receives (station_of format table) store bus image n (sym (ap (λ (r : After). r.answer) m) ∙ e))

-- ---- runs: a second front that meets its contract is the first

first_front : (second : Second) → AlwaysMeets second → receive ≡ on_table second
unfolding AlwaysMeets
first_front second m = λ k station store bus image. sym (m station.format station.slots store bus image) k

-- a call keeps the format
module _ (format : Format) (table : List Slot) (store : List ℕ) (bus : ℕ) where
  kept_in : (b : Bool) (key : Key) (frame : Frame)
      → (cond b (step_at (station_of format table) store (place (has_key key) table) key frame) (unchanged (station_of format table) store (value filtered))).station.format ≡ format
  unfolding step_at
  kept_in true key frame = refl
  kept_in false key frame = refl

  kept : (j : Result Judged) → (judged_as (station_of format table) store bus j).station.format ≡ format
  unfolding deliver
  kept (refused n) = refl
  kept (value judged) = kept_in (ltb (place (has_key (key_of bus judged.frame)) table) 16) (key_of bus judged.frame) judged.frame

  same_format_lem : (image : List ℕ) → (receive (station_of format table) store bus image).station.format ≡ format
  unfolding receive
  same_format_lem image = kept (let_in (station_of format table) store bus image)

-- what the first front gives, with its slots as the table
as_given : Second
as_given format table store bus image =
    let r = receive (station_of format table) store bus image in record { answer = r.answer; table = r.station.slots; store = r.store }

as_given_meets : AlwaysMeets as_given
unfolding AlwaysMeets as_given
as_given_meets format table store bus image =
    let r = receive (station_of format table) store bus image in
    λ k. record { answer = r.answer; station = record { format = sym (same_format_lem format table store bus image) k; slots = r.station.slots }; store = r.store }

pub on_table_lem : OnTable
on_table_lem =
    record {
      demand3 = λ second m. subst Demand3On (first_front second m) demand3;
      round_trip = λ second m. subst RoundTripOn (first_front second m) round_trip_lem;
      second = as_given;
      meets = as_given_meets;
    }

-- ---- calls one after the other

chained : (format : Format) (calls : List Call) (table : List Slot) (store : List ℕ) (givens : List Given)
    → Chained format table store calls givens → ended format table store givens ≡ run (station_of format table) store calls
unfolding Chained ended run_on
chained format [] table store [] c = refl
chained format [] table store (given ∷ givens) c = absurd c
chained format (call ∷ calls) table store [] c = absurd c
chained format (call ∷ calls) table store (given ∷ givens) c =
    let rest = chained format calls given.table given.store givens c.1 in
    let on : Ran → After → Ran = λ ran first. record { answers = first.answer ∷ ran.answers; station = ran.station; store = ran.store } in
    ap (λ (ran : Ran). on ran (after_in format given.answer given.table given.store)) rest
    ∙ ap (λ (first : After). on (run first.station first.store calls) first) c.0

pub as_run : AsRun
unfolding AsRun
as_run format table store calls ran e = sym (chained format calls table store e.givens e.chained) ∙ e.ends

pub demand3_on_calls : Demand3OnCalls
unfolding Demand3OnCalls AsRun
demand3_on_calls format table store s w = demand3_of (station_of format table) store s w _ (as_run format table store)

pub round_trip_on_calls : RoundTripOnCalls
unfolding RoundTripOnCalls AsRun
round_trip_on_calls format table store s w = round_trip_of (station_of format table) store s w _ (as_run format table store)
