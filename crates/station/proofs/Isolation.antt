-- Demand 3, by induction over the calls.
use Prim.Native.Nat.{ℕ, ◌<◌}
use mathlib.Core.Path.{◌≡◌, refl, sym, ap, ◌∙◌, subst, subst₂}
use mathlib.Core.Bool.{Bool, true, false}
use mathlib.Core.List.{List, [], ◌∷◌}
use native.Mathlib.Omega.{arith}
use lib.Seq.{ext_get_or}
use borrow.Author.Tests.{eq-eqb}
use Rattle.format.specs.declared.Format.{Format}
use Rattle.format.specs.Refusals.{Result, value, refused}
use Rattle.frame.specs.Judge.{Frame, Judged}
use Rattle.stream.specs.declared.Progress.{Progress}
use Rattle.stream.specs.Answers.{Reply}
use Rattle.stream.specs.Step.{step}
use Rattle.stream.specs.OneStream.{Alone, one_stream}
use Rattle.slot.specs.declared.Key.{Key}
use Rattle.slot.specs.declared.Stream.{Stream}
use Rattle.slot.specs.declared.Slot.{Slot}
use Rattle.std.specs.Prelude.{Option, None, Some}
use Rattle.slot.specs.Slots.{closed_slot, open_slot, slot_at, same_key, has_key}
use Rattle.slot.proofs.Keys.{same_key_lem}
use Rattle.station.specs.declared.Station.{Station}
use Rattle.station.specs.Stations.{sound_station, area, full_size}
use Rattle.station.specs.Receive.{After, key_of, progress_of, deliver, judged_as, examined, receive}
use Rattle.station.specs.Read.{reading}
use Rattle.station.specs.Run.{Call, Ran, run_on, run, add_if_of, frames_of, answers_of}
use Rattle.station.specs.Demands.{IsStream, shown, alone, Isolated, SameFrames, Agree, Demand3From, Demand3On, Demand3}
use Rattle.station.proofs.Areas.{ext_areas}
use Rattle.station.proofs.Steps.{Carrying}
use Rattle.station.proofs.Calls.{Good, good, stays_sound, Touch, delivered, let_in_lem, frame_carries}

-- a run has ended: what every slot has in common
pub record Ended (format : Format) (ran : Ran) : Type 0 where
  pub well : Good ran.station ran.store
  pub same : ran.station.format ≡ format

-- the station and store after a call whose image was examined as j
pub through : (station : Station) (store : List ℕ) → Good station store → (bus : ℕ) (j : Result Judged)
    → ((judged : Judged) → j ≡ value judged → Carrying station.format judged.frame)
    → (Good (judged_as station store bus j).station (judged_as station store bus j).store) × ((judged_as station store bus j).station.format ≡ station.format)
through station store g bus (refused n) c = (g, refl)
through station store g bus (value judged) c =
    let f = delivered station store g (key_of bus judged.frame) judged.frame (c judged refl) 0 (omega arith) in (f.stays, f.format)

pub after_call : (station : Station) (store : List ℕ) → Good station store → (bus : ℕ) (image : List ℕ)
    → (Good (receive station store bus image).station (receive station store bus image).store) × ((receive station store bus image).station.format ≡ station.format)
after_call station store g bus image =
    rw (let_in_lem station store g bus image)
    (through station store g bus (examined station.format bus image) (frame_carries station.format bus image))

pub ended : (calls : List Call) (station : Station) (store : List ℕ) → Good station store → Ended station.format (run station store calls)
unfolding run_on
ended [] station store g = record { well = g; same = refl }
ended (call ∷ calls) station store g =
    let r = after_call station store g call.bus call.image in
    let rest = ended calls _ _ r.0 in
    record { well = rest.well; same = rest.same ∙ r.1 }

-- ---- a closed slot

closed_call : (station : Station) (store : List ℕ) → Good station store → (i : ℕ) → i < 16 → slot_at station.slots i ≡ closed_slot
    → (bus : ℕ) (j : Result Judged) → ((judged : Judged) → j ≡ value judged → Carrying station.format judged.frame)
    → (slot_at (judged_as station store bus j).station.slots i ≡ closed_slot) × (area (judged_as station store bus j).store i ≡ area store i)
unfolding Touch
closed_call station store g i h e bus (refused n) c = (e, refl)
closed_call station store g i h e bus (value judged) c =
    let key = key_of bus judged.frame in
    let f = delivered station store g key judged.frame (c judged refl) i h in
    let t = subst (λ (s : Slot). Touch station.format s (area store i) i key judged.frame (has_key key s) (deliver station store key judged.frame)) e f.touch in t

pub closed_run : (i : ℕ) → i < 16 → (calls : List Call) (station : Station) (store : List ℕ) → Good station store → slot_at station.slots i ≡ closed_slot
    → (slot_at (run station store calls).station.slots i ≡ closed_slot) × (area (run station store calls).store i ≡ area store i)
unfolding run_on
closed_run i h [] station store g e = (e, refl)
closed_run i h (call ∷ calls) station store g e =
    let r = after_call station store g call.bus call.image in
    let s : (slot_at (receive station store call.bus call.image).station.slots i ≡ closed_slot)
    × (area (receive station store call.bus call.image).store i ≡ area store i) =
    rw (let_in_lem station store g call.bus call.image)
    (closed_call station store g i h e call.bus (examined station.format call.bus call.image) (frame_carries station.format call.bus call.image)) in
    let rest = closed_run i h calls _ _ r.0 s.0 in
    (rest.0, rest.1 ∙ s.1)

-- ---- an open one

-- the run ends as the stream alone does
record Ends (i : ℕ) (key : Key) (x : Alone) (answers : List (Result Reply)) (station : Station) (store : List ℕ) : Type 0 where
  slot : slot_at station.slots i ≡ open_slot key x.progress
  said : answers ≡ x.answers
  bytes : area store i ≡ x.area

module _ (format : Format) (i : ℕ) (h : i < 16) (key : Key) (calls : List Call) where
  -- the rest of the run, from a station and store on
  Rest : Progress → List ℕ → Station → List ℕ → Type 0
  Rest progress a station store =
      let rest = run station store calls in
      Ends i key (one_stream format progress a (frames_of format key calls)) (answers_of format key calls rest.answers) rest.station rest.store

  -- the whole of it, from what the first call made
  Whole : Progress → List ℕ → (bus : ℕ) → Result Judged → After → Type 0
  Whole progress a bus j r =
      let rest = run r.station r.store calls in
      Ends i key (one_stream format progress a (add_if_of key bus j (λ (frame : Frame). frame) (frames_of format key calls)))
      (add_if_of key bus j (λ (frame : Frame). r.answer) (answers_of format key calls rest.answers)) rest.station rest.store

  Later : Type 0
  Later =
      (station : Station) (store : List ℕ) (progress : Progress) → station.format ≡ format → Good station store
      → slot_at station.slots i ≡ open_slot key progress → Rest progress (area store i) station store

  module _ (progress : Progress) (a : List ℕ) (bus : ℕ) (judged : Judged) (r : After) (f : r.station.format ≡ format) (g : Good r.station r.store) (ih : Later) where
    at-frame : (b : Bool) → same_key key (key_of bus judged.frame) ≡ b
        → Touch format (open_slot key progress) a i (key_of bus judged.frame) judged.frame b r → Whole progress a bus (value judged) r
    unfolding Touch Whole Rest Later add_if_of one_stream
    at-frame true e t =
        let next = step format progress a judged.frame in
        let mine = same_key_lem key (key_of bus judged.frame) e in
        let there = ih r.station r.store next.progress f g (t.1 ∙ ap (λ (k : Key). open_slot k next.progress) (sym mine)) in
        let onward : Rest next.progress next.area r.station r.store =
        subst (λ (x : List ℕ). Rest next.progress x r.station r.store) t.2 there in
        rw e (record { slot = onward.slot; said = λ k. t.0 k ∷ onward.said k; bytes = onward.bytes })
    at-frame false e t =
        let there = ih r.station r.store progress f g t.0 in
        rw e (subst (λ (x : List ℕ). Rest progress x r.station r.store) t.1 there)

  from_call : (station : Station) (store : List ℕ) (progress : Progress) → station.format ≡ format → Good station store
      → slot_at station.slots i ≡ open_slot key progress → (bus : ℕ) (j : Result Judged)
      → ((judged : Judged) → j ≡ value judged → Carrying station.format judged.frame) → Later
      → Whole progress (area store i) bus j (judged_as station store bus j)
  unfolding Whole Rest Later add_if_of
  from_call station store progress e g s bus (refused n) c ih = ih station store progress e g s
  from_call station store progress e g s bus (value judged) c ih =
      let k = key_of bus judged.frame in
      let r = deliver station store k judged.frame in
      let w = delivered station store g k judged.frame (c judged refl) i h in
      let t : Touch format (open_slot key progress) (area store i) i k judged.frame (same_key key k) r =
      subst₂ (λ (fm : Format) (x : Slot). Touch fm x (area store i) i k judged.frame (has_key k x) r) e s w.touch in
      at-frame progress (area store i) bus judged r (w.format ∙ e) w.stays ih (same_key key k) refl t

on_its_own : (format : Format) (i : ℕ) (h : i < 16) (key : Key) (calls : List Call) → Later format i h key calls
unfolding Later Rest Whole run_on frames_of answers_of one_stream
on_its_own format i h key [] station store progress e g s = record { slot = s; said = refl; bytes = refl }
on_its_own format i h key (call ∷ calls) station store progress e g s =
    let bus = call.bus in
    let image = call.image in
    let there : Whole format i h key calls progress (area store i) bus (examined station.format bus image) (receive station store bus image) =
    subst (Whole format i h key calls progress (area store i) bus (examined station.format bus image)) (sym (let_in_lem station store g bus image))
    (from_call format i h key calls station store progress e g s bus (examined station.format bus image) (frame_carries station.format bus image)
    (on_its_own format i h key calls)) in
    subst (λ (fm : Format). Whole format i h key calls progress (area store i) bus (examined fm bus image) (receive station store bus image)) e there

-- ---- the claim

module _ (station : Station) (store : List ℕ) (g : Good station store) where
  ends : (calls : List Call) (i : ℕ) (stream : Stream) → IsStream station i stream
      → Ends i stream.key (alone station.format i stream store calls) (answers_of station.format stream.key calls (run station store calls).answers) (run station store calls).station (run station store calls).store
  unfolding alone Later Rest
  ends calls i stream s = on_its_own station.format i s.0 stream.key calls station store stream.progress refl g s.1

  pub isolated : (calls : List Call) → Isolated station store calls (run station store calls)
  unfolding shown
  isolated calls =
      record {
        streams = λ i stream s.
            let e = ends calls i stream s in
            λ k. record { answers = e.said k; progress = progress_of (e.slot k); area = e.bytes k };
        slots = λ i stream s. (ends calls i stream s).slot;
        closed = λ i s. closed_run i s.0 calls station store g s.1;
        format = (ended calls station store g).same;
        sound = stays_sound _ _ (ended calls station store g).well;
        whole = eq-eqb _ _ (ended calls station store g).well.whole;
      }

  module _ (calls others : List Call) (same : SameFrames station calls others) where
    same-alone : (i : ℕ) (stream : Stream) → IsStream station i stream
        → alone station.format i stream store calls ≡ alone station.format i stream store others
    unfolding alone SameFrames
    same-alone i stream s = ap (one_stream station.format stream.progress (area store i)) (same i stream s)

    -- slot i and its area, open or closed
    same-slot : (i : ℕ) → i < 16 → (o : Option Stream) → slot_at station.slots i ≡ record { occupancy = o }
        → (slot_at (run station store calls).station.slots i ≡ slot_at (run station store others).station.slots i)
        × (area (run station store calls).store i ≡ area (run station store others).store i)
    same-slot i h None e =
        let a = closed_run i h calls station store g e in
        let b = closed_run i h others station store g e in
        (a.0 ∙ sym b.0, a.1 ∙ sym b.1)
    same-slot i h (Some stream) e =
        let a = ends calls i stream (h, e) in
        let b = ends others i stream (h, e) in
        let x = same-alone i stream (h, e) in (
          a.slot ∙ ap (λ (y : Alone). open_slot stream.key y.progress) x ∙ sym b.slot,
          a.bytes ∙ ap (λ (y : Alone). y.area) x ∙ sym b.bytes,
        )

    pub agree : Agree station calls others (run station store calls) (run station store others)
    unfolding area
    agree =
        let one = ended calls station store g in
        let two = ended others station store g in
        let slots =
        ext_get_or closed_slot (run station store calls).station.slots (run station store others).station.slots
        (one.well.sixteen ∙ sym two.well.sixteen)
        (λ i h. (same-slot i (omega (arith, one.well.sixteen)) (slot_at station.slots i).occupancy refl).0) in
        let format = one.same ∙ sym two.same in
        let stations : (run station store calls).station ≡ (run station store others).station =
        λ k. record { format = format k; slots = slots k } in
        let stores =
        ext_areas 2048 16 (omega arith) (run station store calls).store (run station store others).store one.well.whole two.well.whole
        (λ i h. (same-slot i h (slot_at station.slots i).occupancy refl).1) in
        record {
          answers = λ i stream s. (ends calls i stream s).said ∙ ap (λ (y : Alone). y.answers) (same-alone i stream s) ∙ sym (ends others i stream s).said;
          slots = slots;
          format = format;
          packets = λ i k. reading (stations k) (stores k) i;
          stores = stores;
        }

-- of whatever ends as the run does
pub demand3_of : (station : Station) (store : List ℕ) → sound_station station ≡ true → full_size store ≡ true
    → (Ends : List Call → Ran → Type 0) → ((calls : List Call) (ran : Ran) → Ends calls ran → run station store calls ≡ ran)
    → Demand3From station store Ends
demand3_of station store s w Ends as_run =
    let g = good station store s w in
    record {
      isolated = λ calls ran e. subst (Isolated station store calls) (as_run calls ran e) (isolated station store g calls);
      alike = λ calls others ran other e f same.
          subst₂ (Agree station calls others) (as_run calls ran e) (as_run others other f) (agree station store g calls others same);
    }

pub demand3 : Demand3
unfolding Demand3On
demand3 station store s w = demand3_of station store s w (λ calls ran. run station store calls ≡ ran) (λ calls ran e. e)
