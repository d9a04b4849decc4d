-- The calls, case by case, by what the code has found out.
use Prim.Native.Nat.{ℕ, ◌+◌, ◌-◌, ◌*◌, ◌≤◌, ◌<◌}
use native.Mathlib.Omega.{arith}
use mathlib.Core.Path.{◌≡◌, refl, ◌∙◌, sym, ap, subst}
use mathlib.Core.Logic.{◌≢◌}
use mathlib.Core.Bool.{Bool, true, false, cond, ◌&&◌, false≢true}
use mathlib.Core.List.{List}
use lib.Dec.{eqb}
use lib.ListN.{length, take, drop, length-drop}
use borrow.Author.Tests.{eqb-true}
use Rattle.copying.specs.Copy.{copied}
use Rattle.format.specs.declared.Format.{Format}
use Rattle.format.specs.declared.Refusal.{Refusal}
use Rattle.format.specs.declared.Refusal.TheVariants as refusal
use Rattle.format.specs.Refusals.{Result, value, refused, number, checked_then}
use Rattle.format.specs.Tests.{all_true}
use Rattle.format.proofs.Tests.{each}
use Rattle.frame.specs.declared.Head.{Head}
use Rattle.frame.specs.Judge.{Frame, Judged, judge}
use Rattle.frame.proofs.Judged.{sound_image}
use Rattle.format.specs.Refusals.{Returned}
use Rattle.stream.specs.declared.Answer.{Answer}
use Rattle.stream.specs.declared.Answer.TheVariants.{Filtered}
use Rattle.std.specs.Prelude.{Err, Ok}
use Rattle.stream.specs.declared.Progress.{Progress}
use Rattle.stream.specs.Answers.{meaning}
use Rattle.slot.specs.declared.Key.{Key}
use Rattle.std.specs.Prelude.{Option}
use Rattle.slot.specs.declared.Stream.{Stream}
use Rattle.std.specs.Prelude.{None, Some}
use Rattle.slot.specs.Slots.{closed_slot, open_slot, slot_at, open_with, has_key, place}
use Rattle.slot.specs.Sound.{key_in_range, slots_sound, sound}
use Rattle.slot.specs.Codes.{key_code, codes_from, is}
use Rattle.slot.proofs.Keys.{same_key_lem}
use Rattle.slot.proofs.Places.{place_holds}
use Rattle.slot.proofs.CodeLaws.{find_key}
use Rattle.station.specs.declared.Station.{Station}
use Rattle.station.specs.Stations.{sound_station}
use Rattle.station.specs.Receive as receiving
use Rattle.station.specs.Receive.{After, unchanged, key_of, progress_of, let_in, framed, area_step}
use Rattle.station.specs.Parts.{frame_of}
use Rattle.station.proofs.Turning.{in_store, in_field, in_judged, by_refusal, by_none, by_slot, rest_is, steps, slot_steps}
use Rattle.stream.specs.declared.Stepped.{Stepped}
use Rattle.stream.specs.Step.{Next, next_of}
use Rattle.std.specs.Prelude.{position}
use Rattle.slot.proofs.Places.{position_some, position_none}
use Rattle.words.specs.Words.{word_bytes, word_at}
use Rattle.station_bytes.specs.States.{end_bytes, progress_number, progress_from, key_in, first_of, state_bytes, station_in, is_state}
use Rattle.station_bytes.specs.Calls.{in_bytes, receive_in, bytes_after}
use Rattle.station_bytes.specs.Parts.{is_station, NoStation}
use Rattle.station_bytes.proofs.Scans.{slots_length}
use Rattle.station_bytes.proofs.Bytes.{put_second}
use Rattle.station_bytes.proofs.Places.{slot_is}

-- ---- what the test of the state has found out

pub record Sound (state : List ℕ) : Type 0 where
  pub is : is_state state ≡ true
  pub ok : sound_station (station_in state) ≡ true
  pub same : state_bytes (station_in state) ≡ state

pub sound_of : {read state : List ℕ} → is_station read ≡ true → state_bytes (station_in read) ≡ read → read ≡ state → Sound state
sound_of {read} e same q = subst Sound q (let both = each _ e in record { is = both.0; ok = both.1.0; same = same })

pub unsound : (state : List ℕ) → is_station state ≡ false → is_state state ≡ true → sound_station (station_in state) ≡ false
unfolding all_true
unsound state e i = go (is_state state) (sound_station (station_in state)) i e
  where
    go : (a b : Bool) → a ≡ true → ((true && a) && b) ≡ false → b ≡ false
    go true b i e = e
    go false b i e = absurd (false≢true i)

-- ---- an open slot

-- the progress of a slot that is open with a key; that key's number
held_in : (b : Bool) (key k : Key) (progress : Progress) → has_key key (cond b closed_slot (open_slot k progress)) ≡ true
    → progress ≡ progress_of (cond b closed_slot (open_slot k progress))
held_in true key k progress e = absurd (false≢true e)
held_in false key k progress e = refl

first_in : (o : Option Stream) (key : Key) → open_with key o ≡ true → key_code key ≡ first_of o
first_in None key e = absurd (false≢true e)
first_in (Some stream) key e = ap key_code (sym (same_key_lem stream.key key e))

-- ---- receiving

-- the bytes are no sound station's
pub receive_state : (state : List ℕ) → NoStation state → (store : List ℕ) (bus : ℕ) (image : List ℕ)
    → bytes_after (Err refusal.State) state store ≡ receive_in state store bus image
unfolding receive_in receiving.receive checked_then
receive_state state t store bus image = go (is_state state) refl
  where
    go : (b : Bool) → is_state state ≡ b
        → bytes_after (Err refusal.State) state store
        ≡ cond b (in_bytes (receiving.receive (station_in state) store bus image)) (record { answer = refused (number refusal.State); state = state; store = store })
    go false i = refl
    go true i =
        rw (unsound state t.told i)
        (ap (λ (bytes : List ℕ). record { answer = refused (number refusal.State); state = bytes; store = store }) (sym (t.same i)))

module _ (state : List ℕ) (s : Sound state) where
  abbrev station : Station
  station = station_in state

  pub size : length state ≡ 130
  unfolding is_state
  size = eqb-true (length state) 130 (each _ s.is).0

  pub sixteen : length station.slots ≡ 16
  sixteen = slots_length station.format state 0 16

  each_sound : slots_sound station.format station.slots ≡ true
  unfolding sound
  each_sound = (each _ s.ok).1.0

  -- where a key is among the codes it is among the slots
  pub key_found : (format : Format) → format ≡ station.format → (codes : List ℕ) → codes ≡ codes_from station.slots 0 → (key : Key) (found : Option ℕ)
      → found ≡ cond (key_in_range format key) (position (is (key_code key)) codes) None → found ≡ position (has_key key) station.slots
  key_found format ef codes ec key found e =
      e ∙ ap (λ (format : Format). cond (key_in_range format key) (position (is (key_code key)) codes) None) ef
      ∙ find_key station.format station.slots key codes each_sound ec

  module _ (store : List ℕ) (bus : ℕ) (image : List ℕ) where
    as-station : (after : After) → after ≡ receiving.receive station store bus image → in_bytes after ≡ receive_in state store bus image
    unfolding receive_in
    as-station after e = rw s.is (ap in_bytes e)

    -- no slot changes
    kept : (answer : Returned Answer) → unchanged station store (meaning answer) ≡ receiving.receive station store bus image
        → bytes_after answer state store ≡ receive_in state store bus image
    kept answer e = ap (λ (bytes : List ℕ). record { answer = meaning answer; state = bytes; store = store }) (sym s.same) ∙ as-station _ e

    refused_so : (name : Refusal) → refused (number name) ≡ let_in station store bus image → bytes_after (Err name) state store ≡ receive_in state store bus image
    refused_so name e = kept (Err name) (by_refusal station store bus image (number name) e)

    pub receive-store : length store ≢ 32768 → bytes_after (Err refusal.Store) state store ≡ receive_in state store bus image
    receive-store w = refused_so refusal.Store (in_store station store bus image s.ok w)

    module _ (w : length store ≡ 32768) where
      pub receive-field : 1 < bus → bytes_after (Err refusal.Field) state store ≡ receive_in state store bus image
      receive-field b = refused_so refusal.Field (in_field station store bus image s.ok w b)

      module _ (b : bus ≤ 1) (format : Format) (ef : format ≡ station.format) where
        judged-alike : (r : Result Judged) → r ≡ judge format image → r ≡ let_in station store bus image
        judged-alike r e = e ∙ ap (λ (format : Format). judge format image) ef ∙ in_judged station store bus image s.ok w b

        pub receive-image : (own : Refusal) → refused (number own) ≡ judge format image → bytes_after (Err own) state store ≡ receive_in state store bus image
        receive-image own e = refused_so own (judged-alike _ e)

        -- the image is a frame
        module _ (head : Head) (e : value (record { frame = frame_of head image; start = head.start }) ≡ judge format image) where
          abbrev frame : Frame
          frame = frame_of head image

          abbrev key : Key
          key = key_of bus frame

          -- its bytes as the code lends them on
          abbrev lent : List ℕ
          lent = take (length image - head.start) (drop head.start image)

          let-in : value (record { frame = frame; start = head.start }) ≡ let_in station store bus image
          let-in = judged-alike _ e

          pub receive-none : None ≡ position (has_key key) station.slots → bytes_after (Ok Filtered) state store ≡ receive_in state store bus image
          receive-none p =
              let far : 16 ≤ place (has_key key) station.slots = omega (arith, position_none (has_key key) station.slots p, sixteen) in
              kept (Ok Filtered) (by_none station store bus image _ let-in far)

          -- the slot of the key steps
          module _ (i : ℕ) (p : Some i ≡ position (has_key key) station.slots) where
            at : (i ≡ place (has_key key) station.slots) × (i < length station.slots)
            at = position_some (has_key key) station.slots i p

            below : i < 16
            below = omega (arith, at.1, sixteen)

            has-it : has_key key (slot_at station.slots i) ≡ true
            has-it =
                let there = place_holds (has_key key) station.slots closed_slot (omega (arith, at.0, at.1)) in
                ap (λ (n : ℕ). has_key key (slot_at station.slots n)) at.0 ∙ there

            its-progress : progress_from (word_at state (8 * i + 4)) ≡ progress_of (slot_at station.slots i)
            its-progress =
                let e = slot_is state i below station.format in
                held_in (eqb (word_at state (8 * i + 4)) 0) key (key_in station.format (word_at state (8 * i))) (progress_from (word_at state (8 * i + 4))) (ap (has_key key) (sym e) ∙ has-it)
                ∙ ap progress_of (sym e)

            its-first : key_code key ≡ first_of (slot_at station.slots i).occupancy
            its-first = first_in (slot_at station.slots i).occupancy key has-it

            module _ (progress : Progress) (ep : progress ≡ progress_from (word_at state (8 * i + 4))) where
              steps-alike : (r : Result Next) → r ≡ area_step format progress store i (framed head lent) → r ≡ area_step station.format progress store i frame
              steps-alike r q = q ∙ (λ k. area_step (ef k) progress store i (framed head (rest_is image head.start k)))

              -- the code's own step is not refused
              pub not-refused : (n : ℕ) → refused n ≡ area_step format progress store i (framed head lent) → ⊥
              not-refused n q =
                  let few : length frame.bytes ≤ 8 = omega (arith, (sound_image format image _ (sym e)).most, length-drop head.start image) in
                  let same = steps-alike _ q in
                  let steps-on = steps station.format progress store i frame below w few in
                  cc

              pub receive-step : (next : Stepped) (new : List ℕ) → value (next_of next new) ≡ area_step format progress store i (framed head lent)
                  → (number : ℕ) → number ≡ progress_number next.progress → (last : List ℕ) → last ≡ copied state (8 * i + 4) (word_bytes number)
                  → bytes_after next.answer last new ≡ receive_in state store bus image
              receive-step next new q number en last el =
                  let after = open_slot key next.progress in
                  let bytes = el ∙ ap (λ (n : ℕ). copied state (8 * i + 4) (word_bytes n)) en
                  ∙ ap (λ (l : List ℕ). copied l (8 * i + 4) (word_bytes (progress_number next.progress))) (sym s.same)
                  ∙ put_second station.slots i at.1 (end_bytes station.format) after its-first in
                  let stepped = slot_steps station progress store i key frame (ep ∙ its-progress) next new (steps-alike _ q) in
                  ap (λ (l : List ℕ). record { answer = meaning next.answer; state = l; store = new }) bytes
                  ∙ as-station _ (stepped ∙ by_slot station store bus image _ let-in i at.0 below)
