-- Every call keeps a sound station sound; a sound standard station never answers LONG; and sound stations with streams exist.
use Prim.Native.Nat.{ℕ, ◌≤◌, ◌<◌}
use mathlib.Core.Path.{◌≡◌, refl, sym, ap, ◌∙◌, subst}
use mathlib.Core.Logic.{◌≢◌}
use mathlib.Core.Bool.{Bool, true, false, cond, not}
use mathlib.Core.List.{List, [], ◌∷◌}
use native.Mathlib.Omega.{arith}
use lib.Dec.{leb, ltb, eqb}
use lib.ListN.{length, set, length-set, length-replicate}
use lib.Seq.{get_or-set_same, get_or-set_other}
use borrow.Author.Tests.{ltb-true, eqb-true, eqb-false, eq-eqb, ne_eqb, not-true}
use Rattle.format.specs.declared.Format.{Format}
use Rattle.format.specs.declared.Format.TheVariants.{Extended, Standard}
use Rattle.format.specs.declared.Refusal.TheVariants as refusal
use Rattle.format.specs.Refusals.{Result, value, refused, Check, check, guarded, checked_then, number}
use Rattle.format.specs.Tests.{all_true, all_after}
use Rattle.format.proofs.Tests.{each, from_each}
use Rattle.format.proofs.Checks.{passed, pass, none_left}
use Rattle.frame.specs.Judge.{Frame, Judged, judge}
use Rattle.frame.proofs.Judged.{judging_refusal}
use Rattle.stream.specs.declared.Progress.TheVariants.{Idle}
use Rattle.stream.specs.Answers.{Reply, filtered}
use Rattle.stream.specs.Step.{step}
use Rattle.slot.specs.declared.Key.{Key}
use Rattle.slot.specs.declared.Slot.{Slot}
use Rattle.slot.specs.declared.Stream.{Stream}
use Rattle.slot.specs.Slots.{closed_slot, open_slot, slot_at, is_closed, has_key, place}
use Rattle.slot.specs.Sound.{key_in_range, fits, slot_sound, slots_sound, any, keys_differ, sound}
use Rattle.slot.proofs.Places.{place_holds}
use Rattle.station.specs.declared.Station.{Station}
use Rattle.station.specs.Stations.{new_station, sound_station, with_slots, area, full_size}
use Rattle.station.specs.Receive.{After, unchanged, key_of, progress_of, step_at, deliver, judged_as, examined, receive}
use Rattle.station.specs.Open.{changed_at, opening, is_open, closing}
use Rattle.station.specs.Demands.{IsStream, StaysSound, NeverLong, CanBeMet}
use Rattle.station.proofs.Slots.{clashes, found, sound_set, differ_set}
use Rattle.station.proofs.Steps.{Carrying, never_long}
use Rattle.station.proofs.Calls.{Good, good, stays_sound, at_slot, let_in_lem, frame_carries}
use Rattle.station.proofs.Isolation.{after_call}
use Rattle.station.proofs.Handing.{within_sixteen, past_sixteen}

-- ---- opening and closing

-- setting one slot to a sound one that clashes with no other
set_sound : (station : Station) → sound_station station ≡ true → (i : ℕ) (slot : Slot) → slot_sound station.format slot.occupancy ≡ true
    → ((j : ℕ) → j ≢ i → j < length station.slots → clashes slot.occupancy (slot_at station.slots j) ≡ false)
    → sound_station (with_slots station (set station.slots i slot)) ≡ true
unfolding sound
set_sound station s i slot f apart =
    let t = each _ s in
    from_each _ (
      eq-eqb _ _ (length-set station.slots i slot ∙ eqb-true _ _ t.0),
      (sound_set station.format station.slots t.1.0 i slot f, (differ_set station.slots t.1.1.0 i slot apart, tt)),
    )

away : (n j : ℕ) → 16 ≤ n → j < 16 → eqb n j ≡ false
away n j far l = ne_eqb n j (λ e. omega (arith, e, far, l))

-- a key that is open nowhere
module _ (station : Station) (key : Key) (s : sound_station station ≡ true) (range : key_in_range station.format key ≡ true) (free : not (any (has_key key) station.slots) ≡ true) where
  opened_sound : (i : ℕ) → sound_station (with_slots station (set station.slots i (open_slot key Idle))) ≡ true
  unfolding sound slot_sound fits
  opened_sound i =
      let t = each _ s in
      let sixteen : length station.slots ≡ 16 = eqb-true _ _ t.0 in
      let far : 16 ≤ place (has_key key) station.slots = past_sixteen station.format station.slots (has_key key) s (not-true _ free) in
      set_sound station s i (open_slot key Idle) (from_each _ (range, (refl, tt)))
      (λ j n l. found station.slots t.1.1.0 key j l ∙ away (place (has_key key) station.slots) j far (omega (arith, sixteen, l)))

abbrev pub open_checks : Station → Key → List Check
open_checks station key =
    check refusal.State (sound_station station)
    ∷ check refusal.Field (key_in_range station.format key)
    ∷ check refusal.Taken (not (any (has_key key) station.slots))
    ∷ check refusal.Full (any is_closed station.slots)
    ∷ []

abbrev pub close_checks : Station → ℕ → List Check
close_checks station i = check refusal.State (sound_station station) ∷ check refusal.Closed (is_open station.slots i) ∷ []

opened_as : (station : Station) (key : Key) (r : Result ℕ) → guarded (open_checks station key) (place is_closed station.slots) ≡ r
    → (i : ℕ) → r ≡ value i → (sound_station (with_slots station (set station.slots i (open_slot key Idle))) ≡ true) × (i < length station.slots) × (i < 16)
unfolding sound
opened_as station key r e i q =
    let p = passed (open_checks station key) (place is_closed station.slots) i (e ∙ q) in
    let s = p.0.0 in
    let low : place is_closed station.slots < 16 = within_sixteen station.format station.slots is_closed s p.0.1.1.1.0 in
    let sixteen : length station.slots ≡ 16 = eqb-true _ _ (each _ s).0 in
    (opened_sound station key s p.0.1.0 p.0.1.1.0 i, omega (arith, p.1, sixteen, low), omega (arith, p.1, low))

open_keeps : (station : Station) (key : Key) → sound_station station ≡ true → (r : Result ℕ)
    → guarded (open_checks station key) (place is_closed station.slots) ≡ r → sound_station (changed_at station (open_slot key Idle) r).station ≡ true
open_keeps station key s (value i) e = (opened_as station key (value i) e i refl).0
open_keeps station key s (refused n) e = s

close_keeps : (station : Station) → sound_station station ≡ true → (r : Result ℕ) → sound_station (changed_at station closed_slot r).station ≡ true
unfolding slot_sound
close_keeps station s (value i) = set_sound station s i closed_slot refl (λ j n l. refl)
close_keeps station s (refused n) = s

-- ---- receiving

-- with a store of another size nothing changes
refused_store : (station : Station) (store : List ℕ) (bus : ℕ) (image : List ℕ) → sound_station station ≡ true → full_size store ≡ false
    → receive station store bus image ≡ unchanged station store (refused (number refusal.Store))
unfolding receive checked_then
refused_store station store bus image s w = rw (s, w)

receive_keeps : (station : Station) → sound_station station ≡ true → (store : List ℕ) (bus : ℕ) (image : List ℕ)
    → sound_station (receive station store bus image).station ≡ true
receive_keeps station s store bus image = go (full_size store) refl
  where
    go : (b : Bool) → full_size store ≡ b → sound_station (receive station store bus image).station ≡ true
    go true w = let r = after_call station store (good station store s w) bus image in stays_sound _ _ r.0
    go false w = rw (refused_store station store bus image s w) s

opened_keeps : (station : Station) → sound_station station ≡ true → (key : Key) → sound_station (opening station key).station ≡ true
unfolding opening
opened_keeps station s key = open_keeps station key s _ refl

closed_keeps : (station : Station) → sound_station station ≡ true → (i : ℕ) → sound_station (closing station i).station ≡ true
unfolding closing
closed_keeps station s i = close_keeps station s (guarded (close_checks station i) i)

pub stays : StaysSound
stays = record { opens = opened_keeps; closes = closed_keeps; receives = receive_keeps }

-- ---- LONG

examined_under : (format : Format) (bus : ℕ) (image : List ℕ) (n : ℕ) → examined format bus image ≡ refused n → n ≢ 8
unfolding checked_then all_true all_after
examined_under format bus image n e = go (leb bus 1) e
  where
    go : (b : Bool) → cond b (judge format image) (refused (number refusal.Field)) ≡ refused n → n ≢ 8
    go true e = eqb-false n 8 (not-true (eqb n 8) (judging_refusal format image n e (λ m. not (eqb m 8)) refl))
    go false e = let z : ◌≡◌ {A = ℕ} 9 n = cc in λ q. omega (arith, q, z)

NotLong : After → Type 0
NotLong r = r.answer ≢ refused (number refusal.Long)

other : (n : ℕ) → n ≢ 8 → ◌≢◌ {A = Result Reply} (refused n) (refused 8)
other n h e = let z : n ≡ 8 = cc in h z

module _ (station : Station) (store : List ℕ) (g : Good station store) (standard : station.format ≡ Standard) where
  deliver_not_long : (key : Key) (frame : Frame) → Carrying station.format frame → NotLong (deliver station store key frame)
  unfolding deliver step_at NotLong
  deliver_not_long key frame c = go (ltb (place (has_key key) station.slots) 16) refl
    where
      step-not-long : (format : Format) → format ≡ Standard → (i : ℕ) → fits format (progress_of (slot_at station.slots i)) ≡ true → Carrying format frame
          → (step format (progress_of (slot_at station.slots i)) (area store i) frame).answer ≢ refused (number refusal.Long)
      step-not-long Standard e i f c = never_long (progress_of (slot_at station.slots i)) (area store i) frame f c
      step-not-long Extended e i f c = let z : ◌≡◌ {A = ℕ} 0 1 = cc in absurd (omega arith)

      go : (b : Bool) → ltb (place (has_key key) station.slots) 16 ≡ b
          → (cond b (step_at station store (place (has_key key) station.slots) key frame) (unchanged station store (value filtered))).answer ≢ refused (number refusal.Long)
      go true e =
          let i = place (has_key key) station.slots in
          step-not-long station.format standard i (at_slot station store g key frame c i (ltb-true _ _ e) refl).1 c
      go false e = λ q. let z : ◌≡◌ {A = ℕ} 0 1 = cc in absurd (omega arith)

  examined_not_long : (bus : ℕ) (image : List ℕ) (j : Result Judged) → examined station.format bus image ≡ j → NotLong (judged_as station store bus j)
  unfolding NotLong
  examined_not_long bus image (refused n) e = other n (examined_under station.format bus image n e)
  examined_not_long bus image (value judged) e =
      deliver_not_long (key_of bus judged.frame) judged.frame (frame_carries station.format bus image judged e)

pub never : NeverLong
unfolding NeverLong NotLong
never station s standard store bus image = go (full_size store) refl
  where
    go : (b : Bool) → full_size store ≡ b → (receive station store bus image).answer ≢ refused (number refusal.Long)
    go true w =
        let g = good station store s w in
        rw (let_in_lem station store g bus image) (examined_not_long station store g standard bus image _ refl)
    go false w = rw (refused_store station store bus image s w) (other 13 (λ e. omega arith))

-- ---- the premises can be met

new_sound : (format : Format) → sound_station (new_station format) ≡ true
unfolding sound slots_sound slot_sound keys_differ all_true all_after
new_sound format = refl

opened_answer : (station : Station) (slot : Slot) (r : Result ℕ) (i : ℕ) → (changed_at station slot r).answer ≡ value i → r ≡ value i
opened_answer station slot (value j) i e = e
opened_answer station slot (refused n) i e = let z : ◌≡◌ {A = ℕ} 0 1 = cc in absurd (omega arith)

is_opened : (station : Station) (key : Key) (i : ℕ) → (opening station key).answer ≡ value i
    → (sound_station (opening station key).station ≡ true) × IsStream (opening station key).station i (record { key = key; progress = Idle })
unfolding opening
is_opened station key i e =
    let q = opened_answer station (open_slot key Idle) _ i e in
    let o = opened_as station key _ refl i q in
    rw q (o.0, (o.2, get_or-set_same station.slots i (open_slot key Idle) closed_slot o.1))

first_opened : (format : Format) (key : Key) → key_in_range format key ≡ true → (opening (new_station format) key).answer ≡ value 0
unfolding opening guarded place any
first_opened format key e = rw (new_sound format, e)

opens : (station : Station) (key : Key) → sound_station station ≡ true → key_in_range station.format key ≡ true
    → any (has_key key) station.slots ≡ false → any is_closed station.slots ≡ true
    → (opening station key).answer ≡ value (place is_closed station.slots)
unfolding opening
opens station key s r f l =
    sym (ap (λ (x : Result ℕ). (changed_at station (open_slot key Idle) x).answer)
    (pass refusal.State _ _ s (pass refusal.Field _ _ r (pass refusal.Taken _ _ (ap not f) (pass refusal.Full _ _ l (none_left _))))))

-- the streams that are open stay
beside_as : (station : Station) (key : Key) (i : ℕ) (stream : Stream) → IsStream station i stream → (r : Result ℕ)
    → guarded (open_checks station key) (place is_closed station.slots) ≡ r → IsStream (changed_at station (open_slot key Idle) r).station i stream
beside_as station key i stream h (refused n) e = h
beside_as station key i stream h (value j) e =
    let p = passed (open_checks station key) (place is_closed station.slots) j e in
    let inside = (opened_as station key (value j) e j refl).1 in
    let closed : is_closed (slot_at station.slots j) ≡ true =
    subst (λ (n : ℕ). is_closed (slot_at station.slots n) ≡ true) p.1 (place_holds is_closed station.slots closed_slot (omega (arith, p.1, inside))) in
    let apart : i ≢ j = λ q.
    let z : false ≡ true = sym (ap is_closed h.1) ∙ ap (λ (n : ℕ). is_closed (slot_at station.slots n)) q ∙ closed in
    let y : ◌≡◌ {A = ℕ} 0 1 = cc in
    omega arith in
    (h.0, get_or-set_other station.slots j i (open_slot key Idle) closed_slot apart ∙ h.1)

beside : (station : Station) (key : Key) (i : ℕ) (stream : Stream) → IsStream station i stream → IsStream (opening station key).station i stream
unfolding opening
beside station key i stream h = beside_as station key i stream h _ refl

pub met : CanBeMet
met =
    record {
      new = new_sound;
      store = eq-eqb _ _ (length-replicate {A = ℕ} 32768 0);
      opens = opens;
      first = first_opened;
      opened = is_opened;
      beside = beside;
    }
