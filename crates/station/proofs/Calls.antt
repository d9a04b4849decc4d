-- One call, seen from slot i: either it is a frame of the key open there, and the slot and its area step, or both stay.
use Prim.Native.Nat.{ℕ, ◌<◌}
use mathlib.Core.Path.{◌≡◌, refl, sym, ap, ◌∙◌, subst}
use mathlib.Core.Logic.{◌≢◌}
use mathlib.Core.Bool.{Bool, true, false, cond}
use mathlib.Core.List.{List, [], ◌∷◌}
use native.Mathlib.Omega.{arith}
use lib.Dec.{ltb, leb, eqb}
use lib.ListN.{length, length-set}
use lib.Seq.{get_or-set_same, get_or-set_other}
use borrow.Author.Tests.{ltb-true, ltb-false, eqb-true, eqb-false, eq-eqb, ne_eqb}
use Rattle.format.specs.declared.Format.{Format}
use Rattle.format.specs.declared.Refusal.TheVariants.{Field}
use Rattle.format.specs.Refusals.{value, check, checked_then}
use Rattle.format.proofs.Tests.{each, from_each}
use Rattle.format.proofs.Checks.{passed_then}
use Rattle.frame.specs.Judge.{Frame, Judged, judge}
use Rattle.stream.specs.Answers.{filtered}
use Rattle.stream.specs.Step.{step}
use Rattle.slot.specs.declared.Key.{Key}
use Rattle.std.specs.Prelude.{Option, None, Some}
use Rattle.slot.specs.declared.Stream.{Stream}
use Rattle.slot.specs.declared.Slot.{Slot}
use Rattle.slot.specs.Slots.{closed_slot, open_slot, slot_at, open_with, has_key, place}
use Rattle.slot.specs.Sound.{key_in_range, fits, slot_sound, slots_sound, keys_differ, sound}
use Rattle.slot.proofs.Keys.{same_key_lem}
use Rattle.station.specs.declared.Station.{Station}
use Rattle.station.specs.Stations.{sound_station, area, with_area, full_size}
use Rattle.station.specs.Receive.{After, unchanged, progress_in, progress_of, step_at, deliver, judged_as, examined, receive}
use Rattle.station.proofs.Areas.{area_length, put_length, put_same, put_other}
use Rattle.station.proofs.Steps.{Carrying, judged_carries, Keeps, keeps}
use Rattle.station.proofs.Slots.{found, sound_at, sound_set, differ_set}

-- ---- a station and a store that a run goes through

pub record Good (station : Station) (store : List ℕ) : Type 0 where
  pub sixteen : length station.slots ≡ 16
  pub fit : slots_sound station.format station.slots ≡ true
  pub differ : keys_differ station.slots ≡ true
  pub whole : length store ≡ 32768

pub good : (station : Station) (store : List ℕ) → sound_station station ≡ true → full_size store ≡ true → Good station store
unfolding sound
good station store s w =
    let t = each _ s in
    record { sixteen = eqb-true _ _ t.0; fit = t.1.0; differ = t.1.1.0; whole = eqb-true _ _ w }

pub stays_sound : (station : Station) (store : List ℕ) → Good station store → sound_station station ≡ true
unfolding sound
stays_sound station store g = from_each _ (eq-eqb _ _ g.sixteen, (g.fit, (g.differ, tt)))

-- what an open slot with that key says of its progress and key
opened : (format : Format) (o : Option Stream) (key : Key) → open_with key o ≡ true → slot_sound format o ≡ true
    → (key_in_range format key ≡ true) × (fits format (progress_in o) ≡ true)
unfolding slot_sound
opened format None key e s = let z : ◌≡◌ {A = ℕ} 0 1 = cc in absurd (omega arith)
opened format (Some stream) key e s =
    let t = each _ s in (ap (key_in_range format) (sym (same_key_lem stream.key key e)) ∙ t.0, t.1.0)

module _ (station : Station) (store : List ℕ) (g : Good station store) where
  pub is_found : (key : Key) (i : ℕ) → i < 16 → has_key key (slot_at station.slots i) ≡ eqb (place (has_key key) station.slots) i
  is_found key i h = found station.slots g.differ key i (omega (arith, g.sixteen))

  module _ (key : Key) (frame : Frame) (c : Carrying station.format frame) (i : ℕ) (h : i < 16) (e : place (has_key key) station.slots ≡ i) where
    pub at_slot : (key_in_range station.format key ≡ true) × (fits station.format (progress_of (slot_at station.slots i)) ≡ true)
    at_slot =
        opened station.format (slot_at station.slots i).occupancy key (is_found key i h ∙ eq-eqb _ _ e)
        (sound_at station.format station.slots g.fit i (omega (arith, g.sixteen)))

    kept : Keeps station.format (step station.format (progress_of (slot_at station.slots i)) (area store i) frame)
    unfolding area
    kept =
        keeps station.format (progress_of (slot_at station.slots i)) (area store i) frame at_slot.1
        (area_length 2048 16 store g.whole i h) c

    alone-there : (j : ℕ) → j ≢ i → j < length station.slots → has_key key (slot_at station.slots j) ≡ false
    alone-there j n l =
        is_found key j (omega (arith, g.sixteen)) ∙ ap (λ (k : ℕ). eqb k j) e ∙ ne_eqb i j (λ q. n (sym q))

    stepped-good : Good (step_at station store i key frame).station (step_at station store i key frame).store
    unfolding step_at with_area slot_sound
    stepped-good =
        let next = step station.format (progress_of (slot_at station.slots i)) (area store i) frame in
        let slot = open_slot key next.progress in
        record {
          sixteen = length-set station.slots i slot ∙ g.sixteen;
          fit = sound_set station.format station.slots g.fit i slot (from_each _ (at_slot.0, (kept.fit, tt)));
          differ = differ_set station.slots g.differ i slot alone-there;
          whole = put_length 2048 16 store g.whole i h next.area kept.size ∙ g.whole;
        }

-- what a call leaves of slot i, which was `slot` with area a: `mine` if it is a frame of the key open there
unfoldable pub Touch : Format → (slot : Slot) (a : List ℕ) (i : ℕ) (key : Key) (frame : Frame) (mine : Bool) → After → Type 0
Touch format slot a i key frame true r =
    let next = step format (progress_of slot) a frame in
    (r.answer ≡ next.answer) × (slot_at r.station.slots i ≡ open_slot key next.progress) × (area r.store i ≡ next.area)
Touch format slot a i key frame false r = (slot_at r.station.slots i ≡ slot) × (area r.store i ≡ a)

pub record Follows (station : Station) (store : List ℕ) (i : ℕ) (key : Key) (frame : Frame) (mine : Bool) (r : After) : Type 0 where
  pub stays : Good r.station r.store
  pub format : r.station.format ≡ station.format
  pub touch : Touch station.format (slot_at station.slots i) (area store i) i key frame mine r

module _ (station : Station) (store : List ℕ) (g : Good station store) (key : Key) (frame : Frame) (c : Carrying station.format frame) (i : ℕ) (h : i < 16) where
  placed : (t : ℕ) → place (has_key key) station.slots ≡ t → (b o : Bool) → eqb t i ≡ b → ltb t 16 ≡ o
      → Follows station store i key frame b (cond o (step_at station store t key frame) (unchanged station store (value filtered)))
  unfolding step_at Touch area with_area
  placed t e true true eb eo =
      let same : t ≡ i = eqb-true t i eb in
      let e' : place (has_key key) station.slots ≡ i = e ∙ same in
      let next = step station.format (progress_of (slot_at station.slots i)) (area store i) frame in
      subst (λ (t : ℕ). Follows station store i key frame true (step_at station store t key frame)) (sym same)
      (record {
        stays = stepped-good station store g key frame c i h e';
        format = refl;
        touch = (
          refl,
          get_or-set_same station.slots i _ closed_slot (omega (arith, g.sixteen)),
          put_same 2048 16 store g.whole i h next.area (kept station store g key frame c i h e').size,
        );
      })
  placed t e true false eb eo = let z : t ≡ i = eqb-true t i eb in absurd (omega (arith, ltb-false t 16 eo))
  placed t e false true eb eo =
      let k : t < 16 = ltb-true t 16 eo in
      let next = step station.format (progress_of (slot_at station.slots t)) (area store t) frame in
      let ne : i ≢ t = λ q. eqb-false t i eb (sym q) in
      record {
        stays = stepped-good station store g key frame c t k e;
        format = refl;
        touch = (
          get_or-set_other station.slots t i _ closed_slot ne,
          put_other 2048 16 store g.whole t k next.area (kept station store g key frame c t k e).size i ne,
        );
      }
  placed t e false false eb eo = record { stays = g; format = refl; touch = (refl, refl) }

  pub delivered : Follows station store i key frame (has_key key (slot_at station.slots i)) (deliver station store key frame)
  unfolding deliver
  delivered = rw (is_found station store g key i h) (placed (place (has_key key) station.slots) refl _ _ refl refl)

-- a call that is not refused at the door
pub let_in_lem : (station : Station) (store : List ℕ) → Good station store → (bus : ℕ) (image : List ℕ)
    → receive station store bus image ≡ judged_as station store bus (examined station.format bus image)
unfolding receive checked_then
let_in_lem station store g bus image =
    let s : sound_station station ≡ true = stays_sound station store g in
    let w : full_size store ≡ true = eq-eqb _ _ g.whole in
    rw (s, w)

-- an examined image that is a frame was judged
pub frame_carries : (format : Format) (bus : ℕ) (image : List ℕ) (judged : Judged) → examined format bus image ≡ value judged
    → Carrying format judged.frame
frame_carries format bus image judged e =
    judged_carries format image judged (passed_then (check Field (leb bus 1) ∷ []) (judge format image) judged e).1
