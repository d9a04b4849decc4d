-- What receiving is, case by case, for the code's proofs.
use Prim.Native.Nat.{ℕ, ◌+◌, ◌-◌, ◌*◌, ◌≤◌, ◌<◌}
use mathlib.Core.Path.{◌≡◌, refl, sym, ap, ◌∙◌}
use mathlib.Core.Logic.{◌≢◌}
use mathlib.Core.Bool.{Bool, true, false, cond}
use mathlib.Core.List.{List, [], ◌∷◌, ◌++◌}
use native.Mathlib.Omega.{arith}
use lib.Dec.{leb, eqb}
use lib.ListN.{length, set, take, drop, length-drop}
use lib.Seq.{take_all, drop-drop}
use borrow.Rule.Slice.PartMut.{put_mid}
use borrow.Author.Tests.{eqb-true, eq-eqb, ne_eqb, ltb-true, lt-ltb, le-ltb, lt-leb, le-leb}
use Rattle.std.specs.Prelude.{Err}
use Rattle.format.specs.declared.Format.{Format}
use Rattle.format.specs.declared.Refusal.{Refusal}
use Rattle.format.specs.declared.Refusal.TheVariants.{Field, Store, Closed, State, Surplus}
use Rattle.format.specs.Refusals.{check, Result, value, refused, number, Check, guarded, checked_then}
use Rattle.format.proofs.Checks.{pass, none_left, stop_then, pass_then, none_left_then, passed, passed_then}
use Rattle.frame.specs.Judge.{Frame, Judged, judge}
use Rattle.frame.proofs.Judged.{sound_image}
use Rattle.stream.specs.declared.Progress.{Progress}
use Rattle.stream.specs.declared.Stepped.{Stepped}
use Rattle.stream.specs.Answers.{meaning, filtered}
use Rattle.stream.specs.Step.{Next, step, offered, next_of}
use Rattle.slot.specs.declared.Key.{Key}
use Rattle.slot.specs.declared.Slot.{Slot}
use Rattle.slot.specs.Slots.{open_slot, slot_at, is_closed, has_key, place}
use Rattle.slot.specs.Sound.{sound, sought}
use Rattle.slot.proofs.CodeLaws.{sought_refused}
use Rattle.station.specs.declared.Station.{Station}
use Rattle.station.specs.Stations.{station_of, sound_station, with_slots, area, with_area}
use Rattle.station.specs.Receive.{After, unchanged, key_of, progress_of, step_at, deliver, examined, let_in, receive, concerned_by, concerned, step_in, step_checks, area_step, stepping}
use Rattle.station.proofs.Areas.{area_length}
use Rattle.station.proofs.Handing.{sixteen}

-- ---- what is let in

module _ (station : Station) (store : List ℕ) (bus : ℕ) (image : List ℕ) where
  pub in_state : (key : Key) (name : Refusal) → Err name ≡ sought station.format station.slots key → refused (number name) ≡ let_in station store bus image
  in_state key name e = let u = sought_refused station.format station.slots key name e in ap (λ (n : Refusal). refused (number n)) u.1 ∙ stop_then State _ _ u.0

  module _ (s : sound_station station ≡ true) where
    pub in_store : length store ≢ 32768 → refused (number Store) ≡ let_in station store bus image
    in_store w = pass_then State _ _ s (stop_then Store _ _ (ne_eqb _ _ w))

    module _ (w : length store ≡ 32768) where
      in_examined : examined station.format bus image ≡ let_in station store bus image
      in_examined = pass_then State _ _ s (pass_then Store _ _ (eq-eqb _ _ w) (none_left_then _))

      pub in_field : 1 < bus → refused (number Field) ≡ let_in station store bus image
      in_field b = stop_then Field _ _ (lt-leb _ _ b) ∙ in_examined

      pub in_judged : bus ≤ 1 → judge station.format image ≡ let_in station store bus image
      in_judged b = pass_then Field _ _ (le-leb _ _ b) (none_left_then _) ∙ in_examined

-- a refused image concerns no slot, whatever the slots, the store and the bus are
pub on_image : (format : Format) (slots : List Slot) (store : List ℕ) (bus : ℕ) (image : List ℕ) (own : Refusal)
    → refused (number own) ≡ judge format image → 16 ≡ concerned (station_of format slots) store bus image
unfolding concerned checked_then
on_image format slots store bus image own e = go (sound format slots) (eqb (length store) 32768) (leb bus 1)
  where
    go : (s w b : Bool) → 16 ≡ concerned_by slots bus (cond s (cond w (cond b (judge format image) (refused 9)) (refused 13)) (refused 21))
    go false w b = refl
    go true false b = refl
    go true true false = refl
    go true true true = ap (λ (j : Result Judged). concerned_by slots bus j) e

-- a refusal
module _ (station : Station) (store : List ℕ) (bus : ℕ) (image : List ℕ) where
  module _ (n : ℕ) (e : refused n ≡ let_in station store bus image) where
    pub refused_at : 16 ≡ concerned station store bus image
    unfolding concerned
    refused_at = rw (← e) refl

    pub by_refusal : unchanged station store (refused n) ≡ receive station store bus image
    unfolding receive
    by_refusal = rw (← e) refl

  -- a frame
  module _ (judged : Judged) (e : value judged ≡ let_in station store bus image) where
    pub frame_at : place (has_key (key_of bus judged.frame)) station.slots ≡ concerned station store bus image
    unfolding concerned
    frame_at = rw (← e) refl

    pub by_none : 16 ≤ place (has_key (key_of bus judged.frame)) station.slots → unchanged station store (value filtered) ≡ receive station store bus image
    unfolding receive deliver
    by_none h = rw (← e, le-ltb _ 16 h) refl

    pub by_slot : (i : ℕ) → i ≡ place (has_key (key_of bus judged.frame)) station.slots → i < 16
        → step_at station store i (key_of bus judged.frame) judged.frame ≡ receive station store bus image
    unfolding receive deliver
    by_slot i p h = rw (← e, ← p, lt-ltb i 16 h) refl

pub rest_is : (image : List ℕ) (start : ℕ) → take (length image - start) (drop start image) ≡ drop start image
rest_is image start = take_all (length image - start) (drop start image) (omega (arith, length-drop start image))

-- what is known of a frame that is let in
pub record InFrame (station : Station) (store : List ℕ) (image : List ℕ) (judged : Judged) : Type 0 where
  pub sixteen : length station.slots ≡ 16
  pub whole : length store ≡ 32768
  pub starts : judged.start ≤ length image
  pub few : length (take (length image - judged.start) (drop judged.start image)) ≤ 8

pub in_frame : (station : Station) (store : List ℕ) (bus : ℕ) (image : List ℕ) (judged : Judged) → value judged ≡ let_in station store bus image
    → InFrame station store image judged
in_frame station store bus image judged e =
    let p = passed_then _ _ _ (sym e) in
    let n = sound_image station.format image judged (passed_then _ _ _ p.1).1 in
    let most = n.most in
    record {
      sixteen = sixteen station.format station.slots is_closed p.0.0;
      whole = eqb-true _ _ p.0.1.0;
      starts = n.starts;
      few = rw rest_is (omega (arith, length-drop judged.start image));
    }

-- ---- a slot that is found already steps

-- the area is lent on
pub part_is : (store : List ℕ) (i : ℕ) → take (2048 * i + 2048 - 2048 * i) (drop (2048 * i) store) ≡ area store i
unfolding area
part_is store i = let e : 2048 * i + 2048 - 2048 * i ≡ 2048 = omega arith in rw e

pub put_is : (store new : List ℕ) (i : ℕ) → put_mid (2048 * i) (2048 * i + 2048 - 2048 * i) store new ≡ with_area store i new
unfolding with_area
put_is store new i =
    let e : 2048 * i + 2048 - 2048 * i ≡ 2048 = omega arith in
    ap (λ (n : ℕ). take (2048 * i) store ++ (new ++ drop n (drop (2048 * i) store))) e
    ∙ ap (λ (x : List ℕ). take (2048 * i) store ++ (new ++ x)) (drop-drop 2048 (2048 * i) store)

offered_is : (format : Format) (progress : Progress) (part : List ℕ) (frame : Frame) → length part ≡ 2048 → length frame.bytes ≤ 8
    → offered format progress part frame.flag frame.number frame.bytes ≡ step format progress part frame
unfolding offered step guarded
offered_is format progress part frame l b = rw (eq-eqb (length part) 2048 l, le-leb (length frame.bytes) 8 b)

-- where it steps
module _ (format : Format) (progress : Progress) (store : List ℕ) (i : ℕ) (frame : Frame) (h : i < 16) (w : length store ≡ 32768) (b : length frame.bytes ≤ 8) where
  pub steps : value (step_in format progress store i frame) ≡ area_step format progress store i frame
  steps = pass Closed _ _ (lt-ltb _ _ h) (pass Store _ _ (eq-eqb _ _ w) (pass Surplus _ _ (le-leb _ _ b) (none_left _)))

  pub lent_on : (next : Stepped) (new part : List ℕ) → part ≡ area store i → next_of next new ≡ offered format progress part frame.flag frame.number frame.bytes
      → next_of next (put_mid (2048 * i) (2048 * i + 2048 - 2048 * i) store new) ≡ step_in format progress store i frame
  unfolding area step_in
  lent_on next new part q e =
      let made : next_of next new ≡ step format progress (area store i) frame =
      e ∙ ap (λ (x : List ℕ). offered format progress x frame.flag frame.number frame.bytes) q
      ∙ offered_is format progress (area store i) frame (area_length 2048 16 store w i h) b in
      rw (put_is store new i) (ap (λ (n : Next). record { answer = n.answer; progress = n.progress; area = with_area store i n.area }) made)

-- the checks say the same of what is guarded by them
refuses_alike : {A B : Type 0} (checks : List Check) (x : A) (y : B) (n : ℕ) → refused n ≡ guarded checks x → refused n ≡ guarded checks y
unfolding guarded
refuses_alike [] x y n e = let z : ◌≡◌ {A = ℕ} 0 1 = cc in absurd (omega arith)
refuses_alike (check name true ∷ rest) x y n e = refuses_alike rest x y n e
refuses_alike (check name false ∷ rest) x y n e = let z : n ≡ number name = cc in ap refused z

passes_alike : {A B : Type 0} (checks : List Check) (x z : A) (y : B) → value z ≡ guarded checks x → value y ≡ guarded checks y
unfolding guarded
passes_alike [] x z y e = refl
passes_alike (check name true ∷ rest) x z y e = passes_alike rest x z y e
passes_alike (check name false ∷ rest) x z y e = let w : ◌≡◌ {A = ℕ} 0 1 = cc in absurd (omega arith)

module _ (station : Station) (progress : Progress) (store : List ℕ) (i : ℕ) (key : Key) (frame : Frame) where
  pub step_refused : (n : ℕ) → refused n ≡ area_step station.format progress store i frame → refused n ≡ stepping store i frame.bytes
  step_refused n e = refuses_alike (step_checks store i frame.bytes) (step_in station.format progress store i frame) i n e

  pub step_passed : (next : Next) → value next ≡ area_step station.format progress store i frame → value i ≡ stepping store i frame.bytes
  step_passed next e = passes_alike (step_checks store i frame.bytes) (step_in station.format progress store i frame) next i e

  pub step_below : (next : Next) → value next ≡ area_step station.format progress store i frame → i < 16
  step_below next e = ltb-true i 16 (passed _ _ _ (sym e)).0.0

  pub slot_steps : progress ≡ progress_of (slot_at station.slots i) → (next : Stepped) (new : List ℕ) → value (next_of next new) ≡ area_step station.format progress store i frame
      → ◌≡◌ {A = After}
      (record { answer = meaning next.answer; station = with_slots station (set station.slots i (open_slot key next.progress)); store = new })
      (step_at station store i key frame)
  unfolding step_in step_at
  slot_steps p next new e =
      let made : next_of next new ≡ step_in station.format (progress_of (slot_at station.slots i)) store i frame =
      sym (passed _ _ _ (sym e)).1 ∙ ap (λ (q : Progress). step_in station.format q store i frame) p in
      ap (λ (n : Next). record { answer = n.answer; station = with_slots station (set station.slots i (open_slot key n.progress)); store = n.area }) made

-- a slot that is found steps, where an image is let in
pub steps_there : (store : List ℕ) (i : ℕ) (bytes : List ℕ) → i < 16 → length store ≡ 32768 → length bytes ≤ 8 → value i ≡ stepping store i bytes
steps_there store i bytes h w b = pass Closed _ _ (lt-ltb _ _ h) (pass Store _ _ (eq-eqb _ _ w) (pass Surplus _ _ (le-leb _ _ b) (none_left _)))
