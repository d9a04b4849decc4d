-- A refused call changes nothing but, after 7 and 8, the slot concerned, which is idle then.
use Prim.Native.Nat.{ℕ, ◌*◌, ◌<◌}
use mathlib.Core.Path.{◌≡◌, refl, sym, ap, ◌∙◌, subst}
use mathlib.Core.Bool.{Bool, true, false, cond, not, ◌||◌}
use mathlib.Core.List.{List, [], ◌∷◌, ◌++◌}
use native.Mathlib.Omega.{arith}
use lib.Dec.{ltb, leb, eqb}
use lib.ListN.{length, set, take, drop, take-append-drop}
use lib.Seq.{set-get_or, drop-drop}
use borrow.Author.Tests.{ltb-true, eqb-true, not-true}
use Rattle.format.specs.declared.Format.{Format}
use Rattle.format.specs.declared.Flag.{Flag}
use Rattle.format.specs.declared.Flag.TheVariants.{Middle, Start, End, Single}
use Rattle.format.specs.declared.Refusal.{Refusal}
use Rattle.format.specs.declared.Refusal.TheVariants.{Orphan, Step, Long, Store, State}
use Rattle.format.specs.Tests.{all_true, all_after}
use Rattle.format.specs.Refusals.{Result, value, refused, number, check, guarded, checked_then}
use Rattle.format.proofs.Checks.{passed_then}
use Rattle.format.proofs.Tests.{each}
use Rattle.frame.specs.Judge.{Frame, Judged, judge}
use Rattle.frame.proofs.Judged.{judging_refusal}
use Rattle.stream.specs.declared.Progress.{Progress}
use Rattle.stream.specs.declared.Progress.TheVariants.{Idle, Collecting, Done}
use Rattle.stream.specs.Answers.{Reply, filtered}
use Rattle.stream.specs.Step.{Next, appended, followed, stepped, step}
use Rattle.stream.proofs.Cases.{refused_with, while_idle, while_done, while_collecting}
use Rattle.slot.specs.declared.Key.{Key}
use Rattle.std.specs.Prelude.{Option, None, Some}
use Rattle.slot.specs.declared.Stream.{Stream}
use Rattle.slot.specs.declared.Slot.{Slot}
use Rattle.slot.specs.Slots.{closed_slot, open_slot, slot_at, is_closed, open_with, has_key, place}
use Rattle.slot.specs.Sound.{sound}
use Rattle.slot.proofs.Keys.{same_key_lem}
use Rattle.slot.proofs.Places.{place_holds}
use Rattle.station.specs.declared.Station.{Station}
use Rattle.station.specs.Stations.{sound_station, full_size, with_slots, area, with_area}
use Rattle.station.specs.Receive.{After, unchanged, key_of, progress_of, step_at, deliver, judged_as, examined, let_in, receive, concerned_by, concerned}
use Rattle.station.specs.Open.{changed_at, opening, closing}
use Rattle.station.proofs.Soundness.{open_checks, close_checks}
use Rattle.station.specs.Demands.{idled, left_by, RefusedKeeps}

-- ---- a step

-- whether a refusal drops the packet
abbrev drops : ℕ → Bool
drops n = eqb n (number Step) || eqb n (number Long)

abbrev Leaves : Progress → List ℕ → Next → Type 0
Leaves progress area next =
    (n : ℕ) → next.answer ≡ refused n → next ≡ record { answer = refused n; progress = cond (drops n) Idle progress; area = area }

-- a step that is refused by that name, and leaves that
by_name : (progress : Progress) (area : List ℕ) (name : Refusal) (left : Progress) → left ≡ cond (drops (number name)) Idle progress
    → Leaves progress area (refused_with name left area)
by_name progress area name left e n q =
    let z : number name ≡ n = cc in
    subst (λ (m : ℕ). refused_with name left area ≡ record { answer = refused m; progress = cond (drops m) Idle progress; area = area }) z
    (ap (λ (p : Progress). refused_with name p area) e)

not_refused_lem : (progress : Progress) (area : List ℕ) (reply : Reply) (left : Progress) (last : List ℕ)
    → Leaves progress area (record { answer = value reply; progress = left; area = last })
not_refused_lem progress area reply left last n q = let z : ◌≡◌ {A = ℕ} 0 1 = cc in absurd (omega arith)

on_end : (progress : Progress) (last : Bool) (h : ℕ) (area bytes : List ℕ) → Leaves progress area (appended last h area bytes)
on_end progress false h area bytes = not_refused_lem progress area _ _ _
on_end progress true h area bytes = not_refused_lem progress area _ _ _

at_followed : (z m : ℕ) (last : Bool) (progress : Progress) (area : List ℕ) (n : ℕ) (bytes : List ℕ)
    → Leaves progress area (followed z m last progress area n bytes)
at_followed z m last Idle area n bytes = while_idle (Leaves Idle area) z m last area n bytes (by_name Idle area Orphan Idle refl)
at_followed z m last (Done h) area n bytes =
    while_done (Leaves (Done h) area) z m last area n bytes h (by_name (Done h) area Orphan (Done h) refl)
at_followed z m last (Collecting h) area n bytes =
    while_collecting (Leaves (Collecting h) area) z m last area n bytes h (λ a. by_name (Collecting h) area Step Idle refl)
    (λ a w. by_name (Collecting h) area Long Idle refl) (λ a w. on_end (Collecting h) last h area bytes)

at_stepped : (z m : ℕ) (progress : Progress) (area : List ℕ) (flag : Flag) (n : ℕ) (bytes : List ℕ)
    → Leaves progress area (stepped z m progress area flag n bytes)
unfolding stepped
at_stepped z m progress area Single n bytes = not_refused_lem progress area _ _ _
at_stepped z m progress area Start n bytes = not_refused_lem progress area _ _ _
at_stepped z m progress area Middle n bytes = at_followed z m false progress area n bytes
at_stepped z m progress area End n bytes = at_followed z m true progress area n bytes

at_step : (format : Format) (progress : Progress) (area : List ℕ) (frame : Frame) → Leaves progress area (step format progress area frame)
unfolding step
at_step format progress area frame = at_stepped _ _ progress area frame.flag frame.number frame.bytes

-- ---- a slot and an area put back

put_back : (store : List ℕ) (i : ℕ) → with_area store i (area store i) ≡ store
unfolding with_area area
put_back store i =
    ap (λ (x : List ℕ). take (2048 * i) store ++ (take 2048 (drop (2048 * i) store) ++ x)) (sym (drop-drop 2048 (2048 * i) store))
    ∙ ap (λ (x : List ℕ). take (2048 * i) store ++ x) (take-append-drop 2048 (drop (2048 * i) store))
    ∙ take-append-drop (2048 * i) store

module _ (station : Station) (i : ℕ) (key : Key) where
  -- the slot that has the key, with what a refusal leaves of it
  left : (o : Option Stream) → slot_at station.slots i ≡ record { occupancy = o } → open_with key o ≡ true → (b : Bool)
      → with_slots station (set station.slots i (open_slot key (cond b Idle (progress_of (record { occupancy = o })))))
      ≡ cond b (with_slots station (set station.slots i (idled o))) station
  left None at e b = let z : ◌≡◌ {A = ℕ} 0 1 = cc in absurd (omega arith)
  left (Some stream) at e true =
      let k = sym (same_key_lem stream.key key e) in ap (λ (x : Key). with_slots station (set station.slots i (open_slot x Idle))) k
  left (Some stream) at e false =
      let k = sym (same_key_lem stream.key key e) in
      ap (λ (x : Key). with_slots station (set station.slots i (open_slot x stream.progress))) k
      ∙ ap (λ (x : Slot). with_slots station (set station.slots i x)) (sym at) ∙ ap (with_slots station) (set-get_or station.slots i closed_slot)

-- ---- a call

abbrev Kept : Station → List ℕ → (at : ℕ) → After → Type 0
Kept station store at r = (n : ℕ) → r.answer ≡ refused n → r ≡ record { answer = refused n; station = left_by n station at; store = store }

-- where none is concerned
none_concerned : (station : Station) (store : List ℕ) (k : ℕ) → drops k ≡ false → Kept station store 16 (unchanged station store (refused k))
unfolding left_by
none_concerned station store k d n e =
    let z : k ≡ n = cc in
    subst (λ (m : ℕ). unchanged station store (refused k) ≡ record { answer = refused m; station = left_by m station 16; store = store }) z
    (ap (λ (b : Bool). record { answer = refused k; station = cond b (with_slots station (set station.slots 16 (idled (slot_at station.slots 16).occupancy))) station; store = store })
    (sym d))

-- what is refused before a slot is looked for drops none
let_in_refused : (station : Station) (store : List ℕ) (bus : ℕ) (image : List ℕ) (n : ℕ) → let_in station store bus image ≡ refused n → drops n ≡ false
unfolding checked_then all_true all_after
let_in_refused station store bus image n e = go (sound_station station) (full_size store) (leb bus 1) e
  where
    other : (k : ℕ) → k ≡ n → drops k ≡ false → drops n ≡ false
    other k q d = subst (λ (m : ℕ). drops m ≡ false) q d

    go : (s w b : Bool) → cond s (cond w (cond b (judge station.format image) (refused 9)) (refused 13)) (refused 21) ≡ refused n → drops n ≡ false
    go false w b e = other 21 (cc) refl
    go true false b e = other 13 (cc) refl
    go true true false e = other 9 (cc) refl
    go true true true e = not-true (drops n) (judging_refusal station.format image n e (λ m. not (drops m)) refl)

module _ (station : Station) (store : List ℕ) (sixteen : length station.slots ≡ 16) (key : Key) (frame : Frame) where
  at_deliver : Kept station store (place (has_key key) station.slots) (deliver station store key frame)
  unfolding deliver step_at left_by
  at_deliver n e = go (ltb (place (has_key key) station.slots) 16) refl e
    where
      at : ℕ
      at = place (has_key key) station.slots

      go : (b : Bool) → ltb (place (has_key key) station.slots) 16 ≡ b
          → (cond b (step_at station store (place (has_key key) station.slots) key frame) (unchanged station store (value filtered))).answer ≡ refused n
          → cond b (step_at station store (place (has_key key) station.slots) key frame) (unchanged station store (value filtered))
          ≡ record { answer = refused n; station = left_by n station (place (has_key key) station.slots); store = store }
      go false l e = let z : ◌≡◌ {A = ℕ} 0 1 = cc in absurd (omega arith)
      go true l e =
          let i = place (has_key key) station.slots in
          let slot = slot_at station.slots i in
          let in16 : i < 16 = ltb-true _ _ l in
          let mine : has_key key slot ≡ true = place_holds (has_key key) station.slots closed_slot (omega (arith, sixteen, in16)) in
          let s = at_step station.format (progress_of slot) (area store i) frame n e in
          (λ k. record {
            answer = (s k).answer;
            station = with_slots station (set station.slots i (open_slot key (s k).progress));
            store = with_area store i (s k).area;
          })
          ∙ (λ k. record {
            answer = refused n;
            station = left station i key slot.occupancy refl mine (drops n) k;
            store = put_back store i k;
          })

refused_receives : (station : Station) (store : List ℕ) (bus : ℕ) (image : List ℕ) → Kept station store (concerned station store bus image) (receive station store bus image)
unfolding receive concerned sound
refused_receives station store bus image n e = go (let_in station store bus image) refl e
  where
    go : (j : Result Judged) → let_in station store bus image ≡ j → (judged_as station store bus j).answer ≡ refused n
        → judged_as station store bus j
        ≡ record { answer = refused n; station = left_by n station (concerned_by station.slots bus j); store = store }
    go (refused k) q e = none_concerned station store k (let_in_refused station store bus image k q) n e
    go (value judged) q e =
        let p = passed_then (check State (sound_station station) ∷ check Store (full_size store) ∷ []) (examined station.format bus image) judged q in
        at_deliver station store (eqb-true _ _ (each _ p.0.0).0) (key_of bus judged.frame) judged.frame n e

changed_keeps : (station : Station) (slot : Slot) (r : Result ℕ) (n : ℕ) → (changed_at station slot r).answer ≡ refused n → (changed_at station slot r).station ≡ station
changed_keeps station slot (value i) n e = let z : ◌≡◌ {A = ℕ} 0 1 = cc in absurd (omega arith)
changed_keeps station slot (refused k) n e = refl

refused_opens : (station : Station) (key : Key) (n : ℕ) → (opening station key).answer ≡ refused n → (opening station key).station ≡ station
unfolding opening
refused_opens station key n e =
    changed_keeps station (open_slot key Idle) (guarded (open_checks station key) (place is_closed station.slots)) n e

refused_closes : (station : Station) (i n : ℕ) → (closing station i).answer ≡ refused n → (closing station i).station ≡ station
unfolding closing
refused_closes station i n e = changed_keeps station closed_slot (guarded (close_checks station i) i) n e

pub refused_keeps : RefusedKeeps
refused_keeps = record { receives = refused_receives; opens = refused_opens; closes = refused_closes }
