-- Opening, closing and reading, case by case, by what the code has found out.
use Prim.Native.Nat.{ℕ, ◌+◌, ◌*◌, ◌≤◌, ◌<◌}
use native.Mathlib.Omega.{arith}
use mathlib.Core.Path.{◌≡◌, refl, ◌∙◌, sym, ap}
use mathlib.Core.Logic.{◌≢◌}
use mathlib.Core.Bool.{Bool, true, false, cond, not}
use mathlib.Core.List.{List}
use lib.Dec.{eqb}
use lib.ListN.{length, set}
use borrow.Author.Tests.{le-ltb, lt-ltb}
use Rattle.copying.specs.Copy.{copied}
use Rattle.format.specs.declared.Format.{Format}
use Rattle.format.specs.declared.Refusal.TheVariants as refusal
use Rattle.std.specs.Prelude.{Err, Ok}
use Rattle.format.specs.Refusals.{Result, value, refused, number}
use Rattle.format.specs.Tests.{all_true}
use Rattle.stream.specs.declared.Progress.{Progress}
use Rattle.stream.specs.declared.Progress.TheVariants.{Idle}
use Rattle.slot.specs.declared.Key.{Key}
use Rattle.slot.specs.declared.Slot.{Slot}
use Rattle.slot.specs.Slots.{closed_slot, open_slot, is_closed, has_key, place}
use Rattle.slot.specs.Sound.{key_in_range}
use Rattle.slot.specs.Codes.{key_code}
use Rattle.slot.proofs.CodeLaws.{sought_unsound}
use Rattle.station.specs.Stations.{sound_station, with_slots}
use Rattle.station.specs.Receive.{progress_of}
use Rattle.station.specs.Open as handing
use Rattle.station.specs.Open.{changed_at, vacancy, opening, closing, is_open}
use Rattle.station.proofs.Handing.{somewhere, nowhere}
use Rattle.slot.proofs.Places.{position_some}
use Rattle.std.specs.Prelude.{Option, None, Some, is_some, position}
use Rattle.std.specs.Option.{ok_or}
use Rattle.format.specs.declared.Refusal.{Refusal}
use Rattle.stream.specs.Step.{held}
use Rattle.station.specs.Read.{is_done, reading, length_of}
use Rattle.station.proofs.Handing as station
use Rattle.words.specs.Words.{word_bytes, word_at}
use Rattle.station_bytes.specs.States.{end_bytes, format_at, progress_from, key_in, first_of, second_of, slots_from, state_bytes, station_in, is_state}
use Rattle.station_bytes.specs.Calls.{StateAfter, as_state, not_state, open_in, close_in, read_in, state_after}
use Rattle.station_bytes.specs.Parts.{NoStation, OpenAt}
use Rattle.station_bytes.proofs.Bytes.{put_both}
use Rattle.station_bytes.proofs.Places.{slot_is, closed_is}
use Rattle.station_bytes.proofs.Calling.{Sound, unsound, sixteen}

-- a refusal hands back the station handed in, so the bytes stay
refused_as_lem : (state : List ℕ) → state_bytes (station_in state) ≡ state → (n : ℕ) (given : handing.StationAfter)
    → ◌≡◌ {A = handing.StationAfter} (record { answer = refused n; station = station_in state }) given
    → ◌≡◌ {A = StateAfter} (record { answer = refused n; state = state }) (as_state given)
refused_as_lem state same n given e = ap (λ (l : List ℕ). record { answer = refused n; state = l }) (sym same) ∙ ap as_state e

-- the number of a key, if it is in range
pub out_of_range : (b : Bool) (n : ℕ) (o : Option ℕ) → o ≡ cond b (Some n) None → o ≡ None → b ≡ false
out_of_range true n o e q = cc
out_of_range false n o e q = refl

pub in_its_range : (b : Bool) (n : ℕ) (o : Option ℕ) (m : ℕ) → o ≡ cond b (Some n) None → o ≡ Some m → (b ≡ true) × (m ≡ n)
in_its_range true n o m e q = (refl, (cc))
in_its_range false n o m e q = cc

-- the refusal where there is none
pub refusal-none : {A : Type 0} (o : Option A) (name said : Refusal) → Err said ≡ ok_or o name → o ≡ None → said ≡ name
refusal-none None name said e q = cc
refusal-none (Some x) name said e q = cc

-- ---- the bytes are no sound station's

module _ (state : List ℕ) (t : NoStation state) where
  not_sound : (given : handing.StationAfter)
      → (sound_station (station_in state) ≡ false → ◌≡◌ {A = handing.StationAfter} (record { answer = refused 21; station = station_in state }) given)
      → not_state state ≡ cond (is_state state) (as_state given) (not_state state)
  not_sound given f = go (is_state state) refl
    where
      go : (b : Bool) → is_state state ≡ b → not_state state ≡ cond b (as_state given) (not_state state)
      go false i = refl
      go true i = refused_as_lem state (t.same i) 21 given (f (unsound state t.told i))

  pub open_state : (key : Key) → state_after (Err refusal.State) state ≡ open_in state key
  unfolding open_in opening
  open_state key =
      not_sound (opening (station_in state) key)
      (λ s. ap (changed_at (station_in state) (open_slot key Idle)) (station.open_state (station_in state) key refusal.State (sought_unsound (format_at state) (slots_from (format_at state) state 0 16) key s)))

  pub close_state : (i : ℕ) → state_after (Err refusal.State) state ≡ close_in state i
  unfolding close_in closing
  close_state i = not_sound (closing (station_in state) i) (λ s. ap (changed_at (station_in state) closed_slot) (station.close_state (station_in state) i s))

  pub read_state : (store : List ℕ) (i : ℕ) → refused (number refusal.State) ≡ length_of (read_in state store i)
  unfolding read_in
  read_state store i = go (is_state state) refl
    where
      go : (b : Bool) → is_state state ≡ b
          → refused (number refusal.State) ≡ length_of (cond b (reading (station_in state) store i) (refused (number refusal.State)))
      go false j = refl
      go true j = station.read_state (station_in state) store i (unsound state t.told j)

-- ---- whether slot i is open

module _ (state : List ℕ) where
  pub over_15 : (i : ℕ) → 16 ≤ i → is_open (station_in state).slots i ≡ false
  unfolding is_open all_true
  over_15 i h = rw (le-ltb i 16 h)

  told_open : (i : ℕ) → i < 16 → is_open (station_in state).slots i ≡ not (eqb (word_at state (8 * i + 4)) 0)
  unfolding is_open all_true
  told_open i h = rw (lt-ltb i 16 h) (ap not (closed_is state i h (format_at state)))

  pub not_open : (i n : ℕ) → i < 16 → n ≡ word_at state (8 * i + 4) → eqb n 0 ≡ true → is_open (station_in state).slots i ≡ false
  not_open i n h e q = told_open i h ∙ ap not (ap (λ (m : ℕ). eqb m 0) (sym e) ∙ q)

  pub open_at : (i n : ℕ) → i < 16 → n ≡ word_at state (8 * i + 4) → eqb n 0 ≡ false → OpenAt (station_in state).slots i n
  open_at i n h e z =
      let format = format_at state in
      let second = word_at state (8 * i + 4) in
      let open-slot = open_slot (key_in format (word_at state (8 * i))) (progress_from second) in
      let b = ap (λ (m : ℕ). eqb m 0) (sym e) ∙ z in
      record {
        inside = h;
        told = told_open i h ∙ ap not b;
        progress = ap progress_from e ∙ sym (ap (λ (b : Bool). progress_of (cond b closed_slot open-slot)) b) ∙ ap progress_of (sym (slot_is state i h format));
      }

-- ---- they are

module _ (state : List ℕ) (s : Sound state) where
  abbrev format : Format
  format = format_at state

  abbrev slots : List Slot
  slots = (station_in state).slots

  open_is : (key : Key) → open_in state key ≡ as_state (opening (station_in state) key)
  unfolding open_in
  open_is key = rw s.is

  close_is : (i : ℕ) → close_in state i ≡ as_state (closing (station_in state) i)
  unfolding close_in
  close_is i = rw s.is

  read_is : (store : List ℕ) (i : ℕ) → read_in state store i ≡ reading (station_in state) store i
  unfolding read_in
  read_is store i = rw s.is

  -- slot i becomes another
  put_slot : (i : ℕ) → i < 16 → (x : Slot) (a b : ℕ) → a ≡ first_of x.occupancy → b ≡ second_of x.occupancy
      → copied (copied state (8 * i) (word_bytes a)) (8 * i + 4) (word_bytes b) ≡ state_bytes (with_slots (station_in state) (set slots i x))
  put_slot i h x a b ea eb =
      let over = put_both slots i (omega (arith, sixteen state s, h)) (end_bytes format) x in
      let same = s.same in
      cc

  module _ (key : Key) where
    -- a refusal of the key
    refused-key : (name : Refusal) → refused (number name) ≡ vacancy (station_in state) key → state_after (Err name) state ≡ open_in state key
    unfolding opening
    refused-key name e = refused_as_lem state s.same (number name) _ (ap (changed_at (station_in state) (open_slot key Idle)) e) ∙ sym (open_is key)

    pub open-field : key_in_range format key ≡ false → state_after (Err refusal.Field) state ≡ open_in state key
    open-field r = refused-key refusal.Field (station.open-field (station_in state) key s.ok r)

    module _ (r : key_in_range format key ≡ true) (k : Option ℕ) (p : k ≡ position (has_key key) slots) where
      pub open-taken : is_some k ≡ true → state_after (Err refusal.Taken) state ≡ open_in state key
      open-taken h = refused-key refusal.Taken (station.open-taken (station_in state) key s.ok r (somewhere format slots (has_key key) s.ok k p h))

      module _ (f : is_some k ≡ false) where
        none : 16 ≤ place (has_key key) slots
        none = nowhere format slots (has_key key) s.ok k p f

        pub open_full : None ≡ position is_closed slots → state_after (Err refusal.Full) state ≡ open_in state key
        open_full e = refused-key refusal.Full (station.open_full (station_in state) key s.ok r none (nowhere format slots is_closed s.ok None e refl))

        pub open-lowest : (i : ℕ) → Some i ≡ position is_closed slots → (last : List ℕ) (n : ℕ) → n ≡ key_code key
            → last ≡ copied (copied state (8 * i) (word_bytes n)) (8 * i + 4) (word_bytes 65536)
            → state_after (Ok i) last ≡ open_in state key
        unfolding opening
        open-lowest i e last n en el =
            let at = position_some is_closed slots i e in
            let h : i < 16 = omega (arith, at.1, sixteen state s) in
            ap (λ (l : List ℕ). record { answer = value i; state = l }) (el ∙ put_slot i h (open_slot key Idle) n 65536 en refl)
            ∙ ap as_state (ap (changed_at (station_in state) (open_slot key Idle)) (station.open-lowest (station_in state) key s.ok r none i at.0 h))
            ∙ sym (open_is key)

  pub close_closed : (i : ℕ) → is_open slots i ≡ false → state_after (Err refusal.Closed) state ≡ close_in state i
  unfolding closing
  close_closed i o = refused_as_lem state s.same 16 _ (ap (changed_at (station_in state) closed_slot) (station.close_closed (station_in state) i s.ok o)) ∙ sym (close_is i)

  pub close_open : (i : ℕ) → i < 16 → is_open slots i ≡ true → (last : List ℕ)
      → last ≡ copied (copied state (8 * i) (word_bytes 0)) (8 * i + 4) (word_bytes 0) → state_after (Ok i) last ≡ close_in state i
  unfolding closing
  close_open i h o last el =
      ap (λ (l : List ℕ). record { answer = value i; state = l }) (el ∙ put_slot i h closed_slot 0 0 refl refl)
      ∙ ap as_state (ap (changed_at (station_in state) closed_slot) (station.close_open (station_in state) i s.ok o))
      ∙ sym (close_is i)

  -- ---- reading

  module _ (store : List ℕ) (i : ℕ) where
    as_read : (r : Result ℕ) → r ≡ length_of (reading (station_in state) store i) → r ≡ length_of (read_in state store i)
    as_read r e = e ∙ ap length_of (sym (read_is store i))

    pub read-store : length store ≢ 32768 → refused (number refusal.Store) ≡ length_of (read_in state store i)
    read-store w = as_read _ (station.read-store (station_in state) store i s.ok w)

    module _ (w : length store ≡ 32768) where
      pub read-closed : is_open slots i ≡ false → refused (number refusal.Closed) ≡ length_of (read_in state store i)
      read-closed o = as_read _ (station.read-closed (station_in state) store i s.ok w o)

      module _ (n : ℕ) (o : OpenAt slots i n) (p : Progress) (ep : p ≡ progress_from n) where
        pub read_none : is_done p ≡ false → refused (number refusal.NoPacket) ≡ length_of (read_in state store i)
        read_none d = as_read _ (station.read_none (station_in state) store i s.ok w o.told p (ep ∙ o.progress) d)

        pub read_done : is_done p ≡ true → value (held p) ≡ length_of (read_in state store i)
        read_done d = as_read _ (station.read_done (station_in state) store i (held p) (station.readable (station_in state) store i s.ok w o.told p (ep ∙ o.progress) d))
