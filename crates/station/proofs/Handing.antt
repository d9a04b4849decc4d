-- What opening, closing and reading are, case by case, for the code's proofs.
use Prim.Native.Nat.{ℕ, ◌*◌, ◌≤◌, ◌<◌}
use Rattle.std.specs.Prelude.{Option, None, Some, Ok, Err, IfOk, is_some, position}
use Rattle.std.specs.Option.{ok_or}
use mathlib.Core.Path.{◌≡◌, refl, sym, ap, ◌∙◌, subst}
use mathlib.Core.Logic.{◌≢◌}
use mathlib.Core.Bool.{Bool, true, false, not}
use mathlib.Core.List.{List, [], ◌∷◌}
use native.Mathlib.Omega.{arith}
use lib.Dec.{ltb}
use lib.ListN.{length, take, drop}
use Rattle.std.proofs.Math.ListN.{get_or-eq_default}
use lib.Seq.{length-take-le, take-take}
use borrow.Author.Tests.{leb-true, eqb-true, ltb-true, ltb-false, eq-eqb, ne_eqb, lt-ltb, le-ltb}
use Rattle.format.specs.declared.Format.{Format}
use Rattle.format.specs.declared.Refusal.{Refusal}
use Rattle.format.specs.declared.Refusal.TheVariants as refusal
use Rattle.format.specs.Formats.{packet_limit}
use Rattle.format.specs.Tests.{all_true, all_after}
use Rattle.format.specs.Refusals.{Returned, meaning, Result, value, refused, check, number}
use Rattle.format.proofs.Tests.{each, from_each}
use Rattle.format.proofs.Checks.{stop, pass, none_left, passed}
use Rattle.format.proofs.Limits.{most_bytes}
use Rattle.stream.specs.declared.Progress.{Progress}
use Rattle.stream.specs.declared.Progress.TheVariants.{Idle, Collecting, Done}
use Rattle.stream.specs.Step.{held}
use Rattle.slot.specs.declared.Key.{Key}
use Rattle.slot.specs.declared.Slot.{Slot}
use Rattle.slot.specs.declared.Stream.{Stream}
use Rattle.slot.specs.Slots.{closed_slot, slot_at, is_closed, has_key, place}
use Rattle.slot.specs.Sound.{key_in_range, fits, slot_sound, any, sound, sought}
use Rattle.slot.proofs.Places.{any_place, position_some, position_none}
use Rattle.station.specs.declared.Station.{Station}
use Rattle.station.specs.Stations.{sound_station, area, full_size}
use Rattle.station.specs.Receive.{progress_in, progress_of}
use Rattle.station.specs.Open.{vacancy, is_open, occupied}
use Rattle.station.specs.Read.{is_done, reading, length_of, part_of}
use Rattle.station.proofs.Areas.{area_length}
use Rattle.slot.proofs.CodeLaws.{sought_refused}
use Rattle.station.proofs.Slots.{sound_at}

-- whether a test holds of some slot, by its place
module _ (format : Format) (slots : List Slot) (test : Slot → Bool) (s : sound format slots ≡ true) where
  pub sixteen : length slots ≡ 16
  unfolding sound
  sixteen = eqb-true _ _ (each _ s).0

  sixteenth : any test slots ≡ ltb (place test slots) 16
  sixteenth = any_place test slots ∙ ap (ltb (place test slots)) sixteen

  pub holds : place test slots < 16 → any test slots ≡ true
  holds h = sixteenth ∙ lt-ltb _ 16 h

  pub holds_nowhere : 16 ≤ place test slots → any test slots ≡ false
  holds_nowhere h = sixteenth ∙ le-ltb _ 16 h

  pub within_sixteen : any test slots ≡ true → place test slots < 16
  within_sixteen e = ltb-true _ _ (sym sixteenth ∙ e)

  pub past_sixteen : any test slots ≡ false → 16 ≤ place test slots
  past_sixteen e = ltb-false _ _ (sym sixteenth ∙ e)

  -- and by what the search for it found
  pub somewhere : (o : Option ℕ) → o ≡ position test slots → is_some o ≡ true → place test slots < 16
  somewhere None p e = let z : ◌≡◌ {A = ℕ} 0 1 = cc in absurd (omega arith)
  somewhere (Some i) p e = let at = position_some test slots i p in omega (arith, at.0, at.1, sixteen)

  pub nowhere : (o : Option ℕ) → o ≡ position test slots → is_some o ≡ false → 16 ≤ place test slots
  nowhere None p e = omega (arith, position_none test slots p, sixteen)
  nowhere (Some i) p e = let z : ◌≡◌ {A = ℕ} 0 1 = cc in absurd (omega arith)

-- ---- opening: the slot that opens

module _ (station : Station) (key : Key) where
  pub open_state : (name : Refusal) → Err name ≡ sought station.format station.slots key → refused (number name) ≡ vacancy station key
  open_state name e =
      let u = sought_refused station.format station.slots key name e in ap (λ (n : Refusal). refused (number n)) u.1 ∙ stop refusal.State _ _ u.0

  module _ (s : sound_station station ≡ true) where
    pub open-field : key_in_range station.format key ≡ false → refused (number refusal.Field) ≡ vacancy station key
    open-field r = pass refusal.State _ _ s (stop refusal.Field _ _ r)

    module _ (r : key_in_range station.format key ≡ true) where
      pub open-taken : place (has_key key) station.slots < 16 → refused (number refusal.Taken) ≡ vacancy station key
      open-taken t = pass refusal.State _ _ s (pass refusal.Field _ _ r (stop refusal.Taken _ _ (ap not (holds station.format station.slots (has_key key) s t))))

      module _ (f : 16 ≤ place (has_key key) station.slots) where
        free : not (any (has_key key) station.slots) ≡ true
        free = ap not (holds_nowhere station.format station.slots (has_key key) s f)

        pub open_full : 16 ≤ place is_closed station.slots → refused (number refusal.Full) ≡ vacancy station key
        open_full n =
            pass refusal.State _ _ s (pass refusal.Field _ _ r (pass refusal.Taken _ _ free (stop refusal.Full _ _ (holds_nowhere station.format station.slots is_closed s n))))

        pub open-lowest : (i : ℕ) → i ≡ place is_closed station.slots → i < 16 → value i ≡ vacancy station key
        open-lowest i e h =
            let l : place is_closed station.slots < 16 = omega (arith, e, h) in
            ap value e
            ∙ pass refusal.State _ _ s (pass refusal.Field _ _ r (pass refusal.Taken _ _ free (pass refusal.Full _ _ (holds station.format station.slots is_closed s l) (none_left _))))

        -- what the search for a closed slot found, or FULL
        pub open_found : (o : Option ℕ) → o ≡ position is_closed station.slots → meaning (ok_or o refusal.Full) ≡ vacancy station key
        open_found None p = open_full (nowhere station.format station.slots is_closed s None p refl)
        open_found (Some i) p =
            let at = position_some is_closed station.slots i p in
            open-lowest i at.0 (omega (arith, at.0, at.1, sixteen station.format station.slots is_closed s))

  -- a slot that opens is one of the sixteen
  pub open_within : (r : Returned ℕ) → meaning r ≡ vacancy station key → IfOk r (λ i. i < 16)
  open_within (Err name) e = tt
  open_within (Ok i) e =
      let p = passed _ _ _ (sym e) in
      omega (arith, p.1, within_sixteen station.format station.slots is_closed p.0.0 p.0.1.1.1.0)

-- ---- closing: the slot that closes

pub open_below : (slots : List Slot) (i : ℕ) → is_open slots i ≡ true → i < 16
unfolding is_open
open_below slots i o = ltb-true i 16 (each _ o).0

-- an open slot, by the stream there
module _ (slots : List Slot) (n : length slots ≡ 16) (i : ℕ) where
  pub stream_open : (stream : Stream) → Some stream ≡ (slot_at slots i).occupancy → is_open slots i ≡ true
  unfolding is_open
  stream_open stream e = go (ltb i 16) refl
    where
      go : (b : Bool) → ltb i 16 ≡ b → is_open slots i ≡ true
      go true l = from_each _ (l, (rw (← e) refl, tt))
      go false l =
          let out = get_or-eq_default slots closed_slot (omega (arith, ltb-false _ _ l, n)) in
          let z : Some stream ≡ None = e ∙ ap (λ (slot : Slot). slot.occupancy) out in
          cc

  pub none_open : None ≡ (slot_at slots i).occupancy → is_open slots i ≡ false
  unfolding is_open all_true all_after
  none_open e = rw (← e) (go (ltb i 16))
    where
      go : (b : Bool) → all_true (b ∷ false ∷ []) ≡ false
      go true = refl
      go false = refl

module _ (station : Station) (i : ℕ) where
  pub close_state : sound_station station ≡ false → refused (number refusal.State) ≡ occupied station i
  close_state s = stop refusal.State _ _ s

  module _ (s : sound_station station ≡ true) where
    pub close_closed : is_open station.slots i ≡ false → refused (number refusal.Closed) ≡ occupied station i
    close_closed o = pass refusal.State _ _ s (stop refusal.Closed _ _ o)

    pub close_open : is_open station.slots i ≡ true → value i ≡ occupied station i
    close_open o = pass refusal.State _ _ s (pass refusal.Closed _ _ o (none_left i))

  pub close_within : (r : Returned ℕ) → meaning r ≡ occupied station i → IfOk r (λ j. j < 16)
  close_within (Err name) e = tt
  close_within (Ok j) e = let p = passed _ _ _ (sym e) in omega (arith, p.1, open_below station.slots i p.0.1.0)

-- ---- reading

module _ (station : Station) (store : List ℕ) (i : ℕ) where
  pub read_state : sound_station station ≡ false → refused (number refusal.State) ≡ length_of (reading station store i)
  unfolding reading
  read_state s = ap length_of (stop refusal.State _ _ s)

  module _ (s : sound_station station ≡ true) where
    pub read-store : length store ≢ 32768 → refused (number refusal.Store) ≡ length_of (reading station store i)
    unfolding reading
    read-store w = ap length_of (pass refusal.State _ _ s (stop refusal.Store _ _ (ne_eqb _ _ w)))

    module _ (w : length store ≡ 32768) where
      pub read-closed : is_open station.slots i ≡ false → refused (number refusal.Closed) ≡ length_of (reading station store i)
      unfolding reading is_open
      read-closed o = ap length_of (pass refusal.State _ _ s (pass refusal.Store _ _ (eq-eqb _ _ w) (stop refusal.Closed _ _ o)))

      module _ (o : is_open station.slots i ≡ true) (p : Progress) (e : p ≡ progress_of (slot_at station.slots i)) where
        as_read : is_done p ≡ true → reading station store i ≡ value (take (held p) (area store i))
        unfolding reading is_open
        as_read d =
            rw (sym e)
            (sym (pass refusal.State _ _ s (pass refusal.Store _ _ (eq-eqb _ _ w) (pass refusal.Closed _ _ o (pass refusal.NoPacket _ _ d (none_left _))))))

        pub read_none : is_done p ≡ false → refused (number refusal.NoPacket) ≡ length_of (reading station store i)
        unfolding reading is_open
        read_none d =
            rw (sym e)
            (ap length_of (pass refusal.State _ _ s (pass refusal.Store _ _ (eq-eqb _ _ w) (pass refusal.Closed _ _ o (stop refusal.NoPacket _ _ d)))))

pub not_done : (p : Progress) → ((h : ℕ) → p ≡ Done h → ⊥) → is_done p ≡ false
not_done Idle n = refl
not_done (Collecting h) n = refl
not_done (Done h) n = absurd (n h refl)

-- what is done in a sound slot is within the area
done_small : (format : Format) (o : Option Stream) (h : ℕ) → slot_sound format o ≡ true → is_done (progress_in o) ≡ true → held (progress_in o) ≤ 2048
unfolding slot_sound fits
done_small format None h s d = omega arith
done_small format (Some stream) h s d = go stream.progress (each _ s).1.0 d
  where
    go : (p : Progress) → fits format p ≡ true → is_done p ≡ true → held p ≤ 2048
    go Idle f d = omega arith
    go (Collecting n) f d = let z : ◌≡◌ {A = ℕ} 0 1 = cc in absurd (omega arith)
    go (Done n) f d = omega (arith, leb-true n (packet_limit format) f, most_bytes format)

-- the packet of a slot that can be read
pub record Readable (station : Station) (store : List ℕ) (i h : ℕ) : Type 0 where
  pub below : i < 16
  pub whole : length store ≡ 32768
  pub small : h ≤ 2048
  pub part : value (take h (drop (2048 * i) store)) ≡ reading station store i
  pub size : length (take h (drop (2048 * i) store)) ≡ h

module _ (station : Station) (store : List ℕ) (i : ℕ) (s : sound_station station ≡ true) (w : length store ≡ 32768) (o : is_open station.slots i ≡ true) where
  pub readable : (p : Progress) → p ≡ progress_of (slot_at station.slots i) → is_done p ≡ true → Readable station store i (held p)
  unfolding sound area
  readable p e d =
      let h = open_below station.slots i o in
      let t = each _ s in
      let sixteen : length station.slots ≡ 16 = eqb-true _ _ t.0 in
      let here = sound_at station.format station.slots t.1.0 i (omega (arith, sixteen, h)) in
      let n : held p ≤ 2048 = rw e (done_small station.format (slot_at station.slots i).occupancy 0 here (rw e at d)) in
      let short = take-take (held p) 2048 (drop (2048 * i) store) n in
      let whole = area_length 2048 16 store w i h in
      record {
        below = h;
        whole = w;
        small = n;
        part = ap value (sym short) ∙ sym (as_read station store i s w o p e d);
        size = ap length (sym short) ∙ length-take-le (held p) (area store i) (omega (arith, n, whole));
      }

pub read_done : (station : Station) (store : List ℕ) (i h : ℕ) → Readable station store i h → value h ≡ length_of (reading station store i)
read_done station store i h r = ap value (sym r.size) ∙ ap length_of r.part

-- a length that reading answers is that of a readable packet
from_length : (station : Station) (store : List ℕ) (i h : ℕ) (r : Result (List ℕ)) → reading station store i ≡ r → value h ≡ length_of r → Readable station store i h
unfolding reading is_open
from_length station store i h (value bytes) e q =
    let p = progress_of (slot_at station.slots i) in
    let c = passed (check refusal.State (sound_station station) ∷ check refusal.Store (full_size store) ∷ check refusal.Closed (is_open station.slots i) ∷ check refusal.NoPacket (is_done p) ∷ []) (take (held p) (area store i)) bytes e in
    let r = readable station store i c.0.0 (eqb-true _ _ c.0.1.0) c.0.1.1.0 p refl c.0.1.1.1.0 in
    let same : held p ≡ h = sym r.size ∙ ap length (packet-of (r.part ∙ e)) ∙ sym (number_of q) in
    subst (Readable station store i) same r
  where
    packet-of : {a b : List ℕ} → ◌≡◌ {A = Result (List ℕ)} (value a) (value b) → a ≡ b
    packet-of e = cc

    number_of : {a b : ℕ} → ◌≡◌ {A = Result ℕ} (value a) (value b) → a ≡ b
    number_of e = cc
from_length station store i h (refused n) e q = let z : ◌≡◌ {A = ℕ} 0 1 = cc in absurd (omega arith)

pub has_length : (station : Station) (store : List ℕ) (i h : ℕ) → value h ≡ length_of (reading station store i) → Readable station store i h
has_length station store i h q = from_length station store i h (reading station store i) refl q

-- and a refusal has an empty part
no_part : (n : ℕ) (r : Result (List ℕ)) → refused n ≡ length_of r → part_of r ≡ []
no_part n (value bytes) e = let z : ◌≡◌ {A = ℕ} 0 1 = cc in absurd (omega arith)
no_part n (refused m) e = refl

pub has_none : (station : Station) (store : List ℕ) (i n : ℕ) → refused n ≡ length_of (reading station store i) → [] ≡ part_of (reading station store i)
has_none station store i n e = sym (no_part n (reading station store i) e)
