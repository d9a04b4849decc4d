-- What each call answers is small, and the number of a refusal a byte and not 0.
use Prim.Native.Nat.{ℕ, zero, suc, ◌+◌, ◌≤◌, ◌<◌}
use mathlib.Core.Path.{◌≡◌, refl, sym, ap}
use mathlib.Core.Bool.{Bool, true, false, cond}
use mathlib.Core.List.{List, [], ◌∷◌, map}
use native.Mathlib.Omega.{arith}
use lib.Dec.{leb, ltb, eqb}
use lib.ListN.{length, get_or, set, replicate, length-replicate}
use borrow.Author.Tests.{leb-true, ltb-true}
use Rattle.format.specs.declared.Format.{Format}
use Rattle.format.specs.declared.Format.TheVariants as format
use Rattle.format.specs.declared.Fields.{Fields}
use Rattle.format.specs.declared.Fields.TheVariants as fields
use Rattle.format.specs.declared.Flag.{Flag}
use Rattle.format.specs.declared.Flag.TheVariants.{Middle, Start, End, Single}
use Rattle.format.specs.declared.Refusal.{Refusal}
use Rattle.format.specs.declared.Refusal.TheVariants.{Orphan, Step, Long, Field, Size, State}
use Rattle.format.specs.Formats.{packet_limit, piece_size, format_of, in_range}
use Rattle.format.specs.Refusals.{Result, value, refused, number, Check, check, guarded, checked_then}
use Rattle.format.specs.Tests.{all_true, all_after}
use Rattle.format.proofs.Numbers.{numbers, each_number}
use Rattle.format.proofs.Checks.{Passed, passed}
use Rattle.format.proofs.Limits.{five_bytes, most_bytes}
use Rattle.format.proofs.Tests.{each, tests}
use Rattle.frame.specs.Judge.{Frame, Judged, judge}
use Rattle.frame.specs.Image.{image_of}
use Rattle.frame.proofs.Judged.{sound_image, by_judging}
use Rattle.packet.specs.Split.{count_of, piece, pieces}
use Rattle.format.specs.Outputs.{fitting, answer}
use Rattle.packet.specs.Send.{piece_count, send}
use Rattle.packet.specs.Claims.{Splitting, IsSplit}
use Rattle.packet.proofs.Pieces.{splitting}
use Rattle.stream.specs.declared.Progress.{Progress}
use Rattle.stream.specs.declared.Progress.TheVariants as progress
use Rattle.stream.specs.Step.{Next, step, stepped, followed, appended}
use Rattle.stream.proofs.Cases.{while_idle, while_done, while_collecting}
use Rattle.slot.specs.declared.Key.{Key}
use Rattle.slot.specs.Slots.{closed_slot, open_slot, is_closed, has_key, place}
use Rattle.slot.specs.Sound.{fits}
use Rattle.station.specs.declared.Station.{Station}
use Rattle.station.specs.Receive.{After, judged_as, let_in, step_at, deliver, receive}
use Rattle.station.specs.Open as handing
use Rattle.station.specs.Read.{reading, length_of}
use Rattle.station.proofs.Handing.{within_sixteen, has_length, open_below}
use Rattle.station.proofs.Steps.{Carrying, judged_carries, keeps}
use Rattle.station_bytes.specs.States.{station_in, is_state}
use Rattle.station_bytes.specs.Calls.{StateAfter, BytesAfter, renewed, receive_in, open_in, close_in, read_in}
use Rattle.master.specs.declared.Kind.{Kind}
use Rattle.std.specs.Prelude.{Option}
use Rattle.master.specs.declared.Exchange.{Exchange}
use Rattle.std.specs.Prelude.{None, Some}
use Rattle.master.specs.declared.Master.{Master}
use Rattle.master.specs.Masters.{plan_of, chosen_bus, switched, chosen_sound, sound}
use Rattle.master.specs.Exchanges.{Told}
use Rattle.master.specs.Exchanges as exchanges
use Rattle.master.proofs.Buses.{bus_at}
use Rattle.master_bytes.specs.States.{master_in}
use Rattle.master_bytes.specs.States as bytes
use Rattle.master_bytes.specs.Calls as masters
use Rattle.watch.specs.Watching as watching
use Rattle.watch_bytes.specs.States as watches
use Rattle.station_bytes.specs.States.{format_in}
use Rattle.siljuvatt.specs.Calls.{count_in, new_in}
use Rattle.siljuvatt.specs.Claims.{Within, UpTo, LengthUpTo, BusUpTo, Small}
use Rattle.siljuvatt.proofs.Byte.{IsByte, a_byte, byte_within}

-- ---- a guarded result

all_bytes : all_true (map a_byte numbers) ≡ true
unfolding all_true all_after
all_bytes = refl

a_refusal : (name : Refusal) → IsByte (number name)
a_refusal name = byte_within (number name) (each_number a_byte all_bytes name)

-- its value where every check holds, or a refusal
by_checks : {A : Type 0} (P : Result A → Type 0) (list : List Check) (x : A) → (Passed list → P (value x))
    → ((name : Refusal) → P (refused (number name))) → P (guarded list x)
unfolding guarded
by_checks P [] x give refuse = give tt
by_checks P (check name true ∷ rest) x give refuse = by_checks P rest x (λ p. give (refl, p)) refuse
by_checks P (check name false ∷ rest) x give refuse = refuse name

within : {A : Type 0} (Holds : A → Type 0) (list : List Check) (x : A) → (Passed list → Holds x) → Within Holds (guarded list x)
within Holds list x give = by_checks (Within Holds) list x give a_refusal

-- the same before a result of its own
by_checks_then : {A : Type 0} (P : Result A → Type 0) (list : List Check) (r : Result A) → (Passed list → P r)
    → ((name : Refusal) → P (refused (number name))) → P (checked_then list r)
unfolding checked_then
by_checks_then P [] r give refuse = give tt
by_checks_then P (check name true ∷ rest) r give refuse = by_checks_then P rest r (λ p. give (refl, p)) refuse
by_checks_then P (check name false ∷ rest) r give refuse = refuse name

then_within : {A : Type 0} (Holds : A → Type 0) (list : List Check) (r : Result A) → Within Holds r → Within Holds (checked_then list r)
then_within Holds list r h = by_checks_then (Within Holds) list r (λ p. h) a_refusal

-- either of two
either : {A : Type 0} (P : A → Type 0) (b : Bool) (x y : A) → P x → P y → P (cond b x y)
either P true x y h k = h
either P false x y h k = k

all_passed : {A : Type 0} (list : List Check) (x : A) → Passed list → guarded list x ≡ value x
unfolding guarded
all_passed [] x p = refl
all_passed (check name ok ∷ rest) x p = rw p.0 (all_passed rest x p.1)

-- what is made of a value
lengths : (most : ℕ) (r : Result (List ℕ)) → Within (λ l. length l ≤ most) r → UpTo most (length_of r)
lengths most (value l) h = h
lengths most (refused n) h = h

-- ---- sending

module _ (fs : Fields) (bytes : List ℕ) (range : in_range fs ≡ true) (small : length bytes ≤ packet_limit (format_of fs)) where
  split : IsSplit fs bytes
  unfolding Splitting
  split = splitting fs bytes range small

  as_counted : count_of (piece_size (format_of fs)) (length bytes) ≡ length (pieces fs bytes)
  unfolding piece_count
  as_counted =
      (passed (check Size (leb (length bytes) (packet_limit (format_of fs))) ∷ []) (count_of (piece_size (format_of fs)) (length bytes)) _
      split.counted).1

  few : count_of (piece_size (format_of fs)) (length bytes) ≤ 256
  few = omega (arith, as_counted, split.few)

  image_small : (k : ℕ) → k < count_of (piece_size (format_of fs)) (length bytes) → length (image_of (piece fs bytes k)) ≤ 13
  image_small k h =
      let fm = format_of fs in
      let sound = sound_image fm (image_of (piece fs bytes k)) _ (split.judged k (omega (arith, as_counted))) in
      omega (arith, sound.size, sound.few, five_bytes fm)

counted : (fs : Fields) → in_range fs ≡ true → (n : ℕ) → UpTo 256 (piece_count (format_of fs) n)
unfolding piece_count
counted fs range n =
    within (λ (m : ℕ). m ≤ 256) (check Size (leb n (packet_limit (format_of fs))) ∷ []) (count_of (piece_size (format_of fs)) n)
    (λ p. let zeros = length-replicate {A = ℕ} n 0 in
    rw zeros at (few fs (replicate n 0) range (rw zeros (leb-true _ _ p.0))))

count_small : (format : Format) (n : ℕ) → UpTo 256 (piece_count format n)
unfolding in_range all_true all_after
count_small format.Extended n = counted (fields.Extended 0 0 0 0 0) refl n
count_small format.Standard n = counted (fields.Standard 0 0 0) refl n

counts : (format size : ℕ) → UpTo 256 (count_in format size)
unfolding count_in
counts format size = either (UpTo 256) (leb format 1) _ _ (count_small (format_in format) size) (a_refusal Field)

image_of_lem : (fs : Fields) (bytes : List ℕ) (k room : ℕ) → Within (λ l. length l ≤ 13) (send fs bytes k room)
unfolding send fitting
image_of_lem fs bytes k room =
    by_checks_then (Within (λ (l : List ℕ). length l ≤ 13)) _ _
    (λ p. within (λ (l : List ℕ). length l ≤ 13) _ _ (λ q. image_small fs bytes p.0 (leb-true _ _ p.1.0) k (ltb-true _ _ p.1.1.0)))
    a_refusal

writes : (fs : Fields) (bytes : List ℕ) (k room : ℕ) → UpTo 13 (answer (send fs bytes k room))
writes fs bytes k room = lengths 13 (send fs bytes k room) (image_of_lem fs bytes k room)

-- ---- a station

abbrev Hands : ℕ → StateAfter → Type 0
Hands most h = UpTo most h.answer

new : (state : List ℕ) (format : ℕ) → UpTo 0 (new_in state format).answer
unfolding new_in renewed
new state format =
    either (Hands 0) (eqb (length state) 130) _ _
    (either (Hands 0) (leb format 1) _ _ (either (Hands 0) (eqb (length state) 130) _ _ (omega arith) (a_refusal State)) (a_refusal Field))
    (a_refusal State)

opens : (state : List ℕ) (key : Key) → UpTo 15 (open_in state key).answer
unfolding open_in handing.opening
opens state key =
    either (Hands 15) (is_state state) _ _
    (by_checks (λ r. UpTo 15 (handing.changed_at (station_in state) (open_slot key progress.Idle) r).answer) _ _
    (λ p. omega (arith, within_sixteen (station_in state).format (station_in state).slots is_closed p.0 p.1.1.1.0)) a_refusal)
    (a_refusal State)

closes : (state : List ℕ) (slot : ℕ) → UpTo 15 (close_in state slot).answer
unfolding close_in handing.closing
closes state slot =
    either (Hands 15) (is_state state) _ _
    (by_checks (λ r. UpTo 15 (handing.changed_at (station_in state) closed_slot r).answer) _ _
    (λ p. omega (arith, open_below (station_in state).slots slot p.1.0)) a_refusal)
    (a_refusal State)

-- the answer of a step: a single has as many bytes as a stream that fits, and a longer packet has been measured
appended_small : (last : Bool) (h : ℕ) (area bytes : List ℕ) → leb (h + length bytes) 2048 ≡ true
    → Within (LengthUpTo 2048) (appended last h area bytes).answer
appended_small false h area bytes e = tt
appended_small true h area bytes e = leb-true _ _ e

abbrev Steps : Next → Type 0
Steps next = Within (LengthUpTo 2048) next.answer

followed_small : (z m : ℕ) (last : Bool) (p : Progress) (area : List ℕ) (n : ℕ) (bytes : List ℕ) → Steps (followed z m last p area n bytes)
followed_small z m last progress.Idle area n bytes = while_idle Steps z m last area n bytes (a_refusal Orphan)
followed_small z m last (progress.Done h) area n bytes = while_done Steps z m last area n bytes h (a_refusal Orphan)
followed_small z m last (progress.Collecting h) area n bytes =
    while_collecting Steps z m last area n bytes h (λ a. a_refusal Step) (λ a w. a_refusal Long) (λ a w. appended_small last h area bytes w)

stepped_small : (format : Format) (z m : ℕ) (flag : Flag) (p : Progress) (area other : List ℕ) (n : ℕ) (bytes : List ℕ)
    → fits format (stepped z m progress.Idle other flag n bytes).progress ≡ true
    → Within (LengthUpTo 2048) (stepped z m p area flag n bytes).answer
unfolding stepped fits
stepped_small format z m Single p area other n bytes f = omega (tests, f, most_bytes format)
stepped_small format z m Start p area other n bytes f = tt
stepped_small format z m Middle p area other n bytes f = followed_small z m false p area n bytes
stepped_small format z m End p area other n bytes f = followed_small z m true p area n bytes

step_small : (format : Format) (p : Progress) (area : List ℕ) (frame : Frame) → Carrying format frame
    → Within (LengthUpTo 2048) (step format p area frame).answer
unfolding step fits
step_small format p area frame c =
    let k = keeps format progress.Idle (replicate 2048 0) frame refl (length-replicate {A = ℕ} 2048 0) c in
    stepped_small format _ _ frame.flag p area (replicate 2048 0) frame.number frame.bytes k.fit

abbrev Receives : After → Type 0
Receives r = Within (LengthUpTo 2048) r.answer

deliver_small : (station : Station) (store : List ℕ) (key : Key) (frame : Frame) → Carrying station.format frame
    → Receives (deliver station store key frame)
unfolding deliver step_at
deliver_small station store key frame c =
    either Receives (ltb (place (has_key key) station.slots) 16) _ _ (step_small station.format _ _ frame c) tt

judged_small : (station : Station) (store : List ℕ) (bus : ℕ) (r : Result Judged)
    → Within (λ j. Carrying station.format j.frame) r → Receives (judged_as station store bus r)
judged_small station store bus (refused n) h = h
judged_small station store bus (value judged) c = deliver_small station store _ judged.frame c

judge_within : (format : Format) (image : List ℕ) → Within (λ j. Carrying format j.frame) (judge format image)
unfolding all_true all_after
judge_within format image =
    by_judging (Within (λ (j : Judged). Carrying format j.frame)) format image
    (judged_carries format image)
    (λ n r. byte_within n (r a_byte refl))

receive_small : (station : Station) (store : List ℕ) (bus : ℕ) (image : List ℕ) → Receives (receive station store bus image)
unfolding receive
receive_small station store bus image =
    judged_small station store bus (let_in station store bus image)
    (then_within _ _ _ (then_within _ _ _ (judge_within station.format image)))

receives : (state store : List ℕ) (bus : ℕ) (image : List ℕ) → Within (LengthUpTo 2048) (receive_in state store bus image).answer
unfolding receive_in
receives state store bus image =
    either (λ (r : BytesAfter). Within (LengthUpTo 2048) r.answer) (is_state state) _ _
    (receive_small (station_in state) store bus image)
    (a_refusal State)

read_small : (station : Station) (store : List ℕ) (slot : ℕ) → Within (λ l. length l ≤ 2048) (reading station store slot)
unfolding reading
read_small station store slot =
    within (λ (l : List ℕ). length l ≤ 2048) _ _ (λ p. (has_length station store slot _ (ap length_of (sym (all_passed _ _ p)))).small)

reads : (state store : List ℕ) (slot : ℕ) → UpTo 2048 (length_of (read_in state store slot))
unfolding read_in
reads state store slot =
    lengths 2048 (read_in state store slot)
    (either (Within (λ (l : List ℕ). length l ≤ 2048)) (is_state state) _ _ (read_small (station_in state) store slot) (a_refusal State))

-- ---- a master

abbrev Tells : masters.MasterBytesAfter Told → Type 0
Tells h = Within (BusUpTo 1) h.answer

new_master : (state : List ℕ) → UpTo 0 (masters.renew state).answer
unfolding masters.renew
new_master state =
    either (λ (h : masters.MasterBytesAfter ℕ). UpTo 0 h.answer) (eqb (length state) 68) _ _ (omega arith) (a_refusal State)

abbrev Gives : Master → Result exchanges.Step → Type 0
Gives master r = Within (BusUpTo 1) (exchanges.handed_back master r).answer

on_state_lem : (state : List ℕ) (given : exchanges.MasterAfter) → Within (BusUpTo 1) given.answer → Tells (masters.on_state state given)
on_state_lem state given h = either Tells (bytes.is_state state) _ _ h (a_refusal State)

set_small : (buses : List ℕ) (node bus : ℕ) → bus ≤ 1 → get_or (set buses node bus) node 0 ≤ 1
set_small [] node bus h = omega arith
set_small (x ∷ buses) zero bus h = h
set_small (x ∷ buses) (suc node) bus h = set_small buses node bus h

chosen_small : (master : Master) → sound master ≡ true → (node : ℕ) → chosen_bus master.chosen node ≤ 1
unfolding sound chosen_sound chosen_bus
chosen_small master s node = bus_at master.chosen node (each _ (each _ s).0).1.0

expired_small : (master : Master) → sound master ≡ true → (a : Option Exchange) → BusUpTo 1 (exchanges.expired master.chosen a).told
unfolding exchanges.expired exchanges.chosen_after switched chosen_bus
expired_small master s None = tt
expired_small master s (Some x) =
    either (λ (t : exchanges.Step). BusUpTo 1 t.told) (ltb x.sends (plan_of x.kind).total) _ _
    (either (λ (l : List ℕ). get_or l x.node 0 ≤ 1) (eqb x.sends (plan_of x.kind).first) _ _
    (set_small master.chosen x.node _ (omega arith))
    (chosen_small master s x.node))
    tt

start_small : (master : Master) (kind : Kind) (node : ℕ) → Within (BusUpTo 1) (exchanges.starting master kind node).answer
unfolding exchanges.starting
start_small master kind node = by_checks (Gives master) _ _ (λ p. chosen_small master p.0 node) a_refusal

starts : (state : List ℕ) (kind node : ℕ) → Within (BusUpTo 1) (masters.starting state kind node).answer
unfolding masters.starting
starts state kind node =
    on_state_lem state _
    (by_checks (λ r. Within (BusUpTo 1) (masters.starting_as (master_in state) node r).answer) _ _
    (λ p. start_small (master_in state) (bytes.kind_of kind) node) a_refusal)

replies : (state : List ℕ) (bus node function : ℕ) → Within (BusUpTo 1) (masters.replying state bus node function).answer
unfolding masters.replying exchanges.replying
replies state bus node function = on_state_lem state _ (by_checks (Gives (master_in state)) _ _ (λ p. tt) a_refusal)

times_out : (state : List ℕ) → Within (BusUpTo 1) (masters.timing_out state).answer
unfolding masters.timing_out exchanges.timing_out
times_out state =
    on_state_lem state _
    (by_checks (Gives (master_in state)) _ _ (λ p. expired_small (master_in state) p.0 (master_in state).activity) a_refusal)

-- ---- a watch

on_watch : (most : ℕ) (state : List ℕ) (given : watches.WatchBytesAfter) → UpTo most given.answer → UpTo most (watches.on_state state given).answer
on_watch most state given h = either (λ (g : watches.WatchBytesAfter). UpTo most g.answer) (watches.is_state state) _ _ h (a_refusal State)

new_watch : (state : List ℕ) (time : ℕ) → UpTo 0 (watches.renew state time).answer
unfolding watches.renew
new_watch state time =
    either (λ (g : watches.WatchBytesAfter). UpTo 0 g.answer) (eqb (length state) 9) _ _ (omega arith) (a_refusal State)

hears : (state : List ℕ) (bus time : ℕ) → UpTo 1 (watches.hearing state bus time).answer
unfolding watches.hearing watching.hearing
hears state bus time =
    on_watch 1 state _
    (by_checks (λ r. UpTo 1 (watching.after_hearing (watches.watch_in state) time r).answer) _ _ (λ p. leb-true _ _ p.0) a_refusal)

resets_small : (a b : Bool) → watches.resets a b ≤ 3
resets_small false false = omega arith
resets_small true false = omega arith
resets_small false true = omega arith
resets_small true true = omega arith

checked : (state : List ℕ) (time : ℕ) → UpTo 3 (watches.checking state time).answer
unfolding watches.checking
checked state time = let c = watching.checking (watches.watch_in state) time in on_watch 3 state _ (resets_small c.a c.b)

pub small : Small
small =
    record {
      counts = counts;
      writes = writes;
      new = new;
      opens = opens;
      closes = closes;
      receives = receives;
      reads = reads;
      new_master = new_master;
      starts = starts;
      replies = replies;
      times_out = times_out;
      new_watch = new_watch;
      hears = hears;
      checks = checked;
    }
