-- The images of a packet's pieces, received among whatever else: reading gives that packet.
use Prim.Native.Nat.{ℕ, zero, suc, ◌+◌, ◌≤◌, ◌<◌}
use mathlib.Core.Path.{◌≡◌, refl, sym, ap, ◌∙◌, subst}
use mathlib.Core.Bool.{Bool, true, false, cond}
use mathlib.Core.List.{List, [], ◌∷◌, ◌++◌}
use native.Mathlib.Omega.{arith}
use lib.Dec.{leb}
use lib.ListN.{length, drop}
use lib.Seq.{take_at}
use borrow.Author.Tests.{lt-ltb, eq-eqb}
use Rattle.copying.specs.Copy.{written}
use Rattle.format.specs.declared.Format.{Format}
use Rattle.format.specs.declared.Format.TheVariants.{Extended, Standard}
use Rattle.format.specs.declared.Refusal.TheVariants as refusal
use Rattle.format.specs.Formats.{packet_limit, piece_size, format_of}
use Rattle.format.specs.Refusals.{Result, value, refused, checked_then}
use Rattle.format.proofs.Tests.{each, from_each}
use Rattle.format.proofs.Checks.{pass, none_left}
use Rattle.format.proofs.Limits.{most_bytes}
use Rattle.frame.specs.Judge.{Frame, Judged}
use Rattle.frame.specs.Image.{image_of}
use Rattle.packet.specs.Split.{count_of, piece, pieces_from, pieces}
use Rattle.packet.specs.Claims.{IsSplit, Splitting}
use Rattle.packet.proofs.Pieces.{splitting, count_pieces}
use Rattle.stream.specs.declared.Progress.TheVariants.{Done}
use Rattle.stream.specs.Step.{collecting}
use Rattle.stream.specs.OneStream.{Alone, one_stream}
use Rattle.slot.specs.declared.Key.{Key}
use Rattle.slot.specs.declared.Stream.{Stream}
use Rattle.slot.specs.Slots.{open_slot, slot_at, same_key}
use Rattle.slot.specs.Sound.{same_format, key_in_range, slot_sound}
use Rattle.slot.proofs.Keys.{same_key_refl}
use Rattle.station.specs.declared.Station.{Station}
use Rattle.station.specs.Stations.{sound_station, area, full_size}
use Rattle.station.specs.Receive.{key_of, examined}
use Rattle.station.specs.Open.{is_open}
use Rattle.station.specs.Read.{reading}
use Rattle.station.specs.Run.{Call, Ran, run, add_if_of, frames_of}
use Rattle.station.specs.Demands.{IsStream, shown, alone, fed, woven, answers_to, Arrives, RoundTripFrom, RoundTripOn, RoundTrip}
use Rattle.station.proofs.Slots.{sound_at}
use Rattle.station.proofs.Calls.{Good, good, stays_sound}
use Rattle.station.proofs.Isolation.{isolated, ended}
use Rattle.station.proofs.Pieces.{fed_alone}

-- ---- other calls between add no frame

adds_none : (key : Key) (bus : ℕ) (j : Result Judged) (rest : List Frame) → add_if_of key bus j (λ (frame : Frame). frame) rest ≡ []
    → ((frames : List Frame) → add_if_of key bus j (λ (frame : Frame). frame) frames ≡ frames) × (rest ≡ [])
unfolding add_if_of
adds_none key bus (refused n) rest e = ((λ frames. refl), e)
adds_none key bus (value judged) rest e = go (same_key key (key_of bus judged.frame)) e
  where
    go : (b : Bool) → cond b (judged.frame ∷ rest) rest ≡ [] → ((frames : List Frame) → cond b (judged.frame ∷ frames) frames ≡ frames) × (rest ≡ [])
    go true e = let z : ◌≡◌ {A = ℕ} 0 1 = cc in absurd (omega arith)
    go false e = ((λ frames. refl), e)

module _ (format : Format) (key : Key) where
  frames_then : (calls others : List Call) → frames_of format key others ≡ [] → frames_of format key (calls ++ others) ≡ frames_of format key calls
  unfolding frames_of
  frames_then [] others e = e
  frames_then (call ∷ calls) others e =
      ap (add_if_of key call.bus (examined format call.bus call.image) (λ (frame : Frame). frame)) (frames_then calls others e)

  frames_woven : (choices : List Bool) (calls others : List Call) → frames_of format key others ≡ []
      → frames_of format key (woven choices calls others) ≡ frames_of format key calls
  unfolding frames_of woven
  frames_woven [] calls others e = frames_then calls others e
  frames_woven (choice ∷ choices) [] others e = e
  frames_woven (choice ∷ choices) (call ∷ calls) [] e = refl
  frames_woven (true ∷ choices) (call ∷ calls) (other ∷ others) e =
      ap (add_if_of key call.bus (examined format call.bus call.image) (λ (frame : Frame). frame)) (frames_woven choices calls (other ∷ others) e)
  frames_woven (false ∷ choices) (call ∷ calls) (other ∷ others) e =
      let n = adds_none key other.bus (examined format other.bus other.image) (frames_of format key others) e in
      n.0 (frames_of format key (woven choices (call ∷ calls) others)) ∙ frames_woven choices (call ∷ calls) others n.1

-- ---- the pieces' images are heard as the pieces

module _ (key : Key) (bytes : List ℕ) (bus : leb key.bus 1 ≡ true) (split : IsSplit key.fields bytes) where
  abbrev fm : Format
  fm = format_of key.fields

  heard : (k : ℕ) → k < length (pieces key.fields bytes) → (rest : List Frame)
      → add_if_of key key.bus (examined fm key.bus (image_of (piece key.fields bytes k))) (λ (frame : Frame). frame) rest
      ≡ piece key.fields bytes k ∷ rest
  unfolding add_if_of piece checked_then
  heard k h rest = rw (bus, split.judged k h, same_key_refl key)

  all_heard : (r k : ℕ) → k + r ≤ length (pieces key.fields bytes)
      → frames_of fm key (fed key.bus (pieces_from key.fields bytes k r)) ≡ pieces_from key.fields bytes k r
  unfolding frames_of pieces_from
  all_heard zero k h = refl
  all_heard (suc r) k h =
      heard k (omega arith) _ ∙ ap (λ (fs : List Frame). piece key.fields bytes k ∷ fs) (all_heard r (suc k) (omega arith))

  all_pieces : frames_of fm key (fed key.bus (pieces key.fields bytes)) ≡ pieces key.fields bytes
  unfolding pieces
  all_pieces =
      let count = count_of (piece_size fm) (length bytes) in
      all_heard count 0 (omega (arith, count_pieces key.fields bytes count 0))

-- ---- reading a slot that is done

reads : (station : Station) (store : List ℕ) → Good station store → (i : ℕ) → i < 16 → (key : Key) (a bytes : List ℕ)
    → slot_at station.slots i ≡ open_slot key (Done (length bytes)) → area store i ≡ written a 0 bytes → reading station store i ≡ value bytes
unfolding reading is_open written
reads station store g i h key a bytes e w =
    let s : sound_station station ≡ true = stays_sound station store g in
    let f : full_size store ≡ true = eq-eqb _ _ g.whole in
    rw (e, w, take_at bytes (drop (0 + length bytes) a) (length bytes) refl)
    (sym (pass refusal.State _ _ s (pass refusal.Store _ _ f (pass refusal.Closed _ _ (from_each _ (lt-ltb _ _ h, (refl, tt))) (pass refusal.NoPacket _ _ refl (none_left bytes))))))

-- ---- the claim

same_format_lem : (a b : Format) → same_format a b ≡ true → a ≡ b
same_format_lem Extended Extended e = refl
same_format_lem Standard Standard e = refl
same_format_lem Extended Standard e = let z : ◌≡◌ {A = ℕ} 0 1 = cc in absurd (omega arith)
same_format_lem Standard Extended e = let z : ◌≡◌ {A = ℕ} 0 1 = cc in absurd (omega arith)

in_range_lem : (station : Station) (store : List ℕ) → Good station store → (i : ℕ) (stream : Stream) → IsStream station i stream
    → key_in_range station.format stream.key ≡ true
unfolding slot_sound
in_range_lem station store g i stream s =
    let here = sound_at station.format station.slots g.fit i (omega (arith, g.sixteen, s.0)) in
    (each _ (rw s.1 at here)).0

arrives : (station : Station) (store : List ℕ) → Good station store → RoundTripFrom station store (λ calls ran. run station store calls ≡ ran)
unfolding RoundTripFrom Splitting key_in_range shown alone
arrives station store g i stream h bytes small others none choices ran ends =
    let key = stream.key in
    let range = each _ (in_range_lem station store g i stream h) in
    let fm : station.format ≡ format_of key.fields = same_format_lem _ _ range.1.0 in
    let limit : length bytes ≤ packet_limit (format_of key.fields) = subst (λ (f : Format). length bytes ≤ packet_limit f) fm small in
    let split = splitting key.fields bytes range.1.1.0 limit in
    let own = fed key.bus (pieces key.fields bytes) in
    let calls = woven choices own others in
    let frames : frames_of station.format key calls ≡ pieces key.fields bytes =
    frames_woven station.format key choices own others none
    ∙ ap (λ (f : Format). frames_of f key own) fm ∙ all_pieces key bytes range.0 split in
    let is = isolated station store g calls in
    let x : alone station.format i stream store calls
    ≡ record {
      answers = answers_to (length (pieces key.fields bytes)) (length bytes) (collecting stream.progress);
      progress = Done (length bytes);
      area = written (area store i) 0 bytes;
    } =
    ap (one_stream station.format stream.progress (area store i)) frames
    ∙ ap (λ (f : Format). one_stream f stream.progress (area store i) (pieces key.fields bytes)) fm
    ∙ fed_alone key.fields bytes (area store i) stream.progress (omega (arith, most_bytes (format_of key.fields))) in
    let e = is.streams i stream h ∙ x in
    subst (Arrives station i stream bytes calls) ends
    (record {
      reads =
          reads (run station store calls).station (run station store calls).store (ended calls station store g).well i h.0 key (area store i) bytes
          (is.slots i stream h ∙ ap (λ (y : Alone). open_slot key y.progress) x)
          (ap (λ (y : Alone). y.area) e);
      answers = ap (λ (y : Alone). y.answers) e;
    })

-- of whatever ends as the run does
pub round_trip_of : (station : Station) (store : List ℕ) → sound_station station ≡ true → full_size store ≡ true
    → (Ends : List Call → Ran → Type 0) → ((calls : List Call) (ran : Ran) → Ends calls ran → run station store calls ≡ ran)
    → RoundTripFrom station store Ends
unfolding RoundTripFrom
round_trip_of station store s w Ends as_run i stream h bytes small others none choices ran ends =
    arrives station store (good station store s w) i stream h bytes small others none choices ran (as_run _ ran ends)

pub round_trip_lem : RoundTrip
unfolding RoundTripOn
round_trip_lem station store s w = round_trip_of station store s w (λ calls ran. run station store calls ≡ ran) (λ calls ran e. e)
