-- What an image has that is judged sound, and which refusals judging gives: by name, for proofs of other crates.
use Prim.Native.Nat.{ℕ, ◌+◌, ◌-◌, ◌≤◌, ◌<◌}
use mathlib.Core.Path.{◌≡◌, refl}
use mathlib.Core.Bool.{Bool, true}
use mathlib.Core.List.{List, [], ◌∷◌, map}
use lib.ListN.{length, drop, length-drop}
use borrow.Author.Tests.{ltb-true}
use Rattle.format.specs.declared.Format.{Format}
use Rattle.format.specs.declared.Format.TheVariants.{Extended, Standard}
use Rattle.format.specs.declared.Flag.{Flag}
use Rattle.format.specs.declared.Flag.TheVariants.{Middle, Start, End, Single}
use Rattle.format.specs.declared.Refusal.TheVariants.{Length, Form, Remote, Count, Surplus, Piece}
use Rattle.format.specs.Tests.{all_true}
use Rattle.format.specs.Formats.{header_size, number_range, packet_start, format_of, in_range}
use Rattle.format.specs.Refusals.{Result, value, refused, number}
use Rattle.format.proofs.Tests.{each, tests}
use Rattle.format.proofs.Checks.{passed, refused_by}
use Rattle.frame.specs.Layout.{layout}
use Rattle.frame.specs.Judge.{Judged, data_count, piece_rule, checks, read_by, judge}
use Rattle.frame.specs.Image.{sound_frame}
use Rattle.frame.specs.Claims.{Bytes, JudgedIsImage}
use Rattle.frame.proofs.Passing.{passing}
use Rattle.frame.proofs.Images.{rule_count, judged_is_image}

-- ---- an image that is judged sound

pub record SoundImage (format : Format) (image : List ℕ) (judged : Judged) : Type 0 where
  -- what was judged is what stands in the layout
  pub by_layout : read_by (layout format image) image ≡ judged
  -- fixed bits and RTR
  pub formed : (layout format image).fixed ≡ true
  pub data_frame : (layout format image).rtr ≡ 0
  -- its data bytes are as many as its count code says, eight at most
  pub few : data_count (layout format image).code ≤ 8
  pub size : length image ≡ header_size format + data_count (layout format image).code
  -- it keeps the piece rule
  pub rule : piece_rule format judged.frame.flag (data_count (layout format image).code) judged.frame.number ≡ true
  -- the packet bytes are those from start to the image's end, eight at most
  pub start_is : judged.start ≡ packet_start format judged.frame.flag
  pub starts : judged.start ≤ length image
  pub carries : judged.frame.bytes ≡ drop judged.start image
  pub carried : length judged.frame.bytes ≡ length image - judged.start
  pub most : length image - judged.start ≤ 8

start_of : (format : Format) (image : List ℕ) → (layout format image).start ≡ packet_start format (layout format image).flag
unfolding layout
start_of Extended image = refl
start_of Standard image = refl

-- a piece that keeps its rule has its number among its data bytes, if anywhere, and eight packet bytes at most
start_within : (format : Format) (flag : Flag) (count n : ℕ) → piece_rule format flag count n ≡ true
    → (packet_start format flag ≤ header_size format + count) × (header_size format + count - packet_start format flag ≤ 8)
unfolding piece_rule
start_within Extended Single count n r = let u = each _ r in (omega tests, omega tests)
start_within Extended Start count n r = let u = each _ r in (omega tests, omega tests)
start_within Extended Middle count n r = (omega tests, omega tests)
start_within Extended End count n r = let u = each _ r in (omega tests, omega tests)
start_within Standard Single count n r = let u = each _ r in (omega tests, omega tests)
start_within Standard Start count n r = let u = each _ r in (omega tests, omega tests)
start_within Standard Middle count n r = let u = each _ r in (omega tests, omega tests)
start_within Standard End count n r = let u = each _ r in (omega tests, omega tests)

module _ (format : Format) (image : List ℕ) where
  of_layout : (judged : Judged) → judge format image ≡ value judged → SoundImage format image (read_by (layout format image) image)
  unfolding judge
  of_layout judged e =
      let said = layout format image in
      let p = passing format (length image) said (passed (checks format (length image) said) (read_by said image) judged e).0 in
      let s = start_of format image in
      let w = start_within format said.flag (data_count said.code) said.number p.rule in
      record {
        by_layout = refl;
        formed = p.formed;
        data_frame = p.data_frame;
        few = rule_count format said.flag (data_count said.code) said.number p.rule;
        size = p.counted;
        rule = p.rule;
        start_is = s;
        starts = rw (s, p.counted) w.0;
        carries = refl;
        carried = length-drop said.start image;
        most = rw (s, p.counted) w.1;
      }

  pub sound_image : (judged : Judged) → judge format image ≡ value judged → SoundImage format image judged
  unfolding judge
  sound_image judged e =
      let said = layout format image in
      rw (← (passed (checks format (length image) said) (read_by said image) judged e).1) (of_layout judged e)

-- the fields and the number are in range: this needs that the image is one of bytes
pub record FrameInRange (format : Format) (judged : Judged) : Type 0 where
  pub of_format : format_of judged.frame.fields ≡ format
  pub fields : in_range judged.frame.fields ≡ true
  pub number : judged.frame.number < number_range format

pub frame_in_range : (format : Format) (image : List ℕ) → Bytes image → (judged : Judged)
    → judge format image ≡ value judged → FrameInRange format judged
unfolding JudgedIsImage sound_frame
frame_in_range format image bytes judged e =
    let i = judged_is_image format image bytes judged e in
    let t = each _ i.sound in
    record { of_format = i.of_format; fields = t.0; number = rw (← i.of_format) (ltb-true _ _ t.1.0) }

-- ---- an image that is refused

abbrev judging_numbers : List ℕ
judging_numbers = map number (Length ∷ Form ∷ Remote ∷ Count ∷ Surplus ∷ Piece ∷ [])

-- n is one of these numbers: it passes each test that they all pass
abbrev pub JudgingRefusal : ℕ → Type 0
JudgingRefusal n = (test : ℕ → Bool) → all_true (map test judging_numbers) ≡ true → test n ≡ true

pub judging_refusal : (format : Format) (image : List ℕ) (n : ℕ) → judge format image ≡ refused n → JudgingRefusal n
unfolding judge checks
judging_refusal format image n e test all =
    refused_by (λ m. test m ≡ true) (checks format (length image) (layout format image)) (each _ all) _ n e

-- ---- either

pub by_judging : (P : Result Judged → Type 0) (format : Format) (image : List ℕ)
    → ((judged : Judged) → judge format image ≡ value judged → P (value judged)) → ((n : ℕ) → JudgingRefusal n → P (refused n))
    → P (judge format image)
by_judging P format image give refuse = go (judge format image) refl
  where
    go : (r : Result Judged) → judge format image ≡ r → P r
    go (value judged) e = give judged e
    go (refused n) e = refuse n (judging_refusal format image n e)
