-- What is proved of frame images, in both formats. Proofs: proofs/Images.antt, proofs/CountCodes.antt (`CodesAlike`), proofs/Lengths.antt
-- (`WhichWay`), proofs/Verdicts.antt (`OneVerdict`).
use Rattle.std.specs.Prelude.{ℕ, ◌+◌, ◌≤◌, ◌<◌, ◌≡◌, ◌≢◌, true, List, length, get_or, drop}
use Rattle.format.specs.declared.Format.{Format}
use Rattle.format.specs.declared.Refusal.TheVariants.{Count, Surplus}
use Rattle.format.specs.Formats.{header_size, format_of, packet_start}
use Rattle.format.specs.Refusals.{value, refused, number}
use Rattle.format.specs.Refusals.{Returned}
use Rattle.frame.specs.declared.Head.{Head}
use Rattle.frame.specs.Layout.{layout}
use Rattle.frame.specs.Judge.{data_count, Frame, Judged, judge, meaning}
use Rattle.frame.specs.Image.{data_of, image_with, image_of, count_code, with_code, sound_frame}

-- a list of bytes, as every slice of u8 is one
abbrev pub Bytes : List ℕ → Type 0
Bytes list = (i : ℕ) → get_or list i 0 < 256

-- the image of every sound frame is judged to be that frame
unfoldable pub ImageIsJudged : Type 0
ImageIsJudged =
    (frame : Frame) → sound_frame frame ≡ true
    → judge (format_of frame.fields) (image_of frame)
    ≡ value (record { frame = frame; start = packet_start (format_of frame.fields) frame.flag })

-- ---- count codes: document 02, L3

-- a code that says eight data bytes: 8 to 15
abbrev pub SaysEight : (code : ℕ) → Type 0
SaysEight code = (8 ≤ code) × (code ≤ 15)

-- a count code that may stand before so many data bytes: any of 8 to 15 before eight, and the count otherwise
pub record CodeFor (code count : ℕ) : Type 0 where
  pub eight : count ≡ 8 → SaysEight code
  pub other : count ≢ 8 → code ≡ count

-- "Received counts 9 to 15 are read as 8, in both formats": in any image, sound or not, a code of 9 to 15 is judged as 8 is
unfoldable pub CodesAlike : Type 0
CodesAlike =
    (format : Format) (image : List ℕ) (code : ℕ) → SaysEight code
    → judge format (with_code format code image) ≡ judge format (with_code format 8 image)

-- so the image of a sound frame, with each code that may stand before its data bytes, is judged to be that frame
unfoldable pub EachCodeIsJudged : Type 0
EachCodeIsJudged =
    (frame : Frame) (code : ℕ) → sound_frame frame ≡ true → CodeFor code (length (data_of frame))
    → judge (format_of frame.fields) (image_with code frame)
    ≡ value (record { frame = frame; start = packet_start (format_of frame.fields) frame.flag })

-- "The writer still sends 8": the image that is sent has for its code the count itself, eight at most
unfoldable pub CountSent : Type 0
CountSent =
    (frame : Frame) → sound_frame frame ≡ true
    → (count_code (format_of frame.fields) (image_of frame) ≡ length (data_of frame)) × (length (data_of frame) ≤ 8)

-- ---- which way a length is wrong: document 02, L4

-- an image that passes 1 to 3: its length is within its format's range, its fixed bits are right, and RTR is 0
pub record PassesThree (format : Format) (image : List ℕ) : Type 0 where
  pub least : header_size format ≤ length image
  pub most : length image ≤ header_size format + 8
  pub formed : (layout format image).fixed ≡ true
  pub data_frame : (layout format image).rtr ≡ 0

-- an image is refused with n exactly if it passes 1 to 3 and that holds of it
pub record Exactly (format : Format) (image : List ℕ) (n : ℕ) (That : Type 0) : Type 0 where
  pub only : judge format image ≡ refused n → PassesThree format image × That
  pub always : PassesThree format image → That → judge format image ≡ refused n

-- "4 COUNT becomes the image that is too short for its count; 25 SURPLUS the one too long": fewer bytes than header and count, or more
pub record WhichWay : Type 0 where
  pub short : (format : Format) (image : List ℕ)
      → Exactly format image (number Count) (length image < header_size format + data_count (count_code format image))
  pub long : (format : Format) (image : List ℕ)
      → Exactly format image (number Surplus) (header_size format + data_count (count_code format image) < length image)

-- ---- images and frames

-- an image that is judged sound is the image of that frame but for its count code, which is any of 8 to 15 if the frame has eight data
-- bytes, and the count otherwise; the frame is a sound one of the format; and its packet bytes are the image's, from start to its end
pub record IsImage (format : Format) (image : List ℕ) (judged : Judged) : Type 0 where
  pub whole : image_with (count_code format image) judged.frame ≡ image
  pub code : CodeFor (count_code format image) (length (data_of judged.frame))
  pub sound : sound_frame judged.frame ≡ true
  pub of_format : format_of judged.frame.fields ≡ format
  pub starts : judged.start ≤ length image
  pub carries : judged.frame.bytes ≡ drop judged.start image

unfoldable pub JudgedIsImage : Type 0
JudgedIsImage =
    (format : Format) (image : List ℕ) → Bytes image → (judged : Judged) → judge format image ≡ value judged → IsImage format image judged

-- so two images that mean the same frame are of one format, and differ at most in their count codes, both of which then are of 8 to 15
pub record OneButCode (format format' : Format) (image image' : List ℕ) : Type 0 where
  pub of_format : format ≡ format'
  pub but_code : with_code format (count_code format' image') image ≡ image'
  pub codes : count_code format image ≢ count_code format' image' → SaysEight (count_code format image) × SaysEight (count_code format' image')

unfoldable pub OneImage : Type 0
OneImage =
    (format format' : Format) (image image' : List ℕ) → Bytes image → Bytes image' → (judged judged' : Judged)
    → judge format image ≡ value judged → judge format' image' ≡ value judged' → judged.frame ≡ judged'.frame
    → OneButCode format format' image image'

-- an answer's meaning leaves no doubt which answer it is, so the contract of judging determines the answer
unfoldable pub OneVerdict : Type 0
OneVerdict = (a b : Returned Head) (image : List ℕ) → meaning a image ≡ meaning b image → a ≡ b
