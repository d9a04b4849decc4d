-- Document 01, "Frame images", the piece rules, and "Refusal numbers" 1 to 5 in their order, with 25 of document 02, L4: what an image is
-- judged to be.
use Rattle.std.specs.Prelude.{ℕ, ◌+◌, Bool, not, ◌||◌, cond, List, [], ◌∷◌, leb, eqb, length, drop}
use Rattle.format.specs.declared.Format.{Format}
use Rattle.format.specs.declared.Format.TheVariants.{Extended, Standard}
use Rattle.format.specs.declared.Fields.{Fields}
use Rattle.format.specs.declared.Flag.{Flag}
use Rattle.format.specs.declared.Flag.TheVariants.{Middle, Start, End, Single}
use Rattle.format.specs.declared.Refusal.TheVariants.{Length, Form, Remote, Count, Surplus, Piece}
use Rattle.format.specs.Tests.{all_true}
use Rattle.format.specs.Formats.{header_size}
use Rattle.format.specs.Refusals.{Result, value, refused, Check, check, guarded, number}
use Rattle.frame.specs.declared.Layout.{Layout}
use Rattle.format.specs.Refusals.{Returned}
use Rattle.frame.specs.declared.Head.{Head}
use Rattle.std.specs.Prelude.{Err, Ok}
use Rattle.frame.specs.Layout.{layout}

-- a frame: its identifier fields, flag and number, and the packet bytes that it carries
pub record Frame : Type 0 where
  pub fields : Fields
  pub flag : Flag
  pub number : ℕ
  pub bytes : List ℕ

-- Document 02, L3, which overrules document 01 here: "Received counts 9 to 15 are read as 8, in both formats, before the piece rules."
-- How many data bytes a count code says.
abbrev pub data_count : ℕ → ℕ
data_count code = cond (leb 9 code) 8 code

-- single: any count 0 to 8; extended number 0 (a standard single has no number, for which the layout gives 0).
-- start: count 8, number 0.
-- middle: count 8. Standard number 1 to 254.
-- end: extended count 1 to 8; standard number 1 to 255 and count 2 to 8, but at least 3 where the number is 1.
unfoldable pub piece_rule : Format → Flag → (count number : ℕ) → Bool
piece_rule format Single count number = all_true (leb count 8 ∷ eqb number 0 ∷ [])
piece_rule format Start count number = all_true (eqb count 8 ∷ eqb number 0 ∷ [])
piece_rule Extended Middle count number = eqb count 8
piece_rule Standard Middle count number = all_true (eqb count 8 ∷ leb 1 number ∷ leb number 254 ∷ [])
piece_rule Extended End count number = all_true (leb 1 count ∷ leb count 8 ∷ [])
piece_rule Standard End count number =
    all_true (leb 1 number ∷ leb number 255 ∷ leb 2 count ∷ leb count 8 ∷ (not (eqb number 1) || leb 3 count) ∷ [])

-- LENGTH: image length outside its format's range, 5 to 13 or 2 to 10. FORM: extended fixed bits wrong. REMOTE: RTR is 1.
-- Document 02, L4, which overrules document 01 here: "4 COUNT becomes the image that is too short for its count; 25 SURPLUS the one too
-- long, at the same place in the order." The count is as L3 has it read. PIECE: a piece rule broken.
unfoldable pub checks : Format → ℕ → Layout → List Check
checks format size said =
    let count : ℕ = data_count said.code in
    check Length (all_true (leb (header_size format) size ∷ leb size (header_size format + 8) ∷ []))
    ∷ check Form said.fixed
    ∷ check Remote (eqb said.rtr 0)
    ∷ check Count (leb (header_size format + count) size)
    ∷ check Surplus (leb size (header_size format + count))
    ∷ check Piece (piece_rule format said.flag count said.number)
    ∷ []

-- a frame read from an image, and where in the image its packet bytes begin: they run from there to its end
pub record Judged : Type 0 where
  pub frame : Frame
  pub start : ℕ

abbrev pub read_as : Fields → Flag → (number start : ℕ) → List ℕ → Judged
read_as fields flag number start image =
    record { frame = record { fields = fields; flag = flag; number = number; bytes = drop start image }; start = start }

abbrev pub read_by : Layout → List ℕ → Judged
read_by said image = read_as said.fields said.flag said.number said.start image

-- "LENGTH of an image is judged before any bit": it is the first check, and looks at no bit
unfoldable pub judge : Format → List ℕ → Result Judged
judge format image =
    guarded (checks format (length image) (layout format image)) (read_by (layout format image) image)

-- what the code's answer says of the image
abbrev pub meaning : Returned Head → List ℕ → Result Judged
meaning (Ok head) image = value (read_as head.fields head.flag head.number head.start image)
meaning (Err name) image = refused (number name)
