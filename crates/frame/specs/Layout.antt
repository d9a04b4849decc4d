-- Document 01, "Frame images": what stands where in the two images, "bits high first", and what each flag means.
use Rattle.std.specs.Prelude.{ℕ, ◌/◌, ◌%◌, true, cond, List, [], ◌∷◌, eqb, get_or}
use Rattle.format.specs.declared.Format.{Format}
use Rattle.format.specs.declared.Format.TheVariants.{Extended, Standard}
use Rattle.format.specs.declared.Fields.TheVariants as fields
use Rattle.format.specs.declared.Flag.{Flag}
use Rattle.format.specs.declared.Flag.TheVariants.{Middle, Start, End, Single}
use Rattle.format.specs.Tests.{all_true}
use Rattle.format.specs.Formats.{flag_bits, numbered, packet_start}
use Rattle.frame.specs.declared.Layout.{Layout}

-- the flag that two bits are
unfoldable pub flag_of : ℕ → Flag
flag_of bits =
    cond (eqb bits (flag_bits Start)) Start (cond (eqb bits (flag_bits Middle)) Middle (cond (eqb bits (flag_bits End)) End Single))

-- Extended: byte 0: 1, RTR, 0, 0, count (4 bits); byte 1: priority (2), source (6); byte 2: group (2), destination (6);
-- byte 3: flag (2), number (6); byte 4: function (5), 000; then the data bytes.
-- Standard: byte 0: priority (2), address (6); byte 1: side (1), flag (2), RTR, count (4); then data. The side is 0 in a frame that the
-- master sent and 1 in one that a slave sent.
-- `fixed` says whether the fixed bits are right, and `code` is what stands in the four bits of the count (Judge: `data_count` says what it
-- means). A standard single has no number, for which 0 stands.
unfoldable pub layout : Format → List ℕ → Layout
layout Extended image =
    let byte : ℕ → ℕ = λ i. get_or image i 0 in
    let flag : Flag = flag_of (byte 3 / 64) in
    record {
      fixed = all_true (eqb (byte 0 / 128) 1 ∷ eqb (byte 0 / 16 % 4) 0 ∷ eqb (byte 4 % 8) 0 ∷ []);
      rtr = byte 0 / 64 % 2;
      code = byte 0 % 16;
      fields = fields.Extended (byte 1 / 64) (byte 1 % 64) (byte 2 / 64) (byte 2 % 64) (byte 4 / 8);
      flag = flag;
      number = byte 3 % 64;
      start = packet_start Extended flag;
    }
layout Standard image =
    let byte : ℕ → ℕ = λ i. get_or image i 0 in
    let flag : Flag = flag_of (byte 1 / 32 % 4) in
    record {
      fixed = true;
      rtr = byte 1 / 16 % 2;
      code = byte 1 % 16;
      fields = fields.Standard (byte 0 / 64) (byte 0 % 64) (byte 1 / 128);
      flag = flag;
      number = cond (numbered Standard flag) (byte 2) 0;
      start = packet_start Standard flag;
    }
