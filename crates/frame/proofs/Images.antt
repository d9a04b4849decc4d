-- The image of a frame is judged to be that frame, and an image that is judged sound is the image of its frame but for its count code.
use Prim.Native.Nat.{ℕ, ◌+◌, ◌-◌, ◌*◌, ◌/◌, ◌%◌, ◌≤◌, ◌<◌}
use mathlib.Core.Path.{◌≡◌, refl, sym, ap, subst, ◌∙◌}
use mathlib.Core.Logic.{◌≢◌}
use mathlib.Core.Bool.{Bool, true, false, cond}
use mathlib.Core.List.{List, ◌∷◌}
use native.Mathlib.Nat.{div-add-mod', div-div-eq-div-mul}
use native.Mathlib.Omega.{arith}
use lib.ListN.{length, get_or, drop, length-drop}
use lib.Seq.{drop-cons}
use lib.Dec.{eqb}
use borrow.Author.Tests.{eqb-true, eqb-false, eq-eqb, lt-ltb}
use Rattle.format.specs.declared.Format.{Format}
use Rattle.format.specs.declared.Format.TheVariants as format
use Rattle.format.specs.declared.Fields.{Fields}
use Rattle.format.specs.declared.Fields.TheVariants.{Extended, Standard}
use Rattle.format.specs.declared.Flag.{Flag}
use Rattle.format.specs.declared.Flag.TheVariants.{Middle, Start, End, Single}
use Rattle.format.specs.declared.Refusal.TheVariants.{Length, Form, Remote, Count, Surplus, Piece}
use Rattle.format.specs.Formats.{format_of, numbered, in_range, flag_bits, packet_start}
use Rattle.format.specs.Refusals.{value}
use Rattle.format.proofs.Tests.{each, from_each, tests}
use Rattle.format.proofs.Checks.{pass, none_left, passed}
use Rattle.frame.specs.Layout.{flag_of, layout}
use Rattle.frame.specs.Judge.{Frame, data_count, piece_rule, checks, read_by, judge}
use Rattle.frame.specs.Image.{data_of, header_bytes, image_with, image_of, count_code, with_code, sound_frame}
use Rattle.frame.specs.Claims.{Bytes, ImageIsJudged, IsImage, JudgedIsImage, OneImage}
use Rattle.frame.specs.Claims.{SaysEight, CodeFor, CodesAlike, EachCodeIsJudged, CountSent}
use Rattle.frame.proofs.Flags.{bits_small, flag_of_bits, bits_of_flag}
use Rattle.frame.proofs.Passing.{Passing, passing}
use Rattle.frame.proofs.CountCodes.{few_said, code_for, codes_alike, with_code_lem, code_sent}

-- a piece that keeps its rule has eight data bytes at most
pub rule_count : (fm : Format) (flag : Flag) (count number : ℕ) → piece_rule fm flag count number ≡ true → count ≤ 8
unfolding piece_rule
rule_count fm Single count number r = let u = each _ r in omega tests
rule_count fm Start count number r = let u = each _ r in omega tests
rule_count format.Extended Middle count number r = omega tests
rule_count format.Standard Middle count number r = let u = each _ r in omega tests
rule_count format.Extended End count number r = let u = each _ r in omega tests
rule_count format.Standard End count number r = let u = each _ r in omega tests

module _ (priority source group destination function : ℕ) (flag : Flag) (n : ℕ) (bytes : List ℕ) where
  of_extended : sound_frame (record { fields = Extended priority source group destination function; flag = flag; number = n; bytes = bytes }) ≡ true
      → judge format.Extended (image_of (record { fields = Extended priority source group destination function; flag = flag; number = n; bytes = bytes }))
      ≡ value (record { frame = record { fields = Extended priority source group destination function; flag = flag; number = n; bytes = bytes }; start = 5 })
  unfolding sound_frame in_range image_of header_bytes judge checks layout
  of_extended s =
      let t = each _ s in
      let r = each _ t.0 in
      let b = bits_small flag in
      let l = length bytes in
      let short = rule_count format.Extended flag l n t.1.1.0 in
      let two : (128 + l) / 64 ≡ 2 = omega tests in
      let rtr : (128 + l) / 64 % 2 ≡ 0 = rw two in
      let eight : (128 + l) / 16 ≡ 8 = omega tests in
      let zeros : (128 + l) / 16 % 4 ≡ 0 = rw eight in
      let one : (128 + l) / 128 ≡ 1 = omega tests in
      let low : 8 * function % 8 ≡ 0 = omega tests in
      let code : (128 + l) % 16 ≡ l = omega tests in
      let count : data_count ((128 + l) % 16) ≡ l = ap data_count code ∙ few_said l short in
      let bits : (64 * flag_bits flag + n) / 64 ≡ flag_bits flag = omega tests in
      let number : (64 * flag_bits flag + n) % 64 ≡ n = omega tests in
      let p : (64 * priority + source) / 64 ≡ priority = omega tests in
      let q : (64 * priority + source) % 64 ≡ source = omega tests in
      let g : (64 * group + destination) / 64 ≡ group = omega tests in
      let d : (64 * group + destination) % 64 ≡ destination = omega tests in
      let f : 8 * function / 8 ≡ function = omega tests in
      let flagged : flag_of ((64 * flag_bits flag + n) / 64) ≡ flag = ap flag_of bits ∙ flag_of_bits flag in
      sym
      (pass Length _ _ (from_each _ (omega tests))
      (pass Form _ _ (from_each _ (eq-eqb _ _ one, (eq-eqb _ _ zeros, (eq-eqb _ _ low, tt))))
      (pass Remote _ _ (eq-eqb _ _ rtr)
      (pass Count _ _ (rw count (omega tests))
      (pass Surplus _ _ (rw count (omega tests)) (pass Piece _ _ (rw (flagged, count, number) t.1.1.0) (none_left _)))))))
      ∙ (λ i.
      value
      (record {
        frame = record { fields = Extended (p i) (q i) (g i) (d i) (f i); flag = flagged i; number = number i; bytes = bytes };
        start = 5;
      }))

-- the data bytes of a standard piece, and what is read from them
record Data (flag : Flag) (n : ℕ) (bytes data' : List ℕ) : Type 0 where
  short : length data' ≤ 8
  number : cond (numbered format.Standard flag) (get_or data' 0 0) 0 ≡ n
  carried : (a b : ℕ) → drop (packet_start format.Standard flag) (a ∷ b ∷ data') ≡ bytes

data_of_lem : (flag : Flag) (n : ℕ) (bytes : List ℕ)
    → piece_rule format.Standard flag (length (cond (numbered format.Standard flag) (n ∷ bytes) bytes)) n ≡ true
    → Data flag n bytes (cond (numbered format.Standard flag) (n ∷ bytes) bytes)
unfolding piece_rule
data_of_lem Single n bytes r = let u = each _ r in record { short = omega tests; number = omega tests; carried = λ a b. refl }
data_of_lem Start n bytes r = let u = each _ r in record { short = omega tests; number = refl; carried = λ a b. refl }
data_of_lem Middle n bytes r = let u = each _ r in record { short = omega tests; number = refl; carried = λ a b. refl }
data_of_lem End n bytes r = let u = each _ r in record { short = omega tests; number = refl; carried = λ a b. refl }

module _ (priority address side : ℕ) (flag : Flag) (n : ℕ) (bytes : List ℕ) where
  of_standard : sound_frame (record { fields = Standard priority address side; flag = flag; number = n; bytes = bytes }) ≡ true
      → judge format.Standard (image_of (record { fields = Standard priority address side; flag = flag; number = n; bytes = bytes }))
      ≡ value (record { frame = record { fields = Standard priority address side; flag = flag; number = n; bytes = bytes }; start = packet_start format.Standard flag })
  unfolding sound_frame in_range image_of header_bytes judge checks layout
  of_standard s =
      let t = each _ s in
      let r = each _ t.0 in
      let b = bits_small flag in
      let ds = cond (numbered format.Standard flag) (n ∷ bytes) bytes in
      let rule = t.1.1.0 in
      let d = data_of_lem flag n bytes rule in
      let l = length ds in
      let b0 = 64 * priority + address in
      let b1 = 128 * side + 32 * flag_bits flag + l in
      let short : l ≤ 8 = d.short in
      let code : b1 % 16 ≡ l = omega tests in
      let count : data_count (b1 % 16) ≡ l = ap data_count code ∙ few_said l short in
      let upper : b1 / 32 ≡ 4 * side + flag_bits flag = omega tests in
      let bits : b1 / 32 % 4 ≡ flag_bits flag = rw upper (omega tests) in
      let even : b1 / 16 ≡ 2 * (4 * side + flag_bits flag) = omega tests in
      let rtr : b1 / 16 % 2 ≡ 0 = rw even (omega tests) in
      let p : b0 / 64 ≡ priority = omega tests in
      let a : b0 % 64 ≡ address = omega tests in
      let e : b1 / 128 ≡ side = omega tests in
      let flagged : flag_of (b1 / 32 % 4) ≡ flag = ap flag_of bits ∙ flag_of_bits flag in
      let number : cond (numbered format.Standard (flag_of (b1 / 32 % 4))) (get_or ds 0 0) 0 ≡ n =
      ap (λ (x : Flag). cond (numbered format.Standard x) (get_or ds 0 0) 0) flagged ∙ d.number in
      let carried : drop (packet_start format.Standard (flag_of (b1 / 32 % 4))) (b0 ∷ b1 ∷ ds) ≡ bytes =
      ap (λ (x : Flag). drop (packet_start format.Standard x) (b0 ∷ b1 ∷ ds)) flagged ∙ d.carried b0 b1 in
      sym
      (pass Length _ _ (from_each _ (omega tests))
      (pass Form _ _ refl
      (pass Remote _ _ (eq-eqb _ _ rtr)
      (pass Count _ _ (rw count (omega tests))
      (pass Surplus _ _ (rw count (omega tests)) (pass Piece _ _ (rw (number, flagged, count) rule) (none_left _)))))))
      ∙ (λ i.
      value
      (record {
        frame = record { fields = Standard (p i) (a i) (e i); flag = flagged i; number = number i; bytes = carried i };
        start = packet_start format.Standard (flagged i);
      }))

-- ---- from an image that is judged sound

five : (l : List ℕ) → 5 ≤ length l → l ≡ get_or l 0 0 ∷ get_or l 1 0 ∷ get_or l 2 0 ∷ get_or l 3 0 ∷ get_or l 4 0 ∷ drop 5 l
five l h =
    drop-cons l 0 0 (omega arith)
    ∙ ap (λ (t : List ℕ). get_or l 0 0 ∷ t) (drop-cons l 1 0 (omega arith)
    ∙ ap (λ (t : List ℕ). get_or l 1 0 ∷ t) (drop-cons l 2 0 (omega arith)
    ∙ ap (λ (t : List ℕ). get_or l 2 0 ∷ t) (drop-cons l 3 0 (omega arith)
    ∙ ap (λ (t : List ℕ). get_or l 3 0 ∷ t) (drop-cons l 4 0 (omega arith)))))

two : (l : List ℕ) → 2 ≤ length l → l ≡ get_or l 0 0 ∷ get_or l 1 0 ∷ drop 2 l
two l h = drop-cons l 0 0 (omega arith) ∙ ap (λ (t : List ℕ). get_or l 0 0 ∷ t) (drop-cons l 1 0 (omega arith))

number_small : (b : Bool) (n : ℕ) → n < 256 → cond b n 0 < 256
number_small true n h = h
number_small false n h = omega arith

-- the data bytes of a standard piece that keeps its rule are its number, if it has one among them, and its packet bytes
data_back : (flag : Flag) (image : List ℕ) (number : ℕ) → 2 ≤ length image → piece_rule format.Standard flag (length image - 2) number ≡ true
    → cond (numbered format.Standard flag) (cond (numbered format.Standard flag) (get_or image 2 0) 0 ∷ drop (packet_start format.Standard flag) image) (drop (packet_start format.Standard flag) image)
    ≡ drop 2 image
unfolding piece_rule
data_back Single image number h r = refl
data_back Start image number h r = let u = each _ r in sym (drop-cons image 2 0 (omega tests))
data_back Middle image number h r = let u = each _ r in sym (drop-cons image 2 0 (omega tests))
data_back End image number h r = let u = each _ r in sym (drop-cons image 2 0 (omega tests))

start_back : (flag : Flag) (size number : ℕ) → 2 ≤ size → piece_rule format.Standard flag (size - 2) number ≡ true → packet_start format.Standard flag ≤ size
unfolding piece_rule
start_back Single size number h r = h
start_back Start size number h r = let u = each _ r in omega tests
start_back Middle size number h r = let u = each _ r in omega tests
start_back End size number h r = let u = each _ r in omega tests

-- an image that passes every check is its frame's but for its code
is_image_lem : (fm : Format) (image : List ℕ) → Bytes image → Passing fm (length image) (layout fm image)
    → IsImage fm image (read_by (layout fm image) image)
unfolding layout image_of header_bytes sound_frame in_range
is_image_lem format.Extended image small p =
    let b0 = get_or image 0 0 in
    let b1 = get_or image 1 0 in
    let b2 = get_or image 2 0 in
    let b3 = get_or image 3 0 in
    let b4 = get_or image 4 0 in
    let s1 : b1 < 256 = small 1 in
    let s2 : b2 < 256 = small 2 in
    let s3 : b3 < 256 = small 3 in
    let s4 : b4 < 256 = small 4 in
    let least : 5 ≤ length image = p.least in
    let fixed = each _ p.formed in
    let counted : length image ≡ 5 + data_count (b0 % 16) = p.counted in
    let count : length (drop 5 image) ≡ data_count (b0 % 16) = rw length-drop (omega tests) in
    let one : b0 / 64 / 2 ≡ 1 = div-div-eq-div-mul b0 64 2 ∙ eqb-true _ _ fixed.0 in
    let top : b0 / 64 ≡ 2 = sym (div-add-mod' (b0 / 64) 2) ∙ (λ i. one i * 2 + p.data_frame i) in
    let quarter : b0 / 16 / 4 ≡ b0 / 64 = div-div-eq-div-mul b0 16 4 in
    let zeros : b0 / 16 % 4 ≡ 0 = eqb-true _ _ fixed.1.0 in
    let mid : b0 / 16 ≡ 8 = sym (div-add-mod' (b0 / 16) 4) ∙ (λ i. (quarter ∙ top) i * 4 + zeros i) in
    let e0 : 128 + b0 % 16 ≡ b0 = omega tests in
    let e1 : 64 * (b1 / 64) + b1 % 64 ≡ b1 = omega tests in
    let e2 : 64 * (b2 / 64) + b2 % 64 ≡ b2 = omega tests in
    let bits : flag_bits (flag_of (b3 / 64)) ≡ b3 / 64 = bits_of_flag (b3 / 64) (omega tests) in
    let e3 : 64 * flag_bits (flag_of (b3 / 64)) + b3 % 64 ≡ b3 = rw bits (omega tests) in
    let e4 : 8 * (b4 / 8) ≡ b4 = omega tests in
    record {
      whole = (λ i. e0 i ∷ e1 i ∷ e2 i ∷ e3 i ∷ e4 i ∷ drop 5 image) ∙ sym (five image (omega tests));
      code = rw count (code_for (b0 % 16) (omega arith));
      sound = from_each _ (from_each _ (omega tests), (omega tests, (rw count p.rule, tt)));
      of_format = refl;
      starts = omega tests;
      carries = refl;
    }
is_image_lem format.Standard image small p =
    let b0 = get_or image 0 0 in
    let b1 = get_or image 1 0 in
    let b2 = get_or image 2 0 in
    let flag = flag_of (b1 / 32 % 4) in
    let n = cond (numbered format.Standard flag) b2 0 in
    let s0 : b0 < 256 = small 0 in
    let s1 : b1 < 256 = small 1 in
    let s2 : b2 < 256 = small 2 in
    let least : 2 ≤ length image = p.least in
    let remote : b1 / 16 % 2 ≡ 0 = p.data_frame in
    let counted : length image ≡ 2 + data_count (b1 % 16) = p.counted in
    let count : length image - 2 ≡ data_count (b1 % 16) = omega tests in
    let rule : piece_rule format.Standard flag (length image - 2) n ≡ true = rw count p.rule in
    let back = data_back flag image n (omega tests) rule in
    let whole : length (cond (numbered format.Standard flag) (n ∷ drop (packet_start format.Standard flag) image) (drop (packet_start format.Standard flag) image)) ≡ length image - 2 =
    ap length back ∙ length-drop 2 image in
    let half : b1 / 16 / 2 ≡ b1 / 32 = div-div-eq-div-mul b1 16 2 in
    let quarter : b1 / 32 / 4 ≡ b1 / 128 = div-div-eq-div-mul b1 32 4 in
    let bits : flag_bits flag ≡ b1 / 32 % 4 = bits_of_flag (b1 / 32 % 4) (omega tests) in
    let e0 : 64 * (b0 / 64) + b0 % 64 ≡ b0 = omega tests in
    let e1 : 128 * (b1 / 128) + 32 * flag_bits flag + b1 % 16 ≡ b1 = rw bits (omega tests) in
    record {
      whole = (λ i. e0 i ∷ e1 i ∷ back i) ∙ sym (two image (omega tests));
      code = rw (whole, count) (code_for (b1 % 16) (omega arith));
      sound = from_each _ (from_each _ (omega tests), (lt-ltb _ _ (number_small (numbered format.Standard flag) b2 s2), (rw whole rule, tt)));
      of_format = refl;
      starts = start_back flag (length image) n (omega tests) rule;
      carries = refl;
    }

-- ---- the claims

pub image_is_judged : ImageIsJudged
unfolding ImageIsJudged
image_is_judged frame s = go frame.fields s
  where
    go : (fields : Fields)
        → sound_frame (record { fields = fields; flag = frame.flag; number = frame.number; bytes = frame.bytes }) ≡ true
        → judge (format_of fields) (image_of (record { fields = fields; flag = frame.flag; number = frame.number; bytes = frame.bytes }))
        ≡ value (record {
          frame = record { fields = fields; flag = frame.flag; number = frame.number; bytes = frame.bytes };
          start = packet_start (format_of fields) frame.flag;
        })
    go (Extended priority source group destination function) t = of_extended priority source group destination function frame.flag frame.number frame.bytes t
    go (Standard priority address side) t = of_standard priority address side frame.flag frame.number frame.bytes t

pub judged_is_image : JudgedIsImage
unfolding JudgedIsImage judge
judged_is_image fm image small judged e =
    let p = passed (checks fm (length image) (layout fm image)) (read_by (layout fm image) image) judged e in
    subst (IsImage fm image) p.1 (is_image_lem fm image small (passing fm (length image) (layout fm image) p.0))

pub each_code_is_judged : EachCodeIsJudged
unfolding EachCodeIsJudged CodesAlike ImageIsJudged image_of
each_code_is_judged frame code s c = go (eqb (length (data_of frame)) 8) refl
  where
    fm : Format
    fm = format_of frame.fields

    go : (b : Bool) → eqb (length (data_of frame)) 8 ≡ b
        → judge fm (image_with code frame) ≡ value (record { frame = frame; start = packet_start fm frame.flag })
    go true e =
        let n = eqb-true _ _ e in
        ap (judge fm) (sym (with_code_lem frame 8 code (omega arith)))
        ∙ codes_alike fm (image_with 8 frame) code (c.eight n)
        ∙ ap (judge fm) (with_code_lem frame 8 8 (omega arith))
        ∙ ap (λ (k : ℕ). judge fm (image_with k frame)) (sym n)
        ∙ image_is_judged frame s
    go false e = ap (λ (k : ℕ). judge fm (image_with k frame)) (c.other (eqb-false _ _ e)) ∙ image_is_judged frame s

pub count_sent : CountSent
unfolding CountSent sound_frame
count_sent frame s =
    let t = each _ s in
    let few : length (data_of frame) ≤ 8 =
    rule_count (format_of frame.fields) frame.flag (length (data_of frame)) frame.number t.1.1.0 in
    (code_sent frame few, few)

code_small : (fm : Format) (image : List ℕ) → count_code fm image < 16
unfolding layout
code_small format.Extended image = omega arith
code_small format.Standard image = omega arith

-- two codes before the same number of data bytes
two_codes : (code code' count : ℕ) → CodeFor code count → CodeFor code' count → code ≢ code' → SaysEight code × SaysEight code'
two_codes code code' count c c' differ = go (eqb count 8) refl
  where
    go : (b : Bool) → eqb count 8 ≡ b → SaysEight code × SaysEight code'
    go true e = let n = eqb-true _ _ e in (c.eight n, c'.eight n)
    go false e = let n = eqb-false _ _ e in absurd (differ (c.other n ∙ sym (c'.other n)))

pub one_image : OneImage
unfolding OneImage JudgedIsImage
one_image fm fm' image image' small small' judged judged' e e' same =
    let i = judged_is_image fm image small judged e in
    let j = judged_is_image fm' image' small' judged' e' in
    let code = count_code fm image in
    let code' = count_code fm' image' in
    let again : CodeFor code' (length (data_of judged.frame)) = rw same j.code in
    record {
      of_format = sym i.of_format ∙ ap (λ (f : Frame). format_of f.fields) same ∙ j.of_format;
      but_code = ap (with_code fm code') (sym i.whole)
          ∙ ap (λ (f : Format). with_code f code' (image_with code judged.frame)) (sym i.of_format)
          ∙ with_code_lem judged.frame code code' (code_small fm image)
          ∙ ap (image_with code') same
          ∙ j.whole;
      codes = two_codes code code' _ i.code again;
    }
