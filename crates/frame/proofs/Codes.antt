-- A test that two frames that were judged are the same: by numbers that say all of each.
use Prim.Native.Nat.{ℕ}
use mathlib.Core.Path.{◌≡◌, sym, ap, ◌∙◌}
use mathlib.Core.Bool.{Bool, true, cond}
use mathlib.Core.List.{List, ◌∷◌}
use lib.Dec.{eqb}
use lib.ListN.{get_or, drop}
use Rattle.format.specs.declared.Fields.{Fields}
use Rattle.format.specs.declared.Fields.TheVariants.{Extended, Standard}
use Rattle.format.specs.Formats.{flag_bits}
use Rattle.format.proofs.Tables.{same_numbers, same_numbers_lem}
use Rattle.frame.specs.Layout.{flag_of}
use Rattle.frame.specs.Judge.{Judged}
use Rattle.frame.proofs.Flags.{flag_of_bits}

-- the fields, with 0 for those that the standard format has not, before what follows
abbrev field_codes : Fields → List ℕ → List ℕ
field_codes (Extended priority source group destination function) rest = 0 ∷ priority ∷ source ∷ group ∷ destination ∷ function ∷ rest
field_codes (Standard priority address side) rest = 1 ∷ priority ∷ address ∷ side ∷ 0 ∷ 0 ∷ rest

abbrev pub codes : Judged → List ℕ
codes judged =
    let frame = judged.frame in
    field_codes frame.fields (flag_bits frame.flag ∷ frame.number ∷ judged.start ∷ frame.bytes)

fields_of : List ℕ → Fields
fields_of l =
    cond (eqb (get_or l 0 0) 0)
    (Extended (get_or l 1 0) (get_or l 2 0) (get_or l 3 0) (get_or l 4 0) (get_or l 5 0))
    (Standard (get_or l 1 0) (get_or l 2 0) (get_or l 3 0))

decoded : List ℕ → Judged
decoded l =
    record {
      frame = record { fields = fields_of l; flag = flag_of (get_or l 6 0); number = get_or l 7 0; bytes = drop 9 l };
      start = get_or l 8 0;
    }

back : (judged : Judged) → decoded (codes judged) ≡ judged
unfolding decoded fields_of
back judged = go judged.frame.fields
  where
    go : (fields : Fields)
        → decoded (field_codes fields (flag_bits judged.frame.flag ∷ judged.frame.number ∷ judged.start ∷ judged.frame.bytes))
        ≡ record {
          frame = record { fields = fields; flag = judged.frame.flag; number = judged.frame.number; bytes = judged.frame.bytes };
          start = judged.start;
        }
    go (Extended priority source group destination function) = rw (flag_of_bits judged.frame.flag)
    go (Standard priority address side) = rw (flag_of_bits judged.frame.flag)

abbrev pub same_judged : Judged → Judged → Bool
same_judged a b = same_numbers (codes a) (codes b)

pub same_judged_lem : (a b : Judged) → same_judged a b ≡ true → a ≡ b
same_judged_lem a b e = sym (back a) ∙ ap decoded (same_numbers_lem (codes a) (codes b) e) ∙ back b
