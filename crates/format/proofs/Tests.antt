-- Tests that all hold, each by itself, for `omega` to read and to prove.
use mathlib.Core.Path.{◌≡◌, refl}
use mathlib.Core.Bool.{Bool, true, false}
use mathlib.Core.List.{List, [], ◌∷◌}
use native.Mathlib.Omega.{arith}
use borrow.Author.Tests.{leb-true, ltb-true, eqb-true, le-leb, lt-ltb, eq-eqb}
use Rattle.format.specs.Tests.{all_after, all_true}

abbrev pub Each : List Bool → Type 0
Each [] = Unit {0}
Each (b ∷ bs) = (b ≡ true) × Each bs

each_after : (b : Bool) (bs : List Bool) → all_after b bs ≡ true → (b ≡ true) × Each bs
unfolding all_after
each_after b [] e = (e, tt)
each_after true (c ∷ cs) e = (refl, each_after c cs e)
each_after false (c ∷ cs) e = let r = each_after false cs e in (r.0, ((cc), r.1))

pub each : (bs : List Bool) → all_true bs ≡ true → Each bs
unfolding all_true
each bs e = (each_after true bs e).1

all_after_lem : (b : Bool) (bs : List Bool) → b ≡ true → Each bs → all_after b bs ≡ true
unfolding all_after
all_after_lem b [] h e = h
all_after_lem true (c ∷ cs) h e = all_after_lem c cs e.0 e.1
all_after_lem false (c ∷ cs) h e = all_after_lem false cs h e.1

pub from_each : (bs : List Bool) → Each bs → all_true bs ≡ true
unfolding all_true
from_each bs e = all_after_lem true bs refl e

pub ruleset tests = (arith, leb-true, ltb-true, eqb-true, le-leb, lt-ltb, eq-eqb)
