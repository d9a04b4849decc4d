-- Keys that are the same are equal.
use mathlib.Core.Path.{◌≡◌}
use mathlib.Core.Bool.{true}
use borrow.Author.Tests.{eqb-true}
use Rattle.format.specs.declared.Fields.{Fields}
use Rattle.format.specs.declared.Fields.TheVariants.{Extended, Standard}
use Rattle.format.proofs.Tests.{each, from_each, tests}
use Rattle.slot.specs.declared.Key.{Key}
use Rattle.slot.specs.Slots.{same_fields, same_key}

pub same_fields_lem : (a b : Fields) → same_fields a b ≡ true → a ≡ b
unfolding same_fields
same_fields_lem (Extended p s g d f) (Extended p' s' g' d' f') e =
    let t = each _ e in
    let ep = eqb-true p p' t.0 in
    let es = eqb-true s s' t.1.0 in
    let eg = eqb-true g g' t.1.1.0 in
    let ed = eqb-true d d' t.1.1.1.0 in
    let ef = eqb-true f f' t.1.1.1.1.0 in
    cc
same_fields_lem (Standard p a s) (Standard p' a' s') e =
    let t = each _ e in
    let ep = eqb-true p p' t.0 in
    let ea = eqb-true a a' t.1.0 in
    let es = eqb-true s s' t.1.1.0 in
    cc
same_fields_lem (Extended p s g d f) (Standard p' a' s') e = cc
same_fields_lem (Standard p a s) (Extended p' s' g' d' f') e = cc

pub same_key_lem : (a b : Key) → same_key a b ≡ true → a ≡ b
unfolding same_key
same_key_lem a b e =
    let t = each _ e in
    let bus = eqb-true a.bus b.bus t.0 in
    let fields = same_fields_lem a.fields b.fields t.1.0 in
    λ i. record { bus = bus i; fields = fields i }

same_fields_refl : (a : Fields) → same_fields a a ≡ true
unfolding same_fields
same_fields_refl (Extended p s g d f) = from_each _ (omega tests)
same_fields_refl (Standard p a s) = from_each _ (omega tests)

pub same_key_refl : (k : Key) → same_key k k ≡ true
unfolding same_key
same_key_refl k = from_each _ (omega tests, (same_fields_refl k.fields, tt))
