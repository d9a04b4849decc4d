-- The meaning of why a call went no further leaves no doubt which it is.
use Rattle.std.proofs.Common.{◌≡◌, refl}
use Rattle.std.specs.Prelude.{Ok}
use Rattle.format.specs.Refusals.{value}
use Rattle.format.proofs.Numbers.{one_of}
use Rattle.lister.specs.declared.Why.{Why}
use Rattle.lister.specs.declared.Why.TheVariants as why
use Rattle.lister.specs.Listing.{Reason, input, room, damage, meaning}
use Rattle.lister.specs.Claims.{OneWhy}

back : Reason → Why
back input = why.Input
back room = why.Room
back damage = why.Damaged

told : (a : Why) → (r : Reason) × ((meaning (Ok a) ≡ value r) × (back r ≡ a))
unfolding back
told why.Input = (input, (refl, refl))
told why.Room = (room, (refl, refl))
told why.Damaged = (damage, (refl, refl))

pub one_why : OneWhy
unfolding OneWhy back
one_why = one_of meaning back told (λ name. refl)
