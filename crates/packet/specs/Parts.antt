-- What the private parts of the code promise each other. No public contract cites it.
use Rattle.std.specs.Prelude.{ℕ, List, [], ◌∷◌}
use Rattle.format.specs.declared.Fields.{Fields}
use Rattle.format.specs.declared.Fields.TheVariants.{Extended, Standard}

-- what stands after the header in the six bytes that hold it
unfoldable pub filler : Fields → ℕ → List ℕ
filler (Extended priority source group destination function) number = 0 ∷ []
filler (Standard priority address side) number = number ∷ 0 ∷ 0 ∷ 0 ∷ []
