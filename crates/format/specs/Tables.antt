-- A claim over a table of examples: it holds of every one.
use Rattle.std.specs.Prelude.{List, [], ◌∷◌}

abbrev pub AllHold : {A : Type 0} → (A → Type 0) → List A → Type 0
AllHold Holds [] = Unit {0}
AllHold Holds (example ∷ rest) = Holds example × AllHold Holds rest
