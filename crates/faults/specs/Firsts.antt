-- The first fault of tests in order, and a result that is a fault or else a value.
use Rattle.std.specs.Prelude.{Bool, cond, List, [], ◌∷◌, Some, None, Ok, Err, Option, Result}

-- a fault where a test fails
abbrev pub unmet : {F : Type 0} → Bool → F → Option F
unmet ok f = cond ok None (Some f)

-- the first of two faults
abbrev pub or_else : {F : Type 0} → Option F → Option F → Option F
or_else None g = g
or_else (Some f) g = Some f

-- the first fault of tests in order
abbrev pub first_of : {F : Type 0} → List (Option F) → Option F
first_of [] = None
first_of (o ∷ os) = or_else o (first_of os)

-- a fault inside one of the layer above
abbrev pub inside : {F G : Type 0} → (F → G) → Option F → Option G
inside wrap None = None
inside wrap (Some f) = Some (wrap f)

-- a fault, or else the value
abbrev pub unless : {T F : Type 0} → Option F → T → Result T F
unless None x = Ok x
unless (Some f) x = Err f
