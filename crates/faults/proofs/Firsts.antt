-- First faults taken apart and put together. Assumes nothing.
use Rattle.std.proofs.Common.{◌≡◌, Bool, true, List, [], ◌∷◌, Some, None, Ok, Err, Option, refl, arith}
use Rattle.std.specs.List.{AllByRecursion}
use Rattle.faults.specs.Firsts.{unmet, or_else, first_of, inside, unless}

pub or_none : {F : Type 0} (o p : Option F) → or_else o p ≡ None → (o ≡ None) × (p ≡ None)
or_none o p e = grind arith

pub first_none : {F : Type 0} (os : List (Option F)) → first_of os ≡ None → AllByRecursion (λ o. o ≡ None) os
first_none [] e = tt
first_none (o ∷ os) e = let p = or_none o (first_of os) e in (p.0, first_none os p.1)

pub none_first : {F : Type 0} (os : List (Option F)) → AllByRecursion (λ o. o ≡ None) os → first_of os ≡ None
none_first [] h = refl
none_first (o ∷ os) h = let e = none_first os h.1 in let p = h.0 in grind arith

pub unmet_none : {F : Type 0} (b : Bool) (f : F) → unmet b f ≡ None → b ≡ true
unmet_none b f e = grind arith

pub none_unmet : {F : Type 0} (b : Bool) (f : F) → b ≡ true → unmet b f ≡ None
none_unmet b f e = grind arith

pub inside_none : {F G : Type 0} (wrap : F → G) (o : Option F) → inside wrap o ≡ None → o ≡ None
inside_none wrap o e = grind arith

pub unless_err : {T F : Type 0} (o : Option F) (x : T) (f : F) → Err f ≡ unless o x → o ≡ Some f
unless_err o x f e = grind arith

pub unless_ok : {T F : Type 0} (o : Option F) (x y : T) → Ok y ≡ unless o x → o ≡ None
unless_ok o x y e = grind arith

pub unless_value : {T F : Type 0} (o : Option F) (x y : T) → unless o x ≡ Ok y → (o ≡ None) × (x ≡ y)
unless_value o x y e = grind arith
