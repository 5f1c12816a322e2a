-- Systems of two relays, both off at the start, and one of a single relay.
use Rattle.std.specs.Prelude.{ℕ, List, [], ◌∷◌}
use Rattle.system.specs.Systems.{System}

-- both relays become as relay 1 was; safe where relay 0 is off
abbrev pub follower : System
follower = record {
  n = 2;
  m = 0;
  start = (1 ∷ []) ∷ (3 ∷ []) ∷ [];
  step = (2 ∷ 65 ∷ []) ∷ (3 ∷ 64 ∷ []) ∷ (2 ∷ 67 ∷ []) ∷ (3 ∷ 66 ∷ []) ∷ [];
  safety = (1 ∷ []) ∷ [];
}

-- the same with relay 1 free after a step
abbrev pub loose : System
loose = record { n = 2; m = 0; start = follower.start; step = (2 ∷ 65 ∷ []) ∷ (3 ∷ 64 ∷ []) ∷ []; safety = follower.safety }

-- each relay becomes as the other was; nothing is asked for safety
abbrev pub exchange : System
exchange = record {
  n = 2;
  m = 0;
  start = (1 ∷ []) ∷ (3 ∷ []) ∷ [];
  step = (2 ∷ 65 ∷ []) ∷ (3 ∷ 64 ∷ []) ∷ (0 ∷ 67 ∷ []) ∷ (1 ∷ 66 ∷ []) ∷ [];
  safety = [];
}

-- one relay, anything at the start and any step; safe where it is off
abbrev pub single : System
single = record { n = 1; m = 0; start = []; step = []; safety = (1 ∷ []) ∷ [] }

-- the bytes of the follower as a case: a header, and then two start clauses, four step clauses and a safety clause
abbrev pub follower_bytes : List ℕ
follower_bytes =
    2 ∷ 0 ∷ 0 ∷ 0 ∷ 2 ∷ 0 ∷ 4 ∷ 0 ∷ 1 ∷ 0 ∷ 18 ∷ 0 ∷ 22 ∷ 0 ∷ 34 ∷ 0 ∷ 36 ∷ 0
    ∷ 1 ∷ 1 ∷ 1 ∷ 3
    ∷ 2 ∷ 2 ∷ 65 ∷ 2 ∷ 3 ∷ 64 ∷ 2 ∷ 2 ∷ 67 ∷ 2 ∷ 3 ∷ 66
    ∷ 1 ∷ 1 ∷ []
