-- One more question asked, and what was asked of all. Assumes nothing.
use Rattle.std.proofs.Common.{◌≡◌, ℕ, ◌+◌, ◌<◌, ◌⊎◌, List, [], length, get_or, set, sym, ap, ◌∙◌, subst, subst₂, inl, inr, arith}
use Rattle.std.proofs.lemmas.List.{get_or-set_same, get_or-set_other}
use Rattle.std.proofs.lemmas.Bool.{cases_order}
use Rattle.std.specs.Prelude.{OnOk, Ok, Err, Result}
use Rattle.exported.specs.declared.fault.AskFault.{AskFault}
use Rattle.exported.specs.declared.fault.AskFault.TheVariants.{NoMemory, NoCapacity}
use Rattle.exported.specs.Codes.{code}
use Rattle.exported.specs.Replies.{Told}
use Rattle.exported.specs.declared.reply.Reply.{Reply}

-- one more reply
pub told_more : (held questions : List (List ℕ)) (replies : List Reply) (n : ℕ) (r : Reply) → n < length replies
    → ((k : ℕ) (e : Reply) → k < n → Told held (get_or questions k []) (get_or replies k e)) → Told held (get_or questions n []) r
    → (k : ℕ) (e : Reply) → k < n + 1 → Told held (get_or questions k []) (get_or (set replies n r) k e)
told_more held questions replies n r h before here k e l = go (cases_order k n)
  where
    go : (k ≡ n) ⊎ ((k < n) ⊎ (n < k)) → Told held (get_or questions k []) (get_or (set replies n r) k e)
    go (inl q) = subst₂ (λ j x. Told held (get_or questions j []) x) (sym q) (sym (ap (λ j. get_or (set replies n r) j e) q ∙ get_or-set_same replies n r e h)) here
    go (inr (inl q)) = subst (Told held (get_or questions k [])) (sym (get_or-set_other replies n k r e (λ w. let z : ⊥ = omega arith in z))) (before k e q)
    go (inr (inr q)) = absurd (let z : ⊥ = omega arith in z)

-- what was asked where the number says so
pub all_asked : {P : Type 0} (r : Result (Unit {0}) AskFault) → code r ≡ 0 → OnOk r P → P
all_asked (Ok x) i p = p
all_asked (Err NoMemory) i p = absurd (let z : ⊥ = omega arith in z)
all_asked (Err NoCapacity) i p = absurd (let z : ⊥ = omega arith in z)
