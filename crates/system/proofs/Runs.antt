-- Laws of runs, from the names Initial and Step alone. Assumes nothing.
use Rattle.std.proofs.Common.{ℕ, Bool, T, List, [], ◌∷◌, ◌++◌, sym, refl, subst, inl, inr}
use Rattle.system.specs.Literals.{Member}
use Rattle.system.specs.Systems.{System, Initial, Step, Steps, Run, Reached, Broken, Safe, Inductive}

-- a run cut short is a run
steps_prefix : (c : System) (s : ℕ) (r q : List ℕ) → Steps c s (r ++ q) → Steps c s r
steps_prefix c s [] q h = tt
steps_prefix c s (t ∷ r) q h = (h.0, steps_prefix c t r q h.1)

pub run_prefix : (c : System) (s : ℕ) (r q : List ℕ) → Run c (s ∷ (r ++ q)) → Run c (s ∷ r)
run_prefix c s r q h = (h.0, steps_prefix c s r q h.1)

-- an initial state is reached, and so is a step's end where its beginning is
pub reached_initial : (c : System) (s : ℕ) → Initial c s → Reached c s
reached_initial c s h = (s ∷ [], (h, tt), inl refl)

-- the states of a list up to a member, and one step on
extend : (c : System) (s t u : ℕ) (r : List ℕ) → Steps c u r → Member s (u ∷ r) → Step c s t → (q : List ℕ) × Steps c u q × Member t (u ∷ q)
extend c s t u r h (inl e) j = (t ∷ [], (subst (λ x. Step c x t) e j, tt), inr (inl refl))
extend c s t u [] h (inr m) j = absurd m
extend c s t u (v ∷ r) h (inr m) j = let z = extend c s t v r h.1 m j in (v ∷ z.0, (h.0, z.1), inr z.2)

pub reached_step : (c : System) (s t : ℕ) → Reached c s → Step c s t → Reached c t
reached_step c s t (r, run, m) j = go r run m
  where
    go : (r : List ℕ) → Run c r → Member s r → Reached c t
    go [] h m = absurd h
    go (u ∷ r) h m = let z = extend c s t u r h.1 m j in (u ∷ z.0, (h.0, z.1), z.2)

-- what holds initially and over steps from reached states holds in every reached state
along : (c : System) (P : ℕ → Type 0) → ((s t : ℕ) → P s → Step c s t → P t) → (u : ℕ) (r : List ℕ) → Steps c u r → P u → (s : ℕ) → Member s (u ∷ r) → P s
along c P step u r h p s (inl e) = subst P (sym e) p
along c P step u [] h p s (inr m) = absurd m
along c P step u (v ∷ r) h p s (inr m) = along c P step v r h.1 (step u v p h.0) s m

pub in_reached : (c : System) (P : ℕ → Type 0) → ((s : ℕ) → Initial c s → P s) → ((s t : ℕ) → P s → Step c s t → P t) → (s : ℕ) → Reached c s → P s
in_reached c P init step s z = go z.0 z.1 z.2
  where
    go : (r : List ℕ) → Run c r → Member s r → P s
    go [] h m = absurd h
    go (u ∷ r) h m = along c P step u r h.1 (init u h.0) s m

pub inductive_reached : (c : System) (q p : ℕ → Bool) → ((s : ℕ) → Reached c s → T (q s)) → Inductive c q p → (s : ℕ) → Reached c s → T (p s)
inductive_reached c q p known i s z =
    (in_reached c (λ u. Reached c u × T (p u)) (λ u h. (reached_initial c u h, i.0 u h))
    (λ u t h j. (reached_step c u t h.0 j, i.1 u t (known u h.0) h.1 j)) s z).1

-- safety in reached states
pub safe_reached : (c : System) → Safe c → (s : ℕ) → Reached c s → Broken c s → ⊥
safe_reached c safe s z b = safe z.0 (z.1, (s, z.2, b))

pub reached_safe : (c : System) → ((s : ℕ) → Reached c s → Broken c s → ⊥) → Safe c
reached_safe c h r z = h z.1.0 (r, z.0, z.1.1) z.1.2
