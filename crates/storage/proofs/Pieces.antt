-- Lists cut into parts: one more part at the end, and the first parts alone. Assumes nothing.
use Rattle.std.proofs.Common.{◌≡◌, ℕ, zero, suc, ◌+◌, ◌-◌, ◌<◌, ◌≤◌, false, ltb, List, [], ◌∷◌, ◌++◌, length, take, drop, sum, vec_items, vec_len, sym, refl, ap, min, ◌∙◌, ap₂, arith}
use Rattle.std.proofs.lemmas.List.{length-drop, length-map, length-take-le, take-take, take_all, take_rest, drop_min, drop-take, take-append-le, drop-append-le, nil_from_length}
use Rattle.std.proofs.lemmas.List.Sums.{sum_by-cons, sum_by-take-drop}
use Rattle.std.proofs.lemmas.Bool.{and_right, lt-leb}
use Rattle.system.specs.Literals.{size}
use Rattle.solver.specs.Answers.{fits}
use Rattle.storage.specs.Parts.{parts}
use Rattle.masks.specs.Masks.{mask_of}
use Rattle.storage.specs.Stored.{Within}
use Rattle.storage.specs.Storages.{held_by, stored, Kept}
use Rattle.storage.specs.declared.storage.Storage.TheInside.{Inside}

pub size_parts : (ns xs : List ℕ) → sum ns ≤ length xs → size (parts ns xs) ≡ sum ns
size_parts [] xs h = refl
size_parts (n ∷ ns) xs h =
    let s = sum_by-cons (λ x. x) n ns in
    let d = length-drop n xs in
    ap₂ ◌+◌ (length-take-le n xs (omega arith)) (size_parts ns (drop n xs) (omega arith)) ∙ sym s

pub parts_push : (ns xs ys : List ℕ) → sum ns ≡ length xs → parts (ns ++ length ys ∷ []) (xs ++ ys) ≡ parts ns xs ++ ys ∷ []
parts_push [] xs ys h =
    let e = nil_from_length xs (sym h) in
    ap (λ zs. zs ∷ []) (ap (λ zs. take (length ys) (zs ++ ys)) e ∙ take_all (length ys) ys (omega arith))
parts_push (n ∷ ns) xs ys h =
    let s = sum_by-cons (λ x. x) n ns in
    let l = length-drop n xs in
    let t : sum ns ≡ length (drop n xs) = omega arith in
    ap₂ (λ p q. p ∷ parts (ns ++ length ys ∷ []) q) (take-append-le n xs ys (omega arith)) (drop-append-le n xs ys (omega arith))
    ∙ ap (λ r. take n xs ∷ r) (parts_push ns (drop n xs) ys t)

pub parts_take : (k : ℕ) (ns xs : List ℕ) → parts (take k ns) xs ≡ take k (parts ns xs)
parts_take zero ns xs = refl
parts_take (suc k) [] xs = refl
parts_take (suc k) (n ∷ ns) xs = ap (λ r. take n xs ∷ r) (parts_take k ns (drop n xs))

-- the parts reach no further than their lengths
pub parts_within : (ns xs : List ℕ) (m : ℕ) → sum ns ≤ m → parts ns (take m xs) ≡ parts ns xs
parts_within [] xs m h = refl
parts_within (n ∷ ns) xs m h =
    let s = sum_by-cons (λ x. x) n ns in
    let e : n + (m - n) ≡ m = omega arith in
    ap₂ (λ p q. p ∷ parts ns q) (take-take n m xs (omega arith)) (sym (ap (λ j. drop n (take j xs)) e) ∙ drop-take n (m - n) xs)
    ∙ ap (λ r. take n xs ∷ r) (parts_within ns (drop n xs) (m - n) (omega arith))

-- what a storage holds
module _ (s : Inside) (kept : Kept s) where
  pub held_size : size (held_by s) ≡ vec_len s.literals
  held_size =
      let e = s.literals.ok.0 in
      let w = kept.whole in
      size_parts (vec_items s.lengths) (vec_items s.literals) (omega arith) ∙ w

  pub held_within : Within (stored s)
  held_within =
      let e = held_size in
      let l = kept.literals_within in
      let m = ap length kept.masked ∙ length-map (held_by s) mask_of in
      let o = s.masks.ok.0 in
      let c = kept.clauses_within in
      (omega arith, omega arith)

  -- the clauses with one more, and the first of them
  pub held_more : (c ns xs : List ℕ) → ns ≡ vec_items s.lengths ++ length c ∷ [] → xs ≡ vec_items s.literals ++ c → parts ns xs ≡ held_by s ++ c ∷ []
  held_more c ns xs e f = ap₂ parts e f ∙ parts_push (vec_items s.lengths) (vec_items s.literals) c (kept.whole ∙ s.literals.ok.0)

  pub held_cut : (k m : ℕ) (ns xs : List ℕ) → ns ≡ take k (vec_items s.lengths) → m ≡ sum ns → xs ≡ take m (vec_items s.literals) → parts ns xs ≡ take k (held_by s)
  held_cut k m ns xs e q f =
      ap (parts ns) f
      ∙ parts_within ns (vec_items s.literals) m (omega arith)
      ∙ ap (λ ms. parts ms (vec_items s.literals)) e
      ∙ parts_take k (vec_items s.lengths) (vec_items s.literals)

  -- what goes beyond so many clauses, by its lengths, and how many literals stay
  pub what_goes : (count from : ℕ) (ms : List ℕ) → ms ≡ vec_items s.lengths → from ≡ min count (vec_len s.masks) → take (length ms - from) (drop from ms) ≡ drop count (vec_items s.lengths)
  what_goes count from ms e k =
      let p = kept.paired in
      let o = s.lengths.ok.0 in
      let f : from ≡ min count (length (vec_items s.lengths)) = omega arith in
      take_rest ms from ∙ ap (drop from) e ∙ ap (λ i. drop i (vec_items s.lengths)) f ∙ drop_min count (vec_items s.lengths)

  pub stay_and_go : (count : ℕ) → sum (take count (vec_items s.lengths)) + sum (drop count (vec_items s.lengths)) ≡ vec_len s.literals
  stay_and_go count = sum_by-take-drop (λ x. x) (vec_items s.lengths) count ∙ kept.whole

  pub no_room : (c : List ℕ) → s.capacity.literals - vec_len s.literals < length c → fits (held_by s) c s.capacity ≡ false
  no_room c h =
      let e = held_size in
      let w = kept.literals_within in
      and_right (ltb (length (held_by s)) s.capacity.clauses) _ (lt-leb _ _ (omega arith))
