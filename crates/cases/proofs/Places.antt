-- Where the lists and clauses of a system lie in its bytes. Assumes nothing.
use Rattle.std.proofs.Common.{◌≡◌, ℕ, ◌+◌, ◌<◌, ◌≤◌, List, [], ◌∷◌, ◌++◌, length, get_or, take, drop, sym, refl, ap, ◌∙◌, arith}
use Rattle.std.proofs.lemmas.List.{append_assoc, append-nil, length-append, take-append-drop, take_at, drop_at, drop-drop, drop_more, take_more, take_rest}
use Rattle.system.specs.Systems.{System}
use Rattle.faults.specs.declared.case.ListName.{ListName}
use Rattle.faults.specs.declared.case.ListName.TheVariants.{Start, Step, Safety}
use Rattle.faults.specs.Refusals.{count_place, offset_place}
use Rattle.system.specs.Literals.{size}
use Rattle.lists.specs.Spelling.{clauses_in, spell_clauses}
use Rattle.lists.proofs.Spelled.{spell_append, clauses_spelled}
use Rattle.layout.specs.Spelling.{step_at, spell, Admitted}
use Rattle.layout.specs.Reading.{field}
use Rattle.cases.specs.Answers.{list_of, beginning, ClauseOf}
use Rattle.cases.specs.declared.answers.Clause.{Clause}
use Rattle.layout.proofs.Law.{spelled_length, field_relays, field_inputs, field_start, field_step, field_safety, start_begins, step_begins, safety_begins}

-- clauses take as many bytes as they have literals, and a length byte each
pub spelled_size : (cs : List (List ℕ)) → length (spell_clauses cs) ≡ length cs + size cs
spelled_size [] = refl
spelled_size (d ∷ ds) = let h = spelled_size ds in let e = length-append d (spell_clauses ds) in omega arith

-- one more clause of a list passed
pub spell_more : (cs : List (List ℕ)) (k : ℕ) → k < length cs → length (spell_clauses (take (k + 1) cs)) ≡ length (spell_clauses (take k cs)) + (1 + length (get_or cs k []))
spell_more cs k h =
    let d = get_or cs k [] in
    let e = ap (λ xs. length (spell_clauses xs)) (take_more cs k [] h) ∙ ap length (spell_append (take k cs) (d ∷ [])) ∙ length-append (spell_clauses (take k cs)) (spell_clauses (d ∷ [])) in
    let f = length-append d [] in
    omega arith

module _ (c : System) where
  pub list_ends : (list : ListName) → beginning list c + length (spell_clauses (list_of list c)) ≤ length (spell c)
  list_ends Start = let l = spelled_length c in omega arith
  list_ends Step = let l = spelled_length c in omega arith
  list_ends Safety = let l = spelled_length c in omega arith

  -- a front of a list ends within the bytes
  pub front_ends : Admitted c → (list : ListName) (k : ℕ) → beginning list c + length (spell_clauses (take k (list_of list c))) ≤ 32768
  front_ends a list k =
      let cs = list_of list c in
      let e = ap (λ xs. length (spell_clauses xs)) (sym (take-append-drop k cs)) ∙ ap length (spell_append (take k cs) (drop k cs)) ∙ length-append (spell_clauses (take k cs)) (spell_clauses (drop k cs)) in
      let h = a.short in
      omega (arith, list_ends list)

  -- what follows a list
  abbrev following : ListName → List ℕ
  following Start = spell_clauses c.step ++ spell_clauses c.safety
  following Step = spell_clauses c.safety
  following Safety = []

  step_lies : drop (step_at c) (spell c) ≡ spell_clauses c.step ++ spell_clauses c.safety
  unfolding spell
  step_lies = sym (drop-drop (length (spell_clauses c.start)) 18 (spell c)) ∙ drop_at (spell_clauses c.start) _ _ refl

  list_lies : (list : ListName) → drop (beginning list c) (spell c) ≡ spell_clauses (list_of list c) ++ following list
  unfolding spell
  list_lies Start = refl
  list_lies Step = step_lies
  list_lies Safety =
      sym (drop-drop (length (spell_clauses c.step)) (step_at c) (spell c))
      ∙ ap (drop (length (spell_clauses c.step))) step_lies
      ∙ drop_at (spell_clauses c.step) (spell_clauses c.safety) _ refl
      ∙ sym (append-nil (spell_clauses c.safety))

  -- what the header says of a list, and the clauses that lie where it begins
  pub counted : (list : ListName) → field (spell c) (count_place list) ≡ length (list_of list c)
  counted Start = field_start c
  counted Step = field_step c
  counted Safety = field_safety c

  pub begins : (list : ListName) → field (spell c) (offset_place list) ≡ beginning list c
  begins Start = start_begins c
  begins Step = step_begins c
  begins Safety = safety_begins c

  pub listed : (list : ListName) → clauses_in (length (list_of list c)) (drop (beginning list c) (spell c)) ≡ list_of list c
  listed list = ap (clauses_in (length (list_of list c))) (list_lies list) ∙ clauses_spelled (list_of list c) (following list)

  -- a clause is the part of the bytes that begins at its place
  clause_lies : (list : ListName) (j : ℕ) (d : List ℕ) (rest : List (List ℕ)) → drop j (list_of list c) ≡ d ∷ rest → (at : ℕ) → at ≡ beginning list c + length (spell_clauses (take j (list_of list c))) + 1 → take (length d) (drop at (spell c)) ≡ d
  clause_lies list j d rest e at p =
      let cs = list_of list c in
      let a = spell_clauses (take j cs) in
      let x = length d ∷ (d ++ spell_clauses rest) in
      let b = beginning list c in
      let whole : spell_clauses cs ≡ a ++ x = ap spell_clauses (sym (take-append-drop j cs) ∙ ap (λ ds. take j cs ++ ds) e) ∙ spell_append (take j cs) (d ∷ rest) in
      let lies : drop b (spell c) ≡ a ++ (x ++ following list) = list_lies list ∙ ap (λ bs. bs ++ following list) whole ∙ append_assoc a x (following list) in
      let place : at ≡ b + (length a + 1) = p ∙ omega arith in
      let from : drop at (spell c) ≡ (d ++ spell_clauses rest) ++ following list =
      ap (λ k. drop k (spell c)) place
      ∙ sym (drop-drop (length a + 1) b (spell c))
      ∙ ap (drop (length a + 1)) lies
      ∙ sym (drop-drop 1 (length a) (a ++ (x ++ following list)))
      ∙ ap (drop 1) (drop_at a (x ++ following list) (length a) refl) in
      ap (take (length d)) (from ∙ append_assoc d (spell_clauses rest) (following list)) ∙ take_at d _ (length d) refl

  -- a clause by its number, past those before it
  pub clause_found : (list : ListName) (j : ℕ) (d : Clause) → j < length (list_of list c) → d.literals.now ≡ get_or (list_of list c) j [] → d.at ≡ beginning list c + length (spell_clauses (take j (list_of list c))) + 1 → ClauseOf list c j d
  clause_found list j d h e p =
      record {
        there = h;
        literals = e;
        place = p;
        part = clause_lies list j d.literals.now (drop (j + 1) (list_of list c)) (rw e (drop_more (list_of list c) j [] h)) d.at p;
      }

-- what each answer of a case needs
pub ruleset header_says = (field_relays, field_inputs, begins)

pub ruleset lists = (counted, listed)

pub ruleset sections = (list_ends, take_rest)
