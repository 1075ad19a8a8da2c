-- A text has a value or a fault, as the definitions say and as the function of its bytes says, in any language.
use Rattle.std.proofs.Common.{◌≡◌, ◌≤◌, ◌<◌, ℕ, Bool, true, false, ◌==◌, List, [], ◌∷◌, ◌++◌, length, Option, Some, None, Result}
use Rattle.std.proofs.Common.{Ok, Err, ◌⊎◌, inl, inr, refl, sym, ap, subst, ◌∙◌, arith, length-append, eqb-true}
use Rattle.std.proofs.lemmas.Bool.{eqb-false}
use Rattle.std.proofs.lemmas.List.{length-map}
use Rattle.grammar_rules.specs.Rule.{Takes, Refuses}
use Rattle.grammar_rules.specs.Reading.{Outcome, read}
use Rattle.grammar_rules.specs.Loose.{loose, Fouls, IsClean}
use Rattle.grammar_rules.proofs.Exact.{complete, sound}
use Rattle.grammar_rules.proofs.Refusals.{refuses, refused}
use Rattle.grammar_rules.proofs.Steps.{kind_is, place_is}
use Rattle.grammar_rules.proofs.Places.{refuses_at_first}
use Rattle.grammar_rules.proofs.LooseLaws.{is_stricter_than_loose, fouls_in_fronts}
use Rattle.lexer.specs.Tokens.{Token, scan_of}
use Rattle.lexer.proofs.Order.{stop_of, text_ordered, place_within, place_later}
use Rattle.grammar_reader.specs.declared.refusal.Refusal.{Refusal}
use Rattle.grammar_reader.specs.Texts.{Texts, text_tokens, lexical_place, IsText, token_place, MeetsFault, CountsBefore, IsFault}
use Rattle.grammar_reader.specs.Texts.{end_fault, unless_lexical, answer_of, text, IsAnswer}

-- What must be known of a language: a fault stands where it says, and nothing stands behind a text.
pub record Known {A F : Type 0} (lang : Texts A F) : Type 0 where
  pub place_of_lexical : (at : ℕ) → lang.faults.place (lang.faults.lexical at) ≡ at
  pub place_of_fault : (k : Refusal) (at : ℕ) → lang.faults.place (lang.faults.of_refusal k at) ≡ at
  pub file_ends : (s : List (List ℕ)) (a : A) (r : List (List ℕ)) → Takes lang.file s a r → r ≡ []

-- how many tokens are left at a place
left_of : (before m : List (List ℕ)) (s : List (List ℕ)) → s ≡ before ++ m → length m ≤ length s
left_of before m s e = let d = ap length e in let l = length-append before m in omega arith

-- the tokens of a text, and what is known of their places
pub record Places {A F : Type 0} (lang : Texts A F) (bytes : List ℕ) : Type 0 where
  pub within : (m : List (List ℕ)) → length m ≤ length (text_tokens lang.lexis bytes) → 0 < length m
      → token_place lang.lexis bytes m < stop_of (length bytes) (lexical_place lang.lexis bytes)
  pub later : (m n : List (List ℕ)) → length m ≤ length (text_tokens lang.lexis bytes) → 0 < length n → length n < length m
      → token_place lang.lexis bytes m < token_place lang.lexis bytes n

less_or_same : (n k : ℕ) → n ≤ k → (n ≡ k) ⊎ (n < k)
less_or_same n k h = by_test (n == k) refl
  where
    by_test : (is : Bool) → (n == k) ≡ is → (n ≡ k) ⊎ (n < k)
    by_test true e = inl (eqb-true n k e)
    by_test false e = inr (let d = eqb-false n k e in less d)
      where
        less : (n ≡ k → ⊥) → n < k
        less d = omega arith

module _ {A F : Type 0} (lang : Texts A F) (known : Known lang) where
  answer_is : (bytes : List ℕ) → text lang bytes ≡ answer_of lang (length bytes) (scan_of lang.lexis bytes).0
      (lexical_place lang.lexis bytes) (read lang.file (text_tokens lang.lexis bytes))
  answer_is bytes = refl

  -- the second fault is the first one, or stands behind it
  abbrev pub IsOrBehind : F → F → Type 0
  IsOrBehind g h = (h ≡ g) ⊎ (lang.faults.place g < lang.faults.place h)

  is-fault : (bytes : List ℕ) (g : F) → MeetsFault lang bytes g → ((h : F) → MeetsFault lang bytes h → IsOrBehind g h)
      → IsFault lang bytes g
  is-fault bytes g met all = record { met = met; first = λ h m. counts h (all h m) }
    where
      counts : (h : F) → IsOrBehind g h → CountsBefore lang g h
      counts h (inl e) = inr (ap lang.faults.place (sym e), let d = ap lang.faults.rank e in omega arith)
      counts h (inr l) = inl l

  only-fault : (bytes : List ℕ) (g f : F) → MeetsFault lang bytes g → ((h : F) → MeetsFault lang bytes h → IsOrBehind g h)
      → IsFault lang bytes f → f ≡ g
  only-fault bytes g f met all is =
      elim (all f is.met) [
        | inl e ↦ e
        | inr l ↦ elim
            (is.first g met) [ inl h ↦ absurd (omega arith) | inr h ↦ absurd (let d = h.0 in omega arith) ]
      ]

  pub places_of : (bytes : List ℕ) → Places lang bytes
  places_of bytes = record {
    within = λ m h i.
        (place_within (length bytes) 0 (stop_of (length bytes) (lexical_place lang.lexis bytes)) (scan_of lang.lexis bytes).0
        (length m) (text_ordered lang.lexis bytes)
        (let d = count in omega arith) i).1;
    later = λ m n h i j.
        place_later (length bytes) 0 (stop_of (length bytes) (lexical_place lang.lexis bytes)) (scan_of lang.lexis bytes).0
        (length m) (length n) (text_ordered lang.lexis bytes)
        (let d = count in omega arith) i j;
  }
    where
      count : length (text_tokens lang.lexis bytes) ≡ length (scan_of lang.lexis bytes).0
      count = length-map (scan_of lang.lexis bytes).0 (λ (t : Token). t.bytes)

  -- a text has a value and no fault, or it has a fault, and all others that it meets stand behind it
  abbrev pub Decided : List ℕ → Type 0
  Decided bytes =
      ((a : A) × IsText lang bytes a × ((f : F) → MeetsFault lang bytes f → ⊥) × (text lang bytes ≡ Ok a))
      ⊎ ((g : F) × MeetsFault lang bytes g × ((f : F) → MeetsFault lang bytes f → IsOrBehind g f) × (text lang bytes ≡ Err g))

  no-foul : (bytes : List ℕ) (a : A) → Takes lang.file (text_tokens lang.lexis bytes) a []
      → IsClean lang.file (text_tokens lang.lexis bytes)
  no-foul bytes a h = (((is_stricter_than_loose lang.file).takes (text_tokens lang.lexis bytes) a []).0 h).1

  no-refusal : (bytes : List ℕ) (a : A) → Takes lang.file (text_tokens lang.lexis bytes) a [] → (k : Refusal) (m : List (List ℕ))
      → Refuses (loose lang.file) (text_tokens lang.lexis bytes) k m → ⊥
  no-refusal bytes a h k m r =
      let t = ((is_stricter_than_loose lang.file).takes (text_tokens lang.lexis bytes) a []).0 h in
      let e = sym (complete (loose lang.file) (text_tokens lang.lexis bytes) a [] t.0)
      ∙ refuses (loose lang.file) (text_tokens lang.lexis bytes) k m r in
      absurd cc

  -- the lexical fault, where no token before it is refused
  lexical_decided : (bytes : List ℕ) (at : ℕ) → lexical_place lang.lexis bytes ≡ Some at
      → IsClean lang.file (text_tokens lang.lexis bytes) →
      ((k : Refusal) (x : List ℕ) (m : List (List ℕ)) → Refuses (loose lang.file) (text_tokens lang.lexis bytes) k (x ∷ m) → ⊥) →
      text lang bytes ≡ Err (lang.faults.lexical at) → Decided bytes
  lexical_decided bytes at l clean none value =
      inr (
        lang.faults.lexical at,
        inl (at, l, refl),
        λ f met.
            elim met [
              | inl (p, e, i) ↦ inl (i ∙ ap lang.faults.lexical (let d = sym e ∙ l in cc))
              | inr (inl (k, m, c, i)) ↦ absurd (clean k m c)
              | inr (inr (inl (k, x, m, c, i))) ↦ absurd (none k x m c)
              | inr (inr (inr (e, k, c, i))) ↦ absurd (let z = sym l ∙ e in cc)
            ],
        value,
      )

  -- tokens that are whole
  taken_decided : (bytes : List ℕ) (a : A) → Takes lang.file (text_tokens lang.lexis bytes) a [] → (lexical : Option ℕ)
      → lexical_place lang.lexis bytes ≡ lexical → Decided bytes
  taken_decided bytes a h None l =
      inl (
        a,
        record { lexes = l; takes = h },
        λ f met.
            elim met [
              | inl (at, e, i) ↦ absurd (let d = sym l ∙ e in cc)
              | inr (inl (k, m, c, i)) ↦ no-foul bytes a h k m c
              | inr (inr (inl (k, x, m, c, i))) ↦ no-refusal bytes a h k (x ∷ m) c
              | inr (inr (inr (e, k, c, i))) ↦ no-refusal bytes a h k [] c
            ],
        answer_is bytes
            ∙ ap (answer_of lang (length bytes) (scan_of lang.lexis bytes).0 (lexical_place lang.lexis bytes))
            (complete lang.file (text_tokens lang.lexis bytes) a [] h)
            ∙ ap (λ (o : Option ℕ). unless_lexical lang o a) l,
      )
  taken_decided bytes a h (Some at) l =
      lexical_decided bytes at l (no-foul bytes a h) (λ k x m c. no-refusal bytes a h k (x ∷ m) c)
      (answer_is bytes
      ∙ ap (answer_of lang (length bytes) (scan_of lang.lexis bytes).0 (lexical_place lang.lexis bytes))
      (complete lang.file (text_tokens lang.lexis bytes) a [] h)
      ∙ ap (λ (o : Option ℕ). unless_lexical lang o a) l)

  -- the fault of a refusal at a token, where each fault that is met is the same or stands behind it
  token_decided : (bytes : List ℕ) (k : Refusal) (x : List ℕ) (r : List (List ℕ))
      → Refuses lang.file (text_tokens lang.lexis bytes) k (x ∷ r) →
      MeetsFault lang bytes (lang.faults.of_refusal k (token_place lang.lexis bytes (x ∷ r))) →
      ((f : F) → MeetsFault lang bytes f → (f ≡ lang.faults.of_refusal k (token_place lang.lexis bytes (x ∷ r)))
      ⊎ (token_place lang.lexis bytes (x ∷ r) < lang.faults.place f)) → Decided bytes
  token_decided bytes k x r h met all =
      inr (
        lang.faults.of_refusal k (token_place lang.lexis bytes (x ∷ r)),
        met,
        λ f m. elim (all f m) [
          | inl e ↦ inl e
          | inr l ↦ inr (let d = known.place_of_fault k (token_place lang.lexis bytes (x ∷ r))
              in omega arith)
        ],
        answer_is bytes
            ∙ ap (answer_of lang (length bytes) (scan_of lang.lexis bytes).0 (lexical_place lang.lexis bytes))
            (refuses lang.file (text_tokens lang.lexis bytes) k (x ∷ r) h),
      )

  fault_as : (k j : Refusal) (m n : ℕ) → k ≡ j → m ≡ n → lang.faults.of_refusal j n ≡ lang.faults.of_refusal k m
  fault_as k j m n e i = ap (λ (j : Refusal). lang.faults.of_refusal j n) (sym e) ∙ ap (lang.faults.of_refusal k) (sym i)

  refusal_inside : (bytes : List ℕ) (k : Refusal) (m : List (List ℕ))
      → Refuses (loose lang.file) (text_tokens lang.lexis bytes) k m → length m ≤ length (text_tokens lang.lexis bytes)
  refusal_inside bytes k m h =
      let f = (refuses_at_first (loose lang.file)).place (text_tokens lang.lexis bytes) k m h
      in left_of f.0 m (text_tokens lang.lexis bytes) f.1

  foul_inside : (bytes : List ℕ) (k : Refusal) (m : List (List ℕ)) → Fouls lang.file (text_tokens lang.lexis bytes) k m
      → (length m ≤ length (text_tokens lang.lexis bytes)) × (0 < length m)
  foul_inside bytes k m h =
      let f = (fouls_in_fronts lang.file).front (text_tokens lang.lexis bytes) k m h in
      let e = ap length f.4 in
      (left_of f.0 m (text_tokens lang.lexis bytes) (f.3 ∙ ap (λ (r : List (List ℕ)). f.0 ++ r) (sym f.4)), omega arith)

  place-at : (bytes : List ℕ) (f : F) (j : Refusal) (n : ℕ) → f ≡ lang.faults.of_refusal j n → lang.faults.place f ≡ n
  place-at bytes f j n e = ap lang.faults.place e ∙ known.place_of_fault j n

  -- a lexical fault stands behind each place before the end of the tokens
  before_lexical : (bytes : List ℕ) (place : ℕ) (f : F) (at : ℕ) → place < stop_of (length bytes) (lexical_place lang.lexis bytes)
      → lexical_place lang.lexis bytes ≡ Some at → f ≡ lang.faults.lexical at → place < lang.faults.place f
  before_lexical bytes place f at below e i =
      let d : stop_of (length bytes) (lexical_place lang.lexis bytes) ≡ at = ap (stop_of (length bytes)) e in
      let p : lang.faults.place f ≡ at = ap lang.faults.place i ∙ known.place_of_lexical at in
      omega (arith, below)

  -- the first token that breaks a strict rule
  foul_decided : (bytes : List ℕ) (k : Refusal) (x : List ℕ) (r : List (List ℕ))
      → Refuses lang.file (text_tokens lang.lexis bytes) k (x ∷ r) → Fouls lang.file (text_tokens lang.lexis bytes) k (x ∷ r) →
      ((j : Refusal) (n : List (List ℕ)) → Fouls lang.file (text_tokens lang.lexis bytes) j n → length n ≤ length (x ∷ r))
      → Decided bytes
  foul_decided bytes k x r h c first =
      let i = foul_inside bytes k (x ∷ r) c in
      token_decided bytes k x r h (inr (inl (k, x ∷ r, c, refl)))
      (λ f met.
      elim met [
        | inl (at, e, i) ↦ inr (before_lexical bytes (token_place lang.lexis bytes (x ∷ r)) f at below e i)
        | inr (inl (j, n, d, i)) ↦ another f j n d i
        | inr (inr (inl (j, y, n, d, i))) ↦ inr (before_refusal f j y n d i)
        | inr (inr (inr (e, j, d, i))) ↦ inr (before_end f j e i)
      ])
    where
      inside : (length (x ∷ r) ≤ length (text_tokens lang.lexis bytes)) × (0 < length (x ∷ r))
      inside = foul_inside bytes k (x ∷ r) c

      below : token_place lang.lexis bytes (x ∷ r) < stop_of (length bytes) (lexical_place lang.lexis bytes)
      below = (places_of bytes).within (x ∷ r) inside.0 inside.1

      before_end : (f : F) (j : Refusal) → lexical_place lang.lexis bytes ≡ None → f ≡ lang.faults.of_refusal j (length bytes)
          → token_place lang.lexis bytes (x ∷ r) < lang.faults.place f
      before_end f j e i =
          let d : stop_of (length bytes) (lexical_place lang.lexis bytes) ≡ length bytes = ap (stop_of (length bytes)) e in
          let p = place-at bytes f j (length bytes) i in
          omega (arith, below)

      before_refusal : (f : F) (j : Refusal) (y : List ℕ) (n : List (List ℕ))
          → Refuses (loose lang.file) (text_tokens lang.lexis bytes) j (y ∷ n) →
          f ≡ lang.faults.of_refusal j (token_place lang.lexis bytes (y ∷ n))
          → token_place lang.lexis bytes (x ∷ r) < lang.faults.place f
      before_refusal f j y n d i =
          let l = (places_of bytes).later (x ∷ r) (y ∷ n) inside.0 (omega arith)
          ((fouls_in_fronts lang.file).earlier (text_tokens lang.lexis bytes) k j (x ∷ r) (y ∷ n) c d) in
          let p = place-at bytes f j (token_place lang.lexis bytes (y ∷ n)) i in
          omega arith

      another : (f : F) (j : Refusal) (n : List (List ℕ)) → Fouls lang.file (text_tokens lang.lexis bytes) j n
          → f ≡ lang.faults.of_refusal j (token_place lang.lexis bytes n) →
          (f ≡ lang.faults.of_refusal k (token_place lang.lexis bytes (x ∷ r)))
          ⊎ (token_place lang.lexis bytes (x ∷ r) < lang.faults.place f)
      another f j n d i =
          elim (less_or_same (length n) (length (x ∷ r)) (first j n d)) [
            | inl e ↦
                (let z = (fouls_in_fronts lang.file).one_kind (text_tokens lang.lexis bytes) k j (x ∷ r) n c d (sym e) in
                inl (i ∙ fault_as k j (token_place lang.lexis bytes (x ∷ r)) (token_place lang.lexis bytes n) z.0
                (ap (token_place lang.lexis bytes) z.1)))
            | inr l ↦
                (let q = foul_inside bytes j n d in
                let w = (places_of bytes).later (x ∷ r) n inside.0 q.1 l in
                let p = place-at bytes f j (token_place lang.lexis bytes n) i in
                inr (omega arith))
          ]

  one-refusal : (s : List (List ℕ)) (k j : Refusal) (m n : List (List ℕ)) → Refuses (loose lang.file) s k m
      → Refuses (loose lang.file) s j n → (k ≡ j) × (m ≡ n)
  one-refusal s k j m n h i = let e = sym (refuses (loose lang.file) s k m h) ∙ refuses (loose lang.file) s j n i
      in (kind_is e, place_is e)

  -- a token that the loose subset refuses, where no token before it breaks a strict rule
  refusal_decided : (bytes : List ℕ) (k : Refusal) (x : List ℕ) (r : List (List ℕ))
      → Refuses lang.file (text_tokens lang.lexis bytes) k (x ∷ r) →
      IsClean lang.file (text_tokens lang.lexis bytes) → Refuses (loose lang.file) (text_tokens lang.lexis bytes) k (x ∷ r)
      → Decided bytes
  refusal_decided bytes k x r h clean c =
      token_decided bytes k x r h (inr (inr (inl (k, x, r, c, refl))))
      (λ f met.
      elim met [
        | inl (at, e, i) ↦ inr (before_lexical bytes (token_place lang.lexis bytes (x ∷ r)) f at below e i)
        | inr (inl (j, n, d, i)) ↦ absurd (clean j n d)
        | inr (inr (inl (j, y, n, d, i))) ↦ same f j y n d i
        | inr (inr (inr (e, j, d, i))) ↦ absurd (let z = (one-refusal (text_tokens lang.lexis bytes) k j (x ∷ r) [] c d).1 in cc)
      ])
    where
      below : token_place lang.lexis bytes (x ∷ r) < stop_of (length bytes) (lexical_place lang.lexis bytes)
      below = (places_of bytes).within (x ∷ r) (refusal_inside bytes k (x ∷ r) c) (omega arith)

      same : (f : F) (j : Refusal) (y : List ℕ) (n : List (List ℕ))
          → Refuses (loose lang.file) (text_tokens lang.lexis bytes) j (y ∷ n) →
          f ≡ lang.faults.of_refusal j (token_place lang.lexis bytes (y ∷ n))
          → (f ≡ lang.faults.of_refusal k (token_place lang.lexis bytes (x ∷ r)))
          ⊎ (token_place lang.lexis bytes (x ∷ r) < lang.faults.place f)
      same f j y n d i =
          let z = one-refusal (text_tokens lang.lexis bytes) k j (x ∷ r) (y ∷ n) c d in
          inl (i ∙ fault_as k j (token_place lang.lexis bytes (x ∷ r)) (token_place lang.lexis bytes (y ∷ n)) z.0
          (ap (token_place lang.lexis bytes) z.1))

  -- the end of the tokens, where the loose subset refuses it and no token breaks a strict rule
  end_decided : (bytes : List ℕ) (k : Refusal) → Refuses lang.file (text_tokens lang.lexis bytes) k []
      → IsClean lang.file (text_tokens lang.lexis bytes) →
      Refuses (loose lang.file) (text_tokens lang.lexis bytes) k [] → (lexical : Option ℕ)
      → lexical_place lang.lexis bytes ≡ lexical → Decided bytes
  end_decided bytes k h clean c None l =
      inr (
        lang.faults.of_refusal k (length bytes),
        inr (inr (inr (l, k, c, refl))),
        λ f met.
            elim met [
              | inl (at, e, i) ↦ absurd (let d = sym l ∙ e in cc)
              | inr (inl (j, n, d, i)) ↦ absurd (clean j n d)
              | inr (inr (inl (j, y, n, d, i))) ↦ absurd
                  (let z = (one-refusal (text_tokens lang.lexis bytes) k j [] (y ∷ n) c d).1 in cc)
              | inr (inr (inr (e, j, d, i))) ↦
                  inl (i ∙ fault_as k j (length bytes) (length bytes) (one-refusal (text_tokens lang.lexis bytes) k j [] [] c d).0
                  refl)
            ],
        answer_is bytes
            ∙ ap (answer_of lang (length bytes) (scan_of lang.lexis bytes).0 (lexical_place lang.lexis bytes))
            (refuses lang.file (text_tokens lang.lexis bytes) k [] h)
            ∙ ap (λ (o : Option ℕ). Err (end_fault lang.faults (length bytes) k o)) l,
      )
  end_decided bytes k h clean c (Some at) l =
      lexical_decided bytes at l clean (λ j y n d. let z = (one-refusal (text_tokens lang.lexis bytes) k j [] (y ∷ n) c d).1
      in cc)
      (answer_is bytes
      ∙ ap (answer_of lang (length bytes) (scan_of lang.lexis bytes).0 (lexical_place lang.lexis bytes))
      (refuses lang.file (text_tokens lang.lexis bytes) k [] h)
      ∙ ap (λ (o : Option ℕ). Err (end_fault lang.faults (length bytes) k o)) l)

  decided : (bytes : List ℕ) → Decided bytes
  decided bytes = by_outcome (read lang.file (text_tokens lang.lexis bytes)) refl
    where
      by_refusal : (k : Refusal) (m : List (List ℕ)) → Refuses lang.file (text_tokens lang.lexis bytes) k m → Decided bytes
      by_refusal k [] h =
          elim (((is_stricter_than_loose lang.file).refuses (text_tokens lang.lexis bytes) k []).0 h) [
            | inl c ↦ absurd (let i = (foul_inside bytes k [] c.0).1 in omega arith)
            | inr c ↦ end_decided bytes k h c.0 c.1 (lexical_place lang.lexis bytes) refl
          ]
      by_refusal k (x ∷ r) h =
          elim (((is_stricter_than_loose lang.file).refuses (text_tokens lang.lexis bytes) k (x ∷ r)).0 h)
          [ inl c ↦ foul_decided bytes k x r h c.0 c.1 | inr c ↦ refusal_decided bytes k x r h c.0 c.1 ]

      by_outcome : (o : Outcome (List ℕ) Refusal A) → read lang.file (text_tokens lang.lexis bytes) ≡ o → Decided bytes
      by_outcome (Ok p) e =
          let t = sound lang.file (text_tokens lang.lexis bytes) p.0 p.1 e in
          taken_decided bytes p.0 (subst (λ (r : List (List ℕ)). Takes lang.file (text_tokens lang.lexis bytes) p.0 r)
          (known.file_ends (text_tokens lang.lexis bytes) p.0 p.1 t) t) (lexical_place lang.lexis bytes) refl
      by_outcome (Err z) e = by_refusal z.0 z.1 (refused lang.file (text_tokens lang.lexis bytes) z.0 z.1 e)

  text-answers : (bytes : List ℕ) (a : A) → IsText lang bytes a → text lang bytes ≡ Ok a
  text-answers bytes a t =
      answer_is bytes
      ∙ ap (answer_of lang (length bytes) (scan_of lang.lexis bytes).0 (lexical_place lang.lexis bytes))
      (complete lang.file (text_tokens lang.lexis bytes) a [] t.takes)
      ∙ ap (λ (o : Option ℕ). unless_lexical lang o a) t.lexes

  -- a text has a value, or it has a fault, and not both, as the function of its bytes says
  pub is_answer : (bytes : List ℕ) → IsAnswer lang bytes
  is_answer bytes = by_decision (decided bytes)
    where
      ok_is : (a b : A) → ◌≡◌ {A = Result A F} (Ok a) (Ok b) → a ≡ b
      ok_is a b e = cc

      err_is : (f g : F) → ◌≡◌ {A = Result A F} (Err f) (Err g) → f ≡ g
      err_is f g e = cc

      by_decision : Decided bytes → IsAnswer lang bytes
      by_decision (inl (b, t, none, e)) = record {
        value = λ a. (text-answers bytes a, λ i. subst (IsText lang bytes) (ok_is b a (sym e ∙ i)) t);
        fault = λ f. (λ is. absurd (none f is.met), λ i. absurd (let d = sym e ∙ i in cc));
      }
      by_decision (inr (g, met, all, e)) = record {
        value = λ a. (text-answers bytes a, λ i. absurd (let d = sym e ∙ i in cc));
        fault = λ f. (
          λ is. e ∙ ap Err (sym (only-fault bytes g f met all is)),
          λ i. subst (IsFault lang bytes) (err_is g f (sym e ∙ i)) (is-fault bytes g met all),
        );
      }
