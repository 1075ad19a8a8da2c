-- The first byte that passes a test, and the bytes before it.
use Rattle.std.proofs.Common.{◌≡◌, ℕ, zero, suc, ◌+◌, ◌<◌, Bool, true, false, not, ◌||◌, ◌&&◌, ◌==◌, cond, List, [], ◌∷◌, ◌++◌}
use Rattle.std.proofs.Common.{length, Option, Some, None, refl, sym, ap, ◌∙◌, arith}
use Rattle.std.specs.List.{list_all}
use Rattle.memchr.specs.Find.{Nowhere, Passes, IsFirstByte, is_byte2}
use Rattle.liberty_text.specs.Idle.{front_run, is_plain_in_text, stands_for_itself}

-- bytes pass one test where they fail another one
abbrev Fails : (ℕ → Bool) → (ℕ → Bool) → Type 0
Fails test plain = (b : ℕ) → plain b ≡ not (test b)

is_false : (b : Bool) → ¬ (b ≡ true) → b ≡ false
is_false true h = absurd (h refl)
is_false false h = refl

plain_by : (test plain : ℕ → Bool) → Fails test plain → (b : ℕ) → ¬ (test b ≡ true) → plain b ≡ true
plain_by test plain f b h = f b ∙ ap not (is_false (test b) h)

later : (test : ℕ → Bool) (b : ℕ) (bs : List ℕ) (n : ℕ) → Nowhere (Passes test (b ∷ bs)) 0 (suc n) → Nowhere (Passes test bs) 0 n
later test b bs n h k low less = h (suc k) (omega arith) (omega (arith, less))

run_to : (test plain : ℕ → Bool) → Fails test plain → (bytes : List ℕ) (k : ℕ) → k < length bytes
    → Nowhere (Passes test bytes) 0 k → Passes test bytes k → k ≡ front_run plain bytes
run_to test plain f [] k less h p = absurd (omega (arith, less))
run_to test plain f (b ∷ bs) zero less h p = let e : plain b ≡ false = f b ∙ ap not p in rw e refl
run_to test plain f (b ∷ bs) (suc k) less h p =
    let e : plain b ≡ true = plain_by test plain f b (h 0 (omega arith) (omega arith)) in
    let rest : k ≡ front_run plain bs = run_to test plain f bs k (omega (arith, less)) (later test b bs k h) p in
    rw (e, sym rest) (omega arith)

run_all : (test plain : ℕ → Bool) → Fails test plain → (bytes : List ℕ) → Nowhere (Passes test bytes) 0 (length bytes)
    → length bytes ≡ front_run plain bytes
run_all test plain f [] h = refl
run_all test plain f (b ∷ bs) h =
    let e : plain b ≡ true = plain_by test plain f b (h 0 (omega arith) (omega arith)) in
    let rest : length bs ≡ front_run plain bs = run_all test plain f bs (later test b bs (length bs) h) in
    rw (e, sym rest) (omega arith)

all_of : (test plain : ℕ → Bool) → Fails test plain → (bytes : List ℕ) → Nowhere (Passes test bytes) 0 (length bytes)
    → list_all plain bytes ≡ true
all_of test plain f [] h = refl
all_of test plain f (b ∷ bs) h =
    let e : plain b ≡ true = plain_by test plain f b (h 0 (omega arith) (omega arith)) in
    rw e (all_of test plain f bs (later test b bs (length bs) h))

one_of : (test plain : ℕ → Bool) → Fails test plain → (bytes : List ℕ) (k : ℕ) → k < length bytes → Passes test bytes k
    → list_all plain bytes ≡ false
one_of test plain f [] k less p = absurd (omega (arith, less))
one_of test plain f (b ∷ bs) zero less p = let e : plain b ≡ false = f b ∙ ap not p in rw e refl
one_of test plain f (b ∷ bs) (suc k) less p = ends (plain b) (one_of test plain f bs k (omega (arith, less)) p)
  where
    ends : (p : Bool) {q : Bool} → q ≡ false → (p && q) ≡ false
    ends true e = e
    ends false e = refl

no_quote : Fails (is_byte2 34 92) is_plain_in_text
no_quote b = by_cases (b == 34) (b == 92)
  where
    by_cases : (p q : Bool) → (not p && not q) ≡ not (p || q)
    by_cases true q = refl
    by_cases false q = refl

-- the bytes of a text before its first quote or backslash
pub text_some : (bytes : List ℕ) (r : Option ℕ) (k : ℕ) → IsFirstByte (is_byte2 34 92) bytes r → r ≡ Some k
    → k ≡ front_run is_plain_in_text bytes
text_some bytes None k h e = absurd cc
text_some bytes (Some n) k h e =
    let same : n ≡ k = cc in
    sym same ∙ run_to (is_byte2 34 92) is_plain_in_text no_quote bytes n h.0.high h.0.before h.1

pub text_none : (bytes : List ℕ) (r : Option ℕ) → IsFirstByte (is_byte2 34 92) bytes r → r ≡ None
    → length bytes ≡ front_run is_plain_in_text bytes
text_none bytes None h e = run_all (is_byte2 34 92) is_plain_in_text no_quote bytes h
text_none bytes (Some n) h e = absurd cc

-- each byte stands for itself where none is a line end or a backslash
pub plain_none : (bytes : List ℕ) (r : Option ℕ) → IsFirstByte (is_byte2 10 92) bytes r → r ≡ None
    → true ≡ list_all stands_for_itself bytes
plain_none bytes None h e = sym (all_of (is_byte2 10 92) stands_for_itself (λ b. refl) bytes h)
plain_none bytes (Some n) h e = absurd cc

pub plain_some : (bytes : List ℕ) (r : Option ℕ) (k : ℕ) → IsFirstByte (is_byte2 10 92) bytes r → r ≡ Some k
    → false ≡ list_all stands_for_itself bytes
plain_some bytes None k h e = absurd cc
plain_some bytes (Some n) k h e = sym (one_of (is_byte2 10 92) stands_for_itself (λ b. refl) bytes n h.0.high h.1)

-- a run over bytes and others behind them

pub run_stops : (test : ℕ → Bool) (near far : List ℕ) → front_run test near < length near
    → front_run test near ≡ front_run test (near ++ far)
run_stops test [] far less = absurd (omega (arith, less))
run_stops test (b ∷ near) far less = by_test (test b) (run_stops test near far) less
  where
    by_test : (x : Bool) → (front_run test near < length near → front_run test near ≡ front_run test (near ++ far))
        → cond x (1 + front_run test near) 0 < length (b ∷ near) →
        cond x (1 + front_run test near) 0 ≡ cond x (1 + front_run test (near ++ far)) 0
    by_test true rest l = ap (λ (n : ℕ). 1 + n) (rest (omega (arith, l)))
    by_test false rest l = refl

pub run_goes_on : (test : ℕ → Bool) (near far : List ℕ) → ¬ (front_run test near < length near)
    → front_run test near + front_run test far ≡ front_run test (near ++ far)
run_goes_on test [] far h = omega arith
run_goes_on test (b ∷ near) far h = by_test (test b) (run_goes_on test near far) h
  where
    by_test : (x : Bool) → (¬ (front_run test near < length near)
        → front_run test near + front_run test far ≡ front_run test (near ++ far))
        → ¬ (cond x (1 + front_run test near) 0 < length (b ∷ near)) →
        cond x (1 + front_run test near) 0 + front_run test far ≡ cond x (1 + front_run test (near ++ far)) 0
    by_test true rest l = let all = rest (λ k. l (omega (arith, k))) in omega (arith, all)
    by_test false rest l = absurd (l (omega arith))
