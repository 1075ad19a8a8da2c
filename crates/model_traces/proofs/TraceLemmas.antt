-- Traces, histories and lists of which some entries are picked.
use Rattle.std.proofs.Common.{◌≡◌, ℕ, zero, suc, Bool, true, false, ◌&&◌, List, [], ◌∷◌, length, map, replicate, refl, ap, sym}
use Rattle.std.proofs.Common.{◌∙◌, arith, nat_lt, if◌then◌else◌}
use Rattle.std.specs.Prelude.{filter}
use Rattle.std.proofs.lemmas.Bool.{lt-ltb}
use Rattle.std.proofs.lemmas.List.{length-set, length-replicate}
use Rattle.trit_cubes.specs.declared.trits.Trit.TheVariants.{Unknown}
use Rattle.cell_machine.specs.declared.changes.Change.{Change}
use Rattle.cell_machine.specs.declared.checks.Check.{Check}
use Rattle.cell_machine.specs.Each.{each}
use Rattle.cell_machine.specs.History.{inputs_after, value_before, is_event, IsProper, IsProperFrom}
use Rattle.cell_machine.specs.Report.{InputCheck, opening, is_within, last_event, report, any_true}
use Rattle.cell_machine.specs.Lines.{Line, lines_from, trace}
use Rattle.model_traces.specs.SequentialStates.{picked}
use Rattle.cell_machine.proofs.StillLemmas.{same-equal, no-event}

lines-same :
    (n : ℕ) (f g : List Change → Line)
    → ((h : List Change) → IsProper n h → f h ≡ g h)
    → (h cs : List Change) → IsProper n h → IsProperFrom n h cs → lines_from f h cs ≡ lines_from g h cs
lines-same n f g same h [] before rest = refl
lines-same n f g same h (c ∷ cs) before rest =
    let next : IsProper n (c ∷ h) = (rest.0, rest.1, before) in
    λ i. same (c ∷ h) next i ∷ lines-same n f g same (c ∷ h) cs next rest.2 i

-- Equal lines after each proper history give equal traces of each proper list.
pub trace-same :
    (n : ℕ) (f g : List Change → Line)
    → ((h : List Change) → IsProper n h → f h ≡ g h)
    → (cs : List Change) → IsProperFrom n [] cs → trace f cs ≡ trace g cs
trace-same n f g same cs rest = λ i. same [] tt i ∷ lines-same n f g same [] cs tt rest i

pub length-inputs : (n : ℕ) (h : List Change) → length (inputs_after n h) ≡ n
length-inputs n [] = length-replicate n Unknown
length-inputs n (c ∷ h) = length-set (inputs_after n h) c.pin c.to ∙ length-inputs n h

-- a change that is no event reports nothing
pub still-report :
    (n : ℕ) (k : InputCheck) (h : List Change) (c : Change)
    → is_event (inputs_after n h) c ≡ false → report n k (c ∷ h) ≡ false
still-report n k h c none =
    ap (λ b. b && (k.holds (inputs_after n (c ∷ h))
    && is_within c.at k.limit (last_event n (opening k (value_before (inputs_after n h) c) c) h)))
    (no-event k.second (inputs_after n h) c (same-equal (value_before (inputs_after n h) c) c.to none))

pub still-reports :
    (n : ℕ) (f : Check → InputCheck) (h : List Change) (c : Change) (ks : List Check) (many : ℕ)
    → is_event (inputs_after n h) c ≡ false → many ≡ length ks
    → replicate many false ≡ map (λ k. report n k (c ∷ h)) (map f ks)
still-reports n f h c ks many none e = ap (λ m. replicate m false) e ∙ by ks
  where
    by : (ks : List Check) → replicate (length ks) false ≡ map (λ k. report n k (c ∷ h)) (map f ks)
    by [] = refl
    by (k ∷ ks) = λ i. sym (still-report n (f k) h c none) i ∷ by ks i

no-true : (many : ℕ) → any_true (replicate many false) ≡ false
no-true zero = refl
no-true (suc many) = no-true many

-- where some check reports, the change is an event
pub report-event :
    (n : ℕ) (f : Check → InputCheck) (h : List Change) (c : Change) (ks : List Check)
    → any_true (map (λ k. report n k (c ∷ h)) (map f ks)) ≡ true → is_event (inputs_after n h) c ≡ true
report-event n f h c ks some = by (is_event (inputs_after n h) c) refl
  where
    by : (b : Bool) → is_event (inputs_after n h) c ≡ b → b ≡ true
    by true e = refl
    by false e =
        let clash : false ≡ true = sym (no-true (length ks)) ∙ ap any_true (still-reports n f h c ks (length ks) e refl) ∙ some in
        absurd cc

-- no check reports at the start
pub start-reports :
    (n : ℕ) (f : Check → InputCheck) (ks : List Check) → replicate (length ks) false ≡ map (λ k. report n k []) (map f ks)
start-reports n f [] = refl
start-reports n f (k ∷ ks) = ap (λ r. false ∷ r) (start-reports n f ks)

-- where some check reports there are checks
pub some-checks : {X Y : Type 0} (f : X → Y) (g : Y → Bool) (xs : List X) → any_true (map g (map f xs)) ≡ true
    → nat_lt 0 (length xs) ≡ true
some-checks f g [] e = absurd cc
some-checks f g (x ∷ xs) e = lt-ltb 0 (length (x ∷ xs)) (omega arith)

-- stepping all and picking some
pub picked-each :
    {X S : Type 0} (test : X → Bool) (f : X → S → S) (xs : List X) (ss : List S)
    → length ss ≡ length xs → picked test xs (each f xs ss) ≡ each f (filter test xs) (picked test xs ss)
picked-each test f [] ss e = refl
picked-each test f (x ∷ xs) [] e = absurd (omega arith)
picked-each test f (x ∷ xs) (s ∷ ss) e =
    let rest = picked-each test f xs ss (omega arith) in
    elim (test x) as (λ b.
    (if b then f x s ∷ picked test xs (each f xs ss) else picked test xs (each f xs ss))
    ≡ each f (if b then x ∷ filter test xs else filter test xs) (if b then s ∷ picked test xs ss else picked test xs ss)) [
      | true ↦ ap (λ r. f x s ∷ r) rest
      | false ↦ rest
    ]

pub picked-replicate :
    {X S : Type 0} (test : X → Bool) (xs : List X) (s : S)
    → picked test xs (replicate (length xs) s) ≡ replicate (length (filter test xs)) s
picked-replicate test [] s = refl
picked-replicate test (x ∷ xs) s =
    let rest = picked-replicate test xs s in
    elim (test x) as (λ b.
    (if b then s ∷ picked test xs (replicate (length xs) s) else picked test xs (replicate (length xs) s))
    ≡ replicate (length (if b then x ∷ filter test xs else filter test xs)) s) [
      | true ↦ ap (λ r. s ∷ r) rest
      | false ↦ rest
    ]

pub length-picked :
    {X S : Type 0} (test : X → Bool) (xs : List X) (ss : List S)
    → length ss ≡ length xs → length (picked test xs ss) ≡ length (filter test xs)
length-picked test [] ss e = refl
length-picked test (x ∷ xs) [] e = absurd (omega arith)
length-picked test (x ∷ xs) (s ∷ ss) e =
    let rest = length-picked test xs ss (omega arith) in
    elim (test x) as (λ b.
    length (if b then s ∷ picked test xs ss else picked test xs ss) ≡ length (if b then x ∷ filter test xs else filter test xs)) [
      | true ↦ ap suc rest
      | false ↦ rest
    ]
