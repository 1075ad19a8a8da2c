-- Traces compared line by line.
use Rattle.std.proofs.Common.{◌≡◌, ℕ, ◌+◌, Bool, true, false, ◌&&◌, if◌then◌else◌, List, [], ◌∷◌, length, drop, Option, Some}
use Rattle.std.proofs.Common.{None, refl, sym, ap, subst, ◌∙◌, arith}
use Rattle.std.proofs.lemmas.Bool.{and_parts, and_from, eqb-true, eq-eqb}
use Rattle.cell_machine.specs.declared.changes.Change.{Change}
use Rattle.cell_machine.specs.History.{IsProperFrom}
use Rattle.stimulus.specs.declared.drives.Drive.{Drive}
use Rattle.stimulus.specs.declared.drives.Drive.TheVariants.{Zero, One, Unknown, Floating}
use Rattle.stimulus.specs.DriveLines.{same_drive, DriveLine, lines_after, lines_along, DriveMachine, IsSized}
use Rattle.stimulus.specs.Differences.{same_values, same_delay, same_delays, same_fact, same_reports, same_line, difference_from}
use Rattle.stimulus.specs.Differences.{first_difference, NoDifferenceIsEqual}

-- Two simulators that stand after one history. The changes that are left go on from there, and the first difference of their
-- lines is that of the whole traces.
pub record Alike (left right : List Change → Type 0) (one other : List Change → DriveLine) (n number : ℕ) (rest : List Change)
    (found : Option ℕ) : Type 0 where
  pub history : List Change
  pub left_stands : left history
  pub right_stands : right history
  pub proper : IsProperFrom n history rest
  pub later : difference_from number (lines_after one history rest) (lines_after other history rest) ≡ found

-- Whatever the histories of two simulators, what is left of two lists of their lines from this place on decides whether these are
-- the same.
abbrev pub RestDecides : {A : Type 0} → (List A → List A → Bool) → (left right : List Change → Type 0)
    → (one other : List Change → List A) → ℕ → Type 0
RestDecides same_lists left right one other place =
    (h k : List Change) → left h → right k → same_lists (drop place (one h)) (drop place (other k)) ≡ same_lists (one h) (other k)

-- Lines that show the same, and as many checks, are equal.

pub cons_path : {X : Type 0} (x y : X) (xs ys : List X) → x ≡ y → xs ≡ ys → x ∷ xs ≡ y ∷ ys
cons_path x y xs ys e f = λ i. e i ∷ f i

same_drive-is : (x y : Drive) → same_drive x y ≡ true → x ≡ y
same_drive-is Zero Zero e = refl
same_drive-is One One e = refl
same_drive-is Unknown Unknown e = refl
same_drive-is Floating Floating e = refl
same_drive-is _ _ e = absurd cc

same_drive-self : (x : Drive) → same_drive x x ≡ true
same_drive-self Zero = refl
same_drive-self One = refl
same_drive-self Unknown = refl
same_drive-self Floating = refl

pub values-are : (xs ys : List Drive) → same_values xs ys ≡ true → xs ≡ ys
values-are [] [] e = refl
values-are [] (y ∷ ys) e = absurd cc
values-are (x ∷ xs) [] e = absurd cc
values-are (x ∷ xs) (y ∷ ys) e = let p = and_parts (same_drive x y) (same_values xs ys) e
    in cons_path x y xs ys (same_drive-is x y p.0) (values-are xs ys p.1)

values-self : (xs : List Drive) → same_values xs xs ≡ true
values-self [] = refl
values-self (x ∷ xs) = and_from (same_drive x x) (same_values xs xs) (same_drive-self x) (values-self xs)

delay-is : (a b : Option ℕ) → same_delay a b ≡ true → a ≡ b
delay-is None None e = refl
delay-is (Some m) (Some n) e = ap Some (eqb-true m n e)
delay-is _ _ e = absurd cc

delay-self : (a : Option ℕ) → same_delay a a ≡ true
delay-self None = refl
delay-self (Some m) = eq-eqb m m refl

pub delays-are : (xs ys : List (Option ℕ)) → same_delays xs ys ≡ true → xs ≡ ys
delays-are [] [] e = refl
delays-are [] (y ∷ ys) e = absurd cc
delays-are (x ∷ xs) [] e = absurd cc
delays-are (x ∷ xs) (y ∷ ys) e = let p = and_parts (same_delay x y) (same_delays xs ys) e
    in cons_path x y xs ys (delay-is x y p.0) (delays-are xs ys p.1)

delays-self : (xs : List (Option ℕ)) → same_delays xs xs ≡ true
delays-self [] = refl
delays-self (x ∷ xs) = and_from (same_delay x x) (same_delays xs xs) (delay-self x) (delays-self xs)

pub same_fact-is : (a b : Bool) → same_fact a b ≡ true → a ≡ b
same_fact-is true true e = refl
same_fact-is true false e = absurd cc
same_fact-is false true e = absurd cc
same_fact-is false false e = refl

same_fact-self : (a : Bool) → same_fact a a ≡ true
same_fact-self true = refl
same_fact-self false = refl

reports-are : (xs ys : List Bool) → length xs ≡ length ys → same_reports xs ys ≡ true → xs ≡ ys
reports-are [] [] l e = refl
reports-are [] (y ∷ ys) l e = absurd (omega (arith, l))
reports-are (x ∷ xs) [] l e = absurd (omega (arith, l))
reports-are (x ∷ xs) (y ∷ ys) l e =
    let p = and_parts (same_fact x y) (same_reports xs ys) e in
    cons_path x y xs ys (same_fact-is x y p.0) (reports-are xs ys (omega (arith, l)) p.1)

reports-self : (xs : List Bool) → same_reports xs xs ≡ true
reports-self [] = refl
reports-self (x ∷ xs) = and_from (same_fact x x) (same_reports xs xs) (same_fact-self x) (reports-self xs)

pub line-is : (l r : DriveLine) → length l.reports ≡ length r.reports → same_line l r ≡ true → l ≡ r
line-is l r e h =
    let p = and_parts (same_values l.values r.values) (same_delays l.delays r.delays && same_reports l.reports r.reports) h in
    let q = and_parts (same_delays l.delays r.delays) (same_reports l.reports r.reports) p.1 in
    let values = values-are l.values r.values p.0 in
    let delays = delays-are l.delays r.delays q.0 in
    let reports = reports-are l.reports r.reports e q.1 in
    λ i. record { values = values i; delays = delays i; reports = reports i }

pub line-self : (l : DriveLine) → same_line l l ≡ true
line-self l =
    and_from (same_values l.values l.values) (same_delays l.delays l.delays && same_reports l.reports l.reports)
    (values-self l.values)
    (and_from (same_delays l.delays l.delays) (same_reports l.reports l.reports) (delays-self l.delays) (reports-self l.reports))

no_other : (n : ℕ) (ls : List DriveLine) → difference_from n ls ls ≡ None
no_other n [] = refl
no_other n (l ∷ ls) = rw (line-self l) (no_other (n + 1) ls)

pub none_here : (b : Bool) (n : ℕ) (later : Option ℕ) → (if b then later else Some n) ≡ None → (b ≡ true) × (later ≡ None)
none_here true n later e = (refl, e)
none_here false n later e = absurd cc

rest-is : (m n : DriveMachine) (number : ℕ) (h cs : List Change) → IsSized m → IsSized n → m.checks ≡ n.checks
    → difference_from number (lines_after m.line h cs) (lines_after n.line h cs) ≡ None
    → lines_after m.line h cs ≡ lines_after n.line h cs
rest-is m n number h [] sm sn checks e = refl
rest-is m n number h (c ∷ cs) sm sn checks e =
    let p = none_here (same_line (m.line (c ∷ h)) (n.line (c ∷ h))) number
    (difference_from (number + 1) (lines_after m.line (c ∷ h) cs) (lines_after n.line (c ∷ h) cs)) e in
    cons_path (m.line (c ∷ h)) (n.line (c ∷ h)) (lines_after m.line (c ∷ h) cs) (lines_after n.line (c ∷ h) cs)
    (line-is (m.line (c ∷ h)) (n.line (c ∷ h)) (sm.reports (c ∷ h) ∙ checks ∙ sym (sn.reports (c ∷ h))) p.0)
    (rest-is m n (number + 1) (c ∷ h) cs sm sn checks p.1)

pub no_difference : NoDifferenceIsEqual
no_difference m n cs sm sn outputs checks = (
  λ e.
      let p = none_here (same_line (m.line []) (n.line [])) 0
      (difference_from 1 (lines_after m.line [] cs) (lines_after n.line [] cs)) e in
      cons_path (m.line []) (n.line []) (lines_after m.line [] cs) (lines_after n.line [] cs)
      (line-is (m.line []) (n.line []) (sm.reports [] ∙ checks ∙ sym (sn.reports [])) p.0) (rest-is m n 1 [] cs sm sn checks p.1),
  λ e. subst (λ ls. first_difference (lines_along m.line cs) ls ≡ None) e (no_other 0 (lines_along m.line cs)),
)
