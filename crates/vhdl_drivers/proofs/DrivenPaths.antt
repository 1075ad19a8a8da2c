-- The paths to a driven output.
use Rattle.std.proofs.Common.{◌≡◌, ℕ, suc, ◌+◌, ◌<◌, ◌≤◌, Bool, true, false, nat_eq, nat_lt, if◌then◌else◌, ◌||◌, List, [], ◌∷◌}
use Rattle.std.proofs.Common.{◌++◌, length, get_or, drop, Result, Err, IsErr, refl, sym, ap, subst, ◌∙◌, append_assoc, arith}
use Rattle.std.specs.List.{list_any}
use Rattle.std.proofs.lemmas.Bool.Decides.{nat_tests}
use Rattle.std.proofs.lemmas.List.{append-nil, drop_more, drop_all}
use Rattle.std.proofs.lemmas.Bool.{eq-eqb as same, ne_eqb as different}
use Rattle.text_io.specs.declared.outside.Failed.{Failed}
use Rattle.text_io.specs.declared.slots.OutSlot.{OutSlot}
use Rattle.text_io.specs.Desk.{DeskState}
use Rattle.text_io.specs.Line.{Gathers, PutsText}
use Rattle.text_io.proofs.LineLaws.{Gathers-Gathers, puts_on, put_stops}
use Rattle.driven_traces.specs.declared.delays.DrivePath.{DrivePath}
use Rattle.vhdl_writer.specs.Joined.{numbered_texts}
use Rattle.vhdl_drivers.specs.DriverText.{paths_to}

one_more : (number : ℕ) (path : DrivePath) (paths : List DrivePath)
    → list_any (λ path. nat_eq path.drive number) paths ≡ nat_lt 0 (length (paths_to number paths)) → (b : Bool)
    → (b || list_any (λ path. nat_eq path.drive number) paths) ≡ nat_lt 0
    (length (if b then path ∷ paths_to number paths else paths_to number paths))
one_more number path paths e true = sym (some (length (paths_to number paths)))
  where
    some : (n : ℕ) → nat_lt 0 (suc n) ≡ true
    some n = grind (arith, nat_tests)
one_more number path paths e false = e

pub has_paths : (number : ℕ) (paths : List DrivePath)
    → list_any (λ path. nat_eq path.drive number) paths ≡ nat_lt 0 (length (paths_to number paths))
has_paths number [] = refl
has_paths number (path ∷ paths) = one_more number path paths (has_paths number paths) (nat_eq path.drive number)

-- Of the texts of the paths to an output some were put: those of the paths from here on are the others.
pub record PutBefore (f : ℕ → DrivePath → List ℕ) (drive : ℕ) (all : List ℕ) (s t : DeskState) (slot : OutSlot) (l m : List ℕ)
    (number : ℕ) (left : List DrivePath) : Type 0 where
  pub done : List ℕ
  pub gathered : Gathers s t slot l done m
  pub others : done ++ numbered_texts f number (paths_to drive left) ≡ all

module _ (f : ℕ → DrivePath → List ℕ) (drive : ℕ) (all : List ℕ) (s t : DeskState) (slot : OutSlot) (l m : List ℕ) where
  -- what is left before a path
  next : (number : ℕ) (paths : List DrivePath) (i : ℕ) (d : DrivePath) → i < length paths
      → (done : List ℕ) → done ++ numbered_texts f number (paths_to drive (drop i paths)) ≡ all
      → done ++ numbered_texts f number (paths_to drive (get_or paths i d ∷ drop (i + 1) paths)) ≡ all
  next number paths i d h done o = sym
      (ap (λ left. done ++ numbered_texts f number (paths_to drive left)) (drop_more paths i d h)) ∙ o

  -- before a path to the output
  next_own : (number : ℕ) (paths : List DrivePath) (i : ℕ) (d : DrivePath) → i < length paths → (get_or paths i d).drive ≡ drive
      → (done : List ℕ) → done ++ numbered_texts f number (paths_to drive (drop i paths)) ≡ all
      → all ≡ done ++ (f number (get_or paths i d) ++ numbered_texts f (number + 1) (paths_to drive (drop (i + 1) paths)))
  next_own number paths i d h own done o =
      let path = get_or paths i d in
      sym (next number paths i d h done o)
      ∙ ap (λ (b : Bool). done ++ numbered_texts f number
      (if b then path ∷ paths_to drive (drop (i + 1) paths) else paths_to drive (drop (i + 1) paths)))
      (same path.drive drive own)

  -- a turn of the loop at a path to the output
  pub put_own : (u : DeskState) (n : List ℕ) (number : ℕ) (paths : List DrivePath) (i : ℕ) (d : DrivePath) → i < length paths
      → (get_or paths i d).drive ≡ drive → PutBefore f drive all s t slot l m number (drop i paths)
      → Gathers t u slot m (f number (get_or paths i d)) n
      → PutBefore f drive all s u slot l n (number + 1) (drop (i + 1) paths)
  put_own u n number paths i d h own p q =
      let text = f number (get_or paths i d) in
      record {
        done = p.done ++ text;
        gathered = Gathers-Gathers s t u slot l m n p.done text p.gathered q;
        others =
            append_assoc p.done text (numbered_texts f (number + 1) (paths_to drive (drop (i + 1) paths)))
            ∙ sym (next_own number paths i d h own p.done p.others);
      }

  -- a turn at another path
  pub put_other : (number : ℕ) (paths : List DrivePath) (i : ℕ) (d : DrivePath) → i < length paths
      → ((get_or paths i d).drive ≡ drive → ⊥)
      → PutBefore f drive all s t slot l m number (drop i paths) → PutBefore f drive all s t slot l m number (drop (i + 1) paths)
  put_other number paths i d h other p =
      let path = get_or paths i d in
      record {
        done = p.done;
        gathered = p.gathered;
        others =
            sym (ap (λ (b : Bool). p.done ++ numbered_texts f number
            (if b then path ∷ paths_to drive (drop (i + 1) paths) else paths_to drive (drop (i + 1) paths)))
            (different path.drive drive other))
            ∙ next number paths i d h p.done p.others;
      }

  -- a fault within a turn
  pub part_of_own : {S T : Type 0} (u : DeskState) (n k : List ℕ) (number : ℕ) (paths : List DrivePath) (i : ℕ) (d : DrivePath)
      (y : Failed) (r : Result T Failed)
      → i < length paths → (get_or paths i d).drive ≡ drive → PutBefore f drive all s t slot l m number (drop i paths)
      → PutsText {T = S} t u slot m (f number (get_or paths i d)) n (Err y) → IsErr r → PutsText s u slot l all k r
  part_of_own u n k number paths i d y r h own p q failed =
      let text = f number (get_or paths i d) in
      let rest = numbered_texts f (number + 1) (paths_to drive (drop (i + 1) paths)) in
      rw (next_own number paths i d h own p.done p.others)
      (puts_on s t u slot l m k p.done (text ++ rest) r p.gathered (put_stops t u slot m n k text rest y r q failed))

  -- after the last turn
  pub put_all : (number : ℕ) (paths : List DrivePath) (i : ℕ) → length paths ≤ i
      → PutBefore f drive all s t slot l m number (drop i paths) → Gathers s t slot l all m
  put_all number paths i h p =
      let none = ap (λ left. p.done ++ numbered_texts f number (paths_to drive left)) (drop_all i paths h) in
      subst (λ text. Gathers s t slot l text m) (sym (append-nil p.done) ∙ sym none ∙ p.others) p.gathered
