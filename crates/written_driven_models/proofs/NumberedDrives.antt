-- The ports of a sound driver with the numbers of the driven ones, one behind the other.
use Rattle.std.proofs.Common.{◌≡◌, ℕ, ◌+◌, ◌<◌, ◌≤◌, Bool, true, false, nat_eq, nat_lt, IsTrue, List, [], ◌∷◌, ◌++◌, length, inl}
use Rattle.std.proofs.Common.{inr, Some, None, slice_get, refl, sym, ap, subst, ◌∙◌, arith, append_assoc}
use Rattle.std.specs.List.{AllByRecursion}
use Rattle.std.proofs.lemmas.Bool.{and_parts, cases_Bool, eqb-true, eqb-false, ltb-true}
use Rattle.written_modules.specs.cell_machine.CellRules.{is_ascending}
use Rattle.written_modules.specs.udp_tables.declared.models.VPort.{VPort}
use Rattle.driver_texts.specs.NumberedPorts.{NumberedPort, is_driven_place, numbered_ports}
use Rattle.driver_texts.specs.PortNames.{outputs}
use Rattle.written_modules.proofs.grammar_reader.ItemPlaces.{get_at, one_longer}

-- These ports stand behind so many outputs, of which so many are driven; of all outputs, so many, those at the places of a list
-- are driven, ascending; and these are the ports with their numbers.
pub data Numbered (total : ℕ) : ℕ → ℕ → List ℕ → List VPort → List NumberedPort → Type 0 where
  at_end : {number : ℕ} → Numbered total total number [] [] []
  an_input : {place number : ℕ} {left : List ℕ} {ports : List VPort} {ats : List NumberedPort} (port : VPort) → port.input ≡ true
      →
      Numbered total place number left ports ats →
      Numbered total place number left (port ∷ ports) (record { port = port; number = None } ∷ ats)
  plain : {place number : ℕ} {left : List ℕ} {ports : List VPort} {ats : List NumberedPort} (port : VPort) → port.input ≡ false →
      Numbered total (place + 1) number left ports ats →
      Numbered total place number left (port ∷ ports) (record { port = port; number = None } ∷ ats)
  driven : {place number : ℕ} {left : List ℕ} {ports : List VPort} {ats : List NumberedPort} (port : VPort) → port.input ≡ false →
      Numbered total (place + 1) (number + 1) left ports ats →
      Numbered total place number (place ∷ left) (port ∷ ports) (record { port = port; number = Some (number + 1) } ∷ ats)

-- numbers from one on, ascending
abbrev pub Ahead : ℕ → List ℕ → Type 0
Ahead place [] = Unit {0}
Ahead place (p ∷ ps) = (place ≤ p) × Ahead (p + 1) ps

pub ascending_ahead : (place p : ℕ) (ps : List ℕ) → place ≤ p → IsTrue (is_ascending (p ∷ ps)) → Ahead place (p ∷ ps)
ascending_ahead place p [] l h = (l, tt)
ascending_ahead place p (q ∷ ps) l h =
    let parts = and_parts (nat_lt p q) (is_ascending (q ∷ ps)) h in
    let next : p + 1 ≤ q = let below = ltb-true p q parts.0 in omega (arith, below) in
    (l, ascending_ahead (p + 1) q ps next parts.1)

pub all_ahead : (ps : List ℕ) → IsTrue (is_ascending ps) → Ahead 0 ps
all_ahead [] h = tt
all_ahead (p ∷ ps) h = ascending_ahead 0 p ps (omega arith) h

pub ahead_from : (place next : ℕ) (ps : List ℕ) → next ≤ place → Ahead place ps → Ahead next ps
ahead_from place next [] l h = tt
ahead_from place next (p ∷ ps) l h = (omega (arith, l, h.0), h.1)

-- Whether the next output is driven.

none_left : (done : List ℕ) → slice_get (done ++ []) (length done) ≡ None
none_left [] = refl
none_left (p ∷ done) = none_left done

not_driven : (done : List ℕ) (place : ℕ) → is_driven_place (done ++ []) (length done) place ≡ false
not_driven done place = rw (none_left done) refl

is_next : (done : List ℕ) (place p : ℕ) (left : List ℕ) → is_driven_place (done ++ p ∷ left) (length done) place ≡ nat_eq place p
is_next done place p left = rw (get_at done p left) refl

-- The ports with one more before them.

input_first : (drives : List ℕ) (place number : ℕ) (port : VPort) (ports : List VPort) → port.input ≡ true →
    numbered_ports drives place number (port ∷ ports) ≡ record { port = port; number = None } ∷ numbered_ports drives place number
    ports
input_first drives place number port ports e = rw e refl

plain_first : (drives : List ℕ) (place number : ℕ) (port : VPort) (ports : List VPort) → port.input ≡ false
    → is_driven_place drives number place ≡ false →
    numbered_ports drives place number (port ∷ ports) ≡ record { port = port; number = None } ∷ numbered_ports drives
    (place + 1) number ports
plain_first drives place number port ports e f = rw (e, f) refl

driven_first : (drives : List ℕ) (place number : ℕ) (port : VPort) (ports : List VPort) → port.input ≡ false
    → is_driven_place drives number place ≡ true →
    numbered_ports drives place number (port ∷ ports) ≡ record { port = port; number = Some (number + 1) } ∷ numbered_ports drives
    (place + 1) (number + 1) ports
driven_first drives place number port ports e f = rw (e, f) refl

-- what is known before some ports
record IsBefore (total place : ℕ) (left : List ℕ) (ports : List VPort) : Type 0 where
  ahead : Ahead place left
  below : AllByRecursion (λ p. p < total) left
  sum : place + length (outputs ports) ≡ total

pub input_more : (port : VPort) (ports : List VPort) → port.input ≡ true → outputs (port ∷ ports) ≡ outputs ports
input_more port ports e = rw e refl

pub output_more : (port : VPort) (ports : List VPort) → port.input ≡ false → outputs (port ∷ ports) ≡ port ∷ outputs ports
output_more port ports e = rw e refl

behind_output : (total place : ℕ) (left next : List ℕ) (port : VPort) (ports : List VPort) → port.input ≡ false
    → IsBefore total place left (port ∷ ports) →
    Ahead (place + 1) next → AllByRecursion (λ p. p < total) next → IsBefore total (place + 1) next ports
behind_output total place left next port ports e h a b = record {
  ahead = a;
  below = b;
  sum = let long = ap length (output_more port ports e) in let all = h.sum in omega (arith, long, all);
}

module _ (total : ℕ) where
  -- an output, where the next driven one is this, if there is one
  output_numbered : (port : VPort) (ports : List VPort) (place : ℕ) (done left : List ℕ) → port.input ≡ false
      → IsBefore total place left (port ∷ ports) →
      ((before after : List ℕ) → IsBefore total (place + 1) after ports
      → Numbered total (place + 1) (length before) after ports
      (numbered_ports (before ++ after) (place + 1) (length before) ports)) →
      Numbered total place (length done) left (port ∷ ports) (numbered_ports (done ++ left) place (length done) (port ∷ ports))
  output_numbered port ports place done [] e h rest =
      subst (λ (l : List NumberedPort). Numbered total place (length done) [] (port ∷ ports) l)
      (sym (plain_first (done ++ []) place (length done) port ports e (not_driven done place)))
      (plain port e (rest done [] (behind_output total place [] [] port ports e h tt tt)))
  output_numbered port ports place done (p ∷ left) e h rest = elim (cases_Bool (nat_eq place p)) [
    | inl t ↦ here (eqb-true place p t) t
    | inr f ↦ (let other = eqb-false place p f in let low = h.ahead.0 in later (omega (arith, other, low)) f)
  ]
    where
      later : place + 1 ≤ p → nat_eq place p ≡ false
          → Numbered total place (length done) (p ∷ left) (port ∷ ports)
          (numbered_ports (done ++ p ∷ left) place (length done) (port ∷ ports))
      later l f =
          subst (λ (l : List NumberedPort). Numbered total place (length done) (p ∷ left) (port ∷ ports) l)
          (sym (plain_first (done ++ p ∷ left) place (length done) port ports e (is_next done place p left ∙ f)))
          (plain port e (rest done (p ∷ left)
          (behind_output total place (p ∷ left) (p ∷ left) port ports e h (l, h.ahead.1) h.below)))

      here : place ≡ p → nat_eq place p ≡ true
          → Numbered total place (length done) (p ∷ left) (port ∷ ports)
          (numbered_ports (done ++ p ∷ left) place (length done) (port ∷ ports))
      here same t =
          let more = rest (done ++ p ∷ []) left
          (behind_output total place (p ∷ left) left port ports e h
          (ahead_from (p + 1) (place + 1) left (omega (arith, same)) h.ahead.1) h.below.1) in
          let split : (done ++ p ∷ []) ++ left ≡ done ++ p ∷ left = append_assoc done (p ∷ []) left in
          let next : Numbered total (place + 1) (length done + 1) left ports
          (numbered_ports (done ++ p ∷ left) (place + 1) (length done + 1) ports) =
          subst (λ (n : ℕ). Numbered total (place + 1) n left ports (numbered_ports (done ++ p ∷ left) (place + 1) n ports))
          (sym (one_longer done p))
          (subst (λ (l : List ℕ). Numbered total (place + 1) (length (done ++ p ∷ [])) left ports
          (numbered_ports l (place + 1) (length (done ++ p ∷ [])) ports)) split more) in
          subst (λ (l : List NumberedPort). Numbered total place (length done) (p ∷ left) (port ∷ ports) l)
          (sym (driven_first (done ++ p ∷ left) place (length done) port ports e (is_next done place p left ∙ t)))
          (subst (λ (n : ℕ). Numbered total place (length done) (n ∷ left) (port ∷ ports)
          (record { port = port; number = Some (length done + 1) } ∷ numbered_ports (done ++ p ∷ left) (place + 1)
          (length done + 1) ports))
          same (driven port e next))

  none_behind : (number : ℕ) (left : List ℕ) (place : ℕ) → place ≡ total → Ahead place left → AllByRecursion (λ p. p < total) left
      → Numbered total place number left [] []
  none_behind number [] place e a b = subst (λ (n : ℕ). Numbered total n number [] [] []) (sym e) at_end
  none_behind number (p ∷ left) place e a b = absurd (let low = a.0 in let high = b.0 in omega (arith, e, low, high))

  numbered_from : (ports : List VPort) (place : ℕ) (done left : List ℕ) → IsBefore total place left ports →
      Numbered total place (length done) left ports (numbered_ports (done ++ left) place (length done) ports)
  numbered_from [] place done left h =
      none_behind (length done) left place (let all = h.sum in omega (arith, all)) h.ahead h.below
  numbered_from (port ∷ ports) place done left h =
      by port.input refl (λ before after i. numbered_from ports (place + 1) before after i)
      (λ i. numbered_from ports place done left i)
    where
      by : (b : Bool) → port.input ≡ b →
          ((before after : List ℕ) → IsBefore total (place + 1) after ports
          → Numbered total (place + 1) (length before) after ports
          (numbered_ports (before ++ after) (place + 1) (length before) ports)) →
          (IsBefore total place left ports
          → Numbered total place (length done) left ports (numbered_ports (done ++ left) place (length done) ports)) →
          Numbered total place (length done) left (port ∷ ports)
          (numbered_ports (done ++ left) place (length done) (port ∷ ports))
      by true e behind same =
          let long = ap length (input_more port ports e) in
          let all = h.sum in
          subst (λ (l : List NumberedPort). Numbered total place (length done) left (port ∷ ports) l)
          (sym (input_first (done ++ left) place (length done) port ports e))
          (an_input port e (same (record { ahead = h.ahead; below = h.below; sum = omega (arith, long, all) })))
      by false e behind same = output_numbered port ports place done left e h behind

-- the ports of a sound driver
pub ports_numbered : (ports : List VPort) (drives : List ℕ) → IsTrue (is_ascending drives)
    → AllByRecursion (λ p. p < length (outputs ports)) drives →
    Numbered (length (outputs ports)) 0 0 drives ports (numbered_ports drives 0 0 ports)
ports_numbered ports drives a b =
    numbered_from (length (outputs ports)) ports 0 [] drives (record { ahead = all_ahead drives a; below = b; sum = omega arith })
