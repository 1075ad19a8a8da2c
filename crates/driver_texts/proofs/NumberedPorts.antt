-- A loop that puts the texts of ports with their numbers.
use Rattle.std.proofs.Common.{◌≡◌, ℕ, ◌+◌, ◌<◌, ◌≤◌, Bool, true, false, if◌then◌else◌, List, ◌∷◌, ◌++◌, get_or, drop, length}
use Rattle.std.proofs.Common.{Result, Err, IsErr, sym, ◌∙◌, ap, subst, append_assoc, arith}
use Rattle.std.specs.List.{flat_map}
use Rattle.std.proofs.lemmas.List.{append-nil, drop_more, drop_all}
use Rattle.udp_tables.specs.declared.models.VPort.{VPort}
use Rattle.text_io.specs.declared.outside.Failed.{Failed}
use Rattle.text_io.specs.declared.slots.OutSlot.{OutSlot}
use Rattle.text_io.specs.Desk.{DeskState}
use Rattle.text_io.specs.Line.{Gathers, PutsText}
use Rattle.text_io.proofs.LineLaws.{Gathers-Gathers, puts_on, put_stops}
use Rattle.driver_texts.specs.NumberedPorts.{NumberedPort, port_number, outputs_with, driven_with, numbered_ports}

-- Of the texts of ports some were put: those of the ports from here on are the others.
pub record PutBefore (f : NumberedPort → List ℕ) (drives : List ℕ) (all : List ℕ) (s t : DeskState) (slot : OutSlot)
    (l m : List ℕ) (place number : ℕ) (left : List VPort) : Type 0 where
  pub done : List ℕ
  pub gathered : Gathers s t slot l done m
  pub others : done ++ flat_map f (numbered_ports drives place number left) ≡ all

pub outputs_more : (place : ℕ) (port : VPort) → outputs_with place port ≤ place + 1
outputs_more place port = by port.input
  where
    by : (b : Bool) → (if b then place else place + 1) ≤ place + 1
    by true = omega arith
    by false = omega arith

module _ (f : NumberedPort → List ℕ) (drives all : List ℕ) (s t : DeskState) (slot : OutSlot) (l m : List ℕ) where
  next : (place number : ℕ) (ports : List VPort) (i : ℕ) (port : VPort) → i < length ports → port ≡ get_or ports i port
      → (done : List ℕ) → done ++ flat_map f (numbered_ports drives place number (drop i ports)) ≡ all
      → all ≡ done ++ (f (record { port = port; number = port_number drives place number port })
      ++ flat_map f (numbered_ports drives (outputs_with place port) (driven_with number (port_number drives place number port))
      (drop (i + 1) ports)))
  next place number ports i port h e done o =
      sym o ∙ ap (λ left. done ++ flat_map f (numbered_ports drives place number left)) (drop_more ports i port h)
      ∙ ap (λ p. done ++ flat_map f (numbered_ports drives place number (p ∷ drop (i + 1) ports))) (sym e)

  -- a turn of the loop
  pub put_port : (u : DeskState) (n : List ℕ) (place number : ℕ) (ports : List VPort) (i : ℕ) (port : VPort) → i < length ports
      → port ≡ get_or ports i port
      → PutBefore f drives all s t slot l m place number (drop i ports)
      → Gathers t u slot m (f (record { port = port; number = port_number drives place number port })) n
      → PutBefore f drives all s u slot l n (outputs_with place port) (driven_with number (port_number drives place number port))
      (drop (i + 1) ports)
  put_port u n place number ports i port h e p q =
      let own = f (record { port = port; number = port_number drives place number port }) in
      let rest = flat_map f (numbered_ports drives (outputs_with place port)
      (driven_with number (port_number drives place number port)) (drop (i + 1) ports)) in
      record {
        done = p.done ++ own;
        gathered = Gathers-Gathers s t u slot l m n p.done own p.gathered q;
        others = append_assoc p.done own rest ∙ sym (next place number ports i port h e p.done p.others);
      }

  -- a fault within a turn
  pub part_of_port : {S T : Type 0} (u : DeskState) (n k : List ℕ) (place number : ℕ) (ports : List VPort) (i : ℕ) (port : VPort)
      (y : Failed) (r : Result T Failed)
      → i < length ports → port ≡ get_or ports i port
      → PutBefore f drives all s t slot l m place number (drop i ports)
      → PutsText {T = S} t u slot m (f (record { port = port; number = port_number drives place number port })) n (Err y)
      → IsErr r
      → PutsText s u slot l all k r
  part_of_port u n k place number ports i port y r h e p q failed =
      let own = f (record { port = port; number = port_number drives place number port }) in
      let rest = flat_map f (numbered_ports drives (outputs_with place port)
      (driven_with number (port_number drives place number port)) (drop (i + 1) ports)) in
      rw (next place number ports i port h e p.done p.others)
      (puts_on s t u slot l m k p.done (own ++ rest) r p.gathered (put_stops t u slot m n k own rest y r q failed))

  -- after the last turn
  pub put_ports : (place number : ℕ) (ports : List VPort) (i : ℕ) → length ports ≤ i
      → PutBefore f drives all s t slot l m place number (drop i ports) → Gathers s t slot l all m
  put_ports place number ports i h p =
      let none = ap (λ left. p.done ++ flat_map f (numbered_ports drives place number left)) (drop_all i ports h) in
      subst (λ text. Gathers s t slot l text m) (sym (append-nil p.done) ∙ sym none ∙ p.others) p.gathered
