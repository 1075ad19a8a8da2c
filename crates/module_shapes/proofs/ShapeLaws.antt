-- No question on the shape fails exactly where the module has the cell's shape.
use Rattle.std.proofs.Common.{◌≡◌, ℕ, ◌<◌, Bool, true, false, List, [], ◌∷◌, find, length, Option, None, Some}
use Rattle.std.proofs.Common.{slice_get, nat_eq, refl, sym, ◌∙◌, subst, arith, eqb-true, eq-eqb, inl, inr}
use Rattle.std.specs.List.{list_any, range_with_len}
use Rattle.std.proofs.lemmas.Bool.{true≢false, and_parts, and_from, not_from_true as from-holds, not-false as holds-from}
use Rattle.std.proofs.lemmas.Option.{slice_get_within as get-below}
use Rattle.trit_cubes.proofs.ListLemmas.{Among}
use Rattle.cell_machine.specs.declared.pins.Pin.{Pin}
use Rattle.cell_machine.specs.declared.checks.CheckKind.{CheckKind}
use Rattle.cell_machine.specs.declared.checks.CheckKind.TheVariants as kind
use Rattle.cell_machine.specs.declared.checks.Edge.{Edge}
use Rattle.cell_machine.specs.declared.checks.Edge.TheVariants as edge
use Rattle.cell_machine.specs.declared.checks.Event.{Event}
use Rattle.cell_machine.specs.declared.checks.Check.{Check}
use Rattle.cell_machine.specs.declared.arcs.Arc.{Arc}
use Rattle.cell_machine.specs.CellData.{CellData}
use Rattle.cell_machine.proofs.ArcDelays.{some_at as there}
use Rattle.udp_tables.specs.declared.timing_checks.TimingCheck.{TimingCheck}
use Rattle.udp_tables.specs.Ports.{port_number, event_of}
use Rattle.specify_blocks.specs.declared.model.VPath.{VPath}
use Rattle.specify_blocks.specs.declared.model.VModule.{VModule}
use Rattle.specify_blocks.specs.Generated.{is_conditional}
use Rattle.module_shapes.specs.declared.shape_parts.ShapePart.{ShapePart}
use Rattle.module_shapes.specs.declared.shape_parts.ShapePart.TheVariants as part
use Rattle.module_terminals.specs.Terminals.{sequential_instances}
use Rattle.module_shapes.specs.Shape.{cell_inputs, port_inputs, same_bit, same_bits, both, both_or_neither, same_kind, same_edge}
use Rattle.module_shapes.specs.Shape.{same_event, same_check, gated_by, same_path}
use Rattle.module_terminals.specs.Feeding.{gate_wire, check_gating, path_gating}
use Rattle.module_shapes.specs.Shape.{number_holds, part_count, part_holds, asked_of, asked, asked_once, tests_of, all_parts}
use Rattle.module_shapes.specs.Shape.{shape_tests, is_amiss, first_amiss}
use Rattle.module_shapes.specs.SameShape.{SameCheck, SamePath, HasShape}
use Rattle.module_terminals.proofs.Gatings.{gating-below, feeds-at, at-feeds}
use Rattle.module_terminals.proofs.Searches.{cons-none, none-cons, flat-none, none-flat, map-none, none-map, in-range, range-in}

-- the questions on the parts of one kind
asked-none :
    (d : CellData) (m : VModule) (p : ShapePart) → find is_amiss (asked d m p) ≡ None
    → (k : ℕ) → k < part_count d p → part_holds d m p k ≡ true
asked-none d m p h k l =
    holds-from (part_holds d m p k)
    (map-none is_amiss (asked_of d m p) (range_with_len 0 (part_count d p)) h k
    (in-range 0 (part_count d p) k (omega arith) (omega (arith, l))))

none-asked :
    (d : CellData) (m : VModule) (p : ShapePart) → ((k : ℕ) → k < part_count d p → part_holds d m p k ≡ true)
    → find is_amiss (asked d m p) ≡ None
none-asked d m p h =
    none-map is_amiss (asked_of d m p) (range_with_len 0 (part_count d p))
    (λ k a. from-holds (part_holds d m p k) (h k (omega (arith, range-in 0 (part_count d p) k a))))

-- tests of equality
same-bit : (a b : Bool) → same_bit a b ≡ true → a ≡ b
same-bit true b h = sym h
same-bit false true h = absurd (true≢false (sym h))
same-bit false false h = refl

bit-same : (a : Bool) → same_bit a a ≡ true
bit-same true = refl
bit-same false = refl

bits-same : (xs ys : List Bool) → same_bits xs ys ≡ true → xs ≡ ys
bits-same [] [] h = refl
bits-same [] (y ∷ ys) h = absurd (true≢false (sym h))
bits-same (x ∷ xs) [] h = absurd (true≢false (sym h))
bits-same (x ∷ xs) (y ∷ ys) h =
    let parts = and_parts (same_bit x y) (same_bits xs ys) h in
    λ i. same-bit x y parts.0 i ∷ bits-same xs ys parts.1 i

same-bits : (xs : List Bool) → same_bits xs xs ≡ true
same-bits [] = refl
same-bits (x ∷ xs) = and_from (same_bit x x) (same_bits xs xs) (bit-same x) (same-bits xs)

kinds-same : (a b : CheckKind) → same_kind a b ≡ true → a ≡ b
kinds-same kind.Setup kind.Setup h = refl
kinds-same kind.Hold kind.Hold h = refl
kinds-same kind.Recovery kind.Recovery h = refl
kinds-same kind.Removal kind.Removal h = refl
kinds-same kind.Width kind.Width h = refl
kinds-same kind.Period kind.Period h = refl
kinds-same _ _ h = absurd (true≢false (sym h))

same-kinds : (a : CheckKind) → same_kind a a ≡ true
same-kinds kind.Setup = refl
same-kinds kind.Hold = refl
same-kinds kind.Recovery = refl
same-kinds kind.Removal = refl
same-kinds kind.Width = refl
same-kinds kind.Period = refl

same-edges : (a : Edge) → same_edge a a ≡ true
same-edges edge.Any = refl
same-edges edge.Rise = refl
same-edges edge.Fall = refl

edges-same : (a b : Edge) → same_edge a b ≡ true → a ≡ b
edges-same edge.Any edge.Any h = refl
edges-same edge.Rise edge.Rise h = refl
edges-same edge.Fall edge.Fall h = refl
edges-same _ _ h = absurd (true≢false (sym h))

events-same : (e f : Event) → same_event e f ≡ true → e ≡ f
events-same e f h =
    let parts = and_parts (nat_eq e.pin f.pin) (same_edge e.edge f.edge) h in
    let pin : e.pin ≡ f.pin = eqb-true e.pin f.pin parts.0 in
    let way : e.edge ≡ f.edge = edges-same e.edge f.edge parts.1 in
    λ i. record { pin = pin i; edge = way i }

same-events : (e f : Event) → e ≡ f → same_event e f ≡ true
same-events e f h =
    subst (λ g. same_event e g ≡ true) h
    (and_from (nat_eq e.pin e.pin) (same_edge e.edge e.edge) (eq-eqb e.pin e.pin refl) (same-edges e.edge))

check-same : (pins : List Pin) (k : Check) (j : TimingCheck) → same_check pins k j ≡ true → SameCheck pins k j
check-same pins k j h =
    let one = and_parts (same_kind j.kind k.kind) _ h in
    let two = and_parts (same_event j.first (event_of pins k.first)) _ one.1 in
    let three = and_parts (same_event j.second (event_of pins k.second)) _ two.1 in
    let four = and_parts (nat_eq j.limit k.limit) (both_or_neither k.condition j.condition) three.1 in
    record {
      kind = kinds-same j.kind k.kind one.0;
      first = events-same j.first (event_of pins k.first) two.0;
      second = events-same j.second (event_of pins k.second) three.0;
      limit = eqb-true j.limit k.limit four.0;
      condition = four.1;
    }

same-checks : (pins : List Pin) (k : Check) (j : TimingCheck) → SameCheck pins k j → same_check pins k j ≡ true
same-checks pins k j h =
    and_from (same_kind j.kind k.kind) _ (subst (λ x. same_kind j.kind x ≡ true) h.kind (same-kinds j.kind))
    (and_from (same_event j.first (event_of pins k.first)) _ (same-events j.first (event_of pins k.first) h.first)
    (and_from (same_event j.second (event_of pins k.second)) _ (same-events j.second (event_of pins k.second) h.second)
    (and_from (nat_eq j.limit k.limit) (both_or_neither k.condition j.condition) (eq-eqb j.limit k.limit h.limit) h.condition)))

path-same : (d : CellData) (arc : Arc) (path : VPath) → same_path d arc path ≡ true → SamePath d arc path
path-same d arc path h =
    let one = and_parts (nat_eq path.from (port_number d.pins arc.from)) _ h in
    let two = and_parts (nat_eq path.to (port_number d.pins arc.to)) _ one.1 in
    let three = and_parts (nat_eq path.rise arc.rise) _ two.1 in
    let four = and_parts (nat_eq path.fall arc.fall) (gated_by (list_any (is_conditional arc) d.arcs) arc.condition path.gate)
    three.1 in
    record {
      from = eqb-true path.from (port_number d.pins arc.from) one.0;
      to = eqb-true path.to (port_number d.pins arc.to) two.0;
      rise = eqb-true path.rise arc.rise three.0;
      fall = eqb-true path.fall arc.fall four.0;
      gate = four.1;
    }

same-paths : (d : CellData) (arc : Arc) (path : VPath) → SamePath d arc path → same_path d arc path ≡ true
same-paths d arc path h =
    and_from (nat_eq path.from (port_number d.pins arc.from)) _ (eq-eqb path.from (port_number d.pins arc.from) h.from)
    (and_from (nat_eq path.to (port_number d.pins arc.to)) _ (eq-eqb path.to (port_number d.pins arc.to) h.to)
    (and_from (nat_eq path.rise arc.rise) _ (eq-eqb path.rise arc.rise h.rise)
    (and_from (nat_eq path.fall arc.fall) (gated_by (list_any (is_conditional arc) d.arcs) arc.condition path.gate)
    (eq-eqb path.fall arc.fall h.fall) h.gate)))

-- entries at one place
both-at :
    {X Y : Type 0} (test : X → Y → Bool) (a : Option X) (b : Option Y) (x : X) (y : Y)
    → both test a b ≡ true → a ≡ Some x → b ≡ Some y → test x y ≡ true
both-at test a b x y h e f = sym (λ i. both test (e i) (f i)) ∙ h

at-both :
    {X Y : Type 0} (test : X → Y → Bool) (xs : List X) (ys : List Y) (i : ℕ) → i < length xs → length ys ≡ length xs
    → ((x : X) (y : Y) → slice_get xs i ≡ Some x → slice_get ys i ≡ Some y → test x y ≡ true)
    → both test (slice_get xs i) (slice_get ys i) ≡ true
at-both test xs ys i l same h =
    let one = there xs i l in
    let other = there ys i (omega (arith, l, same)) in
    (λ j. both test (one.1 j) (other.1 j)) ∙ h one.0 other.0 one.1 other.1

in-parts : (p : ShapePart) → Among p all_parts
in-parts part.Ports = inl refl
in-parts part.States = inr (inl refl)
in-parts part.StateInputs = inr (inr (inl refl))
in-parts part.Checks = inr (inr (inr (inl refl)))
in-parts part.Paths = inr (inr (inr (inr (inl refl))))
in-parts part.CheckInputs = inr (inr (inr (inr (inr (inl refl)))))
in-parts part.PathInputs = inr (inr (inr (inr (inr (inr (inl refl))))))
in-parts part.Outputs = inr (inr (inr (inr (inr (inr (inr (inl refl)))))))

-- Where no question fails the module has the shape.
none-of-part :
    (d : CellData) (m : VModule) (p : ShapePart) → first_amiss (shape_tests d m) ≡ None
    → (number_holds d m p ≡ true) × (find is_amiss (asked d m p) ≡ None)
none-of-part d m p h =
    let parts = cons-none is_amiss (asked_once d m p) (asked d m p) (flat-none is_amiss (tests_of d m) all_parts h p (in-parts p))
    in
    (holds-from (number_holds d m p) parts.0, parts.1)

pub shape-from : (d : CellData) (m : VModule) → first_amiss (shape_tests d m) ≡ None → HasShape d m
shape-from d m h =
    record {
      ports = bits-same (port_inputs m) (cell_inputs d) (none-of-part d m part.Ports h).0;
      states = eqb-true (length (sequential_instances m)) (length d.groups) (none-of-part d m part.States h).0;
      state_inputs = asked-none d m part.StateInputs (none-of-part d m part.StateInputs h).1;
      check_count = eqb-true (length m.checks) (length d.checks) (none-of-part d m part.Checks h).0;
      checks = λ i k j e f.
          check-same d.pins k j
          (both-at (same_check d.pins) (slice_get d.checks i) (slice_get m.checks i) k j
          (asked-none d m part.Checks (none-of-part d m part.Checks h).1 i (get-below d.checks i k e)) e f);
      path_count = eqb-true (length m.paths) (length d.arcs) (none-of-part d m part.Paths h).0;
      paths = λ i arc path e f.
          path-same d arc path
          (both-at (same_path d) (slice_get d.arcs i) (slice_get m.paths i) arc path
          (asked-none d m part.Paths (none-of-part d m part.Paths h).1 i (get-below d.arcs i arc e)) e f);
      check_inputs = λ i u e.
          feeds-at d m (check_gating d m i) u
          (asked-none d m part.CheckInputs (none-of-part d m part.CheckInputs h).1 i
          (gating-below (λ (k : Check). k.condition) (λ (k : TimingCheck). k.condition) d.checks (slice_get m.checks i) i u e)) e;
      path_inputs = λ i u e.
          feeds-at d m (path_gating d m i) u
          (asked-none d m part.PathInputs (none-of-part d m part.PathInputs h).1 i
          (gating-below (λ (arc : Arc). arc.condition) (λ (path : VPath). gate_wire path.gate) d.arcs
          (slice_get m.paths i) i u e)) e;
      outputs = asked-none d m part.Outputs (none-of-part d m part.Outputs h).1;
    }

-- Where it has the shape none fails.
numbers-hold : (d : CellData) (m : VModule) → HasShape d m → (p : ShapePart) → number_holds d m p ≡ true
numbers-hold d m s part.Ports = subst (λ xs. same_bits (port_inputs m) xs ≡ true) s.ports (same-bits (port_inputs m))
numbers-hold d m s part.States = eq-eqb (length (sequential_instances m)) (length d.groups) s.states
numbers-hold d m s part.StateInputs = refl
numbers-hold d m s part.Checks = eq-eqb (length m.checks) (length d.checks) s.check_count
numbers-hold d m s part.Paths = eq-eqb (length m.paths) (length d.arcs) s.path_count
numbers-hold d m s part.CheckInputs = refl
numbers-hold d m s part.PathInputs = refl
numbers-hold d m s part.Outputs = refl

parts-hold : (d : CellData) (m : VModule) → HasShape d m → (p : ShapePart) (k : ℕ) → k < part_count d p
    → part_holds d m p k ≡ true
parts-hold d m s part.Ports k l = refl
parts-hold d m s part.States k l = refl
parts-hold d m s part.StateInputs k l = s.state_inputs k l
parts-hold d m s part.Checks k l =
    at-both (same_check d.pins) d.checks m.checks k l s.check_count (λ c j e f. same-checks d.pins c j (s.checks k c j e f))
parts-hold d m s part.Paths k l =
    at-both (same_path d) d.arcs m.paths k l s.path_count (λ arc path e f. same-paths d arc path (s.paths k arc path e f))
parts-hold d m s part.CheckInputs k l = at-feeds d m (check_gating d m k) (s.check_inputs k)
parts-hold d m s part.PathInputs k l = at-feeds d m (path_gating d m k) (s.path_inputs k)
parts-hold d m s part.Outputs k l = s.outputs k l

pub from-shape : (d : CellData) (m : VModule) → HasShape d m → first_amiss (shape_tests d m) ≡ None
from-shape d m s =
    none-flat is_amiss (tests_of d m) all_parts
    (λ p a. none-cons is_amiss (asked_once d m p) (asked d m p) (from-holds (number_holds d m p) (numbers-hold d m s p))
    (none-asked d m p (parts-hold d m s p)))
