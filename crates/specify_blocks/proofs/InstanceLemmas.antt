-- Which instances drive a net, and instances in order.
use Rattle.std.proofs.Common.{◌≡◌, ℕ, zero, suc, ◌+◌, ◌<◌, ◌≤◌, Bool, true, false, ◌&&◌, ◌||◌, cond, List, [], ◌∷◌, ◌++◌, length}
use Rattle.std.proofs.Common.{map, refl, sym, ap, ◌∙◌, subst, arith, append_assoc, IsTrue, Some, slice_get, nat_eq, if◌then◌else◌}
use Rattle.std.specs.List.{list_any}
use Rattle.std.proofs.lemmas.List.Sums.{sum_by-cons, sum_by-append}
use Rattle.std.proofs.lemmas.List.{append-nil}
use Rattle.std.proofs.lemmas.List.Folds.{list_any-append}
use Rattle.std.proofs.lemmas.Bool.{eqb-true, eq-eqb}
use Rattle.bool_functions.specs.Tree.{value_of}
use Rattle.cell_machine.specs.declared.outputs.OutputPin.{OutputPin}
use Rattle.cell_machine.specs.Values.{no_values}
use Rattle.cell_machine.specs.CellData.{CellData}
use Rattle.udp_tables.specs.CellPrimitives.{has_sources}
use Rattle.specify_blocks.specs.declared.model.VNet.{VNet}
use Rattle.specify_blocks.specs.declared.model.VNet.TheVariants as net
use Rattle.specify_blocks.specs.declared.model.Instance.{Instance}
use Rattle.specify_blocks.specs.declared.model.Instance.TheVariants as instance
use Rattle.specify_blocks.specs.declared.model.VModule.{VModule}
use Rattle.specify_blocks.specs.Nets.{same_net, net_driven, is_state, has_state, drivers}
use Rattle.specify_blocks.specs.Sound.{IsInstance, AreInstances}
use Rattle.specify_blocks.specs.Ports.{port_number}
use Rattle.specify_blocks.specs.Generated.{pin_net, source_net, each_from, output_instance, after_output, output_instances}
use Rattle.specify_blocks.proofs.PortLemmas.{miss, hit, hits, hits-cons}

pub drivers-cons :
    (i : Instance) (is : List Instance) (n : VNet)
    → drivers (i ∷ is) n ≡ cond (same_net (net_driven i) n) 1 0 + drivers is n
drivers-cons i is n = sum_by-cons (λ x. cond (same_net (net_driven x) n) 1 0) i is

pub drivers-append :
    (xs ys : List Instance) (n : VNet) → drivers (xs ++ ys) n ≡ drivers xs n + drivers ys n
drivers-append xs ys n = sum_by-append (λ x. cond (same_net (net_driven x) n) 1 0) xs ys

pub or-left : (a b : Bool) → IsTrue a → IsTrue (a || b)
or-left true b h = refl
or-left false b h = absurd cc

pub or-right : (a b : Bool) → IsTrue b → IsTrue (a || b)
or-right true b h = refl
or-right false b h = h

-- what one of the earlier instances drives, one of these and more drives
pub is_state-more :
    (m : VModule) (earlier more : List Instance) (w : ℕ) → IsTrue (is_state m earlier w) → IsTrue (is_state m (earlier ++ more) w)
is_state-more m earlier more w h =
    list_any-append (λ i. has_state m.udps i && same_net (net_driven i) (net.Wire w)) earlier more
    ∙ or-left (is_state m earlier w) (is_state m more w) h

-- instances that drive the wires from b on, in order
module _ {X : Type 0} (make : ℕ → X → Instance) (b : ℕ) (drives : (k : ℕ) (x : X)
    → net_driven (make k x) ≡ net.Wire (b + k)) where
  pub no_port : (k : ℕ) (xs : List X) (p : ℕ) → drivers (each_from make k xs) (net.Port p) ≡ 0
  no_port k [] p = refl
  no_port k (x ∷ xs) p =
      let none : ◌≡◌ {A = ℕ} (cond (same_net (net_driven (make k x)) (net.Port p)) 1 0) 0 =
      ap (λ n. cond (same_net n (net.Port p)) 1 0) (drives k x) in
      omega (arith, drivers-cons (make k x) (each_from make (k + 1) xs) (net.Port p), none, no_port (k + 1) xs p)

  wire_count : (k : ℕ) (x : X) (w : ℕ)
      → ◌≡◌ {A = ℕ} (cond (same_net (net_driven (make k x)) (net.Wire w)) 1 0) (cond (nat_eq (b + k) w) 1 0)
  wire_count k x w = ap (λ n. cond (same_net n (net.Wire w)) 1 0) (drives k x)

  pub wire_before : (k : ℕ) (xs : List X) (w : ℕ) → w < b + k → drivers (each_from make k xs) (net.Wire w) ≡ 0
  wire_before k [] w h = refl
  wire_before k (x ∷ xs) w h =
      let missed = miss (b + k) w (λ e. absurd (omega (arith, e, h))) in
      let rest = wire_before (k + 1) xs w (omega arith) in
      omega (arith, drivers-cons (make k x) (each_from make (k + 1) xs) (net.Wire w), wire_count k x w, missed, rest)

  pub wire_after : (k : ℕ) (xs : List X) (w : ℕ) → b + k + length xs ≤ w → drivers (each_from make k xs) (net.Wire w) ≡ 0
  wire_after k [] w h = refl
  wire_after k (x ∷ xs) w h =
      let missed = miss (b + k) w (λ e. absurd (omega (arith, e, h))) in
      let rest = wire_after (k + 1) xs w (omega arith) in
      omega (arith, drivers-cons (make k x) (each_from make (k + 1) xs) (net.Wire w), wire_count k x w, missed, rest)

  pub wire_once : (k : ℕ) (xs : List X) (w : ℕ) → b + k ≤ w → w < b + k + length xs
      → drivers (each_from make k xs) (net.Wire w) ≡ 1
  wire_once k [] w h i = absurd (omega arith)
  wire_once k (x ∷ xs) w h i = by (nat_eq (b + k) w) refl (λ le below. wire_once (k + 1) xs w le below)
    where
      above : b + k ≤ w → (b + k ≡ w → ⊥) → b + (k + 1) ≤ w
      above le ne = omega arith

      by :
          (c : Bool) → nat_eq (b + k) w ≡ c
          → (b + (k + 1) ≤ w → w < b + (k + 1) + length xs → drivers (each_from make (k + 1) xs) (net.Wire w) ≡ 1)
          → drivers (make k x ∷ each_from make (k + 1) xs) (net.Wire w) ≡ 1
      by true e again =
          let same : b + k ≡ w = eqb-true (b + k) w e in
          let found = hit (b + k) w same in
          let rest = wire_before (k + 1) xs w (omega arith) in
          omega (arith, drivers-cons (make k x) (each_from make (k + 1) xs) (net.Wire w), wire_count k x w, found, rest)
      by false e again =
          let missed : ◌≡◌ {A = ℕ} (cond (nat_eq (b + k) w) 1 0) 0 = ap (λ c. cond c 1 0) e in
          let rest = again (above h (λ same. let equal = eq-eqb (b + k) w same in cc (e, equal))) (omega arith) in
          omega (arith, drivers-cons (make k x) (each_from make (k + 1) xs) (net.Wire w), wire_count k x w, missed, rest)

-- the net of an output's instance
pub output_net :
    (cell : CellData) (j : ℕ) (output : OutputPin)
    → net_driven (output_instance cell j output) ≡ pin_net cell.pins output.pin
output_net cell j output = by (has_sources output)
  where
    by :
        (b : Bool)
        → net_driven (if b then instance.Primitive j (pin_net cell.pins output.pin) (map (source_net cell.pins) output.support)
        else instance.Constant (pin_net cell.pins output.pin) (value_of no_values output.function))
        ≡ pin_net cell.pins output.pin
    by true = refl
    by false = refl

pub no_wire : (cell : CellData) (j : ℕ) (outputs : List OutputPin) (w : ℕ)
    → drivers (output_instances cell j outputs) (net.Wire w) ≡ 0
no_wire cell j [] w = refl
no_wire cell j (output ∷ outputs) w =
    let none : ◌≡◌ {A = ℕ} (cond (same_net (net_driven (output_instance cell j output)) (net.Wire w)) 1 0) 0 =
    ap (λ n. cond (same_net n (net.Wire w)) 1 0) (output_net cell j output) in
    let rest = no_wire cell (after_output j output) outputs w in
    omega (
      arith,
      drivers-cons (output_instance cell j output) (output_instances cell (after_output j output) outputs)
          (net.Wire w),
      none,
      rest,
    )

pub port_hits :
    (cell : CellData) (j : ℕ) (outputs : List OutputPin) (q : ℕ)
    → drivers (output_instances cell j outputs) (net.Port q)
    ≡ hits (port_number cell.pins) q (map (λ (output : OutputPin). output.pin) outputs)
port_hits cell j [] q = refl
port_hits cell j (output ∷ outputs) q =
    let same : ◌≡◌ {A = ℕ} (cond (same_net (net_driven (output_instance cell j output)) (net.Port q)) 1 0)
    (cond (nat_eq (port_number cell.pins output.pin) q) 1 0) =
    ap (λ n. cond (same_net n (net.Port q)) 1 0) (output_net cell j output) in
    let rest = port_hits cell (after_output j output) outputs q in
    let others : List ℕ = map (λ (o : OutputPin). o.pin) outputs in
    omega (
      arith,
      drivers-cons (output_instance cell j output) (output_instances cell (after_output j output) outputs) (net.Port q),
      hits-cons (port_number cell.pins) q output.pin others,
      same,
      rest,
    )

-- instances after others
pub are-append :
    (m : VModule) (earlier xs ys : List Instance)
    → AreInstances m earlier xs → AreInstances m (earlier ++ xs) ys → AreInstances m earlier (xs ++ ys)
are-append m earlier [] ys h k = subst (λ e. AreInstances m e ys) (append-nil earlier) k
are-append m earlier (x ∷ xs) ys h k = (
  h.0,
  are-append m (earlier ++ x ∷ []) xs ys h.1
      (subst (λ e. AreInstances m e ys) (sym (append_assoc earlier (x ∷ []) xs)) k),
)

pub each_are :
    {X : Type 0} (m : VModule) (make : ℕ → X → Instance) (k : ℕ) (xs : List X) (earlier : List Instance)
    → ((i : ℕ) (x : X) (before : List Instance) → slice_get xs i ≡ Some x → IsInstance m before (make (k + i) x))
    → AreInstances m earlier (each_from make k xs)
each_are m make k [] earlier h = tt
each_are m make k (x ∷ xs) earlier h =
    let same : k + 0 ≡ k = omega arith in (
      subst (λ n. IsInstance m earlier (make n x)) same (h 0 x earlier refl),
      each_are m make (k + 1) xs (earlier ++ make k x ∷ [])
          (λ i y before e.
          let moved : k + suc i ≡ (k + 1) + i = omega arith in
          subst (λ n. IsInstance m before (make n y)) moved (h (suc i) y before e)),
    )

-- a test that what is made of some entry passes
pub any_each :
    {X : Type 0} (test : Instance → Bool) (make : ℕ → X → Instance) (k : ℕ) (xs : List X) (i : ℕ) (x : X)
    → slice_get xs i ≡ Some x → IsTrue (test (make (k + i) x)) → IsTrue (list_any test (each_from make k xs))
any_each test make k [] i x e h = absurd cc
any_each test make k (y ∷ ys) zero x e h =
    let same : y ≡ x = cc in
    let at : k + 0 ≡ k = omega arith in
    or-left (test (make k y)) _ (subst (λ z. IsTrue (test (make k z))) (sym same) (subst (λ n. IsTrue (test (make n x))) at h))
any_each test make k (y ∷ ys) (suc i) x e h =
    let moved : k + suc i ≡ (k + 1) + i = omega arith in
    or-right (test (make k y)) _
    (any_each test make (k + 1) ys i x e (subst (λ n. IsTrue (test (make n x))) moved h))
