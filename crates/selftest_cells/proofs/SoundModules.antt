-- The damaged module of a sound one is sound: damage keeps each primitive's inputs, its entries and whether it has a state.
use Rattle.std.proofs.Common.{◌≡◌, ℕ, ◌≤◌, zero, suc, Bool, true, false, not, ◌&&◌, ◌||◌, List, [], ◌∷◌, ◌++◌, length, Option}
use Rattle.std.proofs.Common.{Some, None, slice_get, refl, sym, ap, ◌∙◌, subst, IsTrue, if◌then◌else◌}
use Rattle.std.specs.List.{list_all}
use Rattle.std.specs.Option.{option_map_or}
use Rattle.std.proofs.lemmas.List.Elements.{All-weaker}
use Rattle.udp_tables.specs.declared.table.Udp.{Udp}
use Rattle.udp_tables.specs.Primitive.{is_level}
use Rattle.udp_tables.specs.Sequential.{changes_in}
use Rattle.specify_blocks.specs.declared.model.VNet.{VNet}
use Rattle.specify_blocks.specs.declared.model.VNet.TheVariants as net
use Rattle.specify_blocks.specs.declared.model.Instance.{Instance}
use Rattle.specify_blocks.specs.declared.model.Instance.TheVariants as instance
use Rattle.specify_blocks.specs.declared.model.Gate.{Gate}
use Rattle.specify_blocks.specs.declared.model.Gate.TheVariants as gate
use Rattle.specify_blocks.specs.declared.model.VPath.{VPath}
use Rattle.udp_tables.specs.declared.timing_checks.TimingCheck.{TimingCheck}
use Rattle.specify_blocks.specs.declared.model.VModule.{VModule}
use Rattle.specify_blocks.specs.Nets.{is_sequential, same_net, net_driven, has_state, is_state, is_value, is_driven, holds_state}
use Rattle.specify_blocks.specs.Nets.{feeds_state, feeds_value}
use Rattle.specify_blocks.specs.Sound.{IsTable, IsPrimitive, IsInstance, AreInstances, is_gate, IsPath, is_enabling, IsCheck}
use Rattle.selftest_cells.specs.Damage.{alter_first, damaged_row, damaged_udp, damaged_module, DamagedModulesAreSound}
use Rattle.selftest_cells.proofs.AlteredLists.{all-alter_first}

-- the table of a damaged primitive
table_kept : (b : Bool) (udp : Udp) → IsTable b udp → IsTable b (damaged_udp udp)
table_kept true udp h =
    record {
      entries = all-alter_first damaged_row (λ row. length row.inputs ≡ length udp.inputs) (λ row e. e) udp.rows h.entries;
      changes = all-alter_first damaged_row (λ row. changes_in row ≤ 1) (λ row e. e) udp.rows h.changes;
    }
table_kept false udp h =
    record {
      entries = all-alter_first damaged_row (λ row. length row.inputs ≡ length udp.inputs) (λ row e. e) udp.rows h.entries;
      levels = all-alter_first damaged_row (λ row. IsTrue (list_all is_level row.inputs)) (λ row e. e) udp.rows h.levels;
    }

-- the primitive with a number
found_kept :
    (udps : List Udp) (j : ℕ) (udp : Udp)
    → slice_get udps j ≡ Some udp
    → (again : Udp) × (slice_get (alter_first damaged_udp udps) j ≡ Some again) × (again.inputs ≡ udp.inputs)
    × (again.sequential ≡ udp.sequential)
found_kept [] j udp e = (udp, e, refl, refl)
found_kept (x ∷ xs) zero udp e = (
  damaged_udp x,
  refl,
  ap (λ o. option_map_or (λ (u : Udp). u.inputs) o []) e,
  ap
      (λ o. option_map_or (λ (u : Udp). u.sequential) o false) e,
)
found_kept (x ∷ xs) (suc j) udp e = (udp, e, refl, refl)

sequential_kept : (udps : List Udp) (j : ℕ) → is_sequential (alter_first damaged_udp udps) j ≡ is_sequential udps j
sequential_kept [] j = refl
sequential_kept (x ∷ xs) zero = refl
sequential_kept (x ∷ xs) (suc j) = refl

module _ (m : VModule) where
  abbrev after : VModule
  after = damaged_module m

  has_state_kept : (i : Instance) → has_state after.udps i ≡ has_state m.udps i
  has_state_kept (instance.Primitive j output inputs) = sequential_kept m.udps j
  has_state_kept (instance.Constant output one) = refl

  is_state_kept : (is : List Instance) (w : ℕ) → is_state after is w ≡ is_state m is w
  is_state_kept [] w = refl
  is_state_kept (i ∷ is) w =
      ap (λ b. (b && same_net (net_driven i) (net.Wire w)) || is_state after is w) (has_state_kept i)
      ∙ ap (λ b. (has_state m.udps i && same_net (net_driven i) (net.Wire w)) || b) (is_state_kept is w)

  is_value_kept : (is : List Instance) (w : ℕ) → is_value after is w ≡ is_value m is w
  is_value_kept [] w = refl
  is_value_kept (i ∷ is) w =
      ap (λ b. (not b && same_net (net_driven i) (net.Wire w)) || is_value after is w) (has_state_kept i)
      ∙ ap (λ b. (not (has_state m.udps i) && same_net (net_driven i) (net.Wire w)) || b) (is_value_kept is w)

  feeds_value_kept : (earlier : List Instance) (n : VNet) → feeds_value after earlier n ≡ feeds_value m earlier n
  feeds_value_kept earlier (net.Port p) = refl
  feeds_value_kept earlier (net.Wire w) = is_state_kept earlier w
  feeds_value_kept earlier net.Notifier = refl

  values_kept :
      (earlier : List Instance) (ns : List VNet) → list_all (feeds_value after earlier) ns ≡ list_all (feeds_value m earlier) ns
  values_kept earlier [] = refl
  values_kept earlier (n ∷ ns) =
      ap (λ b. b && list_all (feeds_value after earlier) ns) (feeds_value_kept earlier n)
      ∙ ap (λ b. feeds_value m earlier n && b) (values_kept earlier ns)

  fed_kept :
      (b : Bool) (earlier : List Instance) (ns : List VNet)
      → IsTrue (list_all (if b then feeds_state m else feeds_value m earlier) ns)
      → IsTrue (list_all (if b then feeds_state after else feeds_value after earlier) ns)
  fed_kept true earlier ns h = h
  fed_kept false earlier ns h = values_kept earlier ns ∙ h

  primitive_kept :
      (earlier : List Instance) (udp again : Udp) (output : VNet) (inputs : List VNet)
      → again.inputs ≡ udp.inputs → again.sequential ≡ udp.sequential
      → IsPrimitive m earlier udp output inputs → IsPrimitive after earlier again output inputs
  primitive_kept earlier udp again output inputs same_inputs same_kind h =
      record {
        entries = h.entries ∙ ap length (sym same_inputs);
        apart = h.apart;
        drives = subst (λ b. IsTrue (if b then holds_state m output else is_driven m output)) (sym same_kind) h.drives;
        fed =
            fed_kept again.sequential earlier inputs
            (subst (λ b. IsTrue (list_all (if b then feeds_state m else feeds_value m earlier) inputs)) (sym same_kind) h.fed);
      }

  instance_kept : (earlier : List Instance) (i : Instance) → IsInstance m earlier i → IsInstance after earlier i
  instance_kept earlier (instance.Primitive j output inputs) h =
      let found = found_kept m.udps j h.0 h.1 in
      (found.0, found.1, primitive_kept earlier h.0 found.0 output inputs found.2 found.3 h.2)
  instance_kept earlier (instance.Constant output one) h = h

  instances_kept : (earlier is : List Instance) → AreInstances m earlier is → AreInstances after earlier is
  instances_kept earlier [] h = h
  instances_kept earlier (i ∷ is) h = (instance_kept earlier i h.0, instances_kept (earlier ++ i ∷ []) is h.1)

  gate_kept : (g : Gate) → is_gate after g ≡ is_gate m g
  gate_kept gate.Always = refl
  gate_kept (gate.If w) = is_value_kept m.instances w
  gate_kept gate.IfNone = refl

  path_kept : (p : VPath) → IsPath m p → IsPath after p
  path_kept p h = record { starts = h.starts; ends = h.ends; gated = gate_kept p.gate ∙ h.gated }

  enabling_kept : (o : Option ℕ) → is_enabling after o ≡ is_enabling m o
  enabling_kept None = refl
  enabling_kept (Some w) = is_value_kept m.instances w

  check_kept : (k : TimingCheck) → IsCheck m k → IsCheck after k
  check_kept k h =
      record {
        first = h.first;
        second = h.second;
        written = h.written;
        enabled = enabling_kept k.condition ∙ h.enabled;
        notified = h.notified;
      }

pub damaged_is_sound : DamagedModulesAreSound
damaged_is_sound m h =
    record {
      tables = all-alter_first damaged_udp (λ udp. IsTable udp.sequential udp) (λ udp. table_kept udp.sequential udp) m.udps
          h.tables;
      instances = instances_kept m [] m.instances h.instances;
      driven = h.driven;
      paths = All-weaker (IsPath m) (IsPath (damaged_module m)) (path_kept m) m.paths h.paths;
      checks = All-weaker (IsCheck m) (IsCheck (damaged_module m)) (check_kept m) m.checks h.checks;
    }
