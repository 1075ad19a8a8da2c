-- What holds of a check of a written entity.
use Rattle.std.proofs.Common.{◌≡◌, ℕ, ◌+◌, ◌<◌, IsTrue, List, [], ◌∷◌, ◌++◌, length, flat_map, Option, Some, None, refl, sym}
use Rattle.std.proofs.Common.{subst}
use Rattle.cell_machine.specs.declared.checks.CheckKind.{CheckKind}
use Rattle.udp_tables.specs.declared.timing_checks.TimingCheck.{TimingCheck}
use Rattle.vital_models.specs.declared.model.VEntity.{VEntity}
use Rattle.vital_models.specs.Sound.{IsCheck}
use Rattle.vhdl_grammar.specs.WellFormed.{IsNumber, IsCount, IsWellFormedEntity, conditions_of_check, conditions_of_output}
use Rattle.vhdl_writer.specs.Statements.{test_at, reference_at}
use Rattle.written_entities.proofs.Parts.{by_kind, fact_at, place_below, check_number}
use Rattle.written_entities.proofs.LookUpOrder.{seen_after, looks_at}
use Rattle.written_entities.proofs.ConditionReading.{Looks, looks_below}

-- What holds of a check: its pins, its condition and its number.
pub record IsWrittenCheck (e : VEntity) (n : ℕ) (k : TimingCheck) : Type 0 where
  pub formed : IsWellFormedEntity e
  pub sound : IsCheck e k
  pub limit : IsNumber k.limit
  pub number : IsCount n
  pub condition : (i : ℕ) → k.condition ≡ Some i → i < length e.conditions

pub test_pin : (e : VEntity) (n : ℕ) (k : TimingCheck) → IsWrittenCheck e n k → (kind : CheckKind)
    → IsTrue (Rattle.udp_tables.specs.Ports.is_input_port e.ports (test_at k kind).pin)
test_pin e n k h =
    let first = h.sound.first in
    let second = h.sound.second in
    by_kind (λ (kind : CheckKind). IsTrue (Rattle.udp_tables.specs.Ports.is_input_port e.ports (test_at k kind).pin)) first second
    first second first first

pub reference_pin : (e : VEntity) (n : ℕ) (k : TimingCheck) → IsWrittenCheck e n k → (kind : CheckKind)
    → IsTrue (Rattle.udp_tables.specs.Ports.is_input_port e.ports (reference_at k kind).pin)
reference_pin e n k h =
    let first = h.sound.first in
    let second = h.sound.second in
    by_kind (λ (kind : CheckKind). IsTrue (Rattle.udp_tables.specs.Ports.is_input_port e.ports (reference_at k kind).pin)) second
    first second first second second

-- The conditions of a check.

abbrev pub of_when : Option ℕ → List ℕ
of_when None = []
of_when (Some i) = i ∷ []

pub conditions_are : (k : TimingCheck) → conditions_of_check k ≡ of_when k.condition
conditions_are k = by k.condition
  where
    by : (c : Option ℕ) → conditions_of_check (record k { condition = c }) ≡ of_when c
    by None = refl
    by (Some i) = refl

-- the look-ups of a check are in order, and others follow
abbrev pub LooksCheck : VEntity → ℕ → TimingCheck → Type 0
LooksCheck e seen k = (is : List ℕ) × Looks e seen (of_when k.condition ++ is)

when_there : (e : VEntity) (seen : ℕ) (when : Option ℕ) (is : List ℕ) → Looks e seen (of_when when ++ is) → (i : ℕ)
    → when ≡ Some i → i < length e.conditions
when_there e seen None is h i same = absurd cc
when_there e seen (Some j) is h i same = let its : j ≡ i = cc
    in subst (λ (n : ℕ). n < length e.conditions) its (looks_below e seen j is h)

pub check_looks : (e : VEntity) → IsWellFormedEntity e → (before : List TimingCheck) (k : TimingCheck) (after : List TimingCheck)
    → before ++ k ∷ after ≡ e.checks → LooksCheck e (seen_after 0 (flat_map conditions_of_check before)) k
check_looks e w before k after same =
    let tail : List ℕ = flat_map conditions_of_output e.outputs in
    let all : Looks e 0 (flat_map conditions_of_check (before ++ k ∷ after) ++ tail) =
    subst (λ (l : List TimingCheck). Looks e 0 (flat_map conditions_of_check l ++ tail)) (sym same) w.in_order in
    let seen : ℕ = seen_after 0 (flat_map conditions_of_check before) in
    let rest : List ℕ = flat_map conditions_of_check after ++ tail in (
      rest,
      subst (λ (l : List ℕ). Looks e seen (l ++ rest)) (conditions_are k)
          (looks_at conditions_of_check (length e.conditions) 0 before k after tail all),
    )

pub written_check : (e : VEntity) → IsWellFormedEntity e
    → (before : List TimingCheck) (k : TimingCheck) (after : List TimingCheck) → before ++ k ∷ after ≡ e.checks
    → IsWrittenCheck e (length before + 1) k
written_check e w before k after same =
    let looks = check_looks e w before k after same in
    record {
      formed = w;
      sound = fact_at (IsCheck e) e.checks w.sound.checks before k after same;
      limit = fact_at (λ (c : TimingCheck). IsNumber c.limit) e.checks w.limits before k after same;
      number = check_number e w (length before + 1) (place_below before k after e.checks same);
      condition = when_there e (seen_after 0 (flat_map conditions_of_check before)) k.condition looks.0 looks.1;
    }
