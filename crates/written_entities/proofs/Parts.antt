-- The numbers of an entity's parts, and pieces of text that end within the name of a part.
use Rattle.std.proofs.Common.{◌≡◌, ℕ, suc, ◌+◌, ◌≤◌, Bool, true, false, if◌then◌else◌, List, [], ◌∷◌, ◌++◌, length, All, sym, ap}
use Rattle.std.proofs.Common.{arith, subst, decimal, length-append}
use Rattle.std.specs.Char.{is_ascii_alphabetic}
use Rattle.std.specs.List.{AllByRecursion}
use Rattle.std.proofs.lemmas.List.{length-map}
use Rattle.std.proofs.lemmas.List.Elements.{recursion_from_All}
use Rattle.cell_machine.specs.declared.checks.CheckKind.{CheckKind}
use Rattle.cell_machine.specs.declared.checks.CheckKind.TheVariants as check_kind
use Rattle.udp_tables.specs.declared.models.VPort.{VPort}
use Rattle.vital_models.specs.declared.model.VOutput.{VOutput}
use Rattle.vital_models.specs.declared.model.VEntity.{VEntity}
use Rattle.vital_models.specs.Sound.{output_ports_from}
use Rattle.vhdl_grammar.specs.WellFormed.{IsCount, IsWellFormedEntity}
use Rattle.vhdl_writer.specs.Joined.{numbered_texts}
use Rattle.grammar_reader.proofs.Fronts.{Front, Anything}
use Rattle.grammar_reader.proofs.ItemPlaces.{at_place}
use Rattle.grammar_reader.proofs.Spelling.{joins, behind}
use Rattle.written_entities.proofs.Spelling.{Spells}
use Rattle.written_entities.proofs.Words.{Ends, part}
use Rattle.written_entities.proofs.Counting.{counted, counted_anywhere}

-- text that is written where a test holds
pub shown : {P : List ℕ → Type 0} {t u : Bool} {text : List ℕ} {f : Front} (b : Bool) → b ≡ true → Spells P t text f u
    → Spells P t (if b then text else []) f u
shown b e h = rw e h

-- text that ends within the name of a part, its number, and what follows
pub part_behind : {Q : List ℕ → Type 0} {t u v : Bool} {front rest : List ℕ} {f g : Front} (b n : ℕ)
    → is_ascii_alphabetic b ≡ true → IsCount n → Spells Anything t front f u
    → ((r : List ℕ) → Q r → Ends (rest ++ r)) → Spells Q true rest g v
    → Spells Q t (front ++ (b ∷ 95 ∷ decimal n ++ rest)) (λ s. f ((b ∷ 95 ∷ decimal n) ∷ g s)) v
part_behind b n l h i k j = behind i (joins (part b n l h) k j)

-- a piece of text that may stand behind a name
pub record IsBehind (text : List ℕ) (f : Front) : Type 0 where
  pub spelled : {t : Bool} → Spells Anything t text f false
  pub begins : (r : List ℕ) → Ends (text ++ r)

-- what holds of each kind of check
pub by_kind : (P : CheckKind → Type 0) → P check_kind.Setup → P check_kind.Hold → P check_kind.Recovery → P check_kind.Removal
    → P check_kind.Width → P check_kind.Period → (kind : CheckKind) → P kind
by_kind P setup hold recovery removal width period check_kind.Setup = setup
by_kind P setup hold recovery removal width period check_kind.Hold = hold
by_kind P setup hold recovery removal width period check_kind.Recovery = recovery
by_kind P setup hold recovery removal width period check_kind.Removal = removal
by_kind P setup hold recovery removal width period check_kind.Width = width
by_kind P setup hold recovery removal width period check_kind.Period = period

pub fact_at : {A : Type 0} (P : A → Type 0) (all : List A) → All P all → (before : List A) (x : A) (after : List A)
    → before ++ x ∷ after ≡ all → P x
fact_at P all h before x after same = at_place P before x after (subst (AllByRecursion P) (sym same) (recursion_from_All P all h))

-- how many items stand before one of a list
pub place_below : {A : Type 0} (before : List A) (x : A) (after all : List A) → before ++ x ∷ after ≡ all
    → length before + 1 ≤ length all
place_below before x after all same = omega (arith, length-append before (x ∷ after), ap length same)

few_ports : (k : ℕ) (ports : List VPort) → length (output_ports_from k ports) ≤ length ports
few_ports k [] = omega arith
few_ports k (port ∷ ports) = by port.input (few_ports (k + 1) ports)
  where
    by : (b : Bool) → length (output_ports_from (k + 1) ports) ≤ length ports
        → length (if b then output_ports_from (k + 1) ports else k ∷ output_ports_from (k + 1) ports) ≤ suc (length ports)
    by true h = omega (arith, h)
    by false h = omega (arith, h)

pub few_outputs : (e : VEntity) → IsWellFormedEntity e → length e.outputs ≤ length e.ports
few_outputs e w =
    omega (arith, few_ports 0 e.ports, ap length w.sound.driven, length-map e.outputs (λ (output : VOutput). output.port))

pub output_number : (e : VEntity) → IsWellFormedEntity e → (n : ℕ) → n ≤ length e.outputs → IsCount n
output_number e w n h = omega (arith, h, few_outputs e w, w.few)

pub state_number : (e : VEntity) → IsWellFormedEntity e → (n : ℕ) → n ≤ length e.states → IsCount n
state_number e w n h = omega (arith, h, w.few)

pub condition_number : (e : VEntity) → IsWellFormedEntity e → (n : ℕ) → n ≤ length e.conditions → IsCount n
condition_number e w n h = omega (arith, h, w.few)

pub check_number : (e : VEntity) → IsWellFormedEntity e → (n : ℕ) → n ≤ length e.checks → IsCount n
check_number e w n h = omega (arith, h, w.few)

pub table_number_is : (e : VEntity) → IsWellFormedEntity e → (n : ℕ) → n ≤ length e.states + length e.outputs → IsCount n
table_number_is e w n h = omega (arith, h, few_outputs e w, w.few)

-- parts that are spelled by their numbers, each of which counts a part
pub counted_parts : {A : Type 0} (text : ℕ → A → List ℕ) (f : ℕ → A → Front) (all : List A)
    → ((n : ℕ) → n ≤ length all → IsCount n) → ((n : ℕ) (x : A) → IsCount n → Spells Anything false (text n x) (f n x) false)
    → Spells Anything false (numbered_texts text 1 all) (counted f 1 all) false
counted_parts text f all number one =
    counted_anywhere text f all
    (λ before x after same. one (length before + 1) x (number (length before + 1) (place_below before x after all same)))
