-- Names of models, added one after another where none of them is there yet, and the module of a cell by its name.
use Rattle.std.proofs.Common.{◌≡◌, ◌<◌, ◌≤◌, ℕ, ◌+◌, true, false, nat_lt, List, [], ◌∷◌, ◌++◌, drop, get_or, length, Option, Some}
use Rattle.std.proofs.Common.{None, if◌then◌else◌, refl, sym, ap, subst, ◌∙◌, append_assoc, arith}
use Rattle.std.specs.Prelude.{slice_get}
use Rattle.std.proofs.lemmas.Bool.Decides.{nat_tests}
use Rattle.std.proofs.lemmas.Option.{slice_get_read}
use Rattle.std.proofs.lemmas.List.{append-nil, drop_more, drop_all}
use Rattle.std.specs.Option.{option_map, option_and_then}
use Rattle.bool_functions.specs.NameList.{number_of, Adds}
use Rattle.cell_machine.specs.CellData.{CellData}
use Rattle.specify_blocks.specs.declared.model.VModule.{VModule}
use Rattle.file_models.specs.declared.file_model.FileModel.{FileModel}
use Rattle.specify_blocks.specs.Names.{module_name}
use Rattle.model_files.specs.ModelNames.{model_names, AreNew, HaveOwnNames}
use Rattle.model_replay.specs.Verilog.{verilog}
use Rattle.table_audit.specs.declared.verdicts.Verdict.{Verdict}
use Rattle.table_audit.specs.Verdict.{verdict_of}
use Rattle.library_audit.specs.Audits.{module_in, module_at, module_for, verdict_beside, verdict_in}

-- these names stand in a list, those of the rest are still to come and are new, and together they are all
pub record Fills (names : List (List ℕ)) (rest all : List (FileModel VModule)) : Type 0 where
  pub joined : names ++ model_names verilog rest ≡ model_names verilog all
  pub new : AreNew names (model_names verilog rest)

-- before the first of them
pub names_begin : (models : List (FileModel VModule)) → HaveOwnNames verilog models → Fills [] (drop 0 models) models
names_begin models own = record { joined = refl; new = own.names }

name_added : (old new : List (List ℕ)) (m : FileModel VModule) (rest all : List (FileModel VModule)) (found : Option ℕ)
    → Fills old (m ∷ rest) all → Adds old m.name found new → Fills new rest all
name_added old new m rest all None k a = absurd (a.0 k.new.0)
name_added old new m rest all (Some number) k a =
    rw a.2 (record { joined = append_assoc old (m.name ∷ []) (model_names verilog rest) ∙ k.joined; new = k.new.1 })

-- the name of the next module is added
pub names_more : (old new : List (List ℕ)) (models : List (FileModel VModule)) (i : ℕ) (m : FileModel VModule) (found : Option ℕ)
    → i < length models → m ≡ get_or models i m
    → (HaveOwnNames verilog models → Fills old (drop i models) models) → Adds old m.name found new
    → HaveOwnNames verilog models → Fills new (drop (i + 1) models) models
names_more old new models i m found h e before added own =
    let rest = drop (i + 1) models in
    let next : drop i models ≡ m ∷ rest = drop_more models i m h ∙ ap (λ x. x ∷ rest) (sym e) in
    name_added old new m rest models found (subst (λ r. Fills old r models) next (before own)) added

-- all of them are added
pub names_all : (names : List (List ℕ)) (models : List (FileModel VModule)) (i : ℕ) → length models ≤ i
    → Fills names (drop i models) models → names ≡ model_names verilog models
names_all names models i over k =
    sym (append-nil names) ∙ (ap (λ rest. names ++ model_names verilog rest) (sym (drop_all i models over)) ∙ k.joined)

-- A cell compared with the module with a number.

model_there : (models shown : List (FileModel VModule)) (number : ℕ) (m : FileModel VModule) → shown ≡ models
    → number < length shown → m ≡ get_or shown number m
    → slice_get models number ≡ Some m
model_there models shown number m same within is = ap (λ all. slice_get all number) (sym same)
    ∙ slice_get_read shown (length shown) number m refl within is

-- a driver is none
pub driver_beside : (models shown : List (FileModel VModule)) (cell : CellData) (number count : ℕ) (m : FileModel VModule)
    → shown ≡ models → number < length shown
    → m ≡ get_or shown number m → count ≡ length m.driver.drives → 0 < count → None ≡ verdict_beside models cell number
unfolding verdict_beside module_at
driver_beside models shown cell number count m same within is counted some =
    let drives : 0 < length m.driver.drives = omega (arith, counted, some) in
    let driven : nat_lt 0 (length m.driver.drives) ≡ true = grind (arith, nat_tests, drives) in
    sym (ap (λ found. option_map (verdict_of cell) (option_and_then module_in found))
    (model_there models shown number m same within is)
    ∙ ap (λ b. option_map (verdict_of cell) (if b then None else Some m.core)) driven)

pub module_beside : (models shown : List (FileModel VModule)) (cell : CellData) (number count : ℕ) (m : FileModel VModule)
    (core : VModule) (v : Verdict) → shown ≡ models
    → number < length shown → m ≡ get_or shown number m → count ≡ length m.driver.drives → count ≤ 0 → core ≡ m.core
    → v ≡ verdict_of cell core
    → Some v ≡ verdict_beside models cell number
unfolding verdict_beside module_at
module_beside models shown cell number count m core v same within is counted none own said =
    let drives : length m.driver.drives ≤ 0 = omega (arith, counted, none) in
    let plain : nat_lt 0 (length m.driver.drives) ≡ false = grind (arith, nat_tests, drives) in
    ap Some (said ∙ ap (verdict_of cell) own)
    ∙ sym (ap (λ found. option_map (verdict_of cell) (option_and_then module_in found))
    (model_there models shown number m same within is)
    ∙ ap (λ b. option_map (verdict_of cell) (if b then None else Some m.core)) plain)

-- A cell compared with the module whose number was found by the cell's name.

beside_number : (models : List (FileModel VModule)) (cell : CellData) (found : Option ℕ)
    → option_and_then (verdict_beside models cell) found ≡ option_map (verdict_of cell) (option_and_then (module_at models) found)
unfolding verdict_beside
beside_number models cell None = refl
beside_number models cell (Some number) = refl

pub verdict_by : (names : List (List ℕ)) (models : List (FileModel VModule)) (cell : CellData) (given name asked : List ℕ)
    (found : Option ℕ) → names ≡ model_names verilog models
    → given ≡ cell.name → name ≡ module_name cell.number given → asked ≡ name → found ≡ number_of names asked
    → option_and_then (verdict_beside models cell) found ≡ verdict_in models cell
unfolding verdict_in module_for
verdict_by names models cell given name asked found all own is same at =
    let named : asked ≡ module_name cell.number cell.name = same ∙ is ∙ ap (module_name cell.number) own in
    let there : found ≡ number_of (model_names verilog models) (module_name cell.number cell.name) =
    at ∙ (λ i. number_of (all i) (named i)) in
    beside_number models cell found ∙ ap (λ number. option_map (verdict_of cell) (option_and_then (module_at models) number))
    there
