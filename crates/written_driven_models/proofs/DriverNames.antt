-- The name of a cell's drivers is none of the names of the modules of one library and their primitives, nor of the other drivers.
use Rattle.std.proofs.Common.{◌≡◌, ℕ, ◌^◌, ◌<◌, Bool, true, false, ◌⊎◌, inl, inr, List, ◌++◌, refl, sym, ap, ◌∙◌, append_assoc}
use Rattle.std.proofs.Common.{arith, codes, decimal, if◌then◌else◌}
use Rattle.std.specs.Char.{is_ascii_digit}
use Rattle.std.specs.List.{list_all}
use Rattle.std.proofs.lemmas.Bool.{true≢false}
use Rattle.std.proofs.lemmas.List.{append_cancel_left}
use Rattle.generated_drivers.specs.verilog_tokens.Kept.{is_kept_cell_name}
use Rattle.generated_drivers.specs.specify_blocks.Names.{driver_name}
use Rattle.generated_drivers.specs.three_state_cells.DrivenCells.{DrivenData, may_float}
use Rattle.generated_entities.proofs.generated_modules.NumberedNames.{decimal_digits, number_digits}
use Rattle.generated_modules.proofs.GivenNames.{kept, not_given}
use Rattle.generated_modules.proofs.PrimitiveNames.{primitive_front}
use Rattle.generated_modules.proofs.Modules.{primitives_few}
use Rattle.generated_modules.proofs.ModuleLists.{IsOuter, is_own, own_primitive, module_no_lib, fronts_apart}
use Rattle.written_driven_models.specs.Library.{IsNumberedDriven}
use Rattle.written_driven_models.proofs.Cores.{kept_is_plain, Differ}

-- The name of drivers that is not kept, of a cell with this number.
abbrev pub given_driver : ℕ → List ℕ
given_driver n = codes "lib_" ++ (decimal n ++ codes "_z")

-- a name of drivers is kept, or given
pub record IsKeptOwn (cell : DrivenData) (x : List ℕ) : Type 0 where
  pub kept : is_kept_cell_name cell.name ≡ true
  pub same : x ≡ cell.name

abbrev pub IsDriverName : DrivenData → List ℕ → Type 0
IsDriverName cell x = IsKeptOwn cell x ⊎ (x ≡ given_driver cell.core.number)

pub driver_form : (cell : DrivenData) → IsDriverName cell (driver_name cell.core.number cell.name)
driver_form cell = by (is_kept_cell_name cell.name) refl
  where
    by : (b : Bool) → is_kept_cell_name cell.name ≡ b → IsDriverName cell (if b then cell.name else given_driver cell.core.number)
    by true e = inl (record { kept = e; same = refl })
    by false e = inr refl

-- a kept name is none of this project's own, and a given one is
kept_no_lib : (cell : DrivenData) (x : List ℕ) → IsKeptOwn cell x → is_own x ≡ false
kept_no_lib cell x f = ap is_own f.same ∙ (kept (codes "cell") cell.name f.kept).no_lib

given_lib : (n : ℕ) (x : List ℕ) → x ≡ given_driver n → is_own x ≡ true
given_lib n x e = ap is_own e

-- a given name is none of a primitive

given_parts : (n : ℕ) → given_driver n ≡ primitive_front n ++ codes "z"
given_parts n = ap (λ (l : List ℕ). codes "lib_" ++ l) (sym (append_assoc (decimal n) (codes "_") (codes "z")))

no_digit : (j : ℕ) → j < 2 ^ 64 → codes "z" ≡ decimal j → ⊥
no_digit j h e =
    let digits : list_all is_ascii_digit (codes "z") ≡ true = ap (list_all is_ascii_digit) e
    ∙ number_digits (decimal j) (decimal_digits j h) in
    absurd (true≢false (sym digits))

given_no_primitive :
    (n m j : ℕ) → n < 2 ^ 64 → m < 2 ^ 64 → j < 2 ^ 64 → (n ≡ m) ⊎ (n ≡ m → ⊥) → given_driver n ≡ primitive_front m ++ decimal j
    → ⊥
given_no_primitive n m j h k i (inl same) e =
    no_digit j i
    (append_cancel_left (primitive_front m) (codes "z") (decimal j)
    (ap (λ (l : ℕ). primitive_front l ++ codes "z") (sym same) ∙ sym (given_parts n) ∙ e))
given_no_primitive n m j h k i (inr apart) e = fronts_apart n m (codes "z") (decimal j) h k apart (sym (given_parts n) ∙ e)

-- the name of the drivers of a cell, beside the names of the module of a core: the cell's own, or that of one that differs
pub not_outer :
    (cell other : DrivenData) → IsNumberedDriven cell → IsNumberedDriven other → may_float cell ≡ true → (cell ≡ other)
    ⊎ Differ cell other
    → (x y : List ℕ) → IsDriverName cell x → IsOuter other.core y → x ≡ y → ⊥
not_outer cell other h k floats which x y (inl f) (inl g) e =
    true≢false (sym (own_primitive other.core.number (decimal g.0) y g.2) ∙ ap is_own (sym e) ∙ kept_no_lib cell x f)
not_outer cell other h k floats which x y (inl f) (inr g) e = by (is_kept_cell_name other.core.name) refl g
  where
    by : (b : Bool) → is_kept_cell_name other.core.name ≡ b
        → y ≡ (if b then other.core.name else codes "cell" ++ decimal other.core.number) → ⊥
    by true s same =
        let plain = kept_is_plain other k s in
        elim which [
          | inl one ↦ true≢false (sym floats ∙ ap may_float one ∙ plain.plain)
          | inr apart ↦ apart.names f.kept (sym f.same ∙ e ∙ same ∙ plain.same)
        ]
    by false s same = not_given (codes "cell") cell.name other.core.number f.kept k.core.number (sym f.same ∙ e ∙ same)
not_outer cell other h k floats which x y (inr f) (inl g) e =
    given_no_primitive cell.core.number other.core.number g.0 h.core.number k.core.number few numbers (sym f ∙ e ∙ g.2)
  where
    few : g.0 < 2 ^ 64
    few = let all = primitives_few other.core k.core in omega (arith, all, g.1)

    numbers : (cell.core.number ≡ other.core.number) ⊎ (cell.core.number ≡ other.core.number → ⊥)
    numbers = elim which [ inl one ↦ inl (ap (λ (c : DrivenData). c.core.number) one) | inr apart ↦ inr apart.numbers ]
not_outer cell other h k floats which x y (inr f) (inr g) e =
    true≢false (sym (given_lib cell.core.number x f) ∙ ap is_own e ∙ module_no_lib other.core y g)

-- the names of the drivers of two cells that differ
pub drivers_apart :
    (cell other : DrivenData) → cell.core.number < 2 ^ 64 → other.core.number < 2 ^ 64 → Differ cell other
    → (x y : List ℕ) → IsDriverName cell x → IsDriverName other y → x ≡ y → ⊥
drivers_apart cell other h k apart x y (inl f) (inl g) e = apart.names f.kept (sym f.same ∙ e ∙ g.same)
drivers_apart cell other h k apart x y (inl f) (inr g) e =
    true≢false (sym (given_lib other.core.number y g) ∙ ap is_own (sym e) ∙ kept_no_lib cell x f)
drivers_apart cell other h k apart x y (inr f) (inl g) e =
    true≢false (sym (given_lib cell.core.number x f) ∙ ap is_own e ∙ kept_no_lib other y g)
drivers_apart cell other h k apart x y (inr f) (inr g) e =
    fronts_apart cell.core.number other.core.number (codes "z") (codes "z") h k apart.numbers
    (sym (given_parts cell.core.number) ∙ sym f ∙ e ∙ g ∙ given_parts other.core.number)
