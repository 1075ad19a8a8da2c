-- The words with which grammars of texts are written: rules over tokens, each told by its spelling. A language says which tokens
-- are names, and which token stands for a word.
use Rattle.std.specs.Prelude.{ℕ, ◌==◌, Bool, true, false, if◌then◌else◌, List, Option, Some, None}
use Rattle.std.specs.List.{list_any}
use Rattle.std.specs.Option.{option_map}
use Rattle.grammar_reader.specs.declared.refusal.Refusal.{Refusal}
use Rattle.grammar_reader.specs.declared.refusal.Refusal.TheVariants.{Syntax, Undefined, Twice, Unequal}
use Rattle.grammar_rules.specs.Rule.{Rule, Verdict, Fits, Foul, Misfit}
use Rattle.grammar_rules.specs.Rule as r

abbrev pub Grammar : Type 0 → Type 1
Grammar A = Rule (List ℕ) Refusal A

infixl 10 ◌>>=◌
abbrev pub ◌>>=◌ : {A B : Type 0} → Grammar A → (A → Grammar B) → Grammar B
p >>= g = r.Then p g

-- a token that must stand here
abbrev pub only : (List ℕ → List ℕ → Bool) → List ℕ → List ℕ → Verdict (Unit {0}) Refusal
only is_same text x = if is_same x text then Fits tt else Misfit Syntax

abbrev pub expect : (List ℕ → List ℕ → Bool) → List ℕ → Grammar (Unit {0})
expect is_same text = r.Token (only is_same text) Syntax

-- a token that must stand here, and breaks a strict rule of this kind unless the condition holds
abbrev pub only_where : (List ℕ → List ℕ → Bool) → Bool → Refusal → List ℕ → List ℕ → Verdict (Unit {0}) Refusal
only_where is_same holds k text x = if is_same x text then (if holds then Fits tt else Foul k tt) else Misfit Syntax

abbrev pub expect_where : (List ℕ → List ℕ → Bool) → Bool → Refusal → List ℕ → Grammar (Unit {0})
expect_where is_same holds k text = r.Token (only_where is_same holds k text) Syntax

-- a place that is reached only where the condition holds: no text goes on here else
abbrev pub go_on_where : Bool → Grammar (Unit {0})
go_on_where true = r.Gives tt
go_on_where false = r.Token (λ _. Misfit Syntax) Syntax

-- a part that begins with this token
abbrev pub begins : (List ℕ → List ℕ → Bool) → List ℕ → List ℕ → Option (Verdict (Unit {0}) Refusal)
begins is_same text x = if is_same x text then Some (Fits tt) else None

-- a part that begins with this token, which breaks a strict rule of this kind unless the condition holds
abbrev pub begins_where : (List ℕ → List ℕ → Bool) → Bool → Refusal → List ℕ → List ℕ → Option (Verdict (Unit {0}) Refusal)
begins_where is_same holds k text x = if is_same x text then Some (if holds then Fits tt else Foul k tt) else None

-- a part that begins with a token of which the test holds
abbrev pub begins_by : (List ℕ → Bool) → List ℕ → Option (Verdict (List ℕ) Refusal)
begins_by test x = if test x then Some (Fits x) else None

-- a part that begins with a token that stands for a value
abbrev pub begins_as : {A : Type 0} → (List ℕ → Option A) → List ℕ → Option (Verdict A Refusal)
begins_as find x = option_map Fits (find x)

-- what a place allows: the value that a token stands for there, and else a refusal of this kind
abbrev pub allowed_by : {A : Type 0} → Refusal → Option A → Verdict A Refusal
allowed_by k None = Misfit k
allowed_by k (Some a) = Fits a

-- a token that stands for a value
abbrev pub valued : {A : Type 0} → (List ℕ → Option A) → Grammar A
valued find = r.Token (λ x. allowed_by Syntax (find x)) Syntax

-- the place of a name, which has this to say of a name
abbrev pub name_by : {A : Type 0} → (List ℕ → Bool) → (List ℕ → Verdict A Refusal) → List ℕ → Verdict A Refusal
name_by is_name judge x = if is_name x then judge x else Misfit Syntax

abbrev pub named : {A : Type 0} → (List ℕ → Bool) → (List ℕ → Verdict A Refusal) → Grammar A
named is_name judge = r.Token (name_by is_name judge) Syntax

-- any name
abbrev pub any_name : (List ℕ → Bool) → Grammar (List ℕ)
any_name is_name = named is_name Fits

-- the name is one of these
abbrev pub is_among : (List ℕ → List ℕ → Bool) → List (List ℕ) → List ℕ → Bool
is_among is_same names x = list_any (is_same x) names

abbrev pub fresh : (List ℕ → List ℕ → Bool) → List (List ℕ) → List ℕ → Verdict (List ℕ) Refusal
fresh is_same names x = if is_among is_same names x then Foul Twice x else Fits x

-- a name that is declared here, and was none of these before
abbrev pub new_name : (List ℕ → Bool) → (List ℕ → List ℕ → Bool) → List (List ℕ) → Grammar (List ℕ)
new_name is_name is_same names = named is_name (fresh is_same names)

-- a name that stands for a value at its place
abbrev pub known : {A : Type 0} → (List ℕ → Bool) → (List ℕ → Option A) → Grammar A
known is_name find = named is_name (λ x. allowed_by Undefined (find x))

abbrev pub is_this : (List ℕ → List ℕ → Bool) → Option (List ℕ) → List ℕ → Option (Unit {0})
is_this is_same None x = None
is_this is_same (Some name) x = if is_same x name then Some tt else None

-- This name. Where there is none, no name is allowed.
abbrev pub this_name : (List ℕ → Bool) → (List ℕ → List ℕ → Bool) → Option (List ℕ) → Grammar (Unit {0})
this_name is_name is_same name = known is_name (is_this is_same name)

-- what the place of a number that has to be this one says of a number
abbrev pub equal_to : ℕ → Option ℕ → Verdict (Unit {0}) Refusal
equal_to limit None = Misfit Syntax
equal_to limit (Some n) = if n == limit then Fits tt else Foul Unequal tt
