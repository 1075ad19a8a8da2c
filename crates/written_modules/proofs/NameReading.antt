-- What the words of the grammar take of names.
use Rattle.std.proofs.Common.{◌≡◌, ℕ, Bool, true, false, List, [], ◌∷◌, ◌++◌, Option, Some, refl, ◌∙◌}
use Rattle.std.specs.List.{IsDistinct}
use Rattle.std.specs.Str.{bytes_eq}
use Rattle.std.proofs.lemmas.Cmp.{nat_list_eq_equiv as bytes_equivalence}
use Rattle.grammar_reader.specs.declared.refusal.Refusal.{Refusal}
use Rattle.udp_tables.specs.VerilogRules.{expect, expect_where, any_name, is_among, new_name, known, this_name}
use Rattle.verilog_grammar.specs.WellFormed.{IsName, AreApart}
use Rattle.grammar_reader.proofs.ItemPlaces.{at_place, same_bytes}
use Rattle.grammar_reader.proofs.Derivations.{Reads, token}
use Rattle.written_modules.proofs.Words.{name_is}

pub expected : {text : List ℕ} {s : List (List ℕ)} → Reads (expect text) (text ∷ s) tt s
expected {text = text} = token (rw (same_bytes text) refl)

pub expected_where : (holds : Bool) (k : Refusal) {text : List ℕ} {s : List (List ℕ)} → holds ≡ true
    → Reads (expect_where holds k text) (text ∷ s) tt s
expected_where holds k {text = text} e = token (rw (same_bytes text, e) refl)

pub any_named : {x : List ℕ} {s : List (List ℕ)} → IsName x → Reads any_name (x ∷ s) x s
any_named {x = x} n = token (rw (name_is x n) refl)

pub newly_named : (names : List (List ℕ)) {x : List ℕ} {s : List (List ℕ)} → IsName x → is_among names x ≡ false
    → Reads (new_name names) (x ∷ s) x s
newly_named names {x = x} n e = token (rw (name_is x n, e) refl)

pub known_as : {A : Type 0} (find : List ℕ → Option A) {x : List ℕ} {a : A} {s : List (List ℕ)} → IsName x → find x ≡ Some a
    → Reads (known find) (x ∷ s) a s
known_as find {x = x} n e = token (rw (name_is x n, e) refl)

pub so_named : (name : Option (List ℕ)) {x : List ℕ} {s : List (List ℕ)} → IsName x → name ≡ Some x
    → Reads (this_name name) (x ∷ s) tt s
so_named name {x = x} n e = token (rw (name_is x n, e, same_bytes x) refl)

-- Names of which none stands twice.

-- a name among others is none of those before it
pub is_new : (before : List (List ℕ)) (x : List ℕ) (after : List (List ℕ)) → AreApart (before ++ x ∷ after)
    → is_among before x ≡ false
unfolding IsDistinct
is_new [] x after h = refl
is_new (y ∷ before) x after h =
    let other : bytes_eq x y ≡ false = bytes_equivalence.symm x y ∙ at_place (λ z. bytes_eq y z ≡ false) before x after h.0 in
    rw other (is_new before x after h.1)
