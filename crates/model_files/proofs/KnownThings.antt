-- What is known of things that have numbers, as it is found.
use Rattle.std.proofs.Common.{◌≡◌, ℕ, zero, suc, ◌<◌, ◌⊎◌, inl, inr, true, List, length, get_or, set, replicate, Option, Some}
use Rattle.std.proofs.Common.{None, Result, Ok, Err, is_some, OnOk, refl, sym, subst, ◌∙◌}
use Rattle.std.proofs.lemmas.Bool.Decides.{eqb_tells}
use Rattle.std.proofs.lemmas.List.{get_or-set_same, get_or-set_other}
use Rattle.cell_machine.proofs.EachLemmas.{get_or-default}
use Rattle.model_files.specs.Known.{AreKnown}

none-at : {S : Type 0} (count k : ℕ) → get_or {A = Option S} (replicate count None) k None ≡ None
none-at zero k = refl
none-at (suc count) zero = refl
none-at (suc count) (suc k) = none-at count k

-- at first nothing is known
pub none-known : {S : Type 0} (P : ℕ → S → Type 0) (count : ℕ) → AreKnown P (replicate count None)
none-known {S = S} P count k s e =
    let none : ◌≡◌ {A = Option S} None (Some s) = sym (none-at count k) ∙ e in
    absurd (cc)

-- then of one more
pub known-more : {S : Type 0} (P : ℕ → S → Type 0) (known : List (Option S)) (n : ℕ) (s : S) → AreKnown P known → n < length known
    → P n s → AreKnown P (set known n (Some s))
known-more {S = S} P known n s are within is k t e = elim (eqb_tells k n) [
  | inl same ↦
      let here : get_or (set known n (Some s)) n None ≡ Some t =
      subst (λ j. get_or (set known n (Some s)) j None ≡ Some t) same.1 e in
      let found : ◌≡◌ {A = Option S} (Some s) (Some t) = sym (get_or-set_same known n (Some s) None within) ∙ here in
      let equal : s ≡ t = cc in
      subst (λ j. P j t) (sym same.1) (subst (λ x. P n x) equal is)
  | inr other ↦ are k t (sym (get_or-set_other known n k (Some s) None other.1) ∙ e)
]

-- what was read at a place stands there
pub here-some : {S : Type 0} (known : List (Option S)) (n : ℕ) (o : Option S) (s : S) → n < length known → o ≡ get_or known n o
    → o ≡ Some s → get_or known n None ≡ Some s
here-some known n o s h e is = get_or-default known n None o h ∙ sym e ∙ is

-- where something was read, something stands
pub found-some : {S : Type 0} (known : List (Option S)) (n : ℕ) (o : Option S) → n < length known → o ≡ get_or known n o
    → is_some o ≡ true → (s : S) × (get_or known n None ≡ Some s)
found-some known n (Some s) h e is = (s, get_or-default known n None (Some s) h ∙ sym e)
found-some known n None h e is = absurd (cc)

-- a fact that holds whatever a call answers
pub on-ok : {T E : Type 0} (P : Type 0) (r : Result T E) → P → OnOk r P
on-ok P (Ok x) p = p
on-ok P (Err y) p = tt
