-- What the code that tries each list of trits needs.
use Rattle.std.proofs.Common.{◌≡◌, ◌≢◌, ℕ, ◌+◌, ◌<◌, Bool, true, false, not, ◌&&◌, ◌||◌, List, [], ◌∷◌, ◌++◌, length, take}
use Rattle.std.proofs.Common.{slice_index_or, slice_set, slice_get, Some, refl, sym, ◌∙◌, ap, arith}
use Rattle.std.specs.List.{All, list_all}
use Rattle.std.proofs.lemmas.Bool.{true≢false, and_right, false_from_ne_true}
use Rattle.std.proofs.lemmas.List.{take_more_set, take_more}
use Rattle.std.proofs.lemmas.List.Elements.{Contains-get_or}
use Rattle.std.proofs.lemmas.Option.{get_or_from_slice_get}
use Rattle.std.proofs.Math.Path.{fun_ext}
use Rattle.trit_cubes.specs.declared.trits.Trit.{Trit}
use Rattle.trit_cubes.specs.declared.trits.Trit.TheVariants.{Zero, One, Unknown}
use Rattle.trit_cubes.specs.Filling.{is_unknown, same, trit_of}
use Rattle.trit_cubes.specs.Resolution.{res}
use Rattle.trit_cubes.specs.Prime.{is_inside, is_prime, freed, cubes_of}
use Rattle.trit_cubes.proofs.ListLemmas.{contains-among}
use Rattle.trit_cubes.proofs.Basics.{one≢unknown}
use Rattle.trit_cubes.proofs.SplitLemmas.{cubes_of-length, is_inside-gives}
use Rattle.trit_cubes.proofs.InsideLemmas.{all_freed-at, at-all_freed}

pub cubes-short : (n : ℕ) (cubes : List (List Trit)) → cubes ≡ cubes_of n → n < 10 → All (λ c. length c < 10) cubes
cubes-short n cubes e room k d within =
    let long = cubes_of-length n _ (contains-among _ _ (Contains-get_or (cubes_of n) k d (rw (← e) within))) in
    rw e (omega (arith, long))

-- being inside is the resolution of being in the set
pub is_inside-resolved : (set : List Bool → Bool) (ts : List Trit) → same One (res (λ p. trit_of (set p)) ts) ≡ is_inside set ts
is_inside-resolved set ts =
    sym (is_inside-gives One (λ p. trit_of (set p)) ts one≢unknown) ∙ ap (λ f. is_inside f ts) (fun_ext (λ p. same_one (set p)))
  where
    same_one : (b : Bool) → same One (trit_of b) ≡ b
    same_one true = refl
    same_one false = refl

-- the place is free, or leads out of the set where it is freed
abbrev pub stays : (List Bool → Bool) → List Trit → ℕ → Bool
stays set c i = is_unknown (slice_index_or c i Unknown) || not (is_inside set (slice_set c i Unknown))

stays-fixed : (t : Trit) (b : Bool) → t ≢ Unknown → (is_unknown t || b) ≡ true → b ≡ true
stays-fixed Zero b known h = h
stays-fixed One b known h = h
stays-fixed Unknown b known h = absurd (known refl)

leaves-fixed : (t : Trit) (b : Bool) → (is_unknown t || b) ≡ false → (t ≢ Unknown) × (b ≡ false)
leaves-fixed Zero b h = ((λ e. cc), h)
leaves-fixed One b h = ((λ e. cc), h)
leaves-fixed Unknown b h = absurd (true≢false h)

pub is_prime-stays : (set : List Bool → Bool) (c : List Trit) → is_inside set c ≡ true
    → ((j : ℕ) → j < length c → stays set c j ≡ true) → true ≡ is_prime set c
is_prime-stays set c inside h =
    sym (ap (λ b. b && list_all (λ d. not (is_inside set d)) (freed c)) inside
    ∙ at-all_freed (λ d. not (is_inside set d)) c
    (λ i l fixed. stays-fixed (slice_index_or c i Unknown) (not (is_inside set (slice_set c i Unknown))) fixed (h i l)))

pub is_prime-leaves : (set : List Bool → Bool) (c : List Trit) (i : ℕ) → i < length c → stays set c i ≡ false
    → false ≡ is_prime set c
is_prime-leaves set c i l h =
    let out = leaves-fixed (slice_index_or c i Unknown) (not (is_inside set (slice_set c i Unknown))) h in
    sym (and_right (is_inside set c) (list_all (λ d. not (is_inside set d)) (freed c))
    (false_from_ne_true (list_all (λ d. not (is_inside set d)) (freed c))
    (λ e. true≢false (sym (all_freed-at (λ d. not (is_inside set d)) c e i l out.0) ∙ out.1))))

-- one more place written
pub take-written : (places cube : List Trit) (i : ℕ) (t : Trit) → i < length places → i < length cube → slice_get cube i ≡ Some t
    → take i places ≡ take i cube → take (i + 1) (slice_set places i t) ≡ take (i + 1) cube
take-written places cube i t l k e same_front =
    take_more_set places i t l ∙ ap (λ ts. ts ++ t ∷ []) same_front
    ∙ sym (take_more cube i t k ∙ ap (λ x. take i cube ++ x ∷ []) (get_or_from_slice_get cube i t t e))
