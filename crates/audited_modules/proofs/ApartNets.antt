-- Lists of nets in which no net stands twice.
use Rattle.std.proofs.Common.{◌≡◌, ℕ, zero, suc, ◌+◌, ◌<◌, Bool, true, false, not, ◌&&◌, cond, List, [], ◌∷◌, length, get_or, inl}
use Rattle.std.proofs.Common.{inr, refl, sym, ap, ◌∙◌, arith, IsTrue, Some, None, slice_get, nat_lt}
use Rattle.std.specs.Prelude.{find, position}
use Rattle.std.specs.List.{list_any, list_all, position_from, position_or_len}
use Rattle.std.specs.Option.{option_map_or}
use Rattle.std.proofs.lemmas.Bool.{and_parts, and_from, or_left, or_right, eq-eqb, both_ways, not-true}
use Rattle.std.proofs.lemmas.List.{length-map, ext_get_or}
use Rattle.std.proofs.lemmas.List.Folds.{find_at}
use Rattle.std.proofs.lemmas.Option.{slice_get-get_or}
use Rattle.trit_cubes.specs.declared.trits.Trit.{Trit}
use Rattle.trit_cubes.specs.declared.trits.Trit.TheVariants.{Unknown}
use Rattle.trit_cubes.proofs.ListLemmas.{Among}
use Rattle.specify_blocks.specs.declared.model.VNet.{VNet}
use Rattle.specify_blocks.specs.declared.model.VNet.TheVariants as net
use Rattle.specify_blocks.specs.Nets.{same_net, are_apart}
use Rattle.model_traces.proofs.PlaceLemmas.{position-from, get-map}
use Rattle.table_audit.specs.module_terminals.Terminals.{is_among, same_nets}
use Rattle.table_audit.specs.module_tables.Tables.{value_among, arranged}
use Rattle.audited_modules.proofs.ListLemmas.{among-place}
use Rattle.audited_modules.proofs.NetLemmas.{same-net, itself}

-- the entry at the first place where a test passes is the first that passes
pub found-at : {X : Type 0} (p : X → Bool) (xs : List X) (i : ℕ) → position p xs ≡ Some i → find p xs ≡ slice_get xs i
found-at p xs i e =
    find_at p xs ∙ ap (slice_get xs) (by (nat_lt (position_or_len p xs) (length xs)) (position_or_len p xs) e)
  where
    by : (b : Bool) (n : ℕ) → cond b (Some n) None ≡ Some i → n ≡ i
    by true n h = cc
    by false n h = absurd cc

-- a net of a list is among its nets
pub is-among : (nets : List VNet) (n : VNet) → Among n nets → is_among nets n ≡ true
is-among [] n m = absurd m
is-among (k ∷ nets) n (inl e) = or_left (same_net n k) (is_among nets n) (ap (same_net n) e ∙ itself n)
is-among (k ∷ nets) n (inr m) = or_right (same_net n k) (is_among nets n) (is-among nets n m)

all-among : (nets more : List VNet) → ((n : VNet) → Among n more → Among n nets) → list_all (is_among nets) more ≡ true
all-among nets [] h = refl
all-among nets (n ∷ more) h =
    and_from (is_among nets n) (list_all (is_among nets) more) (is-among nets n (h n (inl refl)))
    (all-among nets more (λ k m. h k (inr m)))

-- a list has the nets of itself
pub same-nets : (nets : List VNet) → same_nets nets nets ≡ true
same-nets nets =
    let all = all-among nets nets (λ n m. m) in
    and_from _ (list_all (is_among nets) nets && list_all (is_among nets) nets) (eq-eqb (length nets) (length nets) refl)
    (and_from (list_all (is_among nets) nets) (list_all (is_among nets) nets) all all)

-- in a list where no net stands twice each net is first found where it stands
first-found :
    (k : ℕ) (nets : List VNet) (p : ℕ) (n : VNet)
    → IsTrue (are_apart nets) → slice_get nets p ≡ Some n → position_from (same_net n) k nets ≡ Some (k + p)
first-found k [] p n h e = absurd cc
first-found k (m ∷ nets) zero n h e =
    let same : m ≡ n = cc in
    let at : k ≡ k + 0 = omega arith in
    ap (λ b. cond b (Some k) (position_from (same_net n) (k + 1) nets)) (ap (same_net n) same ∙ itself n) ∙ ap Some at
first-found k (m ∷ nets) (suc p) n h e =
    let parts = and_parts (not (list_any (same_net m) nets)) (are_apart nets) h in
    let at : (k + 1) + p ≡ k + suc p = omega arith in
    by (same_net n m) refl (first-found (k + 1) nets p n parts.1 e ∙ ap Some at) parts.0
  where
    by :
        (b : Bool) → same_net n m ≡ b → position_from (same_net n) (k + 1) nets ≡ Some (k + suc p)
        → not (list_any (same_net m) nets) ≡ true → cond b (Some k) (position_from (same_net n) (k + 1) nets) ≡ Some (k + suc p)
    by true t found none =
        let twice : list_any (same_net m) nets ≡ true =
        ap (λ x. list_any (same_net x) nets) (sym (same-net n m t)) ∙ is-among nets n (among-place nets p n e) in
        absurd (both_ways (list_any (same_net m) nets) (not-true (list_any (same_net m) nets) none) twice)
    by false f found none = found

pub own-place : (nets : List VNet) (p : ℕ) (n : VNet) → IsTrue (are_apart nets) → slice_get nets p ≡ Some n
    → position (same_net n) nets ≡ Some p
own-place nets p n h e =
    let here : 0 + p ≡ p = omega arith in
    position-from (same_net n) nets ∙ first-found 0 nets p n h e ∙ ap Some here

-- the values of the nets of a list in its own order
pub own-values :
    (nets : List VNet) (values : List Trit) → IsTrue (are_apart nets) → length values ≡ length nets
    → arranged nets values nets ≡ values
own-values nets values h long =
    let many : length (arranged nets values nets) ≡ length nets = length-map nets (value_among nets values) in
    ext_get_or Unknown (arranged nets values nets) values (many ∙ sym long)
    (λ i within.
    let inside : i < length nets = omega (arith, within, many) in
    let at : slice_get nets i ≡ Some (get_or nets i net.Notifier) = slice_get-get_or nets i net.Notifier inside in
    get-map (value_among nets values) nets i (get_or nets i net.Notifier) Unknown at
    ∙ ap (λ o. option_map_or (λ k. get_or values k Unknown) o Unknown) (own-place nets i (get_or nets i net.Notifier) h at))
