-- The rows of the changes of one input, of any kind of row: in plain form, a row for each cube, and in compact form, where two
-- cubes that hold the state are one row, they give the machine's step.
use Rattle.std.proofs.Common.{◌≡◌, ◌≢◌, ℕ, suc, ◌≤◌, Bool, true, false, not, ◌&&◌, inl, inr, List, [], ◌∷◌, ◌++◌, map, length}
use Rattle.std.proofs.Common.{refl, sym, ◌∙◌, ap, subst, arith, if◌then◌else◌}
use Rattle.std.specs.Prelude.{filter}
use Rattle.std.specs.List.{list_any}
use Rattle.std.proofs.lemmas.Bool.{cases_Bool, and_parts, and_from}
use Rattle.trit_cubes.specs.declared.trits.Trit.{Trit}
use Rattle.trit_cubes.specs.declared.trits.Trit.TheVariants.{Zero, One, Unknown}
use Rattle.trit_cubes.specs.Filling.{same, covers}
use Rattle.trit_cubes.proofs.ListLemmas.{Among, map-among, filter-among, append-among_right}
use Rattle.cell_machine.specs.Machine.{Step, last, machine_step}
use Rattle.udp_tables.specs.Tables.{value_rows}
use Rattle.udp_tables.specs.Edges.{edge_cubes, same_cube, with_last, is_paired, kept_or_one, compact_value_rows}
use Rattle.udp_tables.proofs.FirstLemmas.{found-any, any-front}
use Rattle.udp_tables.proofs.CubeLemmas.{admits, edge-long, edge-gives, edge-found, holds-state, value_rows-among}
use Rattle.udp_tables.proofs.CubeLemmas.{among-value_rows}
use Rattle.udp_tables.proofs.PairLemmas.{same_cube-self, last-of, again-of, twin, compact-among}

-- How rows fit a change of input p from a to b beside these others at state s: the row of a cube is hit where the cube's columns
-- fit the change and its last place admits the state, and it gives the value that it is made for.
pub record FitsCubes
    (R : Type 0) (n : ℕ) (step : Step) (p : ℕ) (a b : Trit) (others : List Trit) (s : Trit) (make : Trit → List Trit → R)
    (hit : R → Bool) (next : R → Trit) (columns : List Trit → Bool) : Type 0 where
  pub long : suc (length others) ≡ n
  pub apart : same a b ≡ false
  -- what a cube covers, from any state
  pub parts :
      (v : Trit) (c : List Trit) (t : Trit)
      → Among c (edge_cubes step n p v) → covers c (a ∷ b ∷ others ++ t ∷ []) ≡ (columns c && admits (last Unknown c) t)
  pub made : (v : Trit) (c : List Trit) → hit (make v c) ≡ (columns c && admits (last Unknown c) s)
  pub gives : (v : Trit) (c : List Trit) → next (make v c) ≡ v

-- The row of two cubes that hold the state: it is hit where their columns fit, whatever the state is, and keeps it.
pub record FitsPairs
    (R : Type 0) (s : Trit) (keep : List Trit → R) (hit : R → Bool) (next : R → Trit) (columns : List Trit → Bool) : Type 0 where
  pub kept : (c : List Trit) → hit (keep c) ≡ columns c
  pub stays : (c : List Trit) → next (keep c) ≡ s
  -- the columns do not depend on the state
  pub free : (t : Trit) (c : List Trit) → 3 ≤ length c → columns (with_last t c) ≡ columns c

admits-self : (t : Trit) → admits t t ≡ true
admits-self Zero = refl
admits-self One = refl
admits-self Unknown = refl

-- what holds of the row of each cube holds of each row
pub rows-each :
    {R : Type 0} (P : R → Type 0) (make : Trit → List Trit → R) (cubes : Trit → List (List Trit))
    → ((v : Trit) (c : List Trit) → Among c (cubes v) → P (make v c))
    → (row : R) → Among row (value_rows make (cubes One) (cubes Zero)) → P row
rows-each P make cubes h row m =
    let r = value_rows-among make cubes row m in subst P r.4 (h r.0 r.2 r.3)

pub compact-each :
    {R : Type 0} (P : R → Type 0) (make : Trit → List Trit → R) (keep : List Trit → R) (cubes : Trit → List (List Trit))
    → ((v : Trit) (c : List Trit) → Among c (cubes v) → P (make v c)) → ((c : List Trit) → Among c (cubes One) → P (keep c))
    → (row : R) → Among row (compact_value_rows make keep (cubes One) (cubes Zero)) → P row
compact-each P make keep cubes h k row m =
    elim (compact-among make keep cubes row m) [
      | inl r ↦ subst P r.3 (k r.0 r.1)
      | inr r ↦ subst P r.4 (h r.0 r.2 r.3)
    ]

module _
    {R : Type 0} {n : ℕ} {step : Step} {p : ℕ} {a b : Trit} {others : List Trit} {s : Trit} {make : Trit → List Trit → R}
    {hit : R → Bool} {next : R → Trit} {columns : List Trit → Bool}
    (fits : FitsCubes R n step p a b others s make hit next columns) where
  made-covers : (v w : Trit) (c : List Trit) → Among c (edge_cubes step n p v)
      → hit (make w c) ≡ covers c (a ∷ b ∷ others ++ s ∷ [])
  made-covers v w c m = fits.made w c ∙ sym (fits.parts v c s m)

  made-right : (v : Trit) (c : List Trit) → v ≢ Unknown → Among c (edge_cubes step n p v) → hit (make v c) ≡ true
      → next (make v c) ≡ machine_step step p a b others s
  made-right v c known m h =
      fits.gives v c ∙ sym (edge-gives step n p v c a b others s known fits.long m (sym (made-covers v v c m) ∙ h))

  -- in plain form
  pub rows-right :
      (row : R) → Among row (value_rows make (edge_cubes step n p One) (edge_cubes step n p Zero)) → hit row ≡ true
      → next row ≡ machine_step step p a b others s
  rows-right row m h =
      let r = value_rows-among make (edge_cubes step n p) row m in
      ap next (sym r.4) ∙ made-right r.0 r.2 r.1 r.3 (ap hit r.4 ∙ h)

  pub rows-found :
      machine_step step p a b others s ≢ Unknown
      → list_any hit (value_rows make (edge_cubes step n p One) (edge_cubes step n p Zero)) ≡ true
  rows-found known =
      let v : Trit = machine_step step p a b others s in
      let r = edge-found step n p v a b others s known fits.long fits.apart refl in
      found-any hit (make v r.0) (value_rows make (edge_cubes step n p One) (edge_cubes step n p Zero))
      (among-value_rows make (edge_cubes step n p) v r.0 known r.1) (made-covers v v r.0 r.1 ∙ r.2)

  -- a cube whose columns fit covers the change from its own state
  covers-own : (v : Trit) (c : List Trit) (t : Trit) → Among c (edge_cubes step n p v) → last Unknown c ≡ t → columns c ≡ true
      → covers c (a ∷ b ∷ others ++ t ∷ []) ≡ true
  covers-own v c t m is h =
      fits.parts v c t m ∙ and_from (columns c) (admits (last Unknown c) t) h (ap (λ w. admits w t) is ∙ admits-self t)

  module _ {keep : List Trit → R} (pairs : FitsPairs R s keep hit next columns) where
    -- a pair of cubes whose columns fit holds each state
    pair-holds :
        (c : List Trit) → Among c (edge_cubes step n p One) → is_paired One Zero (edge_cubes step n p Zero) c ≡ true
        → columns c ≡ true → machine_step step p a b others s ≡ s
    pair-holds c m h k =
        let wide : length c ≡ suc (suc n) = edge-long step n p One c m in
        let long : suc (length others) ≡ n = fits.long in
        let r = twin One Zero (edge_cubes step n p Zero) c h in
        let other : columns (with_last Zero c) ≡ true = pairs.free Zero c (omega arith) ∙ k in
        holds-state step p a b others s
        (edge-gives step n p Zero (with_last Zero c) a b others Zero (λ e. cc) long r.1
        (covers-own Zero (with_last Zero c) Zero r.1 (last-of Zero c (omega arith)) other))
        (edge-gives step n p One c a b others One (λ e. cc) long m (covers-own One c One m r.0 k))

    -- in compact form
    pub compact-right :
        (row : R) → Among row (compact_value_rows make keep (edge_cubes step n p One) (edge_cubes step n p Zero)) → hit row ≡ true
        → next row ≡ machine_step step p a b others s
    compact-right row m h =
        elim (compact-among make keep (edge_cubes step n p) row m) [
          | inl r ↦
              let matched : hit (keep r.0) ≡ true = ap hit r.3 ∙ h in
              ap next (sym r.3) ∙ pairs.stays r.0 ∙ sym (pair-holds r.0 r.1 r.2 (sym (pairs.kept r.0) ∙ matched))
          | inr r ↦ ap next (sym r.4) ∙ made-right r.0 r.2 r.1 r.3 (ap hit r.4 ∙ h)
        ]

    found-one :
        (c : List Trit) → Among c (edge_cubes step n p One) → columns c ≡ true → covers c (a ∷ b ∷ others ++ s ∷ []) ≡ true
        → hit (kept_or_one make keep (edge_cubes step n p Zero) c) ≡ true
    found-one c m fit h =
        elim (cases_Bool (is_paired One Zero (edge_cubes step n p Zero) c)) [
          | inl k ↦ ap (λ w. hit (if w then keep c else make One c)) k ∙ pairs.kept c ∙ fit
          | inr k ↦ ap (λ w. hit (if w then keep c else make One c)) k ∙ made-covers One One c m ∙ h
        ]

    -- a cube that gives 0 and holds the state stands in the row of its pair
    found-pair :
        (c : List Trit) → Among c (edge_cubes step n p Zero) → is_paired Zero One (edge_cubes step n p One) c ≡ true
        → columns c ≡ true
        → list_any hit (map (kept_or_one make keep (edge_cubes step n p Zero)) (edge_cubes step n p One)) ≡ true
    found-pair c m k fit =
        let ones : List (List Trit) = edge_cubes step n p One in
        let zeros : List (List Trit) = edge_cubes step n p Zero in
        let wide : length c ≡ suc (suc n) = edge-long step n p Zero c m in
        let long : suc (length others) ≡ n = fits.long in
        let t = twin Zero One ones c k in
        let d : List Trit = with_last One c in
        let again : with_last Zero d ≡ c = again-of Zero One c (omega arith) t.0 in
        let pair : is_paired One Zero zeros d ≡ true
        = and_from (same One (last Unknown d)) (list_any (same_cube (with_last Zero d)) zeros)
        (ap (same One) (last-of One c (omega arith)))
        (found-any (same_cube (with_last Zero d)) c zeros m (ap (λ q. same_cube q c) again ∙ same_cube-self c)) in
        found-any hit (kept_or_one make keep zeros d) (map (kept_or_one make keep zeros) ones)
        (map-among (kept_or_one make keep zeros) d ones t.1)
        (ap (λ w. hit (if w then keep d else make One d)) pair ∙ pairs.kept d ∙ pairs.free One c (omega arith) ∙ fit)

    covered-columns : (v : Trit) (c : List Trit) → Among c (edge_cubes step n p v) → covers c (a ∷ b ∷ others ++ s ∷ []) ≡ true
        → columns c ≡ true
    covered-columns v c m h = (and_parts (columns c) (admits (last Unknown c) s) (sym (fits.parts v c s m) ∙ h)).0

    -- what hits in the rows of the cubes that give 1 hits in all
    in-front :
        list_any hit (map (kept_or_one make keep (edge_cubes step n p Zero)) (edge_cubes step n p One)) ≡ true
        → list_any hit (compact_value_rows make keep (edge_cubes step n p One) (edge_cubes step n p Zero)) ≡ true
    in-front h =
        let alone : List R = map (make Zero)
        (filter (λ c. not (is_paired Zero One (edge_cubes step n p One) c)) (edge_cubes step n p Zero)) in
        any-front hit (map (kept_or_one make keep (edge_cubes step n p Zero)) (edge_cubes step n p One)) alone h

    found-by :
        (v : Trit) → v ≢ Unknown → machine_step step p a b others s ≡ v
        → list_any hit (compact_value_rows make keep (edge_cubes step n p One) (edge_cubes step n p Zero)) ≡ true
    found-by Unknown known e = absurd (known refl)
    found-by One known e =
        let zeros : List (List Trit) = edge_cubes step n p Zero in
        let r = edge-found step n p One a b others s known fits.long fits.apart e in
        in-front
        (found-any hit (kept_or_one make keep zeros r.0) (map (kept_or_one make keep zeros) (edge_cubes step n p One))
        (map-among (kept_or_one make keep zeros) r.0 (edge_cubes step n p One) r.1)
        (found-one r.0 r.1 (covered-columns One r.0 r.1 r.2) r.2))
    found-by Zero known e =
        let ones : List (List Trit) = edge_cubes step n p One in
        let zeros : List (List Trit) = edge_cubes step n p Zero in
        let r = edge-found step n p Zero a b others s known fits.long fits.apart e in
        let front : List R = map (kept_or_one make keep zeros) ones in
        let alone : List (List Trit) = filter (λ c. not (is_paired Zero One ones c)) zeros in
        elim (cases_Bool (is_paired Zero One ones r.0)) [
          | inl k ↦ in-front (found-pair r.0 r.1 k (covered-columns Zero r.0 r.1 r.2))
          | inr k ↦
              found-any hit (make Zero r.0) (front ++ map (make Zero) alone)
              (append-among_right (make Zero r.0) front (map (make Zero) alone)
              (map-among (make Zero) r.0 alone (filter-among (λ c. not (is_paired Zero One ones c)) r.0 zeros r.1 (ap not k))))
              (made-covers Zero Zero r.0 r.1 ∙ r.2)
        ]

    pub compact-found :
        machine_step step p a b others s ≢ Unknown
        → list_any hit (compact_value_rows make keep (edge_cubes step n p One) (edge_cubes step n p Zero)) ≡ true
    compact-found known = found-by (machine_step step p a b others s) known refl
