-- The values of conditions and outputs of a module, by the instances that stand for them.
use Rattle.std.proofs.Common.{◌≡◌, ℕ, ◌+◌, false, not, List, [], ◌∷◌, map, get_or, refl, sym, ap, ◌∙◌, subst, arith, IsTrue}
use Rattle.std.proofs.Common.{Option, Some, None, slice_get, if◌then◌else◌}
use Rattle.std.specs.Option.{option_map_or}
use Rattle.std.proofs.lemmas.Bool.{and_parts, not-true}
use Rattle.trit_cubes.specs.declared.trits.Trit.{Trit}
use Rattle.trit_cubes.specs.declared.trits.Trit.TheVariants.{Unknown}
use Rattle.udp_tables.specs.declared.table.Udp.{Udp}
use Rattle.udp_tables.specs.Primitive.{level_output}
use Rattle.specify_blocks.specs.declared.model.VNet.{VNet}
use Rattle.specify_blocks.specs.declared.model.Instance.{Instance}
use Rattle.specify_blocks.specs.declared.model.Instance.TheVariants as instance
use Rattle.specify_blocks.specs.declared.model.VModule.{VModule}
use Rattle.specify_blocks.specs.Nets.{same_net, net_driven, is_sequential}
use Rattle.model_traces.specs.NetValues.{source_value, table_value, primitive_value, instance_value, value_from, net_value}
use Rattle.model_traces.proofs.PlaceLemmas.{position-from}
use Rattle.table_audit.specs.module_terminals.Terminals.{driving, same_nets, stands_for, drives_value}
use Rattle.table_audit.specs.module_tables.Tables.{arranged, value_by, driven_value}
use Rattle.audited_modules.proofs.ListLemmas.{found-place}
use Rattle.audited_modules.proofs.NetLemmas.{arranged-values, nets-among}

-- The values of a module's nets at values of its inputs and states, and these nets with their values.
module _ (m : VModule) (v states : List Trit) (nets : List VNet) (values : List Trit)
    (are : map (source_value m v states) nets ≡ values) where
  -- what an instance drives that these nets feed
  fed-value :
      (number : ℕ) (output : VNet) (inputs : List VNet) (s : Trit)
      → is_sequential m.udps number ≡ false → IsTrue (same_nets inputs nets)
      → instance_value m v states s (instance.Primitive number output inputs)
      ≡ value_by m nets values (instance.Primitive number output inputs)
  fed-value number output inputs s stateless same = by (slice_get m.udps number) stateless
    where
      read : map (source_value m v states) inputs ≡ arranged nets values inputs
      read =
          sym (arranged-values (source_value m v states) nets inputs (nets-among inputs nets same))
          ∙ ap (λ xs. arranged nets xs inputs) are

      by :
          (o : Option Udp) → option_map_or (λ (udp : Udp). udp.sequential) o false ≡ false
          → option_map_or (primitive_value m v states s inputs) o Unknown
          ≡ option_map_or (λ (udp : Udp). level_output udp.rows (arranged nets values inputs)) o Unknown
      by None e = refl
      by (Some udp) e =
          ap (λ b. if b then s else table_value m v states inputs udp) e ∙ ap (level_output udp.rows) read

  -- what an instance drives that stands for a value of these nets
  standing-value :
      (ns : List VNet) → nets ≡ ns → (x : Instance) (s : Trit) → IsTrue (stands_for m ns x)
      → instance_value m v states s x ≡ value_by m nets values x
  standing-value [] e (instance.Primitive number output inputs) s h = absurd cc
  standing-value [] e (instance.Constant output one) s h = refl
  standing-value (n ∷ ns) e (instance.Primitive number output inputs) s h =
      let parts = and_parts (not (is_sequential m.udps number)) (same_nets inputs (n ∷ ns)) h in
      fed-value number output inputs s (not-true (is_sequential m.udps number) parts.0)
      (subst (λ ks. IsTrue (same_nets inputs ks)) (sym e) parts.1)
  standing-value (n ∷ ns) e (instance.Constant output one) s h = absurd cc

  -- the value of a net whose instance stands for a value of these nets
  pub part-value : (n : VNet) → IsTrue (drives_value m nets n) → net_value m v states n ≡ driven_value m nets values n
  part-value n h = by (driving m n) refl h
    where
      by :
          (o : Option Instance) → driving m n ≡ o → IsTrue (option_map_or (stands_for m nets) o false)
          → net_value m v states n ≡ option_map_or (value_by m nets values) o Unknown
      by None e t = absurd cc
      by (Some x) e t =
          let found = found-place (λ i. same_net (net_driven i) n) 0 m.instances x e in
          let here : 0 + found.0 ≡ found.0 = omega arith in
          let state : Trit = get_or states found.0 Unknown in
          ap (value_from m v states) (position-from (λ i. same_net (net_driven i) n) m.instances ∙ found.1 ∙ ap Some here)
          ∙ ap (λ o. option_map_or (instance_value m v states state) o Unknown) found.2
          ∙ standing-value nets refl x state t
