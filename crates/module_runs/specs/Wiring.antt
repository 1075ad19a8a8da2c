-- What the tables and instances of a module keep so that they can be run, as a test: each row of a table has an entry for each
-- input, a primitive without a state has no change entries, each instance has a net for each input of its primitive, and the
-- ports that feed it are inputs. Every sound module keeps it. (IEEE 1364-2005, clause 8.)
use Rattle.std.specs.Prelude.{ℕ, Bool, true, ◌&&◌, ◌||◌, length, List, nat_eq, nat_le, slice_get}
use Rattle.std.specs.List.{list_all}
use Rattle.std.specs.Option.{option_map_or}
use Rattle.udp_tables.specs.declared.table.UdpRow.{UdpRow}
use Rattle.udp_tables.specs.declared.table.Udp.{Udp}
use Rattle.udp_tables.specs.Primitive.{is_level}
use Rattle.udp_tables.specs.declared.models.VPort.{VPort}
use Rattle.udp_tables.specs.Ports.{is_input_port}
use Rattle.specify_blocks.specs.declared.model.VNet.{VNet}
use Rattle.specify_blocks.specs.declared.model.VNet.TheVariants as net
use Rattle.specify_blocks.specs.declared.model.Instance.{Instance}
use Rattle.specify_blocks.specs.declared.model.Instance.TheVariants as instance
use Rattle.specify_blocks.specs.declared.model.VModule.{VModule}
use Rattle.module_runs.specs.FedInstances.{nets_of}

-- whether each row has an entry for each input
abbrev pub has_entries : Udp → Bool
has_entries udp = list_all (λ (row : UdpRow). nat_eq (length row.inputs) (length udp.inputs)) udp.rows

-- whether no row has a change entry
abbrev pub has_levels : Udp → Bool
has_levels udp = list_all (λ (row : UdpRow). list_all is_level row.inputs) udp.rows

abbrev pub is_table : Udp → Bool
is_table udp = has_entries udp && (udp.sequential || has_levels udp)

-- how many nets feed an instance
abbrev pub net_count : Instance → ℕ
net_count (instance.Primitive number output nets) = length nets
net_count (instance.Constant output one) = 0

-- whether an instance has a net for each input of its primitive
abbrev pub has_nets : List Udp → Instance → Bool
has_nets udps (instance.Primitive number output nets) =
    option_map_or (λ (udp : Udp). nat_eq (length nets) (length udp.inputs)) (slice_get udps number) true
has_nets udps (instance.Constant output one) = true

-- the same, and not more nets than there is room for
abbrev pub is_joined : List Udp → ℕ → Instance → Bool
is_joined udps room i = nat_le (net_count i) room && has_nets udps i

-- whether a net, where it is a port, is an input
abbrev pub is_readable : List VPort → VNet → Bool
is_readable ports (net.Port p) = is_input_port ports p
is_readable ports (net.Wire w) = true
is_readable ports net.Notifier = true

-- whether the ports that feed an instance are inputs
abbrev pub reads_inputs : List VPort → Instance → Bool
reads_inputs ports i = list_all (is_readable ports) (nets_of i)

-- whether a module can be run with room for so many values
abbrev pub is_wired : ℕ → VModule → Bool
is_wired room m =
    list_all is_table m.udps && (list_all (is_joined m.udps room) m.instances && list_all (reads_inputs m.ports) m.instances)
