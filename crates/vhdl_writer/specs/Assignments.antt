-- The text of the variables of an output and of the line that assigns it, by its number and its name: that of an entity, and that
-- of a model of drivers. (IEEE 1076-1993, 4.3.1.3 and 8.4; IEEE 1076.4-2000, VitalPathDelay01.)
use Rattle.std.specs.Prelude.{ℕ, Bool, if◌then◌else◌, List, [], ◌++◌, codes, decimal}

-- the data of the delays of an output, where it has paths
unfoldable pub glitch_data_text : ℕ → List ℕ
glitch_data_text n = codes "    variable g_" ++ (decimal n ++ codes " : VitalGlitchDataType;\n")

-- the variables of an output that has paths or none: its value, and the data of its delays
unfoldable pub assigned_variables_text : ℕ → Bool → List ℕ
assigned_variables_text n has_paths =
    codes "    variable z_"
    ++ (decimal n ++ (codes " : std_logic := 'X';\n" ++ (if has_paths then glitch_data_text n else [])))

-- the call of paths, up to them
unfoldable pub path_call_start_text : ℕ → List ℕ → List ℕ
path_call_start_text n name =
    codes "    VitalPathDelay01 (OutSignal => "
    ++ (name
    ++ (codes ", GlitchData => g_"
    ++ (decimal n
    ++ (codes ", OutSignalName => \"" ++ (name ++ (codes "\", OutTemp => z_" ++ (decimal n ++ codes ", Paths => (")))))))

-- the call of paths with this text
unfoldable pub path_call_text : ℕ → List ℕ → List ℕ → List ℕ
path_call_text n name paths = path_call_start_text n name ++ (paths ++ codes "), Mode => VitalTransport);\n")

-- the assignment of an output that has no paths
unfoldable pub direct_text : ℕ → List ℕ → List ℕ
direct_text n name = codes "    " ++ (name ++ (codes " <= z_" ++ (decimal n ++ codes ";\n")))

-- the line of an output that has paths with this text, or none
abbrev pub assignment_text : ℕ → List ℕ → Bool → List ℕ → List ℕ
assignment_text n name has_paths paths = if has_paths then path_call_text n name paths else direct_text n name
