-- The text of a driver as a section of a file. (IEEE 1076-1993, 1.2, the end of an architecture; the layout is this project's.)
use Rattle.std.specs.Prelude.{ℕ, List, ◌++◌, codes}
use Rattle.driver_models.specs.declared.model.DriverModel.{DriverModel}
use Rattle.vhdl_drivers.specs.DriverText.{driven_count, driver_header_text, signals_text, core_text, process_text}
use Rattle.vhdl_drivers.specs.DriverText.{statements_text}

-- a driver without its last line end: from the first byte of its first token to the last byte of its last one
unfoldable pub driver_section : DriverModel → List ℕ
driver_section m =
    driver_header_text m
    ++ (signals_text (driven_count m)
    ++ (core_text m ++ (process_text m ++ (statements_text m ++ codes "  end process;\nend driven;"))))
