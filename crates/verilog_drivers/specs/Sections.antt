-- What is read of a section, as the grammar names it.
use Rattle.verilog_drivers.specs.DriverSections.{Body}
use Rattle.verilog_drivers.specs.declared.section.SectionBody.{SectionBody}

abbrev pub body_of : SectionBody → Body
body_of body = record { call = body.call; paths = body.paths }
