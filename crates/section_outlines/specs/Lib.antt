pub mod Marked
pub mod Outline
pub mod VerilogMarks
pub mod VhdlMarks
