pub mod BankTexts
pub mod BankStates
pub mod BankOutputs
pub mod BankMachine
pub mod BankCores
pub mod Laws
