pub mod Bases
pub mod Heights
pub mod InstanceRules
pub mod RaisedCauses
pub mod Standing
pub mod UseTables
pub mod Views
