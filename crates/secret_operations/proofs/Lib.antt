pub mod Changes
pub mod CubbyholeAnswers
pub mod GivenSettings
pub mod IssuedAnswers
pub mod IssuedRows
pub mod SecretAnswers
pub mod SecretTables
