pub mod AclPolicyAnswers
pub mod LeaseAnswers
pub mod MountAnswers
pub mod ResponseAnswers
pub mod ResponseRows
