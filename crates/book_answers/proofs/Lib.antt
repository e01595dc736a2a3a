pub mod KeeperFaults
pub mod PostAnswers
pub mod UnmetNeeds
