-- Why the plan of each event, carried out, is what the definitions say.
pub mod Saying
pub mod Packets
