-- Why a call was refused, and the numbers of that.
pub mod Refusals
