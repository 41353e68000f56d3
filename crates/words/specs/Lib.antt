-- What the words are: read Word first, then the words in any order. Lists is said of buffers and lists everywhere.
pub mod Word
pub mod LittleEndian
pub mod StatusWord
pub mod Tdh
pub mod Tdt
pub mod Ihw
pub mod Ddw
pub mod Cdw
pub mod Lanes
pub mod LaneStatus
pub mod Lists
