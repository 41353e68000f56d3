-- What comes in beside the words: the settings of a start (Settings), a packet with its ranges and the places of its words (Packet).
pub mod Settings
pub mod Packet
