-- From the live state's 128 bytes to a state, or No. 23.
pub mod Unpacking
